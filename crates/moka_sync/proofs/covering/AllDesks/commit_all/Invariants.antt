use Rattle.std.proofs.Common.{◌≡◌, ◌+◌, ◌≤◌, ℕ, length}
use Rattle.std.specs.Prelude.{slice_get}
use Rattle.front_parts.specs.Wholes.Covering.{AreOnly}
use Rattle.moka_sync.specs.Covering.{CommitsFirst}
use Rattle.moka_sync.proofs.covering.AllDesks.commit_all.Given as goal

abbrev pub invariant-loop-number : goal.invariant-loop-number
invariant-loop-number g l = record {
  far : (p : g.row.R-Predicate.Denot) → AreOnly p l.fn.predicates.items → AreOnly p l.predicates.items × CommitsFirst p l.ids l.number l.fn.self l.self;
  rest : (k : ℕ) → l.number ≤ k → slice_get l.self k ≡ slice_get l.fn.self k;
  same : length l.self ≡ length l.fn.self;
  left : length l.predicates.items + l.number ≡ length l.fn.self;
  count : l.count ≡ length l.fn.self;
}
