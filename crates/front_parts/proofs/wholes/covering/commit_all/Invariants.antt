use Rattle.std.proofs.Common.{◌≡◌, ◌+◌, ◌≤◌, ℕ, length}
use Rattle.std.specs.Prelude.{slice_get}
use Rattle.front_parts.specs.Wholes.Covering.{AreOnly, commits}
use Rattle.front_parts.specs.Wholes.Firsts.{changed_first}
use Rattle.front_parts.proofs.wholes.covering.commit_all.Given as goal

abbrev pub invariant-loop-place : goal.invariant-loop-place
invariant-loop-place g l = record {
  long : length l.parts.items ≡ length l.fn.parts.items;
  rest : (k : ℕ) → l.place ≤ k → slice_get l.parts.items k ≡ slice_get l.fn.parts.items k;
  left : length l.predicates.items + l.place ≡ length l.fn.parts.items;
  far : (p : g.row.R-Predicate.Denot) → AreOnly p l.fn.predicates.items → AreOnly p l.predicates.items × (l.parts.items ≡ changed_first (commits p l.step l.ids) l.place l.fn.parts.items);
  count : l.count ≡ length l.fn.parts.items;
}
