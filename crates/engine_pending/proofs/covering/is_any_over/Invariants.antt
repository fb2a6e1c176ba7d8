use Rattle.std.proofs.Common.{◌≡◌, ◌&&◌, drop}
use Rattle.std.specs.Prelude.{nat_lt}
use Rattle.std.specs.List.{list_any}
use Rattle.engine_pending.proofs.covering.is_any_over.Given as goal

abbrev pub invariant-loop-p : goal.invariant-loop-p
invariant-loop-p g l =
    list_any (λ p. nat_lt l.step p.step && g.R.Rules.answers.covers l.rules p.predicate l.key l.value) (drop l.p-index l.predicates)
    ≡ list_any (λ p. nat_lt l.step p.step && g.R.Rules.answers.covers l.rules p.predicate l.key l.value) l.predicates
