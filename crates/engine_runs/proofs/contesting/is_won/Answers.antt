use Rattle.std.proofs.Common.{sym, ap, ◌∙◌, ◌&&◌}
use Rattle.std.specs.Prelude.{nat_lt}
use Rattle.std.proofs.lemmas.Bool.{eq-eqb}
use Rattle.engine_runs.proofs.Contests.{outcome-is}
use Rattle.engine_runs.proofs.contesting.is_won.Goals as goal

pub returns-then-contest-eq0 : goal.returns-then-contest-eq0
returns-then-contest-eq0 g c =
    let x = c.loop-place.contest in
    sym (ap (λ b. b && nat_lt 0 x.ahead) (eq-eqb x.left 0 c.if-contest-eq0.true)) ∙ sym (outcome-is c.args.tables.now x c.in_default.ensures.decided) ∙ c.loop-place.invariant.same
