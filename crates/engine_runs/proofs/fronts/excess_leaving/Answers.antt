use Rattle.std.proofs.Common.{sym, ◌∙◌, refl}
use Rattle.engine_runs.specs.Fronts.{excess}
use Rattle.engine_runs.proofs.fronts.excess_leaving.Goals as goal

pub returns-in-Some-clause-found : goal.returns-in-Some-clause-found
returns-in-Some-clause-found g c =
    let f = c.in-Some.ensures.found in
    (f.0, f.1, λ now clean. excess clean (sym c.is_too_heavy.ensures ∙ c.if-not-is_too_heavy.false) f.2 refl)
