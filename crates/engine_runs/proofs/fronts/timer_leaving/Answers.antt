use Rattle.engine_runs.proofs.Fronting.{leaves-by_timer, timer-clean}
use Rattle.engine_runs.proofs.fronts.timer_leaving.Goals as goal

pub returns-in-Some-clause-found : goal.returns-in-Some-clause-found
returns-in-Some-clause-found g c =
    let f = c.in-Some.ensures.found in
    (f.0, f.1, leaves-by_timer c.args.tables.now.state c.args.now f.0 f.2)

pub returns-in-None-clause-none : goal.returns-in-None-clause-none
returns-in-None-clause-none g c = λ later r there. timer-clean c.args.now r (c.in-None.ensures.none r there)
