use Rattle.std.proofs.Common.{rules}
use Rattle.engine_runs.proofs.fronts.next_leaving.Goals as goal

pub returns-in-Some-excess_leaving-clause-found : goal.returns-in-Some-excess_leaving-clause-found
returns-in-Some-excess_leaving-clause-found g c =
    let found = c.in-Some-excess_leaving.ensures.found in
    (found.0, found.1, found.2 c.args.now (search rules))
