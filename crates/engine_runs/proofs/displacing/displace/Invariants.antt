use Rattle.std.proofs.Common.{length}
use Rattle.engine_runs.specs.Displacing.{GivesWay}
use Rattle.engine_runs.proofs.displacing.displace.Given as goal

abbrev pub invariant-loop-place : goal.invariant-loop-place
invariant-loop-place g l = GivesWay l.weight l.left l.fn.tables l.tables

-- each turn takes a record away
abbrev pub decreases-loop-place : goal.decreases-loop-place
decreases-loop-place g l = length l.tables.state.records
