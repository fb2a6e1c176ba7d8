use Rattle.std.proofs.Common.{ap, ◌∙◌}
use Rattle.std.proofs.Math.Logic.{∥∥₁_map}
use Rattle.engine_runs.proofs.Joining.{stretch-join}
use Rattle.engine_runs.proofs.SweepingStretching.{rest-more, run-from}
use Rattle.engine_runs.proofs.sweeping.settle.Goals as goal

pub sweep-requires-clause-predicates : goal.sweep-requires-clause-predicates
sweep-requires-clause-predicates g c = c.end_cleared.ensures.rest.predicates ∙ c.requires.predicates

pub sweep-requires-clause-sound : goal.sweep-requires-clause-sound
sweep-requires-clause-sound g c = ∥∥₁_map c.requires.sound c.end_cleared.ensures.rest.sound

pub returns-clause-runs : goal.returns-clause-runs
returns-clause-runs g c = λ answers covers.
    let s = c.args.tables.now.state in
    let e = c.sweep.ensures in
    run-from answers c.args.now c.args.table_refused s c.sweep.new.tables.state _ (stretch-join answers c.args.now s _ _ (c.end_cleared.ensures.stretch answers c.args.now covers) (e.stretch answers))
    e.applied (ap (λ t. t.state) c.finish_run.ensures) (rest-more s _ _ c.end_cleared.ensures.rest e.rest) e.clean c.requires.predicates c.requires.sound

pub returns-clause-refused : goal.returns-clause-refused
returns-clause-refused g c = ap (λ t. t.state.table_refused) c.finish_run.ensures
