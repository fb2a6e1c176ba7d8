use Rattle.std.proofs.Common.{refl, ap, sym, ◌∙◌, ◌&&◌}
use Rattle.std.specs.Prelude.{◌==◌}
use Rattle.policy_base.specs.Counts.{Sketch}
use Rattle.engine_reference.specs.Runs.{all_applied, lacks_table}
use Rattle.std.proofs.Math.Logic.{∥∥₁_map}
use Rattle.engine_reference.specs.State.{Answers}
use Rattle.engine_reference.proofs.SoundSteps.{run-sound}
use Rattle.engine_reference.proofs.run_laws.Rises.{uncut_runs_leave_none_due}
use Rattle.engine_runs.proofs.Joining.{stretch-join, stretch-same, stretch-sound, run-later, run-counts, ok-then, err-then}
use Rattle.engine_runs.proofs.running.try_run.Goals as goal

pub end_predicates-requires-clause-sound : goal.end_predicates-requires-clause-sound
end_predicates-requires-clause-sound g c =
    let a : Answers g.row.K.Denot g.row.V.Denot g.row.R-Predicate.Denot g.row.R.Denot = g.R.Rules.answers in
    let s = c.args.tables.now.state in
    stretch-sound a c.args.now s _ (stretch-join a c.args.now s _ _ (stretch-join a c.args.now s _ _ (stretch-join a c.args.now s _ _ (stretch-same a c.args.now s _ (ap (λ t. t.state) c.mend_timers.ensures)) (c.apply_reads.ensures.stretch a c.args.now)) (c.apply_writes.ensures.stretch a c.args.now)) (c.grow-grown.ensures.stretch a c.args.now)) c.requires

pub settle-requires-clause-sound : goal.settle-requires-clause-sound
settle-requires-clause-sound g c =
    let a : Answers g.row.K.Denot g.row.V.Denot g.row.R-Predicate.Denot g.row.R.Denot = g.R.Rules.answers in
    let s = c.args.tables.now.state in
    stretch-sound a c.args.now s _ (stretch-join a c.args.now s _ _ (stretch-join a c.args.now s _ _ (stretch-join a c.args.now s _ _ (stretch-join a c.args.now s _ _ (stretch-same a c.args.now s _ (ap (λ t. t.state) c.mend_timers.ensures)) (c.apply_reads.ensures.stretch a c.args.now)) (c.apply_writes.ensures.stretch a c.args.now)) (c.grow-grown.ensures.stretch a c.args.now)) (c.end_predicates.ensures.stretch a c.args.now refl)) c.requires

pub returns-clause-runs : goal.returns-clause-runs
returns-clause-runs g c = λ answers covers.
    let s = c.args.tables.now.state in
    run-later answers c.args.now s _ _
    (stretch-join answers c.args.now s _ _ (stretch-join answers c.args.now s _ _ (stretch-join answers c.args.now s _ _ (stretch-join answers c.args.now s _ _ (stretch-same answers c.args.now s _ (ap (λ t. t.state) c.mend_timers.ensures)) (c.apply_reads.ensures.stretch answers c.args.now)) (c.apply_writes.ensures.stretch answers c.args.now)) (c.grow-grown.ensures.stretch answers c.args.now)) (c.end_predicates.ensures.stretch answers c.args.now covers))
    (c.settle.ensures.runs answers covers)
    (c.settle.ensures.refused ∙ c.is_err.ensures.value ∙ c.grow-grown.ensures.refused
    ∙ ap (λ t. lacks_table t && (c.grow-grown.new.tables.state.sketch.words == 0)) (c.apply_writes.ensures.all ∙ c.apply_reads.ensures.all ∙ ap (λ t. all_applied t.state) c.mend_timers.ensures)
    ∙ ap (λ (k : Sketch). lacks_table (all_applied s) && (k.words == 0)) (sym ((c.settle.ensures.runs answers covers).sketch ∙ c.end_predicates.ensures.sketch)))

pub returns-clause-counts : goal.returns-clause-counts
returns-clause-counts g c = λ answers covers. run-counts answers c.args.now c.args.tables.now.state _ c.requires (returns-clause-runs g c answers covers)

pub returns-clause-due : goal.returns-clause-due
returns-clause-due g c = λ moment step timely less range.
    let a : Answers g.row.K.Denot g.row.V.Denot g.row.R-Predicate.Denot g.row.R.Denot = g.R.Rules.answers in
    uncut_runs_leave_none_due _ _ _ _ _ a moment step c.args.now c.args.tables.now.state _ timely less range (returns-clause-runs g c a refl)

pub returns-clause-made : goal.returns-clause-made
returns-clause-made g c = ok-then c.grow-grown.result (λ fine. c.settle.ensures.refused ∙ c.is_err.ensures.value ∙ fine)

pub returns-clause-refused : goal.returns-clause-refused
returns-clause-refused g c = err-then c.grow-grown.result (λ failed. c.settle.ensures.refused ∙ c.is_err.ensures.value ∙ failed)

pub returns-clause-sound : goal.returns-clause-sound
returns-clause-sound g c =
    let a : Answers g.row.K.Denot g.row.V.Denot g.row.R-Predicate.Denot g.row.R.Denot = g.R.Rules.answers in
    let h = (returns-clause-runs g c a refl).runs in
    ∥∥₁_map c.requires (λ k. run-sound a c.args.now c.args.tables.now.state _ k h)
