use Rattle.std.proofs.Common.{◌≡◌, ap, ◌∙◌, sym, subst}
use Rattle.std.specs.Option.{option_map}
use Rattle.audit_model.specs.Commands.{quits}
use Rattle.audit_model.specs.Stream.{is_held}
use Rattle.audit_situation.specs.States.{shown_situation, moved_in}
use Rattle.audit_situation.specs.Actions.Doings.{action_of}
use Rattle.moka_audit.specs.Steps.Doings.{acting}
use Rattle.moka_audit.specs.Steps.Showing.{shown_step, task_of, runs_lines}
use Rattle.std.specs.Prelude.{is_some, OnOk}
use Rattle.moka_audit.proofs.steps.Judged.{passes, is_some-map}
use Rattle.moka_audit.proofs.steps.judging.pass_step.Goals as goal

pub returns : goal.returns
returns c =
    let s = shown_situation c.args.s.now in
    let task = option_map task_of c.args.duty in
    let step = shown_step c.args.shown in
    let action = action_of c.args.doing in
    let effect = acting action step.reply step.load in
    let key = option_map (λ k. k.now) c.key_loaded.result in
    let conn = step.conn in
    let line = step.line in
    let load = step.load in
    subst (λ t. OnOk c.pass.result (shown_situation c.pass.new.s ≡ t))
    (ap (λ b. moved_in conn b c.is_hold.result c.is_some.result line c.quits.result key load s) c.is_run_lines.ensures
    ∙ ap (λ b. moved_in conn (runs_lines task) b c.is_some.result line c.quits.result key load s) (c.is_hold.ensures.held step.reply load)
    ∙ ap (λ b. moved_in conn (runs_lines task) (is_held effect) b line c.quits.result key load s) (c.is_some.ensures ∙ is_some-map (λ r. r.now) c.args.shown.reply)
    ∙ ap (λ b. moved_in conn (runs_lines task) (is_held effect) (is_some step.reply) line b key load s) (c.quits.ensures step.reply load)
    ∙ ap (λ k. moved_in conn (runs_lines task) (is_held effect) (is_some step.reply) line (quits effect) k load s) c.key_loaded.ensures
    ∙ passes task step action s (sym c.is_store.ensures ∙ c.if-is_store.false))
    c.pass.ensures
