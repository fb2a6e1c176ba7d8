use Rattle.std.proofs.Common.{◌≡◌, ◌∙◌, ap, sym, subst, map, Some, true}
use Rattle.std.specs.Prelude.{IfOk}
use Rattle.std.specs.Option.{option_map}
use Rattle.audit_model.specs.Follows.{placed_step_in}
use Rattle.audit_model.specs.Steps.{Store}
use Rattle.audit_situation.specs.States.{shown_situation}
use Rattle.moka_audit.specs.Steps.Judging.{IsJudged}
use Rattle.moka_audit.specs.Steps.Showing.{task_of}
use Rattle.moka_audit.specs.Records.Auditing.{Reaches, audited_steps, step_of_answer}
use Rattle.moka_audit.proofs.records.Walking.{store-on}
use Rattle.moka_audit.proofs.records.records.judge_stored.Goals as goal

pub returns-clause-reaches : goal.returns-clause-reaches
returns-clause-reaches c =
    let config = c.args.config.now in
    let parts = c.args.parts.now in
    let more = c.store.new.parts in
    let s = shown_situation c.args.s.now in
    let t = shown_situation c.store.new.s in
    let outcome = c.args.outcome.now in
    let own = step_of_answer c.args.entry.now in
    let steps = c.args.entry.now.steps in
    let key = option_map (λ k. k.now.items) c.args.key in
    let tasks = map task_of c.args.duties.now in
    let judged =
    subst (λ b. IsJudged config s parts (Some (Store key outcome)) own (placed_step_in config s (Some (Store key outcome)) own) b t more) c.if-not-branch.false c.in_ok-store.ensures.judged in
    subst (λ o. IfOk c.judge_steps.result (λ b. Reaches b (shown_situation c.judge_steps.new.s) c.judge_steps.new.parts o))
    (sym (store-on config parts more s t key outcome tasks own steps judged ∙ ap (audited_steps config more t tasks) (sym c.as_slice.ensures)))
    c.judge_steps.ensures.reaches
