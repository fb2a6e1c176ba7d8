use Rattle.std.proofs.Common.{◌≡◌, ◌+◌, ap, ◌∙◌, sym, subst, true, false, map, drop, length, ◌∷◌, if◌then◌else◌, Some, None}
use Rattle.std.specs.Option.{option_map}
use Rattle.std.proofs.Math.ListN.{drop_of_length-le}
use Rattle.audit_model.specs.Bytewise.{is_empty}
use Rattle.audit_model.specs.Follows.{placed_step_in}
use Rattle.audit_model.specs.Places.{due, first_due, left_after}
use Rattle.audit_model.specs.Situation.{may_run_in}
use Rattle.audit_situation.specs.States.{shown_situation}
use Rattle.moka_audit.specs.Steps.Judging.{IsJudged}
use Rattle.moka_audit.specs.Steps.Showing.{task_of}
use Rattle.moka_audit.specs.Records.Auditing.{Reached, audited_steps}
use Rattle.moka_audit.proofs.records.Walking.{drop-next, walk-on, walk-off, walk-tidy, end-is, reaches-end}
use Rattle.moka_audit.proofs.records.records.judge_steps.Goals as goal

pub returns-then-not-branch-clause-reaches : goal.returns-then-not-branch-clause-reaches
returns-then-not-branch-clause-reaches c =
    let config = c.args.config.now in
    let s = shown_situation c.loop-step.s in
    let t = shown_situation c.judge.new.s in
    let parts = c.loop-step.parts in
    let more = c.judge.new.parts in
    let duties = c.args.duties.now in
    let steps = c.args.steps.now in
    let i = c.loop-step.step-index in
    let tasks = map task_of (drop c.loop-step.at duties) in
    let task = option_map task_of c.duty_at-duty.result in
    let step = c.step-item.result in
    let rest = drop (i + 1) steps in
    c.loop-step.invariant.same ∙ ap (audited_steps config parts s tasks) (drop-next steps i step c.loop-step-test.true c.step-item.is)
    ∙ walk-off config parts more s t tasks task step rest (ap first_due (sym c.due_from-at.ensures.due) ∙ sym c.duty_at-duty.ensures)
    (subst (λ b. IsJudged config s parts task step (placed_step_in config s task step) b t more) c.if-not-branch.true
    (subst (λ st. IsJudged config s parts task st (placed_step_in config s task st) c.in_ok-judge.field-0 t more) c.show.ensures c.in_ok-judge.ensures))

pub loop-step-preserved : goal.loop-step-preserved
loop-step-preserved c =
    let config = c.args.config.now in
    let s = shown_situation c.loop-step.s in
    let t = shown_situation c.judge.new.s in
    let parts = c.loop-step.parts in
    let more = c.judge.new.parts in
    let duties = c.args.duties.now in
    let steps = c.args.steps.now in
    let i = c.loop-step.step-index in
    let tasks = map task_of (drop c.loop-step.at duties) in
    let task = option_map task_of c.duty_at-duty.result in
    let step = c.step-item.result in
    let rest = drop (i + 1) steps in
    let judged =
    subst (λ b. IsJudged config s parts task step (placed_step_in config s task step) b t more) c.if-not-branch.false
    (subst (λ st. IsJudged config s parts task st (placed_step_in config s task st) c.in_ok-judge.field-0 t more) c.show.ensures c.in_ok-judge.ensures) in
    record {
      same =
          c.loop-step.invariant.same ∙ ap (audited_steps config parts s tasks) (drop-next steps i step c.loop-step-test.true c.step-item.is)
          ∙ walk-on config parts more s t tasks task step rest (ap first_due (sym c.due_from-at.ensures.due) ∙ sym c.duty_at-duty.ensures) judged
          ∙ ap (λ ts. audited_steps config more t ts rest) (ap left_after (sym c.due_from-at.ensures.due) ∙ sym c.left_from-at.ensures.left);
      tidy = walk-tidy config parts more s t tasks task step rest judged c.loop-step.invariant.tidy;
      within = c.left_from-at.ensures.within;
    }

pub returns-clause-reaches : goal.returns-clause-reaches
returns-clause-reaches c =
    let config = c.args.config.now in
    let s = shown_situation c.loop-step.s in
    let parts = c.loop-step.parts in
    let duties = c.args.duties.now in
    let tasks = map task_of (drop c.loop-step.at duties) in
    reaches-end _ s parts _
    (c.loop-step.invariant.same ∙ ap (audited_steps config parts s tasks) (drop_of_length-le c.args.steps.now c.loop-step-test.false)
    ∙ ap (λ (ts : Rattle.std.proofs.Common.List Rattle.audit_model.specs.Steps.Task). if is_empty ts then Some (record { situation = s; parts = parts }) else None) (sym c.due_from.ensures.due)
    ∙ sym (ap (λ b. if b then Some (record { situation = s; parts = parts }) else None) (end-is task_of duties c.due_from.result)))
