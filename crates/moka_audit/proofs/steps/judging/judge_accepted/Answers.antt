use Rattle.std.proofs.Common.{◌≡◌, ◌∙◌, ◌&&◌, ap, sym, subst, true≢false}
use Rattle.std.specs.Prelude.{IfOk}
use Rattle.std.specs.Option.{option_map}
use Rattle.audit_model.specs.Steps.{has_right_notes}
use Rattle.audit_situation.proofs.notes.Passing.{copied}
use Rattle.audit_situation.specs.States.{shown_situation}
use Rattle.audit_situation.specs.Actions.Doings.{action_of}
use Rattle.audit_situation.specs.Held.Known.{agrees_with, with_value}
use Rattle.moka_audit.specs.Steps.Judging.{placed_with, is_synced}
use Rattle.moka_audit.specs.Steps.Showing.{shown_step, task_of}
use Rattle.moka_audit.proofs.steps.Judged.{first-wrong, if-ok-always}
use Rattle.moka_audit.proofs.steps.judging.judge_accepted.Goals as goal

pub returns-then-not-branch : goal.returns-then-not-branch
returns-then-not-branch c =
    let config = c.args.config.now in
    let placed = placed_with config (shown_situation c.args.s.now) (option_map task_of c.args.duty) (action_of c.args.doing) (shown_step c.args.shown) (option_map (λ h. h.value) c.args.newcomer) in
    let value = copied c.as_ref.result ∙ ap (option_map (λ h. h.value)) c.as_ref.ensures.value in
    record {
      right = first-wrong _ (has_right_notes config placed && is_synced config placed) (sym (c.in_ok-admit.ensures.agrees ∙ ap (agrees_with c.args.parts.now) value) ∙ c.if-not-branch.true);
      left = λ e. absurd (true≢false (sym e));
      kept = λ e. absurd (true≢false (sym e));
    }

pub returns : goal.returns
returns c =
    let config = c.args.config.now in
    let parts = c.args.parts.now in
    let placed = placed_with config (shown_situation c.args.s.now) (option_map task_of c.args.duty) (action_of c.args.doing) (shown_step c.args.shown) (option_map (λ h. h.value) c.args.newcomer) in
    let value = copied c.as_ref.result ∙ ap (option_map (λ h. h.value)) c.as_ref.ensures.value in
    record {
      right =
          subst (λ y. IfOk c.finish.result (λ b. b ≡ y))
          (sym (ap (λ a. a && (has_right_notes config placed && is_synced config placed)) (sym (c.in_ok-admit.ensures.agrees ∙ ap (agrees_with parts) value) ∙ c.if-not-branch.false)))
          c.finish.ensures.right;
      left = c.finish.ensures.left;
      kept = if-ok-always c.finish.result (λ b e. c.in_ok-admit.ensures.kept c.if-not-branch.false ∙ ap (with_value parts) value);
    }
