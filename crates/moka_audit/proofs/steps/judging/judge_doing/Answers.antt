use Rattle.std.proofs.Common.{◌≡◌, ◌∙◌, ◌&&◌, ap, sym, subst, true≢false}
use Rattle.std.specs.Option.{option_map}
use Rattle.audit_model.specs.Changes.{after_step}
use Rattle.audit_model.specs.Replies.{offer_of}
use Rattle.audit_model.specs.Situation.{view_in}
use Rattle.audit_model.specs.Steps.{has_right_notes}
use Rattle.audit_situation.specs.States.{shown_situation}
use Rattle.audit_situation.specs.Actions.Doings.{action_of}
use Rattle.audit_situation.specs.Held.Known.{agrees_with, with_value}
use Rattle.moka_audit.specs.Steps.Judging.{placed_by, placed_with, is_synced, AcceptsOffer}
use Rattle.moka_audit.specs.Steps.Showing.{shown_step, task_of}
use Rattle.moka_audit.proofs.steps.Judged.{wrong-fit, wrong-acceptance, right-of, if-ok-three}
use Rattle.moka_audit.proofs.steps.judging.judge_doing.Goals as goal

pub returns-then-not-branch : goal.returns-then-not-branch
returns-then-not-branch c =
    let placed = placed_by c.args.config.now (shown_situation c.args.s.now) (option_map task_of c.args.duty) (action_of c.args.doing) (shown_step c.args.shown) in
    record {
      right = wrong-fit c.args.config.now placed (agrees_with c.args.parts.now placed.effect.value) (sym c.in_ok-is_fit.ensures ∙ c.if-not-branch.true);
      left = λ e. absurd (true≢false (sym e));
      kept = λ e. absurd (true≢false (sym e));
    }

pub returns-in-None : goal.returns-in-None
returns-in-None c =
    let config = c.args.config.now in
    let s = shown_situation c.args.s.now in
    let action = action_of c.args.doing in
    let placed = placed_by config s (option_map task_of c.args.duty) action (shown_step c.args.shown) in
    let part = option_map (λ a. a.part) c.args.shown.accepted in
    record {
      right = wrong-acceptance config placed (agrees_with c.args.parts.now placed.effect.value) (subst (λ o. AcceptsOffer config s.latest part (offer_of config (view_in config s) action) o) c.in-None.is c.in_ok-newcomer.ensures.accepts);
      left = λ e. absurd (true≢false (sym e));
      kept = λ e. absurd (true≢false (sym e));
    }

pub returns-in-Some : goal.returns-in-Some
returns-in-Some c =
    let config = c.args.config.now in
    let s = shown_situation c.args.s.now in
    let action = action_of c.args.doing in
    let task = option_map task_of c.args.duty in
    let step = shown_step c.args.shown in
    let parts = c.args.parts.now in
    let placed = placed_by config s task action step in
    let part = option_map (λ a. a.part) c.args.shown.accepted in
    let taken = subst (λ o. AcceptsOffer config s.latest part (offer_of config (view_in config s) action) o) c.in-Some.is c.in_ok-newcomer.ensures.accepts in
    if-ok-three c.judge_accepted.result
    (λ b r l k. record {
      right =
          right-of config placed (agrees_with parts placed.effect.value) b (sym c.in_ok-is_fit.ensures ∙ c.if-not-branch.false) taken.0
          (subst (λ v. b ≡ (agrees_with parts v && (has_right_notes config (placed_with config s task action step v) && is_synced config (placed_with config s task action step v)))) taken.1 r);
      left = λ e. subst (λ v. shown_situation c.judge_accepted.new.s ≡ after_step config s task step (placed_with config s task action step v).effect) taken.1 (l e);
      kept = λ e. k e ∙ ap (with_value parts) taken.1;
    })
    c.judge_accepted.ensures.right c.judge_accepted.ensures.left c.judge_accepted.ensures.kept
