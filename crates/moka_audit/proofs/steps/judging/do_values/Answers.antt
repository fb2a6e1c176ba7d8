use Rattle.std.proofs.Common.{ap, ◌∙◌, sym, not, ◌&&◌, ◌||◌, None}
use Rattle.std.specs.Option.{option_map}
use Rattle.audit_model.specs.Changes.{all_held_after}
use Rattle.audit_model.specs.Commands.{deed_of, is_sync}
use Rattle.audit_model.specs.Notes.{is_within}
use Rattle.audit_model.specs.Situation.{view_in}
use Rattle.audit_model.specs.Steps.{has_right_notes}
use Rattle.audit_situation.specs.Notes.After.{has_true_notes}
use Rattle.audit_situation.specs.Held.Weights.{values_of}
use Rattle.audit_situation.specs.States.{shown_situation}
use Rattle.audit_situation.specs.Actions.Doings.{action_of}
use Rattle.moka_audit.specs.Steps.Judging.{placed_with, is_synced, reply_fits}
use Rattle.moka_audit.specs.Steps.Showing.{shown_step}
use Rattle.moka_audit.proofs.steps.Judged.{first-wrong, second-wrong, both-right, values-after}
use Rattle.moka_audit.proofs.steps.judging.do_values.Goals as goal

pub returns-then-not-branch-clause-right : goal.returns-then-not-branch-clause-right
returns-then-not-branch-clause-right c task =
    let config = c.args.config.now in
    let s = shown_situation c.args.s.now in
    let step = shown_step c.args.shown in
    let value = option_map (λ h. h.value) c.args.newcomer in
    let placed = placed_with config s task (action_of c.args.doing) step value in
    first-wrong _ (is_synced config placed) (sym (c.in_ok-do_deed.ensures.told ∙ ap (λ d. has_true_notes config s.latest s.held d step.notices) (c.deed_of-deed.ensures step.load value)) ∙ c.if-not-branch.true)

pub returns-then-not-branch-2-clause-right : goal.returns-then-not-branch-2-clause-right
returns-then-not-branch-2-clause-right c task =
    let config = c.args.config.now in
    let s = shown_situation c.args.s.now in
    let step = shown_step c.args.shown in
    let action = action_of c.args.doing in
    let value = option_map (λ h. h.value) c.args.newcomer in
    let placed = placed_with config s task action step value in
    let deed = c.deed_of-deed.ensures step.load value in
    let left = c.in_ok-do_deed.ensures.left c.if-not-branch.false ∙ ap (λ d. all_held_after config s.latest s.held d step.notices) deed in
    let values = ap values_of left ∙ values-after config s.latest s.held (deed_of placed.effect) step.notices in
    second-wrong (has_right_notes config placed) _
    (sym (c.in_ok-is_synced.ensures (view_in config s) ∙ ap (λ vs. not (is_sync action) || (reply_fits config (view_in config s) action step.reply vs && is_within config vs)) values) ∙ c.if-not-branch-2.true)

pub returns-clause-right : goal.returns-clause-right
returns-clause-right c task =
    let config = c.args.config.now in
    let s = shown_situation c.args.s.now in
    let step = shown_step c.args.shown in
    let action = action_of c.args.doing in
    let value = option_map (λ h. h.value) c.args.newcomer in
    let placed = placed_with config s task action step value in
    let deed = c.deed_of-deed.ensures step.load value in
    let left = c.in_ok-do_deed.ensures.left c.if-not-branch.false ∙ ap (λ d. all_held_after config s.latest s.held d step.notices) deed in
    let values = ap values_of left ∙ values-after config s.latest s.held (deed_of placed.effect) step.notices in
    both-right (has_right_notes config placed) (is_synced config placed)
    (sym (c.in_ok-do_deed.ensures.told ∙ ap (λ d. has_true_notes config s.latest s.held d step.notices) deed) ∙ c.if-not-branch.false)
    (sym (c.in_ok-is_synced.ensures (view_in config s) ∙ ap (λ vs. not (is_sync action) || (reply_fits config (view_in config s) action step.reply vs && is_within config vs)) values) ∙ c.if-not-branch-2.false)

pub returns-clause-left : goal.returns-clause-left
returns-clause-left c e =
    let config = c.args.config.now in
    let s = shown_situation c.args.s.now in
    let step = shown_step c.args.shown in
    let value = option_map (λ h. h.value) c.args.newcomer in
    let deed = c.deed_of-deed.ensures step.load value in
    let left = c.in_ok-do_deed.ensures.left c.if-not-branch.false ∙ ap (λ d. all_held_after config s.latest s.held d step.notices) deed in
    ap (λ hs. record s { held = hs; dropped = s.dropped || c.is_drop-drops.result }) left
    ∙ ap (λ d. record s { held = all_held_after config s.latest s.held (deed_of (placed_with config s None (action_of c.args.doing) step value).effect) step.notices; dropped = s.dropped || d }) (c.is_drop-drops.ensures step.load)
