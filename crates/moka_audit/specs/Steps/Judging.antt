-- What is judged of one step.
use Rattle.std.specs.Prelude.{◌≡◌, IfSome, ℕ, Bool, true, false, not, ◌&&◌, ◌||◌, nat_lt, List, map, Option, Some, None, codes, is_some}
use Rattle.std.specs.Option.{option_eq, option_map}
use Rattle.audit_model.specs.Bytewise.{same, text_line}
use Rattle.audit_model.specs.Changes.{all_held_after, left_held, after_step}
use Rattle.audit_model.specs.Commands.{deed_of, drops, is_sync, syncs}
use Rattle.audit_model.specs.Follows.{line_in, placed_step_in}
use Rattle.audit_model.specs.History.{Action, Effect, Value, part_count}
use Rattle.audit_model.specs.Notes.{is_within}
use Rattle.audit_model.specs.Replies.{Offer, reply_of, may_refuse, offer_of, value_from}
use Rattle.audit_model.specs.Situation.{Situation, HeldValue, connection_in, view_in}
use Rattle.audit_model.specs.Steps.{Task, PlacedStep, effect_in, has_right_notes, is_right, is_in_turn, is_held_rightly, has_right_line, has_right_reply, has_right_load, is_quiet_where_silent}
use Rattle.audit_model.specs.View.{View}
use Rattle.audit_model.specs.declared.config.Config.{Config}
use Rattle.audit_model.specs.declared.transcript.Step.{Step}
use Rattle.audit_situation.specs.Notes.After.{IsJustAccepted}
use Rattle.audit_situation.specs.Actions.Doings.{action_of}
use Rattle.audit_situation.specs.declared.actions.doing.Doing.{Doing}
use Rattle.audit_situation.specs.States.{shown_situation}
use Rattle.audit_situation.specs.declared.state.State.{State}
use Rattle.moka_audit.specs.Steps.Showing.{shown_step}
use Rattle.moka_audit.specs.declared.steps.accepting.Proposal.{Proposal}
use Rattle.moka_audit.specs.declared.steps.shown.Shown.{Shown}
use Rattle.audit_situation.specs.Held.Known.{KeyPart, agrees_with, with_value}

-- the step in its place, doing this and accepting this value
abbrev pub placed_with : Config → Situation → Option Task → Action → Step → Option Value
    → PlacedStep
placed_with config s task action step value =
    let effect : Effect = record {
      at = s.latest;
      action = action;
      reply = step.reply;
      load = step.load;
      value = value;
      notes = step.notices;
    } in
    record {
      task = task;
      line = line_in task (connection_in step.conn s);
      seen = view_in config s;
      step = step;
      effect = effect;
      held = map (λ h. h.value) (left_held s.held (deed_of effect) step.notices);
    }

-- the step in its place, doing this
abbrev pub placed_by : Config → Situation → Option Task → Action → Step → PlacedStep
placed_by config s task action step =
    let effect = effect_in config (view_in config s) action step in
    record {
      task = task;
      line = line_in task (connection_in step.conn s);
      seen = view_in config s;
      step = step;
      effect = effect;
      held = map (λ h. h.value) (left_held s.held (deed_of effect) effect.notes);
    }

-- the step in its place, as the code has it
abbrev pub placed_as_shown : Config → State → Option Task → Doing → Shown → Option HeldValue → PlacedStep
placed_as_shown config s task doing shown newcomer =
    placed_with config (shown_situation s) task (action_of doing) (shown_step shown)
    (option_map (λ h. h.value) newcomer)

-- the reply that a step owes that does this
abbrev pub reply_owed : Config → Situation → Action → List Value → Option (List ℕ)
reply_owed config s action values = reply_of config (view_in config s) values action

-- the reply is this one, or a refusal if one may be given
abbrev pub is_owed_or_refusal : Option (List ℕ) → Option (List ℕ) → Bool → Bool
is_owed_or_refusal reply owed refuses =
    option_eq same reply owed
    || (refuses && option_eq same reply (Some (text_line (codes "ERR id"))))

-- the reply is the one that is owed, or the refusal that may be given
abbrev pub reply_fits : Config → View → Action → Option (List ℕ) → List Value → Bool
reply_fits config seen action reply values =
    is_owed_or_refusal reply (reply_of config seen values action) (may_refuse seen action)

-- that of a step that is not a `SYNC`
abbrev pub replies_so : Config → Situation → Action → Option (List ℕ) → List Value → Bool
replies_so config s action reply values =
    is_sync action || reply_fits config (view_in config s) action reply values

-- that of a `SYNC` that leaves these values
abbrev pub syncs_so : Config → View → Action → Option (List ℕ) → List Value → Bool
syncs_so config seen action reply values =
    not (is_sync action) || (reply_fits config seen action reply values && is_within config values)

-- a value is accepted exactly if one is offered, into one of the parts
abbrev pub takes_rightly : Config → Option ℕ → Bool → Bool
takes_rightly config None offers = not offers
takes_rightly config (Some part) offers = offers && nat_lt part (part_count config)

-- what is judged before values change
abbrev pub is_fit : Config → PlacedStep → Bool
is_fit config placed =
    is_in_turn placed && is_held_rightly placed && has_right_line placed
    && (syncs placed.effect || has_right_reply config placed) && has_right_load placed
    && is_quiet_where_silent placed

-- what is judged of a `SYNC` after values have changed
abbrev pub is_synced : Config → PlacedStep → Bool
is_synced config placed =
    not (syncs placed.effect) || (has_right_reply config placed && is_within config placed.held)

-- what is judged after values have changed
abbrev pub ends_rightly : Config → PlacedStep → Bool
ends_rightly config placed = has_right_notes config placed && is_synced config placed

-- the same, and that its value is in the part of its key
abbrev pub agrees_and_ends : Config → List KeyPart → PlacedStep → Bool
agrees_and_ends config parts placed =
    agrees_with parts placed.effect.value && ends_rightly config placed

-- the situation after values have changed
abbrev pub with_values_after : Config → Situation → Effect → Situation
with_values_after config s effect =
    record s {
      held = all_held_after config s.latest s.held (deed_of effect) effect.notes;
      dropped = s.dropped || drops effect;
    }

-- the situation after the step
abbrev pub after_placed : Config → Situation → PlacedStep → Situation
after_placed config s placed = after_step config s placed.task placed.step placed.effect

-- an offer, as the definitions have it
abbrev pub offer_from : Proposal → Offer
offer_from o = record { key = o.key; bytes = o.bytes; ms = o.ms }

-- what is accepted of an offer, if the step shows this part: none of these if it accepts wrongly
abbrev pub AcceptsOffer : Config → ℕ → Option ℕ → Option Offer → Option (Option HeldValue) → Type 0
AcceptsOffer config now part offer None = takes_rightly config part (is_some offer) ≡ false
AcceptsOffer config now part offer (Some newcomer) =
    (takes_rightly config part (is_some offer) ≡ true)
    × (option_map (λ h. h.value) newcomer ≡ value_from config now offer part)
    × IfSome newcomer (IsJustAccepted now)

-- the same for a step that does this
abbrev pub Accepts : Config → Situation → Action → Option ℕ → Option (Option HeldValue) → Type 0
Accepts config s action part newcomer =
    AcceptsOffer config s.latest part (offer_of config (view_in config s) action) newcomer

-- the step is right and its value is in the part of its key exactly if the answer is true; and then this situation and these parts are left
pub record IsJudged (config : Config) (s : Situation) (parts : List KeyPart) (task : Option Task)
    (step : Step) (placed : PlacedStep) (b : Bool) (t : Situation) (more : List KeyPart) :
    Type 0 where
  pub right : b ≡ (is_right config placed && agrees_with parts placed.effect.value)
  pub left : b ≡ true → t ≡ after_step config s task step placed.effect
  pub kept : b ≡ true → more ≡ with_value parts placed.effect.value

-- the same for a step in its place, and for situations as the judge keeps them
abbrev pub Judges : Config → State → List KeyPart → PlacedStep → Bool → State → List KeyPart
    → Type 0
Judges config s parts placed b t more =
    IsJudged config (shown_situation s) parts placed.task placed.step placed b (shown_situation t)
    more

-- the same for a step for which this is due
abbrev pub JudgesStep : Config → State → List KeyPart → Option Task → Step → Bool → State
    → List KeyPart → Type 0
JudgesStep config s parts task step b t more =
    Judges config s parts (placed_step_in config (shown_situation s) task step) b t more
