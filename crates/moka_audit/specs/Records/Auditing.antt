-- Records judged one after another, with the parts of keys.
use Rattle.std.specs.Prelude.{◌≡◌, ℕ, suc, Bool, true, false, ◌&&◌, List, [], ◌∷◌, ◌++◌, map, Option, Some, None, is_none, if◌then◌else◌, MatchOption}
use Rattle.std.specs.Option.{option_map_or}
use Rattle.audit_model.specs.Belongs.{refusal_of}
use Rattle.audit_model.specs.Bytewise.{is_empty}
use Rattle.audit_model.specs.Changes.{after_step}
use Rattle.audit_model.specs.Follows.{known_in, after_event, tasks_in, placed_step_in}
use Rattle.audit_model.specs.History.{Value}
use Rattle.audit_model.specs.Obeys.{is_numbered, has_right_own_value, agree_on_parts}
use Rattle.audit_model.specs.Places.{due, first_due, left_after, steps_of}
use Rattle.audit_model.specs.Situation.{Situation, may_run_in}
use Rattle.audit_model.specs.Steps.{Task, is_right}
use Rattle.audit_model.specs.declared.config.Config.{Config}
use Rattle.audit_model.specs.declared.transcript.Record.{Record}
use Rattle.audit_model.specs.declared.transcript.Step.{Step}
use Rattle.audit_model.specs.declared.event.Event.{Event}
use Rattle.audit_situation.specs.Held.Known.{KeyPart, agrees_with, with_value}
use Rattle.audit_situation.specs.States.{shown_situation}
use Rattle.audit_situation.specs.declared.state.State.{State}

-- a situation, and the part of each key of which a value was accepted
pub record Reached : Type 0 where
  pub situation : Situation
  pub parts : List KeyPart

-- what these steps lead to, if they are right and each key keeps to one part
abbrev pub audited_steps : Config → List KeyPart → Situation → List Task → List Step
    → Option Reached
audited_steps config parts s tasks [] =
    if is_empty (due (may_run_in s) tasks) then Some (record {
      situation = s;
      parts = parts;
    }) else None
audited_steps config parts s tasks (step ∷ steps) =
    let now_due = due (may_run_in s) tasks in
    let placed = placed_step_in config s (first_due now_due) step in
    let rest = audited_steps config (with_value parts placed.effect.value) (after_step config s placed.task step placed.effect) (left_after now_due) steps in
    if is_right config placed && agrees_with parts placed.effect.value then rest else None

-- the same of a record's steps
abbrev pub audited_event : Config → List KeyPart → Situation → Record → Option Reached
audited_event config parts s entry =
    audited_steps config parts (after_event entry.event s) (tasks_in s entry.event) (steps_of entry)

-- the record's event is accepted: it is not refused, has the next number, and only an answer has a value of its own
abbrev pub is_taken : Config → Situation → Record → Bool
is_taken config s entry =
    is_none (refusal_of config (known_in s) entry.event) && is_numbered s.opened entry.event
    && has_right_own_value entry

-- what a record leads to
abbrev pub audited_record : Config → List KeyPart → Situation → Record → Option Reached
audited_record config parts s entry = let rest = audited_event config parts s entry in if is_taken config s entry then rest else None

-- the number of the first record that leads to nothing; n records came before
abbrev pub audited_from : Config → List KeyPart → Situation → ℕ → List Record → Option ℕ
audited_from config parts s n [] = None
audited_from config parts s n (entry ∷ entries) =
    option_map_or (λ r. audited_from config r.parts r.situation (suc n) entries)
    (audited_record config parts s entry) (Some (suc n))

-- what was reached, if the answer is true; if it is false, nothing was
abbrev pub Reaches : Bool → Situation → List KeyPart → Option Reached → Type 0
Reaches true t parts reached = reached ≡ Some (record { situation = t; parts = parts })
Reaches false t parts reached = reached ≡ None

-- the parts, with those of these values
abbrev pub with_values : List KeyPart → List Value → List KeyPart
with_values parts [] = parts
with_values parts (v ∷ vs) = with_values (with_value parts (Some v)) vs

-- what is reached if steps lead there and accept these values
abbrev pub reached_by : List KeyPart → List Value → List Value → Option Situation → Option Reached
reached_by parts values more None = None
reached_by parts values more (Some t) =
    if agree_on_parts (values ++ more) then Some (record {
      situation = t;
      parts = with_values parts more;
    }) else None

-- an answer's own step
abbrev pub step_of_answer : Record → Step
step_of_answer entry =
    record {
      conn = 0;
      line = [];
      held = false;
      reply = None;
      load = None;
      accepted = entry.own;
      notices = entry.notices;
    }

-- a record's steps, an answer's own first
abbrev pub steps_with_own : Record → List Step
steps_with_own entry = step_of_answer entry ∷ entry.steps

-- the steps lead there from the judge's situation, if the answer is true; if it is false, nowhere
abbrev pub Audits : Config → State → List KeyPart → List Task → List Step → Bool → State
    → List KeyPart → Type 0
Audits config s parts tasks steps b t more =
    Reaches b (shown_situation t) more (audited_steps config parts (shown_situation s) tasks steps)

-- the same of the steps of an event
abbrev pub AuditsEvent : Config → State → List KeyPart → Event → List Step → Bool → State
    → List KeyPart → Type 0
AuditsEvent config s parts happened steps b t more =
    Reaches b (shown_situation t) more (audited_steps config parts
    (after_event happened (shown_situation s)) (tasks_in (shown_situation s) happened) steps)
