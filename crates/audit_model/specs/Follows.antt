-- How records follow one another from situation to situation.
use Rattle.std.specs.Prelude.{◌≡◌, ◌↔◌, ℕ, suc, max, false, not, ◌&&◌, ◌==◌, nat_lt, nat_le, List, [], ◌∷◌, ◌++◌, map, Option, Some, None, if◌then◌else◌, is_some, is_none, IsTrue}
use Rattle.std.specs.List.{filter}
use Rattle.std.specs.Option.{option_and_then, option_map_or}
use Rattle.audit_model.specs.Bytewise.{is_empty}
use Rattle.audit_model.specs.Commands.{deed_of}
use Rattle.audit_model.specs.Stream.{first_line}
use Rattle.audit_model.specs.Steps.{Task, Store, PlacedStep, action_in, effect_in, is_right}
use Rattle.audit_model.specs.Places.{due, first_due, left_after, tasks_to_answer, tasks_to_give_up, tasks_to_feed, steps_of, placed_steps}
use Rattle.audit_model.specs.Obeys.{is_numbered, has_right_own_value, Obeys, accepted_values, agree_on_parts}
use Rattle.audit_model.specs.Belongs.{Known, refusal_of, IsAdmitted}
use Rattle.audit_model.specs.Situation.{Situation, Connection, Standing, Ready, Held, Waiting, empty_situation, connection_in, may_run_in, is_holding_in, without_connection, with_connection, pending_key, waiting_in, view_in}
use Rattle.audit_model.specs.Changes.{left_held, after_step}
use Rattle.audit_model.specs.declared.config.Config.{Config}
use Rattle.audit_model.specs.declared.event.Event.{Event}
use Rattle.audit_model.specs.declared.event.Event.TheVariants as event
use Rattle.audit_model.specs.declared.transcript.Record.{Record}
use Rattle.audit_model.specs.declared.transcript.Step.{Step}
use Rattle.audit_model.specs.declared.transcript.Transcript.{Transcript}

-- what an event makes due
abbrev pub tasks_in : Situation → Event → List Task
tasks_in s (event.Open conn) = []
tasks_in s (event.Close conn) = []
tasks_in s (event.Feed conn piece moment) = tasks_to_feed conn (is_holding_in s conn)
tasks_in s (event.Answer load outcome moment) =
    tasks_to_answer (pending_key load s) outcome (waiting_in load s)
tasks_in s (event.GiveUp load moment) = tasks_to_give_up (waiting_in load s)

-- a load is settled at that moment
abbrev pub without_load : ℕ → ℕ → Situation → Situation
without_load number moment s =
    record s {
      latest = max moment s.latest;
      pending = filter (λ load. not (load.number == number)) s.pending;
    }

-- the situation in which the first step of an event runs
abbrev pub after_event : Event → Situation → Situation
after_event (event.Open conn) s =
    record s {
      opened = suc s.opened;
      connections = s.connections ++ record { number = conn; unread = []; standing = Ready; waited = 0 } ∷ [];
    }
after_event (event.Close conn) s = without_connection conn s
after_event (event.Feed conn piece moment) s =
    let t = record s { latest = max moment.nanos s.latest } in
    option_map_or (λ c. with_connection false (record c {
      unread = c.unread ++ piece;
    }) t) (connection_in conn s) t
after_event (event.Answer load outcome moment) s = without_load load moment.nanos s
after_event (event.GiveUp load moment) s = without_load load moment.nanos s

-- the line that is due
abbrev pub line_in : Option Task → Option Connection → Option (List ℕ)
line_in (Some (Store key outcome)) connection = Some []
line_in task None = None
line_in task (Some connection) = go connection.standing
  where
    go : Standing → Option (List ℕ)
    go Ready = first_line connection.unread
    go (Held line) = Some line
    go (Waiting line) = Some line

-- the step in its place, by the situation before it
abbrev pub placed_step_in : Config → Situation → Option Task → Step → PlacedStep
placed_step_in config s task step =
    let seen = view_in config s in
    let connection = connection_in step.conn s in
    let effect = effect_in config seen (action_in config (option_map_or (λ c. c.waited) connection 0) task step) step in
    record {
      task = task;
      line = line_in task connection;
      seen = seen;
      step = step;
      effect = effect;
      held = map (λ h. h.value) (left_held s.held (deed_of effect) effect.notes);
    }

-- the situation after these steps, if they are right
abbrev pub after_steps : Config → Situation → List Task → List Step → Option Situation
after_steps config s tasks [] = if is_empty (due (may_run_in s) tasks) then Some s else None
after_steps config s tasks (step ∷ steps) =
    let now_due = due (may_run_in s) tasks in
    let placed = placed_step_in config s (first_due now_due) step in
    let rest = after_steps config (after_step config s placed.task step placed.effect) (left_after now_due) steps in
    if is_right config placed then rest else None

-- what the situation says of connections and loads
abbrev pub known_in : Situation → Known
known_in s =
    record {
      was_opened = λ conn. nat_lt 0 conn && nat_le conn s.opened;
      is_open = λ conn. is_some (connection_in conn s);
      is_under_way = λ load. is_some (pending_key load s);
    }

-- the situation after a record, if it is right
abbrev pub after_record : Config → Situation → Record → Option Situation
after_record config s entry =
    let rest = after_steps config (after_event entry.event s) (tasks_in s entry.event) (steps_of entry) in
    if is_none (refusal_of config (known_in s) entry.event) && is_numbered s.opened entry.event
    && has_right_own_value entry then rest else None

-- the situation after these records, if they are right
abbrev pub after_records : Config → Situation → List Record → Option Situation
after_records config s [] = Some s
after_records config s (entry ∷ entries) =
    option_and_then (λ t. after_records config t entries) (after_record config s entry)

-- the record leads from one situation to the other
abbrev pub Follows : Config → Situation → Record → Situation → Type 0
Follows config s entry t = after_record config s entry ≡ Some t

-- a transcript obeys, and none of its events is refused, exactly if each key has one part and its records follow one another from the empty
-- situation
abbrev pub AgreesWithHistory : Config → Transcript → Type 0
AgreesWithHistory config transcript =
    (Obeys config transcript × IsAdmitted config transcript)
    ↔ (IsTrue (agree_on_parts (accepted_values (placed_steps config transcript)))
    × IsTrue (is_some
    (after_records config (empty_situation transcript.made.nanos) transcript.records)))

-- how many records follow one another, from the first on
abbrev pub followed : Config → Situation → List Record → ℕ
followed config s [] = 0
followed config s (entry ∷ entries) =
    option_map_or (λ t. suc (followed config t entries)) (after_record config s entry) 0
