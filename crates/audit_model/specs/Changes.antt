-- What a step changes in the situation.
use Rattle.std.specs.Prelude.{ℕ, suc, ◌+◌, Bool, false, not, ◌&&◌, ◌||◌, List, [], ◌∷◌, ◌++◌, map, Option, Some, None, if◌then◌else◌, is_some}
use Rattle.std.specs.Option.{option_map, option_map_or, option_to_list}
use Rattle.audit_model.specs.History.{Effect, Value}
use Rattle.audit_model.specs.Commands.{Deed, deed_of, is_this, covers_key, drops, quits}
use Rattle.audit_model.specs.Stream.{behind_lines, is_waiting, is_held}
use Rattle.audit_model.specs.Values.{untold}
use Rattle.audit_model.specs.Loads.{key_loaded}
use Rattle.audit_model.specs.Notes.{is_over, candidates_of, tells_size}
use Rattle.audit_model.specs.Steps.{Task, Store, RunLines}
use Rattle.audit_model.specs.Situation.{Situation, Connection, HeldValue, Standing, Ready, Held, Waiting, connection_in, with_connection, with_waiting, is_live_at, candidate_at}
use Rattle.audit_model.specs.declared.config.Config.{Config}
use Rattle.audit_model.specs.declared.transcript.Note.{Note}
use Rattle.audit_model.specs.declared.transcript.Step.{Step}

-- ---- values

-- a value that was just accepted
abbrev pub newly_held : Value → HeldValue
newly_held value =
    record { value = value; last_use = value.accepted_at; covered = false; evictable = false }

-- the values held after the step
abbrev pub left_held : List HeldValue → Deed → List Note → List HeldValue
left_held held deed notes =
    untold (λ h. h.value.key) notes (held ++ option_to_list (option_map newly_held deed.value))

-- a look-up that finds the value live is a use of it
abbrev pub use_after : Config → ℕ → Deed → HeldValue → ℕ
use_after config now deed h =
    if is_this h.value.key deed.uses && is_live_at config now h then now else h.last_use

-- earlier points no longer count after a `SYNC`, or after a step that reports a value of the part as `Size`
abbrev pub is_evictable_after : Config → ℕ → List HeldValue → Deed → List Note → List Value
    → HeldValue → Bool
is_evictable_after config now held deed notes values h =
    let starts_anew = deed.syncs || tells_size h.value.part (map (λ c. c.value) (candidates_of config (map (candidate_at config now) held) deed)) notes in
    is_over config h.value.part values || (not starts_anew && h.evictable)

-- these values, if the step leaves them held
abbrev pub held_after : Config → ℕ → List HeldValue → Deed → List Note → List Value → HeldValue
    → HeldValue
held_after config now held deed notes values h =
    record {
      value = h.value;
      last_use = use_after config now deed h;
      covered = h.covered || covers_key h.value.key deed.covers;
      evictable = is_evictable_after config now held deed notes values h;
    }

-- the values held after the step, each as the step leaves it
abbrev pub all_held_after : Config → ℕ → List HeldValue → Deed → List Note → List HeldValue
all_held_after config now held deed notes =
    let left = left_held held deed notes in
    map (held_after config now held deed notes (map (λ h. h.value) left)) left

-- ---- connections and loads

-- the connection after one of its own steps
abbrev pub connection_after : Option Task → Step → Effect → Connection → Connection
connection_after task step effect c =
    record { number = c.number; unread = read_by task; standing = stands; waited = waits }
  where
    read_by : Option Task → List ℕ
    read_by (Some (RunLines conn)) = behind_lines 1 c.unread
    read_by task = c.unread

    stands : Standing
    stands =
        if is_held effect then Held step.line
        else (if is_waiting effect then Waiting step.line else Ready)

    waits : ℕ
    waits = if is_some effect.reply then 0 else ((if is_waiting effect then 1 else 0) + c.waited)

-- a `LOAD` that waits joins the load of its key, or the load that it sent
abbrev pub join_by : ℕ → Bool → Option (List ℕ) → Option ℕ → Situation → Situation
join_by conn waits None load s = s
join_by conn waits (Some key) (Some number) s =
    record s {
      sent = suc s.sent;
      pending = record { number = number; key = key; waiting = conn ∷ [] } ∷ s.pending;
    }
join_by conn waits (Some key) None s =
    if waits then record s { pending = map (with_waiting conn key) s.pending } else s

-- what a step does to the loads
abbrev pub join_load : ℕ → Effect → Situation → Situation
join_load conn effect s = join_by conn (is_waiting effect) (key_loaded effect.action) effect.load s

-- the situation after what a step does to its connection and to the loads; an answer's own step does neither
abbrev pub with_connection_after : Option Task → Step → Effect → Situation → Situation
with_connection_after (Some (Store key outcome)) step effect s = s
with_connection_after task step effect s =
    option_map_or (λ c. with_connection (quits effect) (connection_after task step effect c)
    (join_load step.conn effect s)) (connection_in step.conn s) s

-- the situation after a step
abbrev pub after_step : Config → Situation → Option Task → Step → Effect → Situation
after_step config s task step effect =
    with_connection_after task step effect (record s {
      held = all_held_after config s.latest s.held (deed_of effect) effect.notes;
      dropped = s.dropped || drops effect;
    })
