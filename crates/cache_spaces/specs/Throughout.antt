-- What is true of each record of a transcript.
use Rattle.std.specs.Prelude.{ℕ, suc, Bool, true, false, ◌&&◌, List, [], ◌∷◌, MatchOption}
use Rattle.std.specs.Option.{option_map_or}
use Rattle.audit_model.specs.Follows.{after_event, after_record, tasks_in}
use Rattle.audit_model.specs.Places.{steps_of}
use Rattle.audit_model.specs.Situation.{Situation, empty_situation}
use Rattle.audit_model.specs.declared.config.Config.{Config}
use Rattle.audit_model.specs.declared.transcript.Record.{Record}
use Rattle.audit_model.specs.declared.transcript.Transcript.{Transcript}
use Rattle.cache_lines.specs.Lines.{are_timely}
use Rattle.cache_lines.specs.Ordered.{HaveKeys, order_behind}
use Rattle.cache_commands.specs.Order.{Order, Settled}
use Rattle.cache_commands.specs.Running.{is_bounded}

-- these records follow one another from a situation on, and the fact is true of each, of the situation before it and of the one to which it
-- leads
abbrev pub is_so_of_each : (Situation → Record → Situation → Bool) → Config → Situation
    → List Record → Bool
is_so_of_each fact config s [] = true
is_so_of_each fact config s (entry ∷ entries) =
    option_map_or (λ t. fact s entry t && is_so_of_each fact config t entries)
    (after_record config s entry) false

-- each `SYNC` of the record leaves no value that is covered or long dead
abbrev pub are_timely_in : Config → ℕ → Situation → Record → Bool
are_timely_in config made s entry =
    are_timely config made (after_event entry.event s) (tasks_in s entry.event) (steps_of entry)

-- each `SYNC` of these records, of a namespace that was created at this moment, leaves only timely values: none that is covered, none at or
-- past its acceptance plus the live time, none 300 milliseconds or more past its last use plus the idle time, and none with an own deadline
-- in an earlier tick than the step's moment
abbrev pub are_timely_from : Config → ℕ → List Record → Bool
are_timely_from config made entries =
    is_so_of_each (λ s entry t. are_timely_in config made s entry) config (empty_situation made)
    entries

-- after each of these records, of a namespace that was created at this moment, each part weighs at most its share plus 64 values of 8192
-- bytes, if a capacity is set
abbrev pub are_bounded_from : Config → ℕ → List Record → Bool
are_bounded_from config made entries =
    is_so_of_each (λ s entry t. is_bounded config t.held) config (empty_situation made) entries

-- the same for a transcript
abbrev pub is_timely_throughout : Config → Transcript → Bool
is_timely_throughout config transcript =
    are_timely_from config transcript.made.nanos transcript.records

abbrev pub is_bounded_throughout : Config → Transcript → Bool
is_bounded_throughout config transcript =
    are_bounded_from config transcript.made.nanos transcript.records

-- what is known of the keys held after the steps of these records
abbrev pub order_at_end : Config → ℕ → Order → List Record → Order
order_at_end config n order [] = order
order_at_end config n order (entry ∷ entries) =
    order_at_end config n (order_behind config n order (steps_of entry)) entries

-- These records follow one another from a situation on, and after each of their steps, if a `SYNC` ran last, the values held have exactly
-- the keys that are known.
abbrev pub HaveKeysFrom : Config → ℕ → Order → Situation → List Record → Type 0
HaveKeysFrom config n order s [] = Unit {0}
HaveKeysFrom config n order s (entry ∷ entries) =
    HaveKeys config n order (after_event entry.event s) (tasks_in s entry.event) (steps_of entry)
    × MatchOption (after_record config s entry) ⊥
    (λ t. HaveKeysFrom config n (order_behind config n order (steps_of entry)) t entries)

-- Over `suc number` places, as long as the steps of the transcript are commands `SET`, `GET`, `HAS`, `DEL` and `KEYS`, each followed at
-- once by a `SYNC`, and none is held back: the keys held after each `SYNC` are exactly those of the recency list of these commands.
abbrev pub HasExactKeys : Config → ℕ → Transcript → Type 0
HasExactKeys config number transcript =
    HaveKeysFrom config (suc number) (Settled []) (empty_situation transcript.made.nanos)
    transcript.records
