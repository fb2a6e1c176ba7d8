-- Which events are refused, and which transcript belongs to a list of inputs.
use Rattle.std.specs.Prelude.{◌≡◌, ℕ, zero, suc, ◌^◌, Bool, true, false, not, ◌&&◌, ◌||◌, ◌==◌, nat_lt, nat_le, List, [], ◌∷◌, length, take, Option, Some, None, if◌then◌else◌, is_some, is_none, IsTrue, MatchOption, ◌⊎◌}
use Rattle.std.specs.List.{list_all}
use Rattle.std.specs.Option.{option_or}
use Rattle.audit_model.specs.History.{History}
use Rattle.audit_model.specs.Stream.{opened_count, was_opened, is_open}
use Rattle.audit_model.specs.Loads.{key_of_load}
use Rattle.audit_model.specs.Grammar.{is_value}
use Rattle.audit_model.specs.Places.{PlacedRecord, placed_records, placed_record}
use Rattle.audit_model.specs.Obeys.{is_obeying}
use Rattle.audit_model.specs.declared.config.Config.{Config}
use Rattle.audit_model.specs.declared.event.Event.{Event}
use Rattle.audit_model.specs.declared.event.Event.TheVariants as event
use Rattle.audit_model.specs.declared.event.Outcome.{Outcome}
use Rattle.audit_model.specs.declared.event.Outcome.TheVariants as came
use Rattle.audit_model.specs.declared.event.Instant.{Instant}
use Rattle.audit_model.specs.declared.input.Input.{Input}
use Rattle.audit_model.specs.declared.input.Input.TheVariants as input
use Rattle.audit_model.specs.declared.input.ServiceError.{ServiceError}
use Rattle.audit_model.specs.declared.input.ServiceError.TheVariants as error
use Rattle.audit_model.specs.declared.transcript.Record.{Record}
use Rattle.audit_model.specs.declared.transcript.Transcript.{Transcript}

-- the refusal, if it applies
abbrev pub refusal_where : Bool → ServiceError → Option ServiceError
refusal_where true error = Some error
refusal_where false error = None

-- a moment is at most 2 ^ 63 - 1 nanoseconds
abbrev pub refusal_of_moment : Instant → Option ServiceError
refusal_of_moment moment = refusal_where (nat_le (2 ^ 63) moment.nanos) error.Moment

-- an outcome's bytes have no line end, and are at most 8192
abbrev pub refusal_of_bytes : List ℕ → Option ServiceError
refusal_of_bytes bytes =
    option_or (refusal_where (not (is_value bytes)) error.LineEnd)
    (refusal_where (nat_lt 8192 (length bytes)) error.TooLong)

-- milliseconds are given only if the configuration allows own deadlines, and are at most 999,999,999,999
abbrev pub refusal_of_ms : Config → Option ℕ → Option ServiceError
refusal_of_ms config None = None
refusal_of_ms config (Some ms) =
    refusal_where (not config.own_deadlines || nat_lt 999999999999 ms) error.Deadline

-- the first refusal that applies to an outcome
abbrev pub refusal_of_outcome : Config → Outcome → Option ServiceError
refusal_of_outcome config (came.Value bytes ms) =
    option_or (refusal_of_bytes bytes) (refusal_of_ms config ms)
refusal_of_outcome config came.None = None
refusal_of_outcome config (came.Fault text) = refusal_of_bytes text

-- what a refusal depends on: which connections were opened, which are open, and which loads are under way
pub record Known : Type 0 where
  pub was_opened : ℕ → Bool
  pub is_open : ℕ → Bool
  pub is_under_way : ℕ → Bool

-- the connection was opened, and is still open
abbrev pub refusal_of_conn : Known → ℕ → Option ServiceError
refusal_of_conn known conn =
    option_or (refusal_where (not (known.was_opened conn)) error.NoConnection)
    (refusal_where (not (known.is_open conn)) error.Closed)

-- the load is under way
abbrev pub refusal_of_load : Known → ℕ → Option ServiceError
refusal_of_load known load = refusal_where (not (known.is_under_way load)) error.NoLoad

-- the first refusal that applies to an event, apart from a lack of memory
abbrev pub refusal_of : Config → Known → Event → Option ServiceError
refusal_of config known (event.Open conn) = None
refusal_of config known (event.Close conn) = refusal_of_conn known conn
refusal_of config known (event.Feed conn piece moment) =
    option_or (refusal_of_conn known conn) (refusal_of_moment moment)
refusal_of config known (event.Answer load outcome moment) =
    option_or (refusal_of_load known load)
    (option_or (refusal_of_moment moment) (refusal_of_outcome config outcome))
refusal_of config known (event.GiveUp load moment) =
    option_or (refusal_of_load known load) (refusal_of_moment moment)

-- what the history says of connections and loads
abbrev pub known_from : History → Known
known_from past =
    record {
      was_opened = λ conn. was_opened conn past;
      is_open = λ conn. is_open conn past;
      is_under_way = λ load. is_some (key_of_load load past);
    }

-- the record's event is not one that is refused
abbrev pub is_admitted : Config → PlacedRecord → Bool
is_admitted config placed =
    is_none (refusal_of config (known_from placed.before) placed.entry.event)

-- no event of the transcript is refused
abbrev pub IsAdmitted : Config → Transcript → Type 0
IsAdmitted config transcript =
    IsTrue (list_all (is_admitted config) (placed_records config transcript))

-- the transcript obeys, and no event of it is refused
abbrev pub is_good : Config → Transcript → Bool
is_good config transcript =
    is_obeying config transcript && list_all (is_admitted config) (placed_records config transcript)

-- the number, from 1, of the first record that ends a front (prefix) of the transcript that is not good; at most the first n fronts are
-- tested
abbrev pub first_break_within : Config → Transcript → ℕ → Option ℕ
first_break_within config transcript zero = None
first_break_within config transcript (suc n) =
    option_or (first_break_within config transcript n)
    (if is_good config (record transcript {
      records = take (suc n) transcript.records;
    }) then None else Some (suc n))

-- the number of the first record that ends a front of the transcript that is not good
abbrev pub first_break : Config → Transcript → Option ℕ
first_break config transcript = first_break_within config transcript (length transcript.records)

-- the event of an input in its namespace, if this many connections were opened before
abbrev pub event_in : ℕ → ℕ → Input → Option Event
event_in namespace opened (input.Open n) =
    if n == namespace then Some (event.Open (suc opened)) else None
event_in namespace opened (input.Close conn) =
    if conn.namespace == namespace then Some (event.Close conn.number) else None
event_in namespace opened (input.Feed conn piece moment) =
    if conn.namespace == namespace then Some (event.Feed conn.number piece moment) else None
event_in namespace opened (input.Answer load outcome moment) =
    if load.namespace == namespace then Some (event.Answer load.number outcome moment) else None
event_in namespace opened (input.GiveUp load moment) =
    if load.namespace == namespace then Some (event.GiveUp load.number moment) else None

-- the next record is of this event, or the event was left out for lack of memory
abbrev pub TakenOrNot : Config → ℕ → History → Event → List Record
    → (History → List Record → Type 0) → Type 0
TakenOrNot config made past happened [] Rest = Rest past []
TakenOrNot config made past happened (entry ∷ entries) Rest =
    ((entry.event ≡ happened) × Rest (placed_record config made past entry).walked.after entries)
    ⊎ Rest past (entry ∷ entries)

-- after this history, these records belong to the inputs that are left
abbrev pub BelongsFrom : Config → ℕ → ℕ → History → List Input → List Record → Type 0
BelongsFrom config namespace made past [] entries = entries ≡ []
BelongsFrom config namespace made past (i ∷ inputs) entries =
    MatchOption (event_in namespace (opened_count past) i)
    (BelongsFrom config namespace made past inputs entries)
    (λ happened. MatchOption (refusal_of config (known_from past) happened)
    (TakenOrNot config made past happened entries
    (λ after rest. BelongsFrom config namespace made after inputs rest))
    (λ refused. BelongsFrom config namespace made past inputs entries))

-- the records' events are the namespace's inputs in order, except those that are refused and some that were left out for lack of memory
abbrev pub Belongs : Config → ℕ → Transcript → List Input → Type 0
Belongs config namespace transcript inputs =
    BelongsFrom config namespace transcript.made.nanos [] inputs transcript.records
