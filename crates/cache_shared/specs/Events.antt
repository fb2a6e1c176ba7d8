-- What inputs do to a service, and where it stands.
use Rattle.std.specs.Prelude.{◌≡◌, ℕ, ◌+◌, ◌^◌, ◌-◌, ◌≤◌, ◌==◌, Bool, true, false, List, length, map, Some, is_some, ◌⊎◌}
use Rattle.std.specs.List.{slice_get}
use Rattle.audit_model.specs.Belongs.{refusal_of_outcome}
use Rattle.audit_model.specs.declared.config.Config.{Config}
use Rattle.audit_model.specs.declared.event.Outcome.{Outcome}
use Rattle.audit_model.specs.declared.input.Input.{Input}
use Rattle.audit_model.specs.declared.input.Input.TheVariants as input
use Rattle.audit_model.specs.declared.input.ServiceError.{ServiceError}
use Rattle.audit_model.specs.declared.input.ServiceError.TheVariants as error
use Rattle.audit_model.specs.declared.transcript.Transcript.{Transcript}
use Rattle.audit_laws.specs.declared.receipts.output.Output.{Output}
use Rattle.audit_laws.specs.declared.receipts.output.Output.TheVariants.{Opened, All, Held, Done}
use Rattle.cache_spaces.specs.Calls.{At, Refuses}
use Rattle.cache_spaces.specs.Calls as inputs
use Rattle.cache_spaces.specs.Calls.{RefusedInput, namespace_of}
use Rattle.cache_spaces.specs.Journals.{IsReached, IsWhereItWas, record_count}
use Rattle.cache_spaces.specs.Spaces.{Shown, config_of, shown_tape}

-- the input's event happened in its namespace
abbrev pub PerformsInput : Input → Output → List Shown → List Shown → Type 0
PerformsInput i output old new = At old new (namespace_of i) (inputs.Performs shown_tape i output)

-- the journals have one record more
abbrev pub CountsRecord : List Transcript → List Transcript → Type 0
CountsRecord old new = record_count new ≡ record_count old + 1

-- nothing was taken: the service is as it was, and no input was counted
abbrev pub TakesNothing : {C : Type 0} → (old new : C) → (events later : ℕ) → Type 0
TakesNothing old new events later = (new ≡ old) × (later ≡ events)

-- the configurations of the namespaces, in their order
abbrev pub configs_of : List Shown → List Config
configs_of spaces = map config_of spaces

-- Some journals with this many records lead to these namespaces, whose configurations are these.
pub record IsReachedFrom (configs : List Config) (spaces : List Shown) (events : ℕ) : Type 0 where
  pub led : ∥ IsReached spaces events ∥₁
  pub configured : configs_of spaces ≡ configs

-- no input was taken: the journals are as they were, where journals led before, others with as many records lead now, and the configurations
-- are the same
abbrev pub KeepsStanding : {C : Type 0} → (C → List Shown) → (C → List Transcript) → (old new : C)
    → Type 0
KeepsStanding spaces journals old new =
    (journals new ≡ journals old) × IsWhereItWas (spaces old) (spaces new)
    × (configs_of (spaces new) ≡ configs_of (spaces old))

-- Some journals with this many records lead to where the service stands, which has these configurations; if it keeps journals, its own have
-- as many.
pub record StandsAfter {C : Type 0} (keeps : Bool) (configs : List Config) (spaces : C → List Shown)
    (journals : C → List Transcript) (events : ℕ) (core : C) : Type 0 where
  pub reached : IsReachedFrom configs (spaces core) events
  pub counted : keeps ≡ true → record_count (journals core) ≡ events

-- the number of the last record of the namespace's journal, if it has one
abbrev pub IsLastNumber : List Transcript → ℕ → ℕ → Type 0
IsLastNumber journals namespace number =
    (journal : Transcript) → slice_get journals namespace ≡ Some journal
    → number ≡ length journal.records

-- the count is used up, or there is no memory for a receipt, or the service refuses the input
abbrev pub RefusesStep : Input → ServiceError → ℕ → List Shown → Type 0
RefusesStep i e count spaces =
    ((e ≡ error.UsedUp) × (count ≡ 2 ^ 64 - 1))
    ⊎ ((e ≡ error.OutOfMemory) ⊎ Refuses spaces (namespace_of i) e (RefusedInput i e))

-- its moment is 2 ^ 63 nanoseconds or more
abbrev pub HasLateMoment : Input → Type 0
HasLateMoment (input.Open namespace) = ⊥
HasLateMoment (input.Close conn) = ⊥
HasLateMoment (input.Feed conn piece moment) = 2 ^ 63 ≤ moment.nanos
HasLateMoment (input.Answer load outcome moment) = 2 ^ 63 ≤ moment.nanos
HasLateMoment (input.GiveUp load moment) = 2 ^ 63 ≤ moment.nanos

-- an outcome is refused with this error, for its bytes or its time
abbrev pub is_of_outcome : ServiceError → Bool
is_of_outcome error.LineEnd = true
is_of_outcome error.TooLong = true
is_of_outcome error.Deadline = true
is_of_outcome e = false

-- some configuration refuses the outcome: it has a line end or too many bytes, or has a time to live
abbrev pub IsUnfit : Outcome → Type 0
IsUnfit outcome = (config : Config) × (is_some (refusal_of_outcome config outcome) ≡ true)

-- it is an answer with such an outcome
abbrev pub IsUnfitAnswer : Input → Type 0
IsUnfitAnswer (input.Open namespace) = ⊥
IsUnfitAnswer (input.Close conn) = ⊥
IsUnfitAnswer (input.Feed conn piece moment) = ⊥
IsUnfitAnswer (input.Answer load outcome moment) = IsUnfit outcome
IsUnfitAnswer (input.GiveUp load moment) = ⊥

-- the output of an opening is a connection of its namespace
abbrev pub is_opened : ℕ → Output → Bool
is_opened namespace (Opened conn) = conn.namespace == namespace
is_opened namespace came = false

-- a piece is taken, and a command of it may be held back
abbrev pub is_fed : Output → Bool
is_fed All = true
is_fed Held = true
is_fed came = false

-- the output of a closing, an answer or a give-up says nothing more
abbrev pub is_done : Output → Bool
is_done Done = true
is_done came = false

-- which outputs an input may have
abbrev pub is_output_for : Input → Output → Bool
is_output_for (input.Open namespace) output = is_opened namespace output
is_output_for (input.Close conn) output = is_done output
is_output_for (input.Feed conn piece moment) output = is_fed output
is_output_for (input.Answer load outcome moment) output = is_done output
is_output_for (input.GiveUp load moment) output = is_done output
