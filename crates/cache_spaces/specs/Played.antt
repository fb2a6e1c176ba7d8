-- What `play` returns, and the keys held after commands that are each followed by a `SYNC`.
use Rattle.std.specs.Prelude.{◌≡◌, ℕ, suc, Bool, true, false, List, [], ◌∷◌, ◌++◌, Some, Ok, IsTrue, length}
use Rattle.std.specs.List.{flat_map, slice_get}
use Rattle.audit_model.specs.Belongs.{Belongs, IsAdmitted}
use Rattle.audit_model.specs.BelongsIn.{BelongsIn}
use Rattle.audit_model.specs.Follows.{after_records}
use Rattle.audit_model.specs.Grammar.{reading}
use Rattle.audit_model.specs.Obeys.{Obeys}
use Rattle.audit_model.specs.Places.{steps_of}
use Rattle.audit_model.specs.Recency.{recency}
use Rattle.audit_model.specs.Situation.{Situation, empty_situation}
use Rattle.audit_model.specs.declared.command.Command.{Command}
use Rattle.audit_model.specs.declared.config.Config.{Config}
use Rattle.audit_model.specs.declared.event.Instant.{Instant}
use Rattle.audit_model.specs.declared.input.Input.{Input}
use Rattle.audit_model.specs.declared.transcript.Record.{Record}
use Rattle.audit_model.specs.declared.transcript.Step.{Step}
use Rattle.audit_model.specs.declared.transcript.Transcript.{Transcript}
use Rattle.audit_laws.specs.Leading.{LeadsBy, LeadsTo}
use Rattle.cache_commands.specs.Recency.{AreKeysOf, IsPlainLru}
use Rattle.cache_commands.specs.Order.{AgreesWith, Settled}
use Rattle.cache_lines.specs.Tape.Taped.{Taped}
use Rattle.cache_spaces.specs.Services.{is_served}
use Rattle.cache_spaces.specs.Spaces.{HasItsParts, Space, StandsFor, config_of, made_of, part_in, recency_of}
use Rattle.cache_spaces.specs.Throughout.{HasExactKeys, HaveKeysFrom, are_bounded_from, are_timely_from, is_bounded_throughout, is_timely_throughout, order_at_end}
use Rattle.audit_model.specs.declared.command.Command.TheVariants as says

-- the step is this command, and is not held back
pub record IsCommand (config : Config) (step : Step) (command : Command) : Type 0 where
  pub runs : step.held ≡ false
  pub says : reading config step.line ≡ Ok command

-- a command of a recency list
abbrev pub is_of_list : Command → Bool
is_of_list (says.Set key ms value) = true
is_of_list (says.Get key) = true
is_of_list (says.Has key) = true
is_of_list (says.Del key) = true
is_of_list says.Keys = true
is_of_list command = false

-- the steps are these commands of a recency list, each followed at once by a `SYNC`
abbrev pub AreSynced : Config → List Command → List Step → Type 0
AreSynced config [] [] = Unit {0}
AreSynced config [] (step ∷ steps) = ⊥
AreSynced config (command ∷ commands) [] = ⊥
AreSynced config (command ∷ commands) (step ∷ []) = ⊥
AreSynced config (command ∷ commands) (step ∷ next ∷ steps) =
    IsCommand config step command × IsTrue (is_of_list command) × IsCommand config next says.Sync
    × AreSynced config commands steps

-- Each front of the transcript's records whose steps are commands of a recency list, each followed at once by a `SYNC`, leads to a
-- situation in which exactly the keys of that list, cut at `suc number`, are held.
abbrev pub KeepsList : Config → ℕ → Transcript → Type 0
KeepsList config number transcript =
    (front rest : List Record) (commands : List Command) (s : Situation)
    → transcript.records ≡ front ++ rest
    → after_records config (empty_situation transcript.made.nanos) front ≡ Some s
    → AreSynced config commands (flat_map steps_of front)
    → AreKeysOf s.held (recency (suc number) commands)

-- What `play` returns.

-- the journal of a namespace, which its tape keeps
abbrev pub journal_of : Space Taped → Transcript
journal_of space = space.tape.journal

-- The transcript of a namespace: it begins at this moment, belongs to the inputs, leads to a situation and obeys, and none of its events is
-- refused. Each of its `SYNC`s leaves timely values, and after each event each part is within its bound. Under a plain LRU policy each
-- `SYNC` right after a command leaves exactly the keys of the recency list.
pub record Plays (config : Config) (namespace : ℕ) (moment : Instant) (inputs : List Input)
    (transcript : Transcript) : Type 0 where
  pub made : transcript.made ≡ moment
  pub belongs : Belongs config namespace transcript inputs
  pub last : Situation
  pub leads : LeadsTo config transcript last
  -- each value is in the part of its key, by one hasher, and there is such a part
  pub part_of : List ℕ → ℕ
  pub within : HasItsParts config part_of
  pub parted : LeadsBy config part_of transcript last
  pub obeys : Obeys config transcript
  pub admitted : IsAdmitted config transcript
  pub timely : IsTrue (is_timely_throughout config transcript)
  pub bounded : IsTrue (is_bounded_throughout config transcript)
  pub exact : (places : ℕ) → IsPlainLru config places → HasExactKeys config places transcript
  pub recent : (places : ℕ) → IsPlainLru config places → KeepsList config places transcript

-- one transcript for each configuration, in their order
pub record ArePlayed (configs : List Config) (moment : Instant) (inputs : List Input)
    (transcripts : List Transcript) : Type 0 where
  pub count : length transcripts ≡ length configs
  pub each : (namespace : ℕ) (config : Config) (transcript : Transcript)
      → slice_get configs namespace ≡ Some config → slice_get transcripts namespace
      ≡ Some transcript → Plays config namespace moment inputs transcript

-- a namespace that took the inputs
pub record HasPlayed (config : Config) (namespace : ℕ) (moment : Instant) (inputs : List Input)
    (space : Space Taped) : Type 0 where
  pub made : (journal_of space).made ≡ moment
  pub configured : config_of space ≡ config
  pub served : IsTrue (is_served config)
  pub last : Situation
  pub stands : StandsFor space last
  pub within : HasItsParts config (part_in space)
  pub parted : LeadsBy config (part_in space) (journal_of space) last
  pub belongs : BelongsIn config namespace (empty_situation moment.nanos) inputs
      (journal_of space).records last
  pub made_is : made_of space ≡ moment.nanos
  pub timely : IsTrue (are_timely_from config moment.nanos (journal_of space).records)
  pub bounded : IsTrue (are_bounded_from config moment.nanos (journal_of space).records)
  pub agrees : (places : ℕ) → IsPlainLru config places → AgreesWith (recency_of space) places
      (order_at_end config (suc places) (Settled []) (journal_of space).records)
  pub exact : (places : ℕ) → IsPlainLru config places → HaveKeysFrom config (suc places)
      (Settled []) (empty_situation moment.nanos) (journal_of space).records

-- each namespace took the inputs
pub record HavePlayed (configs : List Config) (moment : Instant) (inputs : List Input)
    (spaces : List (Space Taped)) : Type 0 where
  pub count : length spaces ≡ length configs
  pub each : (namespace : ℕ) (config : Config) (space : Space Taped)
      → slice_get configs namespace ≡ Some config → slice_get spaces namespace ≡ Some space
      → HasPlayed config namespace moment inputs space

-- the journals are the result of some inputs, played from new namespaces
pub record WerePlayed (spaces : List (Space Taped)) : Type 0 where
  pub configs : List Config
  pub moment : Instant
  pub inputs : List Input
  pub played : HavePlayed configs moment inputs spaces
