-- What can be written with the program's integers.
use Rattle.std.specs.Prelude.{◌≡◌, ℕ, ◌<◌, ◌^◌, List, [], ◌∷◌, Option, Some, None}
use Rattle.std.specs.List.{AllByRecursion}
use Rattle.audit_model.specs.declared.config.Config.{Config}
use Rattle.audit_model.specs.declared.event.Event.{Event}
use Rattle.audit_model.specs.declared.event.Event.TheVariants as event
use Rattle.audit_model.specs.declared.event.Outcome.{Outcome}
use Rattle.audit_model.specs.declared.event.Outcome.TheVariants as outcome
use Rattle.audit_model.specs.declared.transcript.Accepted.{Accepted}
use Rattle.audit_model.specs.declared.transcript.Note.{Note}
use Rattle.audit_model.specs.declared.transcript.Record.{Record}
use Rattle.audit_model.specs.declared.transcript.Step.{Step}
use Rattle.audit_model.specs.declared.transcript.Transcript.{Transcript}
use Rattle.audit_text.specs.Text.{transcript_text}

-- P holds for what is there, if anything is
abbrev pub IfAny : {A : Type 0} → (A → Type 0) → Option A → Type 0
IfAny P None = Unit {0}
IfAny P (Some x) = P x

-- a 64-bit number
abbrev pub FitsNumber : ℕ → Type 0
FitsNumber n = n < 2 ^ 64

-- bytes, of 8 bits each
abbrev pub FitsBytes : List ℕ → Type 0
FitsBytes bytes = AllByRecursion (λ b. b < 256) bytes

abbrev pub FitsPart : Accepted → Type 0
FitsPart accepted = FitsNumber accepted.part

pub record FitsConfig (config : Config) : Type 0 where
  pub capacity : IfAny FitsNumber config.capacity
  pub parts : config.parts < 2 ^ 32
  pub live_ms : IfAny FitsNumber config.live_ms
  pub idle_ms : IfAny FitsNumber config.idle_ms

abbrev pub FitsOutcome : Outcome → Type 0
FitsOutcome (outcome.Value bytes ms) = FitsBytes bytes × IfAny FitsNumber ms
FitsOutcome outcome.None = Unit {0}
FitsOutcome (outcome.Fault text) = FitsBytes text

abbrev pub FitsEvent : Event → Type 0
FitsEvent (event.Open conn) = FitsNumber conn
FitsEvent (event.Close conn) = FitsNumber conn
FitsEvent (event.Feed conn piece moment) =
    FitsNumber conn × FitsBytes piece × FitsNumber moment.nanos
FitsEvent (event.Answer load outcome moment) =
    FitsNumber load × FitsOutcome outcome × FitsNumber moment.nanos
FitsEvent (event.GiveUp load moment) = FitsNumber load × FitsNumber moment.nanos

pub record FitsNote (note : Note) : Type 0 where
  pub key : FitsBytes note.key
  pub value : FitsBytes note.value

pub record FitsStep (step : Step) : Type 0 where
  pub conn : FitsNumber step.conn
  pub line : FitsBytes step.line
  pub reply : IfAny FitsBytes step.reply
  pub load : IfAny FitsNumber step.load
  pub accepted : IfAny FitsPart step.accepted
  pub notices : AllByRecursion FitsNote step.notices

pub record FitsRecord (r : Record) : Type 0 where
  pub event : FitsEvent r.event
  pub own : IfAny FitsPart r.own
  pub notices : AllByRecursion FitsNote r.notices
  pub steps : AllByRecursion FitsStep r.steps

pub record FitsTranscript (transcript : Transcript) : Type 0 where
  pub made : FitsNumber transcript.made.nanos
  pub records : AllByRecursion FitsRecord transcript.records

-- two transcripts with one text are one, and so are their configurations
abbrev pub OneText : Type 0
OneText =
    (config : Config) → (transcript : Transcript) → FitsConfig config → FitsTranscript transcript
    → (other_config : Config) → (other : Transcript) → FitsConfig other_config
    → FitsTranscript other → transcript_text config transcript ≡ transcript_text other_config other
    → (config ≡ other_config) × (transcript ≡ other)
