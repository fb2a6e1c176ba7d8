-- The text form of a transcript, line by line.
use Rattle.std.specs.Prelude.{ℕ, List, [], ◌∷◌, ◌++◌, Option, Some, None, codes, decimal}
use Rattle.std.specs.List.{flat_map}
use Rattle.audit_model.specs.declared.config.Config.{Config}
use Rattle.audit_model.specs.declared.event.Event.{Event}
use Rattle.audit_model.specs.declared.event.Event.TheVariants as event
use Rattle.audit_model.specs.declared.event.Outcome.{Outcome}
use Rattle.audit_model.specs.declared.event.Outcome.TheVariants as outcome
use Rattle.audit_model.specs.declared.transcript.Accepted.{Accepted}
use Rattle.audit_model.specs.declared.transcript.Note.{Note}
use Rattle.audit_model.specs.declared.transcript.Record.{Record}
use Rattle.audit_model.specs.declared.transcript.Step.{Step}
use Rattle.audit_model.specs.declared.transcript.Transcript.{Transcript}
use Rattle.audit_text.specs.Words.{bytes_word, option_word, flag_word, held_word, policy_word, weight_word, line}
use Rattle.audit_model.specs.Notes.{cause_word}

-- how long values live, the last three settings
abbrev pub deadline_words : Config → List (List ℕ)
deadline_words config =
    (codes "live_ms=" ++ option_word decimal config.live_ms)
    ∷ (codes "idle_ms=" ++ option_word decimal config.idle_ms)
    ∷ (codes "deadlines=" ++ flag_word config.own_deadlines)
    ∷ []

-- the seven settings of a namespace
abbrev pub config_words : Config → List (List ℕ)
config_words config =
    codes "config"
    ∷ (codes "capacity=" ++ option_word decimal config.capacity)
    ∷ (codes "policy=" ++ policy_word config.policy)
    ∷ (codes "parts=" ++ decimal config.parts)
    ∷ (codes "weight=" ++ weight_word config.weight)
    ∷ deadline_words config

-- the moment of creation
abbrev pub made_words : ℕ → List (List ℕ)
made_words moment = codes "made" ∷ decimal moment ∷ []

-- what a loader returned
abbrev pub outcome_words : Outcome → List (List ℕ)
outcome_words (outcome.Value bytes ms) =
    codes "value" ∷ bytes_word bytes ∷ option_word decimal ms ∷ []
outcome_words outcome.None = codes "none" ∷ []
outcome_words (outcome.Fault text) = codes "fault" ∷ bytes_word text ∷ []

-- an event begins a record
abbrev pub event_words : Event → List (List ℕ)
event_words (event.Open conn) = codes "open" ∷ decimal conn ∷ []
event_words (event.Close conn) = codes "close" ∷ decimal conn ∷ []
event_words (event.Feed conn piece moment) =
    codes "feed" ∷ decimal conn ∷ decimal moment.nanos ∷ bytes_word piece ∷ []
event_words (event.Answer load outcome moment) =
    codes "answer" ∷ decimal load ∷ decimal moment.nanos ∷ outcome_words outcome
event_words (event.GiveUp load moment) = codes "giveup" ∷ decimal load ∷ decimal moment.nanos ∷ []

-- a part that took a value
abbrev pub part_word : Accepted → List ℕ
part_word accepted = decimal accepted.part

-- the part of the value that an answer's own step accepted; no line if there is none
abbrev pub own_text : Option Accepted → List ℕ
own_text None = []
own_text (Some accepted) = line (codes "own" ∷ part_word accepted ∷ [])

-- a note of a step, or, under another word, of an answer's own step
abbrev pub note_line : List ℕ → Note → List ℕ
note_line word note =
    line (word ∷ cause_word note.cause ∷ bytes_word note.key ∷ bytes_word note.value ∷ [])

-- a step, without its notes
abbrev pub step_words : Step → List (List ℕ)
step_words step =
    codes "step"
    ∷ decimal step.conn
    ∷ held_word step.held
    ∷ bytes_word step.line
    ∷ option_word bytes_word step.reply
    ∷ option_word decimal step.load
    ∷ option_word part_word step.accepted
    ∷ []

-- a step followed by its notes
abbrev pub step_text : Step → List ℕ
step_text step = line (step_words step) ++ flat_map (note_line (codes "note")) step.notices

-- a record: its event, what the event's own step did, and its steps
abbrev pub record_text : Record → List ℕ
record_text r =
    line (event_words r.event) ++ own_text r.own ++ flat_map (note_line (codes "ownnote")) r.notices
    ++ flat_map step_text r.steps

-- a transcript with its configuration
abbrev pub transcript_text : Config → Transcript → List ℕ
transcript_text config transcript =
    line (config_words config) ++ line (made_words transcript.made.nanos)
    ++ flat_map record_text transcript.records
