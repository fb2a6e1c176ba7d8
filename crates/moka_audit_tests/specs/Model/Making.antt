-- Short words for records, and what is judged of a transcript.
use Rattle.std.specs.Prelude.{◌≡◌, ℕ, suc, Bool, true, false, List, [], Option, Some, None, codes, length}
use Prim.Native.String.{String}
use Rattle.audit_model.specs.Bytewise.{text_line}
use Rattle.audit_model.specs.Belongs.{first_break}
use Rattle.audit_model.specs.Situation.{empty_situation}
use Rattle.audit_model.specs.Follows.{followed}
use Rattle.audit_model.specs.declared.config.Config.{Config}
use Rattle.audit_model.specs.declared.config.EvictionPolicy.TheVariants.{Lru}
use Rattle.audit_model.specs.declared.config.Weight.TheVariants as weigh
use Rattle.audit_model.specs.declared.event.Event.TheVariants as event
use Rattle.audit_model.specs.declared.event.Instant.{Instant}
use Rattle.audit_model.specs.declared.event.Outcome.{Outcome}
use Rattle.audit_model.specs.declared.event.Outcome.TheVariants as outcome
use Rattle.audit_model.specs.declared.transcript.Accepted.{Accepted}
use Rattle.audit_model.specs.declared.transcript.Note.{Note}
use Rattle.audit_model.specs.declared.transcript.Step.{Step}
use Rattle.audit_model.specs.declared.transcript.Record.{Record}
use Rattle.audit_model.specs.declared.transcript.Transcript.{Transcript}
use Rattle.audit_model.specs.declared.transcript.RemovalCause.{RemovalCause}
use Rattle.moka_audit_tests.specs.Model.SameSituation.{leads_to_summary}

-- ---- records

-- a line of text, with its line feed
abbrev pub text : String → List ℕ
text s = text_line (codes s)

abbrev pub at : ℕ → Instant
at n = record { nanos = n }

abbrev pub opened : ℕ → Record
opened conn = record { event = event.Open conn; own = None; notices = []; steps = [] }

abbrev pub closed : ℕ → Record
closed conn = record { event = event.Close conn; own = None; notices = []; steps = [] }

-- a feed of a connection at a moment
abbrev pub made_feed : ℕ → ℕ → List ℕ → List Step → Record
made_feed conn moment piece steps = record { event = event.Feed conn piece (at moment); own = None; notices = []; steps = steps }

-- a load's answer, whose value no part takes, with notes
abbrev pub answered : ℕ → ℕ → Outcome → List Note → List Step → Record
answered load moment outcome notes steps = record { event = event.Answer load outcome (at moment); own = None; notices = notes; steps = steps }

-- a load's answer, whose value the first part takes
abbrev pub answer_stored : ℕ → ℕ → Outcome → List Note → List Step → Record
answer_stored load moment outcome notes steps = record { event = event.Answer load outcome (at moment); own = Some (record { part = 0 }); notices = notes; steps = steps }

abbrev pub given_up : ℕ → ℕ → List Step → Record
given_up load moment steps = record { event = event.GiveUp load (at moment); own = None; notices = []; steps = steps }

-- a value without a deadline
abbrev pub came : String → Outcome
came value = outcome.Value (codes value) None

abbrev pub failed : String → Outcome
failed why = outcome.Fault (codes why)

abbrev pub made_step : ℕ → List ℕ → List ℕ → Option Accepted → List Note → Step
made_step conn line reply accepted notes = record { conn = conn; line = line; held = false; reply = Some reply; load = None; accepted = accepted; notices = notes }

-- a step that accepts nothing, with its reply and its notes
abbrev pub tells : ℕ → String → List ℕ → List Note → Step
tells conn line reply notes = made_step conn (codes line) reply None notes

-- a step that accepts nothing and tells nothing
abbrev pub says : ℕ → String → List ℕ → Step
says conn line reply = tells conn line reply []

-- a step that accepts a value into the first part
abbrev pub takes : ℕ → String → List ℕ → List Note → Step
takes conn line reply notes = made_step conn (codes line) reply (Some (record { part = 0 })) notes

-- a step that accepts a value into the second part
abbrev pub takes_second : ℕ → String → List ℕ → List Note → Step
takes_second conn line reply notes = made_step conn (codes line) reply (Some (record { part = 1 })) notes

-- a `LOAD` that begins to wait: it sends the load of that number, or joins one
abbrev pub made_waiting_step : ℕ → String → Option ℕ → Step
made_waiting_step conn line load = record { conn = conn; line = codes line; held = false; reply = None; load = load; accepted = None; notices = [] }

abbrev pub sends : ℕ → String → ℕ → Step
sends conn line load = made_waiting_step conn line (Some load)

abbrev pub joins : ℕ → String → Step
joins conn line = made_waiting_step conn line None

-- a command held back
abbrev pub made_held_step : ℕ → String → Step
made_held_step conn line = record { conn = conn; line = codes line; held = true; reply = None; load = None; accepted = None; notices = [] }

abbrev pub note : RemovalCause → String → String → Note
note cause key value = record { cause = cause; key = codes key; value = codes value }

abbrev pub history : List Record → Transcript
history records = record { made = at 0; records = records }

-- ---- configurations

-- one part, weight one, no capacity and no times
abbrev pub plain_config : Config
plain_config = record { capacity = None; policy = Lru; parts = 1; weight = weigh.One; live_ms = None; idle_ms = None; own_deadlines = false }

abbrev pub of_capacity : ℕ → Config
of_capacity n = record plain_config { capacity = Some n }

-- the capacity is in bytes of values
abbrev pub of_bytes : ℕ → Config
of_bytes n = record plain_config { capacity = Some n; weight = weigh.Bytes }

-- two parts that share a capacity
abbrev pub of_two_parts : Option ℕ → Config
of_two_parts capacity = record plain_config { capacity = capacity; parts = 2 }

abbrev pub of_idle_ms : ℕ → Config
of_idle_ms n = record plain_config { idle_ms = Some n }

abbrev pub of_live_ms : ℕ → Config
of_live_ms n = record plain_config { live_ms = Some n }

abbrev pub with_deadlines : Config → Config
with_deadlines config = record config { own_deadlines = true }

-- ---- what is judged

-- the number of the first record of which the front is not good, how many records follow one another, and whether all of them lead to the
-- situation that their history leaves
abbrev pub judgement : Config → Transcript → Option ℕ × ℕ × Bool
judgement config transcript =
    (first_break config transcript, followed config (empty_situation 0) transcript.records, leads_to_summary config 0 transcript.records)

-- the transcript obeys, no event of it is refused, and its records follow one another to the situation that their history leaves
abbrev pub IsGood : Config → Transcript → Type 0
IsGood config transcript = judgement config transcript ≡ (None, length transcript.records, true)

-- of the transcript the first n records are good, and the next one breaks a rule
abbrev pub BreaksAfter : ℕ → Config → Transcript → Type 0
BreaksAfter n config transcript = judgement config transcript ≡ (Some (suc n), n, false)
