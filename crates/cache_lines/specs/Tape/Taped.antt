-- What a tape keeps.
use Rattle.std.specs.Prelude.{◌≡◌, ℕ, ◌-◌, ◌<◌, ◌++◌, ◌∷◌, Bool, true, false, List, [], Option, Some, None, is_some, unwrap_or, MatchOption, if◌then◌else◌}
use Rattle.audit_model.specs.declared.transcript.Accepted.{Accepted}
use Rattle.audit_model.specs.declared.transcript.Note.{Note}
use Rattle.audit_model.specs.declared.transcript.Record.{Record}
use Rattle.audit_model.specs.declared.transcript.Step.{Step}
use Rattle.audit_model.specs.declared.transcript.Transcript.{Transcript}
use Rattle.audit_model.specs.declared.event.Event.{Event}

-- The journal, and of the record under way: whether there is one, its steps, how many lines can be added to it without allocating, and the
-- line of the step for which there is room.
pub record Taped : Type 0 where
  pub journal : Transcript
  pub begun : Bool
  pub steps : List Step
  pub spare : ℕ
  pub drafted : Option (List ℕ)

-- the journal with this record after its others
abbrev pub with_entry : Record → Transcript → Transcript
with_entry entry journal = record { made = journal.made; records = journal.records ++ entry ∷ [] }

-- no record is under way
pub record Rests (t : Taped) : Type 0 where
  pub closed : t.begun ≡ false
  pub steps : t.steps ≡ []
  pub spare : t.spare ≡ 0
  pub undrafted : t.drafted ≡ None

-- a record is under way, with room for this many lines
abbrev pub started : ℕ → Taped → Taped
started spare t =
    record { journal = t.journal; begun = true; steps = []; spare = spare; drafted = None }

-- there is room for a step of the line
abbrev pub drafts : List ℕ → Taped → Taped
drafts line t = record t { drafted = Some line }

-- the step of the drafted line is added
abbrev pub ends : (List ℕ → Step) → Taped → Taped
ends step t =
    record t { steps = t.steps ++ step (unwrap_or t.drafted []) ∷ []; drafted = None }

-- a step is added in the room for one line
abbrev pub spends : Step → Taped → Taped
spends step t =
    record t { steps = t.steps ++ step ∷ []; spare = t.spare - 1; drafted = None }

-- no record is under way any more
abbrev pub between_records : Taped → Taped
between_records t = record { journal = t.journal; begun = false; steps = []; spare = 0; drafted = None }

-- the record is added after the others
abbrev pub finishes : Event → Option Accepted → List Note → Taped → Taped
finishes event own notices t =
    record (between_records t) {
      journal = with_entry (record { event = event; own = own; notices = notices; steps = t.steps }) t.journal;
    }

-- a step that holds the line back
abbrev pub step_held : ℕ → List ℕ → Step
step_held conn line =
    record {
      conn = conn;
      line = line;
      held = true;
      reply = None;
      load = None;
      accepted = None;
      notices = [];
    }

-- what is left of a text that was written as a reply: it goes into the record, if one is kept
abbrev pub text_left : Option Taped → List ℕ → List ℕ
text_left tape text = if is_some tape then [] else text

-- ---- of a tape that may keep nothing

abbrev pub IsAtRest : Option Taped → Type 0
IsAtRest tape = MatchOption tape (Unit {0}) Rests

abbrev pub IsBegun : Option Taped → Type 0
IsBegun tape = MatchOption tape (Unit {0}) (λ t. t.begun ≡ true)

abbrev pub IsDrafted : Option Taped → Type 0
IsDrafted tape = MatchOption tape (Unit {0}) (λ t. is_some t.drafted ≡ true)

abbrev pub HasSpare : Option Taped → Type 0
HasSpare tape = MatchOption tape (Unit {0}) (λ t. 0 < t.spare)
