-- What room a tape has.
use Rattle.std.specs.Prelude.{◌≡◌, ℕ, ◌+◌, ◌<◌, ◌≤◌, Bool, true, Option, None, Some, MatchOption, Vec, vec_len, vec_capacity}
use Rattle.audit_model.specs.declared.transcript.Record.{Record}
use Rattle.audit_model.specs.declared.transcript.Transcript.{Transcript}
use Rattle.std.specs.declared.alloc.Global.{Global}

-- the journal: its records are kept apart while one is under way
abbrev pub journal_in : Transcript → Option (Vec Record Global) → Transcript
journal_in journal None = journal
journal_in journal (Some records) = record { made = journal.made; records = records.items }

-- There is room for the record under way, for a step of each line that can be added to it without allocating, and also for the drafted one.
pub record HasRecordRoom (apart : Option (Vec Record Global)) (drafted : Bool)
    (steps spares steps_room : ℕ) : Type 0 where
  pub record_fits : MatchOption apart (Unit {0}) (λ records. vec_len records < vec_capacity records)
  pub steps_fit : steps + spares ≤ steps_room
  pub draft_fits : drafted ≡ true → steps + spares < steps_room
