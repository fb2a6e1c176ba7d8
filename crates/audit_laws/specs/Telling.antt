-- What records report.
use Rattle.std.specs.Prelude.{Bool, not, List, ◌++◌}
use Rattle.std.specs.List.{list_all, flat_map}
use Rattle.audit_model.specs.Notes.{same_cause}
use Rattle.audit_model.specs.declared.transcript.Note.{Note}
use Rattle.audit_model.specs.declared.transcript.Record.{Record}
use Rattle.audit_model.specs.declared.transcript.RemovalCause.TheVariants.{Size}

-- a record's own notes, and those of its steps
abbrev pub notes_of : Record → List Note
notes_of entry = entry.notices ++ flat_map (λ step. step.notices) entry.steps

abbrev pub none_with_size : List Note → Bool
none_with_size notes = list_all (λ note. not (same_cause note.cause Size)) notes
