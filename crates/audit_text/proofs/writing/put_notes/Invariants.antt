use Rattle.std.proofs.Common.{◌≡◌, ◌≤◌, [], ◌∷◌, ◌++◌, length, take}
use Rattle.std.specs.Prelude.{codes}
use Rattle.std.specs.List.{flat_map}
use Rattle.audit_text.specs.Text.{note_line}
use Rattle.audit_text.proofs.writing.put_notes.Given as goal

abbrev pub invariant-loop-note : goal.invariant-loop-note
invariant-loop-note l = record { inside : l.note-index ≤ length l.notes; text : l.text.items ≡ l.fn.text.items ++ flat_map (note_line l.word) (take l.note-index l.notes) }
