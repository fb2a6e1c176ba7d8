use Rattle.std.proofs.Common.{◌≡◌, ◌≤◌, [], ◌∷◌, ◌++◌, length, take}
use Rattle.std.specs.Prelude.{codes}
use Rattle.std.specs.List.{flat_map}
use Rattle.audit_text.specs.Text.{record_text}
use Rattle.audit_text.proofs.writing.put_records.Given as goal

abbrev pub invariant-loop-record : goal.invariant-loop-record
invariant-loop-record l = record { inside : l.record-index ≤ length l.records; text : l.text.items ≡ l.fn.text.items ++ flat_map record_text (take l.record-index l.records) }
