use Rattle.std.proofs.Common.{◌≡◌, ◌++◌, ◌≤◌, ◌+◌, length}
use Rattle.audit_text.specs.Reader.Entries.{begin_lines, begun_text, none_begun}
use Rattle.audit_text.specs.Reader.Lines.{kept, said_lines}
use Rattle.audit_text.proofs.reader.inputs.read_entries.Given as goal

abbrev pub invariant-loop-rest : goal.invariant-loop-rest
invariant-loop-rest l = record { number : l.number + length l.rest ≤ length l.text; text : begun_text l.begun ++ kept l.rest ≡ kept l.text; said : begin_lines l.begun (said_lines l.rest) ≡ begin_lines none_begun (said_lines l.text) }

abbrev pub decreases-loop-rest : goal.decreases-loop-rest
decreases-loop-rest l = length l.rest
