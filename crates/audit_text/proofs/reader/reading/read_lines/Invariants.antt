use Rattle.std.proofs.Common.{◌≡◌, ◌++◌, ◌≤◌, ◌+◌, length}
use Rattle.audit_text.specs.Reader.Gathered.{gathered_text}
use Rattle.audit_text.specs.Reader.Gathering.{add_lines, none_gathered}
use Rattle.audit_text.specs.Reader.Lines.{kept, said_lines}
use Rattle.audit_text.proofs.reader.reading.read_lines.Given as goal

abbrev pub invariant-loop-rest : goal.invariant-loop-rest
invariant-loop-rest l = record { number : l.number + length l.rest ≤ length l.text; text : gathered_text l.gathered ++ kept l.rest ≡ kept l.text; said : add_lines l.gathered (said_lines l.rest) ≡ add_lines none_gathered (said_lines l.text) }

abbrev pub decreases-loop-rest : goal.decreases-loop-rest
decreases-loop-rest l = length l.rest
