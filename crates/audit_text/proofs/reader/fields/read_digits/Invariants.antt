use Rattle.std.proofs.Common.{◌≡◌, [], length}
use Rattle.audit_text.specs.Reader.Fields.{digits_in}
use Rattle.audit_text.proofs.reader.fields.read_digits.Given as goal

abbrev pub invariant-loop-rest : goal.invariant-loop-rest
invariant-loop-rest l = digits_in l.bytes.items l.rest ≡ digits_in [] l.digits

abbrev pub decreases-loop-rest : goal.decreases-loop-rest
decreases-loop-rest l = length l.rest
