use Rattle.std.proofs.Common.{◌≡◌, take, fold}
use Rattle.sync_tests.specs.Numbers.{number_after_byte}
use Rattle.sync_tests.proofs.covering.numbers.ItselfHasherHasher.write.Given as goal

abbrev pub invariant-loop-b : goal.invariant-loop-b
invariant-loop-b l = l.number ≡ fold number_after_byte l.fn.self.number (take l.b-index l.bytes)
