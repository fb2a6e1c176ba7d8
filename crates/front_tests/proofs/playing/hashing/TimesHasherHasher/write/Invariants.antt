use Rattle.std.proofs.Common.{◌≡◌, take, fold}
use Rattle.front_tests.specs.Playing.Hashed.{byte_read}
use Rattle.front_tests.proofs.playing.hashing.TimesHasherHasher.write.Given as goal

abbrev pub invariant-loop-b : goal.invariant-loop-b
invariant-loop-b l = l.number ≡ fold byte_read l.fn.self.number (take l.b-index l.bytes)
