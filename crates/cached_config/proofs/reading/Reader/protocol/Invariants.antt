use Rattle.std.proofs.Common.{◌≤◌, vec_len}
use Rattle.cached_config.proofs.reading.Reader.protocol.Given as goal

abbrev pub invariant-loop-key : goal.invariant-loop-key
invariant-loop-key l = vec_len l.fn.self.faults ≤ vec_len l.self.faults
