use Rattle.std.proofs.Common.{◌≤◌, vec_len}
use Rattle.cached_config.proofs.reading.Reader.twins.Given as goal

abbrev pub invariant-loop-other : goal.invariant-loop-other
invariant-loop-other l = vec_len l.fn.self.faults ≤ vec_len l.self.faults
