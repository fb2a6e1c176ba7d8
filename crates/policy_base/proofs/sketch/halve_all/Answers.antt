use Rattle.std.proofs.Common.{arith}
use Rattle.policy_base.proofs.Nibbles.{counts-half}
use Rattle.policy_base.proofs.sketch.halve_all.Goals as goal

pub returns : goal.returns
returns c = counts-half c.args.table.now c.loop-word.table (omega arith) (λ k lt. c.loop-word.invariant.0 k (omega arith))
