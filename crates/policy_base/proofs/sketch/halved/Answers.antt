use Rattle.policy_base.proofs.Nibbles.{nibbles-half}
use Rattle.policy_base.proofs.sketch.halved.Goals as goal

pub returns : goal.returns
returns c = nibbles-half 16 c.args.word
