use Rattle.std.proofs.Common.{sym, ap, ◌∙◌}
use Rattle.policy_base.specs.Counts.{counts_of}
use Rattle.policy_base.proofs.Nibbles.{counts-none}
use Rattle.policy_base.proofs.sketch.FrequencySketch.default.Goals as goal

pub returns-clause-counts : goal.returns-clause-counts
returns-clause-counts c = ap counts_of c.new.ensures.items ∙ sym counts-none
