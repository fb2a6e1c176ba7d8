use Rattle.std.proofs.Common.{nat_lt, ap, ◌∙◌}
use Rattle.policy_base.specs.Counts.{frequency_of}
use Rattle.policy_tests.proofs.uses.weighing.is_worth_more.Goals as goal

pub returns : goal.returns
returns c =
    ap (λ a. nat_lt a c.frequency-2.result) c.frequency.ensures.least
    ∙ ap (λ b. nat_lt (frequency_of c.args.sketch.now c.args.victim) b) c.frequency-2.ensures.least
