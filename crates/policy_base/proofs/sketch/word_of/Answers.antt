use Rattle.std.proofs.Common.{◌-◌, ◌%◌, ap, ◌∙◌, sym}
use Rattle.std.specs.Int.Bits.{bit_and}
use Rattle.std.proofs.lemmas.Nat.{and_mask}
use Rattle.policy_base.proofs.sketch.word_of.Goals as goal

pub returns-clause-word : goal.returns-clause-word
returns-clause-word c =
    let power = c.requires in
    ap (λ n. bit_and c.spread_of.result (n - 1)) power.1
    ∙ and_mask c.spread_of.result power.0
    ∙ ap (λ n. c.spread_of.result % n) (sym power.1)
    ∙ ap (λ x. x % c.args.words) c.spread_of.ensures
