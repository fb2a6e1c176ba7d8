use Rattle.std.proofs.Common.{rules}
use Rattle.front_parts.specs.Places.Calls.{ways_by}
use Rattle.front_reference.specs.declared.data.Made.TheVariants.{Value}
use Rattle.front_reference.specs.declared.data.TurnKind.TheVariants.{With}
use Rattle.moka_sync.proofs.Resting.{given}
use Rattle.moka_sync.proofs.Suiting.{makes-value}
use Rattle.moka_sync.proofs.shared.SharedDesk.make_value.Goals as goal

pub value_made-requires : goal.value_made-requires
value_made-requires g c = makes-value c.in_ok-made.made c.in_ok-made.ensures.answer.suits

pub returns-clause-made : goal.returns-clause-made
returns-clause-made g c =
    let ways = ways_by g.R.Rules g.K.PartialEq.eq g.K.Hash.hash_input g.S.BuildHasher g.S.Hasher.Hasher in
    given ways c.args.self.now.number With (g.A.Names.named_key c.args.asked) _ c.in_ok-made.made (Value c.value_made.result) _ c.value_made.ensures (λ made makes. search rules) c.in_ok-made.ensures.answer
