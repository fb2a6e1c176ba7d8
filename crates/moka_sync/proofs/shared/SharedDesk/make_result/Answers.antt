use Rattle.std.proofs.Common.{rules}
use Rattle.std.specs.Arc.{arc_value}
use Rattle.front_parts.specs.Access.Answering.{made_result}
use Rattle.front_parts.specs.Access.Selecting.{with_fault}
use Rattle.front_parts.specs.Places.Calls.{ways_by}
use Rattle.front_reference.specs.declared.data.TurnKind.TheVariants.{Try}
use Rattle.moka_sync.proofs.Resting.{given}
use Rattle.moka_sync.proofs.Suiting.{makes-result}
use Rattle.moka_sync.proofs.shared.SharedDesk.make_result.Goals as goal

pub result_made-requires : goal.result_made-requires
result_made-requires g c = makes-result c.in_ok-made.made c.in_ok-made.ensures.answer.suits

pub returns-clause-made : goal.returns-clause-made
returns-clause-made g c =
    let ways = ways_by g.R.Rules g.K.PartialEq.eq g.K.Hash.hash_input g.S.BuildHasher g.S.Hasher.Hasher in
    given ways c.args.self.now.number Try (g.A.Names.named_key c.args.asked) _ c.in_ok-made.made (made_result (with_fault arc_value c.result_made.result)) _ c.result_made.ensures (λ made makes. search rules) c.in_ok-made.ensures.answer
