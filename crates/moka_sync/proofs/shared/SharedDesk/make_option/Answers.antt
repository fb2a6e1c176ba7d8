use Rattle.std.proofs.Common.{rules}
use Rattle.front_parts.specs.Access.Answering.{made_option}
use Rattle.front_parts.specs.Places.Calls.{ways_by}
use Rattle.front_reference.specs.declared.data.TurnKind.TheVariants.{Optionally}
use Rattle.moka_sync.proofs.Resting.{given}
use Rattle.moka_sync.proofs.Suiting.{makes-option}
use Rattle.moka_sync.proofs.shared.SharedDesk.make_option.Goals as goal

pub option_made-requires : goal.option_made-requires
option_made-requires g c = makes-option c.in_ok-made.made c.in_ok-made.ensures.answer.suits

pub returns-clause-made : goal.returns-clause-made
returns-clause-made g c =
    let ways = ways_by g.R.Rules g.K.PartialEq.eq g.K.Hash.hash_input g.S.BuildHasher g.S.Hasher.Hasher in
    given ways c.args.self.now.number Optionally (g.A.Names.named_key c.args.asked) _ c.in_ok-made.made (made_option c.option_made.result) _ c.option_made.ensures (λ made makes. search rules) c.in_ok-made.ensures.answer
