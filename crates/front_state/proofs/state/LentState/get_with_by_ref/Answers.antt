use Rattle.std.proofs.Common.{rules}
use Rattle.front_parts.specs.Access.Answering.{passes_none}
use Rattle.front_parts.specs.Places.Calls.{ways_by}
use Rattle.front_state.proofs.Accessed.{gets-as}
use Rattle.front_state.proofs.state.LentState.get_with_by_ref.Goals as goal

pub returns-clause-value : goal.returns-clause-value
returns-clause-value g c = gets-as (ways_by g.R.Rules g.K.PartialEq.eq g.K.Hash.hash_input g.S.BuildHasher g.S.Hasher.Hasher) c.args.key.now c.args.at _ passes_none _ c.args.self.now c.make_value.new.self c.make_value.result c.make_value.ensures.value (λ v i says. search rules)
