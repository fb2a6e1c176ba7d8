use Rattle.front_parts.specs.Places.Calls.{ways_by}
use Rattle.front_state.proofs.Covered.{within_as}
use Rattle.front_state.proofs.Steady.{few_bits}
use Rattle.front_state.proofs.state.LentState.part_with_hash.Goals as goal

pub place_of-requires : goal.place_of-requires
place_of-requires g c = few_bits (ways_by g.R.Rules g.K.PartialEq.eq g.K.Hash.hash_input g.S.BuildHasher g.S.Hasher.Hasher) _ c.self.invariant

pub returns-clause-within : goal.returns-clause-within
returns-clause-within g c = within_as (ways_by g.R.Rules g.K.PartialEq.eq g.K.Hash.hash_input g.S.BuildHasher g.S.Hasher.Hasher) _ c.args.self.now c.place_of.result c.self.view_is c.self.invariant c.place_of.ensures.within
