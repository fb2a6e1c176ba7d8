use Rattle.std.proofs.Common.{arith}
use Rattle.engine_reference.specs.Calls.{registered}
use Rattle.engine_reference.specs.declared.data.Registered.{Registered}
use Rattle.front_parts.specs.Places.Calls.{ways_by}
use Rattle.front_state.proofs.Covered.{some_parts}
use Rattle.front_state.proofs.Halves.{first_passes, first_roomy, first_set, register-keeps}
use Rattle.front_state.proofs.state.sharding.«LentState+K+V+S+R+Sharded».commit_cover.Goals as goal

pub index_mut-part-requires : goal.index_mut-part-requires
index_mut-part-requires g c = let some = some_parts (ways_by g.R.Rules g.K.PartialEq.eq g.K.Hash.hash_input g.S.BuildHasher g.S.Hasher.Hasher) _ c.self.invariant in omega arith

pub commit_predicate-requires : goal.commit_predicate-requires
commit_predicate-requires g c = first_roomy (ways_by g.R.Rules g.K.PartialEq.eq g.K.Hash.hash_input g.S.BuildHasher g.S.Hasher.Hasher) _ c.args.self.now c.index_mut-part.result.now c.self.view_is c.self.invariant c.index_mut-part.ensures.value c.requires.room

pub invariant_of-self : goal.invariant_of-self
invariant_of-self g c =
    let ways = (ways_by g.R.Rules g.K.PartialEq.eq g.K.Hash.hash_input g.S.BuildHasher g.S.Hasher.Hasher) in
    let one : Registered g.row.R-Predicate.Denot = record { id = c.args.id; predicate = c.args.predicate; step = c.args.at.step } in
    first_passes ways _ c.args.self.now c.args.at.now c.args.at.step (registered one) _ c.self.view_is c.requires.follows (register-keeps ways _ _ one)
    (first_set (registered one) c.self.inside.parts.items c.index_mut-part.result.now c.commit_predicate.new.self (some_parts ways _ c.self.invariant) c.index_mut-part.ensures.value c.commit_predicate.ensures) c.self.invariant
