use Rattle.std.proofs.Common.{arith}
use Rattle.engine_reference.specs.Calls.{without_room}
use Rattle.front_parts.specs.Places.Calls.{ways_by}
use Rattle.front_state.proofs.Covered.{some_parts}
use Rattle.front_state.proofs.Halves.{first_roomy, first_set, first_stays, release-keeps}
use Rattle.front_state.proofs.state.sharding.«LentState+K+V+S+R+Sharded».release_cover.Goals as goal

pub index_mut-part-requires : goal.index_mut-part-requires
index_mut-part-requires g c = let some = some_parts (ways_by g.R.Rules g.K.PartialEq.eq g.K.Hash.hash_input g.S.BuildHasher g.S.Hasher.Hasher) _ c.self.invariant in omega arith

pub release_room-requires : goal.release_room-requires
release_room-requires g c = first_roomy (ways_by g.R.Rules g.K.PartialEq.eq g.K.Hash.hash_input g.S.BuildHasher g.S.Hasher.Hasher) _ c.args.self.now c.index_mut-part.result.now c.self.view_is c.self.invariant c.index_mut-part.ensures.value c.requires

pub invariant_of-self : goal.invariant_of-self
invariant_of-self g c =
    let ways = (ways_by g.R.Rules g.K.PartialEq.eq g.K.Hash.hash_input g.S.BuildHasher g.S.Hasher.Hasher) in
    first_stays ways _ without_room _ (release-keeps ways _ _) (first_set without_room c.self.inside.parts.items c.index_mut-part.result.now c.release_room.new.self (some_parts ways _ c.self.invariant) c.index_mut-part.ensures.value c.release_room.ensures) c.self.invariant
