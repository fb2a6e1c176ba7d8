use Rattle.front_parts.specs.Places.Calls.{ways_by}
use Rattle.front_state.proofs.Covered.{stays_told}
use Rattle.front_state.proofs.state.LentState.next_notice.Goals as goal

pub invariant_of-self : goal.invariant_of-self
invariant_of-self g c = stays_told (ways_by g.R.Rules g.K.PartialEq.eq g.K.Hash.hash_input g.S.BuildHasher g.S.Hasher.Hasher) _ c.next_notice.new.parts.items c.next_notice.ensures.taken c.self.invariant
