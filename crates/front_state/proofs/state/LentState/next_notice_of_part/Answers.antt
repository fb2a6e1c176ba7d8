use Rattle.front_parts.specs.Places.Calls.{ways_by}
use Rattle.front_state.proofs.Covered.{stays_told_at}
use Rattle.front_state.proofs.state.LentState.next_notice_of_part.Goals as goal

pub invariant_of-self : goal.invariant_of-self
invariant_of-self g c = stays_told_at (ways_by g.R.Rules g.K.PartialEq.eq g.K.Hash.hash_input g.S.BuildHasher g.S.Hasher.Hasher) _ c.args.part c.next_notice_at.new.parts.items c.next_notice_at.ensures.taken c.self.invariant
