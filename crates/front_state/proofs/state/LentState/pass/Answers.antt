use Rattle.front_parts.specs.Places.Calls.{ways_by}
use Rattle.front_state.proofs.Steady.{passes_steadily}
use Rattle.front_state.proofs.state.LentState.pass.Goals as goal

pub invariant_of-self : goal.invariant_of-self
invariant_of-self g c = passes_steadily (ways_by g.R.Rules g.K.PartialEq.eq g.K.Hash.hash_input g.S.BuildHasher g.S.Hasher.Hasher) _ c.args.self.now c.args.at.now c.args.at.step c.self.view_is c.requires c.self.invariant
