use Rattle.front_parts.specs.Places.Calls.{ways_by}
use Rattle.front_state.proofs.Steady.{ended_turn, ends_steadily}
use Rattle.front_state.proofs.state.LentState.abandon.Goals as goal

pub invariant_of-self-2 : goal.invariant_of-self-2
invariant_of-self-2 g c = ends_steadily (ways_by g.R.Rules g.K.PartialEq.eq g.K.Hash.hash_input g.S.BuildHasher g.S.Hasher.Hasher) g.met.K.Eq.laws _ c.args.self.now c.args.at.now c.args.at.step c.args.number _ c.self.view_is c.requires c.end.ensures.ended c.self.invariant

pub returns-clause-ends : goal.returns-clause-ends
returns-clause-ends g c = ended_turn (ways_by g.R.Rules g.K.PartialEq.eq g.K.Hash.hash_input g.S.BuildHasher g.S.Hasher.Hasher) _ c.args.self.now c.args.at.now c.args.at.step c.args.number _ c.self.view_is c.end.ensures.ended
