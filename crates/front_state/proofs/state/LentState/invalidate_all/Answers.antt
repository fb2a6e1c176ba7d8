use Rattle.front_parts.specs.Places.Calls.{ways_by}
use Rattle.front_state.proofs.Steady.{all_stay_steady, called_all, clearing_keeps}
use Rattle.front_state.proofs.state.LentState.invalidate_all.Goals as goal

pub invariant_of-self : goal.invariant_of-self
invariant_of-self g c =
    let ways = (ways_by g.R.Rules g.K.PartialEq.eq g.K.Hash.hash_input g.S.BuildHasher g.S.Hasher.Hasher) in
    all_stay_steady ways _ c.args.self.now c.args.at.now c.args.at.step _ c.clear_all.new.parts.items c.self.view_is c.requires.follows (clearing_keeps ways c.args.at.now c.args.at.step) c.clear_all.ensures c.self.invariant

pub returns : goal.returns
returns g c = called_all (ways_by g.R.Rules g.K.PartialEq.eq g.K.Hash.hash_input g.S.BuildHasher g.S.Hasher.Hasher) _ c.args.self.now c.args.at.now c.args.at.step _ c.clear_all.new.parts.items c.self.view_is c.clear_all.ensures
