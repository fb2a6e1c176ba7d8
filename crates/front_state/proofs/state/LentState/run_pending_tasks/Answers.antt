use Rattle.front_parts.specs.Places.Calls.{ways_by}
use Rattle.front_state.proofs.Steady.{all_stay_steady, running_keeps, all_sent}
use Rattle.front_state.proofs.state.LentState.run_pending_tasks.Goals as goal

pub run_all-requires : goal.run_all-requires
run_all-requires g c = all_sent (ways_by g.R.Rules g.K.PartialEq.eq g.K.Hash.hash_input g.S.BuildHasher g.S.Hasher.Hasher) _ c.self.invariant

pub invariant_of-self : goal.invariant_of-self
invariant_of-self g c =
    let ways = (ways_by g.R.Rules g.K.PartialEq.eq g.K.Hash.hash_input g.S.BuildHasher g.S.Hasher.Hasher) in
    all_stay_steady ways _ c.args.self.now c.args.at.now c.args.at.step _ c.run_all.new.parts.items c.self.view_is c.requires (running_keeps ways g.met.K.Eq.laws c.args.at.now c.args.at.step) c.run_all.ensures c.self.invariant
