use Rattle.front_parts.specs.Places.Calls.{ways_by}
use Rattle.front_state.proofs.Covered.{steady_as}
use Rattle.front_state.proofs.state.LentState.keeps.Goals as goal

pub returns : goal.returns
returns g c = steady_as (ways_by g.R.Rules g.K.PartialEq.eq g.K.Hash.hash_input g.S.BuildHasher g.S.Hasher.Hasher) _ c.args.self.now c.self.view_is c.self.invariant
