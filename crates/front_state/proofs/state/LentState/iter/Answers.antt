use Rattle.front_parts.specs.Places.Calls.{ways_by}
use Rattle.front_state.proofs.Covered.{gives_all, hash-alike}
use Rattle.front_state.proofs.state.LentState.iter.Goals as goal

pub returns-clause-coming : goal.returns-clause-coming
returns-clause-coming g c =
    gives_all (ways_by g.R.Rules g.K.PartialEq.eq g.K.Hash.hash_input g.S.BuildHasher g.S.Hasher.Hasher) g.met.K.Eq.laws _ c.args.self.now c.args.now c.new.result.coming c.self.view_is c.self.invariant
    (λ x y e. hash-alike g.S.Hasher.Hasher.finish g.S.Hasher.Hasher.write g.S.BuildHasher.build_hasher g.K.Hash.hash_input c.self.inside.hasher x y (g.met.K.Hash.respects_eq x y e)) c.new.ensures.coming
