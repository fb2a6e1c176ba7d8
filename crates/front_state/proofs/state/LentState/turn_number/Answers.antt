use Rattle.std.proofs.Common.{◌∙◌, ap, sym}
use Rattle.front_parts.specs.Places.Calls.{hash_in, ways_by}
use Rattle.front_state.proofs.Covered.{hash-alike}
use Rattle.front_state.proofs.Steady.{stand_for}
use Rattle.front_state.proofs.state.LentState.turn_number.Goals as goal

pub find-requires : goal.find-requires
find-requires g c =
    let ways = (ways_by g.R.Rules g.K.PartialEq.eq g.K.Hash.hash_input g.S.BuildHasher g.S.Hasher.Hasher) in
    let key = g.Q.Names.named_key c.args.key.now in
    stand_for ways g.met.K.Eq.laws _ key c.args.hash (λ x y e. hash-alike g.S.Hasher.Hasher.finish g.S.Hasher.Hasher.write g.S.BuildHasher.build_hasher g.K.Hash.hash_input c.self.inside.hasher x y (g.met.K.Hash.respects_eq x y e))
    (c.requires ∙ ap (λ f. hash_in ways f key) (sym c.self.view_is)) c.self.invariant
