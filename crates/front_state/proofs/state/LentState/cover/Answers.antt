use Rattle.front_parts.specs.Places.Calls.{ways_by}
use Rattle.front_state.proofs.Covered.{cause_as, covering_keeps, registers-each, some_parts, takes_of}
use Rattle.front_state.proofs.Steady.{all_stay_steady}
use Rattle.front_state.proofs.state.LentState.cover.Goals as goal

pub cover_all-requires-clause-takes : goal.cover_all-requires-clause-takes
cover_all-requires-clause-takes g c = takes_of (ways_by g.R.Rules g.K.PartialEq.eq g.K.Hash.hash_input g.S.BuildHasher g.S.Hasher.Hasher) _ c.args.self.now c.self.view_is c.self.invariant c.requires.takes

pub cover_all-requires-clause-some : goal.cover_all-requires-clause-some
cover_all-requires-clause-some g c = some_parts (ways_by g.R.Rules g.K.PartialEq.eq g.K.Hash.hash_input g.S.BuildHasher g.S.Hasher.Hasher) _ c.self.invariant

pub invariant_of-self : goal.invariant_of-self
invariant_of-self g c =
    let ways = (ways_by g.R.Rules g.K.PartialEq.eq g.K.Hash.hash_input g.S.BuildHasher g.S.Hasher.Hasher) in
    all_stay_steady ways _ c.args.self.now c.args.at.now c.args.at.step _ c.cover_all.new.parts.items c.self.view_is c.requires.follows (covering_keeps ways c.args.at.now c.args.at.step)
    (registers-each c.in_ok-shared.shared c.args.at.step (g.G.Rng.stream c.args.generator.now) (g.G.Rng.stream c.cover_all.new.generator) c.in-Ok.id c.self.inside.parts.items c.cover_all.new.parts.items (c.in-Ok.ensures.covers c.in_ok-shared.shared c.in_ok-clones.ensures.alike)) c.self.invariant

pub returns-clause-cause : goal.returns-clause-cause
returns-clause-cause g c = cause_as (ways_by g.R.Rules g.K.PartialEq.eq g.K.Hash.hash_input g.S.BuildHasher g.S.Hasher.Hasher) _ c.args.self.now (g.G.Rng.stream c.args.generator.now) (g.G.Rng.stream c.cover_all.new.generator) c.in-Err.refused c.self.view_is c.in-Err.ensures.cause
