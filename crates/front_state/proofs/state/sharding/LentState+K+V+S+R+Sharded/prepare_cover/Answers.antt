use Rattle.std.proofs.Common.{◌∙◌, arith, sym, true≢false}
use Rattle.front_parts.specs.Places.Calls.{ways_by}
use Rattle.front_state.proofs.Covered.{some_parts}
use Rattle.front_state.proofs.Halves.{disabled_alone, first_caused, first_set, first_stays, room-keeps, takes_alike, untouched_stays}
use Rattle.engine_reference.specs.Calls.{with_room}
use Rattle.front_state.proofs.state.sharding.«LentState+K+V+S+R+Sharded».prepare_cover.Goals as goal
use Rattle.front_state.proofs.state.sharding.«LentState+K+V+S+R+Sharded».prepare_cover.Goals.{in-Ok, in-Err}

pub index_mut-part-requires : goal.index_mut-part-requires
index_mut-part-requires g c = let some = some_parts (ways_by g.R.Rules g.K.PartialEq.eq g.K.Hash.hash_input g.S.BuildHasher g.S.Hasher.Hasher) _ c.self.invariant in omega arith

pub invariant_of-self : goal.invariant_of-self
invariant_of-self g c =
    let ways = (ways_by g.R.Rules g.K.PartialEq.eq g.K.Hash.hash_input g.S.BuildHasher g.S.Hasher.Hasher) in
    elim c.match-prepare_predicate.branch [
      | in-Ok w ↦ first_stays ways _ with_room _ (room-keeps ways _ _) (first_set with_room c.self.inside.parts.items c.index_mut-part.result.now c.prepare_predicate.new.self (some_parts ways _ c.self.invariant) c.index_mut-part.ensures.value w.in-Ok.ensures.ok) c.self.invariant
      | in-Err w ↦ untouched_stays ways _ c.index_mut-part.result.now c.prepare_predicate.new.self c.self.invariant c.index_mut-part.ensures.value w.in-Err.ensures.err
    ]

pub returns-clause-takes : goal.returns-clause-takes
returns-clause-takes g c =
    let alike = takes_alike (ways_by g.R.Rules g.K.PartialEq.eq g.K.Hash.hash_input g.S.BuildHasher g.S.Hasher.Hasher) _ c.args.self.now c.index_mut-part.result.now c.self.view_is c.self.invariant c.index_mut-part.ensures.value in
    elim c.match-prepare_predicate.branch [
      | in-Ok w ↦ rw w.result-is (sym alike ∙ w.in-Ok.ensures.takes)
      | in-Err w ↦ rw w.result-is tt
    ]

pub returns-clause-first : goal.returns-clause-first
returns-clause-first g c = λ none.
    let alike = takes_alike (ways_by g.R.Rules g.K.PartialEq.eq g.K.Hash.hash_input g.S.BuildHasher g.S.Hasher.Hasher) _ c.args.self.now c.index_mut-part.result.now c.self.view_is c.self.invariant c.index_mut-part.ensures.value in
    elim c.match-prepare_predicate.branch [
      | in-Ok w ↦ absurd (true≢false (sym w.in-Ok.ensures.takes ∙ alike ∙ none))
      | in-Err w ↦ rw w.result-is (disabled_alone _ _ w.cover_error.ensures (w.in-Err.ensures.first (alike ∙ none)))
    ]

pub returns-clause-cause : goal.returns-clause-cause
returns-clause-cause g c =
    elim c.match-prepare_predicate.branch [
      | in-Ok w ↦ rw w.result-is tt
      | in-Err w ↦ rw w.result-is (rw w.cover_error.ensures (first_caused (ways_by g.R.Rules g.K.PartialEq.eq g.K.Hash.hash_input g.S.BuildHasher g.S.Hasher.Hasher) _ c.args.self.now c.index_mut-part.result.now (g.G.Rng.stream c.args.generator.now) (g.G.Rng.stream c.prepare_predicate.new.generator) w.in-Err.refused c.self.view_is c.self.invariant c.index_mut-part.ensures.value w.in-Err.ensures.refused))
    ]
