use Rattle.std.proofs.Common.{◌∙◌, ap, subst, sym}
use Rattle.front_reference.specs.Parts.{Inserts}
use Rattle.front_reference.specs.declared.errors.CacheError.TheVariants as errors
use Rattle.front_parts.proofs.places.Found.{caused}
use Rattle.front_parts.specs.Places.Calls.{ways_by}
use Rattle.front_state.proofs.Steady.{all_parts, finish_caused, finished_for, finishes_steadily, open_part, turn_hashed, untouched, untouched_keeps}
use Rattle.front_state.proofs.state.LentState.finish_with_value.Goals as goal

pub part_mut-part-requires : goal.part_mut-part-requires
part_mut-part-requires g c =
    all_parts (ways_by g.R.Rules g.K.PartialEq.eq g.K.Hash.hash_input g.S.BuildHasher g.S.Hasher.Hasher) _ c.self.invariant

pub insert_or_back-requires-clause-hashed : goal.insert_or_back-requires-clause-hashed
insert_or_back-requires-clause-hashed g c =
    let ways = (ways_by g.R.Rules g.K.PartialEq.eq g.K.Hash.hash_input g.S.BuildHasher g.S.Hasher.Hasher) in
    let is = turn_hashed ways g.met.K.Eq.laws _ c.args.number c.in-Some.turn.now c.self.invariant (sym c.in-Some.ensures) in
    (open_part ways _ c.in-Some.turn.now.hash c.in-Ok.key c.part_mut-part.result.now c.self.invariant (is ∙ ap (λ k. ways.hash c.self.inside.hasher k) (sym c.in-Ok.ensures.cases)) c.part_mut-part.ensures.there).hashed

pub insert_or_back-requires-clause-ready : goal.insert_or_back-requires-clause-ready
insert_or_back-requires-clause-ready g c =
    let ways = (ways_by g.R.Rules g.K.PartialEq.eq g.K.Hash.hash_input g.S.BuildHasher g.S.Hasher.Hasher) in
    let is = turn_hashed ways g.met.K.Eq.laws _ c.args.number c.in-Some.turn.now c.self.invariant (sym c.in-Some.ensures) in
    (open_part ways _ c.in-Some.turn.now.hash c.in-Ok.key c.part_mut-part.result.now c.self.invariant (is ∙ ap (λ k. ways.hash c.self.inside.hasher k) (sym c.in-Ok.ensures.cases)) c.part_mut-part.ensures.there).ready

pub invariant_of-self : goal.invariant_of-self
invariant_of-self g c =
    let ways = (ways_by g.R.Rules g.K.PartialEq.eq g.K.Hash.hash_input g.S.BuildHasher g.S.Hasher.Hasher) in
    let is = turn_hashed ways g.met.K.Eq.laws _ c.args.number c.in-Some.turn.now c.self.invariant (sym c.in-Some.ensures) in
    finishes_steadily ways g.met.K.Eq.laws _ c.args.self.now c.args.at.now c.args.at.step c.args.number c.in-Some.turn.now c.args.value c.part_mut-part.result.now c.insert_or_back.new.part _ c.self.view_is c.requires is c.part_mut-part.ensures.there (subst (λ k. Inserts ways.answers ways.eq k c.in-Some.turn.now.hash c.args.value c.args.at.now c.args.at.step c.part_mut-part.result.now c.insert_or_back.new.part) c.in-Ok.ensures.cases c.in-Ok-insert_or_back.ensures.inserts) c.end.ensures.ended c.self.invariant

pub returns-in-Ok-insert_or_back-clause-ends : goal.returns-in-Ok-insert_or_back-clause-ends
returns-in-Ok-insert_or_back-clause-ends g c =
    let ways = (ways_by g.R.Rules g.K.PartialEq.eq g.K.Hash.hash_input g.S.BuildHasher g.S.Hasher.Hasher) in
    finished_for ways _ c.args.self.now c.args.at c.args.number c.in-Some.turn.now c.args.value c.part_mut-part.result.now c.insert_or_back.new.part _ c.self.view_is c.part_mut-part.ensures.there (subst (λ k. Inserts ways.answers ways.eq k c.in-Some.turn.now.hash c.args.value c.args.at.now c.args.at.step c.part_mut-part.result.now c.insert_or_back.new.part) c.in-Ok.ensures.cases c.in-Ok-insert_or_back.ensures.inserts) c.end.ensures.ended (sym c.in-Some.ensures)

pub invariant_of-self-in-Err-insert_or_back : goal.invariant_of-self-in-Err-insert_or_back
invariant_of-self-in-Err-insert_or_back g c =
    let ways = (ways_by g.R.Rules g.K.PartialEq.eq g.K.Hash.hash_input g.S.BuildHasher g.S.Hasher.Hasher) in
    untouched_keeps ways _ c.in-Some.turn.now.hash c.part_mut-part.result.now c.insert_or_back.new.part c.part_mut-part.ensures.there c.in-Err-insert_or_back.ensures.err c.self.invariant

pub returns-in-Err-insert_or_back-clause-err : goal.returns-in-Err-insert_or_back-clause-err
returns-in-Err-insert_or_back-clause-err g c =
    let ways = (ways_by g.R.Rules g.K.PartialEq.eq g.K.Hash.hash_input g.S.BuildHasher g.S.Hasher.Hasher) in
    untouched ways _ c.in-Some.turn.now.hash c.part_mut-part.result.now c.insert_or_back.new.part c.part_mut-part.ensures.there c.in-Err-insert_or_back.ensures.err ∙ c.self.view_is

pub returns-in-Err-insert_or_back-clause-cause : goal.returns-in-Err-insert_or_back-clause-cause
returns-in-Err-insert_or_back-clause-cause g c =
    let ways = (ways_by g.R.Rules g.K.PartialEq.eq g.K.Hash.hash_input g.S.BuildHasher g.S.Hasher.Hasher) in
    finish_caused ways _ c.args.self.now c.args.number c.in-Some.turn.now _ c.self.view_is (sym c.in-Some.ensures) (caused ways (λ s. 1) _ c.part_mut-part.result.now _ c.part_mut-part.ensures.there c.in-Err-insert_or_back.ensures.cause)

pub returns-in-Err-clause-cause : goal.returns-in-Err-clause-cause
returns-in-Err-clause-cause g c =
    finish_caused (ways_by g.R.Rules g.K.PartialEq.eq g.K.Hash.hash_input g.S.BuildHasher g.S.Hasher.Hasher) _ c.args.self.now c.args.number c.in-Some.turn.now errors.OutOfMemory c.self.view_is (sym c.in-Some.ensures) tt
