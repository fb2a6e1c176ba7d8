use Rattle.std.proofs.Common.{◌∙◌, ap, sym}
use Rattle.front_parts.specs.Places.Calls.{hash_in, ways_by}
use Rattle.front_state.proofs.Seen.{cause_of_key}
use Rattle.front_state.proofs.Steady.{all_parts, coalesced_key, coalescing_keeps, open_part, stays_steady, untouched, untouched_keeps}
use Rattle.front_state.proofs.state.LentState.coalesce.Goals as goal

pub part_mut-part-requires : goal.part_mut-part-requires
part_mut-part-requires g c =
    all_parts (ways_by g.R.Rules g.K.PartialEq.eq g.K.Hash.hash_input g.S.BuildHasher g.S.Hasher.Hasher) _ c.self.invariant

pub coalesce-requires-clause-hashed : goal.coalesce-requires-clause-hashed
coalesce-requires-clause-hashed g c =
    let ways = (ways_by g.R.Rules g.K.PartialEq.eq g.K.Hash.hash_input g.S.BuildHasher g.S.Hasher.Hasher) in
    let key = g.Q.Names.named_key c.args.name in
    let is = c.requires.hashed ∙ ap (λ f. hash_in ways f key) (sym c.self.view_is) in
    (open_part ways _ c.args.hash key c.part_mut-part.result.now c.self.invariant is c.part_mut-part.ensures.there).hashed

pub coalesce-requires-clause-ready : goal.coalesce-requires-clause-ready
coalesce-requires-clause-ready g c =
    let ways = (ways_by g.R.Rules g.K.PartialEq.eq g.K.Hash.hash_input g.S.BuildHasher g.S.Hasher.Hasher) in
    let key = g.Q.Names.named_key c.args.name in
    let is = c.requires.hashed ∙ ap (λ f. hash_in ways f key) (sym c.self.view_is) in
    (open_part ways _ c.args.hash key c.part_mut-part.result.now c.self.invariant is c.part_mut-part.ensures.there).ready

pub invariant_of-self : goal.invariant_of-self
invariant_of-self g c =
    let ways = (ways_by g.R.Rules g.K.PartialEq.eq g.K.Hash.hash_input g.S.BuildHasher g.S.Hasher.Hasher) in
    let key = g.Q.Names.named_key c.args.name in
    let is = c.requires.hashed ∙ ap (λ f. hash_in ways f key) (sym c.self.view_is) in
    stays_steady ways _ c.args.self.now c.args.at.now c.args.at.step c.args.hash key _ c.part_mut-part.result.now c.coalesce.new.part c.self.view_is c.requires.follows is (coalescing_keeps ways g.met.K.Eq.laws key c.args.hash c.args.at.now c.args.at.step _ _ _ _) c.part_mut-part.ensures.there c.in-Ok.ensures.answer c.self.invariant

pub returns-in-Ok-clause-answer : goal.returns-in-Ok-clause-answer
returns-in-Ok-clause-answer g c =
    let ways = (ways_by g.R.Rules g.K.PartialEq.eq g.K.Hash.hash_input g.S.BuildHasher g.S.Hasher.Hasher) in
    let key = g.Q.Names.named_key c.args.name in
    let is = c.requires.hashed ∙ ap (λ f. hash_in ways f key) (sym c.self.view_is) in
    coalesced_key ways _ c.args.self.now c.args.at c.args.hash key _ _ _ _ c.part_mut-part.result.now c.coalesce.new.part c.self.view_is is c.part_mut-part.ensures.there c.in-Ok.ensures.answer

pub invariant_of-self-in-Err : goal.invariant_of-self-in-Err
invariant_of-self-in-Err g c =
    let ways = (ways_by g.R.Rules g.K.PartialEq.eq g.K.Hash.hash_input g.S.BuildHasher g.S.Hasher.Hasher) in
    untouched_keeps ways _ c.args.hash c.part_mut-part.result.now c.coalesce.new.part c.part_mut-part.ensures.there c.in-Err.ensures.err c.self.invariant

pub returns-in-Err-clause-err : goal.returns-in-Err-clause-err
returns-in-Err-clause-err g c =
    let ways = (ways_by g.R.Rules g.K.PartialEq.eq g.K.Hash.hash_input g.S.BuildHasher g.S.Hasher.Hasher) in
    untouched ways _ c.args.hash c.part_mut-part.result.now c.coalesce.new.part c.part_mut-part.ensures.there c.in-Err.ensures.err ∙ c.self.view_is

pub returns-in-Err-clause-cause : goal.returns-in-Err-clause-cause
returns-in-Err-clause-cause g c =
    let ways = (ways_by g.R.Rules g.K.PartialEq.eq g.K.Hash.hash_input g.S.BuildHasher g.S.Hasher.Hasher) in
    let key = g.Q.Names.named_key c.args.name in
    let is = c.requires.hashed ∙ ap (λ f. hash_in ways f key) (sym c.self.view_is) in
    cause_of_key ways _ c.args.self.now c.args.hash key c.part_mut-part.result.now c.self.view_is is c.part_mut-part.ensures.there (λ _. 1) c.in-Err.refused c.in-Err.ensures.cause
