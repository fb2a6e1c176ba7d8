use Rattle.std.proofs.Common.{◌∙◌, ap, sym}
use Rattle.engine_reference.specs.Calls.{removal_rooms}
use Rattle.front_reference.specs.Parts.{TakesOut}
use Rattle.front_parts.specs.Places.Calls.{hash_in, ways_by}
use Rattle.front_state.proofs.Seen.{cause_of_key}
use Rattle.front_state.proofs.Steady.{all_parts, called_key, open_part, stays_steady, taking_out_keeps, untouched, untouched_keeps}
use Rattle.front_state.proofs.state.LentState.invalidate_named.Goals as goal

pub part_mut-part-requires : goal.part_mut-part-requires
part_mut-part-requires g c =
    all_parts (ways_by g.R.Rules g.K.PartialEq.eq g.K.Hash.hash_input g.S.BuildHasher g.S.Hasher.Hasher) _ c.self.invariant

pub invalidate-requires-clause-hashed : goal.invalidate-requires-clause-hashed
invalidate-requires-clause-hashed g c =
    let ways = (ways_by g.R.Rules g.K.PartialEq.eq g.K.Hash.hash_input g.S.BuildHasher g.S.Hasher.Hasher) in
    let key = g.Q.Names.named_key c.args.name.now in
    let is = c.requires.hashed ∙ ap (λ f. hash_in ways f key) (sym c.self.view_is) in
    (open_part ways _ c.args.hash key c.part_mut-part.result.now c.self.invariant is c.part_mut-part.ensures.there).hashed

pub invalidate-requires-clause-ready : goal.invalidate-requires-clause-ready
invalidate-requires-clause-ready g c =
    let ways = (ways_by g.R.Rules g.K.PartialEq.eq g.K.Hash.hash_input g.S.BuildHasher g.S.Hasher.Hasher) in
    let key = g.Q.Names.named_key c.args.name.now in
    let is = c.requires.hashed ∙ ap (λ f. hash_in ways f key) (sym c.self.view_is) in
    (open_part ways _ c.args.hash key c.part_mut-part.result.now c.self.invariant is c.part_mut-part.ensures.there).ready

pub invariant_of-self : goal.invariant_of-self
invariant_of-self g c =
    let ways = (ways_by g.R.Rules g.K.PartialEq.eq g.K.Hash.hash_input g.S.BuildHasher g.S.Hasher.Hasher) in
    let key = g.Q.Names.named_key c.args.name.now in
    let is = c.requires.hashed ∙ ap (λ f. hash_in ways f key) (sym c.self.view_is) in
    stays_steady ways _ c.args.self.now c.args.at.now c.args.at.step c.args.hash key _ c.part_mut-part.result.now c.invalidate.new.part c.self.view_is c.requires.follows is (taking_out_keeps ways g.met.K.Eq.laws key c.args.at.now c.args.at.step) c.part_mut-part.ensures.there c.in-Ok.ensures.takes_out c.self.invariant

pub returns-in-Ok-clause-takes_out : goal.returns-in-Ok-clause-takes_out
returns-in-Ok-clause-takes_out g c =
    let ways = (ways_by g.R.Rules g.K.PartialEq.eq g.K.Hash.hash_input g.S.BuildHasher g.S.Hasher.Hasher) in
    let key = g.Q.Names.named_key c.args.name.now in
    let is = c.requires.hashed ∙ ap (λ f. hash_in ways f key) (sym c.self.view_is) in
    called_key ways _ c.args.self.now c.args.at.now c.args.at.step c.args.hash key (λ n. TakesOut ways.answers ways.eq key c.args.at.now) c.part_mut-part.result.now c.invalidate.new.part c.self.view_is is c.part_mut-part.ensures.there c.in-Ok.ensures.takes_out

pub invariant_of-self-in-Err : goal.invariant_of-self-in-Err
invariant_of-self-in-Err g c =
    let ways = (ways_by g.R.Rules g.K.PartialEq.eq g.K.Hash.hash_input g.S.BuildHasher g.S.Hasher.Hasher) in
    untouched_keeps ways _ c.args.hash c.part_mut-part.result.now c.invalidate.new.part c.part_mut-part.ensures.there c.in-Err.ensures.err c.self.invariant

pub returns-in-Err-clause-err : goal.returns-in-Err-clause-err
returns-in-Err-clause-err g c =
    let ways = (ways_by g.R.Rules g.K.PartialEq.eq g.K.Hash.hash_input g.S.BuildHasher g.S.Hasher.Hasher) in
    untouched ways _ c.args.hash c.part_mut-part.result.now c.invalidate.new.part c.part_mut-part.ensures.there c.in-Err.ensures.err ∙ c.self.view_is

pub returns-in-Err-clause-cause : goal.returns-in-Err-clause-cause
returns-in-Err-clause-cause g c =
    let ways = (ways_by g.R.Rules g.K.PartialEq.eq g.K.Hash.hash_input g.S.BuildHasher g.S.Hasher.Hasher) in
    let key = g.Q.Names.named_key c.args.name.now in
    let is = c.requires.hashed ∙ ap (λ f. hash_in ways f key) (sym c.self.view_is) in
    cause_of_key ways _ c.args.self.now c.args.hash key c.part_mut-part.result.now c.self.view_is is c.part_mut-part.ensures.there removal_rooms c.in-Err.refused c.in-Err.ensures.cause
