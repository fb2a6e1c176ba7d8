use Rattle.std.proofs.Common.{◌∙◌, ap, sym}
use Rattle.front_reference.specs.Parts.{Inserts}
use Rattle.front_parts.specs.Places.Calls.{hash_in, ways_by}
use Rattle.front_state.proofs.Seen.{cause_of_key}
use Rattle.front_state.proofs.Steady.{all_parts, called_key, inserting_keeps, open_part, stays_steady, untouched, untouched_keeps}
use Rattle.front_state.proofs.state.LentState.insert_named.Goals as goal

pub part_mut-part-requires : goal.part_mut-part-requires
part_mut-part-requires g c =
    all_parts (ways_by g.R.Rules g.K.PartialEq.eq g.K.Hash.hash_input g.S.BuildHasher g.S.Hasher.Hasher) _ c.self.invariant

pub insert_by_name-requires-clause-hashed : goal.insert_by_name-requires-clause-hashed
insert_by_name-requires-clause-hashed g c =
    let ways = (ways_by g.R.Rules g.K.PartialEq.eq g.K.Hash.hash_input g.S.BuildHasher g.S.Hasher.Hasher) in
    let key = g.Q.Names.named_key c.args.name in
    let is = c.requires.hashed ∙ ap (λ f. hash_in ways f key) (sym c.self.view_is) in
    (open_part ways _ c.args.hash key c.part_mut-part.result.now c.self.invariant is c.part_mut-part.ensures.there).hashed

pub insert_by_name-requires-clause-ready : goal.insert_by_name-requires-clause-ready
insert_by_name-requires-clause-ready g c =
    let ways = (ways_by g.R.Rules g.K.PartialEq.eq g.K.Hash.hash_input g.S.BuildHasher g.S.Hasher.Hasher) in
    let key = g.Q.Names.named_key c.args.name in
    let is = c.requires.hashed ∙ ap (λ f. hash_in ways f key) (sym c.self.view_is) in
    (open_part ways _ c.args.hash key c.part_mut-part.result.now c.self.invariant is c.part_mut-part.ensures.there).ready

pub invariant_of-self : goal.invariant_of-self
invariant_of-self g c =
    let ways = (ways_by g.R.Rules g.K.PartialEq.eq g.K.Hash.hash_input g.S.BuildHasher g.S.Hasher.Hasher) in
    let key = g.Q.Names.named_key c.args.name in
    let is = c.requires.hashed ∙ ap (λ f. hash_in ways f key) (sym c.self.view_is) in
    stays_steady ways _ c.args.self.now c.args.at.now c.args.at.step c.args.hash key _ c.part_mut-part.result.now c.insert_by_name.new.part c.self.view_is c.requires.follows is (inserting_keeps ways g.met.K.Eq.laws key c.args.hash c.args.value c.args.at.now c.args.at.step) c.part_mut-part.ensures.there c.in-Ok.ensures.inserts c.self.invariant

pub returns-in-Ok-clause-inserts : goal.returns-in-Ok-clause-inserts
returns-in-Ok-clause-inserts g c =
    let ways = (ways_by g.R.Rules g.K.PartialEq.eq g.K.Hash.hash_input g.S.BuildHasher g.S.Hasher.Hasher) in
    let key = g.Q.Names.named_key c.args.name in
    let is = c.requires.hashed ∙ ap (λ f. hash_in ways f key) (sym c.self.view_is) in
    called_key ways _ c.args.self.now c.args.at.now c.args.at.step c.args.hash key (λ n. Inserts ways.answers ways.eq key n c.args.value c.args.at.now c.args.at.step) c.part_mut-part.result.now c.insert_by_name.new.part c.self.view_is is c.part_mut-part.ensures.there c.in-Ok.ensures.inserts

pub invariant_of-self-in-Err : goal.invariant_of-self-in-Err
invariant_of-self-in-Err g c =
    let ways = (ways_by g.R.Rules g.K.PartialEq.eq g.K.Hash.hash_input g.S.BuildHasher g.S.Hasher.Hasher) in
    untouched_keeps ways _ c.args.hash c.part_mut-part.result.now c.insert_by_name.new.part c.part_mut-part.ensures.there c.in-Err.ensures.err c.self.invariant

pub returns-in-Err-clause-err : goal.returns-in-Err-clause-err
returns-in-Err-clause-err g c =
    let ways = (ways_by g.R.Rules g.K.PartialEq.eq g.K.Hash.hash_input g.S.BuildHasher g.S.Hasher.Hasher) in
    untouched ways _ c.args.hash c.part_mut-part.result.now c.insert_by_name.new.part c.part_mut-part.ensures.there c.in-Err.ensures.err ∙ c.self.view_is

pub returns-in-Err-clause-cause : goal.returns-in-Err-clause-cause
returns-in-Err-clause-cause g c =
    let ways = (ways_by g.R.Rules g.K.PartialEq.eq g.K.Hash.hash_input g.S.BuildHasher g.S.Hasher.Hasher) in
    let key = g.Q.Names.named_key c.args.name in
    let is = c.requires.hashed ∙ ap (λ f. hash_in ways f key) (sym c.self.view_is) in
    cause_of_key ways _ c.args.self.now c.args.hash key c.part_mut-part.result.now c.self.view_is is c.part_mut-part.ensures.there (λ _. 1) c.in-Err.refused c.in-Err.ensures.cause
