use Rattle.std.proofs.Common.{◌∙◌, ap, sym}
use Rattle.front_parts.proofs.iterator.Pairs.{on_err}
use Rattle.front_parts.proofs.Options.{where-none, where-some}
use Rattle.front_parts.proofs.places.Found.{asked_by, found_by}
use Rattle.front_parts.specs.Places.Calls.{hash_in, ways_by}
use Rattle.front_state.proofs.Steady.{all_parts, called_hash, looking_keeps, open_part, same_part, stays_steady, untouched, untouched_keeps}
use Rattle.front_state.proofs.state.LentState.get_unless.Goals as goal

pub part_mut-part-requires : goal.part_mut-part-requires
part_mut-part-requires g c =
    all_parts (ways_by g.R.Rules g.K.PartialEq.eq g.K.Hash.hash_input g.S.BuildHasher g.S.Hasher.Hasher) _ c.self.invariant

pub get_with_hash_unless-requires-clause-hashed : goal.get_with_hash_unless-requires-clause-hashed
get_with_hash_unless-requires-clause-hashed g c =
    let ways = (ways_by g.R.Rules g.K.PartialEq.eq g.K.Hash.hash_input g.S.BuildHasher g.S.Hasher.Hasher) in
    let key = g.Q.Names.named_key c.args.key.now in
    let is = c.requires.hashed ∙ ap (λ f. hash_in ways f key) (sym c.self.view_is) in
    (open_part ways _ c.args.hash key c.part_mut-part.result.now c.self.invariant is c.part_mut-part.ensures.there).hashed

pub invariant_of-self : goal.invariant_of-self
invariant_of-self g c =
    let ways = (ways_by g.R.Rules g.K.PartialEq.eq g.K.Hash.hash_input g.S.BuildHasher g.S.Hasher.Hasher) in
    untouched_keeps ways _ c.args.hash c.part_mut-part.result.now c.get_with_hash_unless.new.self c.part_mut-part.ensures.there c.in_err-ignored.ensures.err c.self.invariant

pub returns-in_err-ignored-clause-err : goal.returns-in_err-ignored-clause-err
returns-in_err-ignored-clause-err g c =
    let ways = (ways_by g.R.Rules g.K.PartialEq.eq g.K.Hash.hash_input g.S.BuildHasher g.S.Hasher.Hasher) in
    on_err _ c.from_residual.result (untouched ways _ c.args.hash c.part_mut-part.result.now c.get_with_hash_unless.new.self c.part_mut-part.ensures.there c.in_err-ignored.ensures.err ∙ c.self.view_is)

pub invariant_of-self-in-Some : goal.invariant_of-self-in-Some
invariant_of-self-in-Some g c =
    let ways = (ways_by g.R.Rules g.K.PartialEq.eq g.K.Hash.hash_input g.S.BuildHasher g.S.Hasher.Hasher) in
    let key = g.Q.Names.named_key c.args.key.now in
    let is = c.requires.hashed ∙ ap (λ f. hash_in ways f key) (sym c.self.view_is) in
    stays_steady ways _ c.args.self.now c.args.at.now c.args.at.step c.args.hash key _ c.part_mut-part.result.now c.get_with_hash_unless.new.self c.self.view_is c.requires.follows is (looking_keeps ways g.met.K.Eq.laws key c.args.hash c.args.at.now c.args.at.step c.in_ok-ignored.ignored) c.part_mut-part.ensures.there (where-some _ _ _ _ c.in-Some.is c.in_ok-ignored.ensures.used) c.self.invariant

pub invariant_of-self-in-None : goal.invariant_of-self-in-None
invariant_of-self-in-None g c =
    let ways = (ways_by g.R.Rules g.K.PartialEq.eq g.K.Hash.hash_input g.S.BuildHasher g.S.Hasher.Hasher) in
    untouched_keeps ways _ c.args.hash c.part_mut-part.result.now c.get_with_hash_unless.new.self c.part_mut-part.ensures.there (where-none _ _ _ c.in-None.is c.in_ok-ignored.ensures.used) c.self.invariant

pub returns-in-Some-clause-asked : goal.returns-in-Some-clause-asked
returns-in-Some-clause-asked g c =
    let ways = (ways_by g.R.Rules g.K.PartialEq.eq g.K.Hash.hash_input g.S.BuildHasher g.S.Hasher.Hasher) in
    asked_by ways _ c.part_mut-part.result.now _ _ _ (same_part ways _ c.args.self.now c.args.hash c.part_mut-part.result.now c.self.view_is c.part_mut-part.ensures.there) c.in_ok-ignored.ensures.asked

pub returns-in-None-clause-asked : goal.returns-in-None-clause-asked
returns-in-None-clause-asked g c =
    let ways = (ways_by g.R.Rules g.K.PartialEq.eq g.K.Hash.hash_input g.S.BuildHasher g.S.Hasher.Hasher) in
    asked_by ways _ c.part_mut-part.result.now _ _ _ (same_part ways _ c.args.self.now c.args.hash c.part_mut-part.result.now c.self.view_is c.part_mut-part.ensures.there) c.in_ok-ignored.ensures.asked

pub returns-in-Some-clause-found : goal.returns-in-Some-clause-found
returns-in-Some-clause-found g c =
    let ways = (ways_by g.R.Rules g.K.PartialEq.eq g.K.Hash.hash_input g.S.BuildHasher g.S.Hasher.Hasher) in
    found_by ways _ c.part_mut-part.result.now _ _ _ _ (same_part ways _ c.args.self.now c.args.hash c.part_mut-part.result.now c.self.view_is c.part_mut-part.ensures.there) (sym c.in-Some.is ∙ c.in_ok-ignored.ensures.found)

pub returns-in-None-clause-found : goal.returns-in-None-clause-found
returns-in-None-clause-found g c =
    let ways = (ways_by g.R.Rules g.K.PartialEq.eq g.K.Hash.hash_input g.S.BuildHasher g.S.Hasher.Hasher) in
    found_by ways _ c.part_mut-part.result.now _ _ _ _ (same_part ways _ c.args.self.now c.args.hash c.part_mut-part.result.now c.self.view_is c.part_mut-part.ensures.there) (sym c.in-None.is ∙ c.in_ok-ignored.ensures.found)

pub returns-in-Some-clause-used : goal.returns-in-Some-clause-used
returns-in-Some-clause-used g c =
    called_hash (ways_by g.R.Rules g.K.PartialEq.eq g.K.Hash.hash_input g.S.BuildHasher g.S.Hasher.Hasher) _ c.args.self.now c.args.at.now c.args.at.step c.args.hash _ c.part_mut-part.result.now c.get_with_hash_unless.new.self c.self.view_is c.part_mut-part.ensures.there (where-some _ _ _ _ c.in-Some.is c.in_ok-ignored.ensures.used)

pub returns-in-None-clause-used : goal.returns-in-None-clause-used
returns-in-None-clause-used g c =
    let ways = (ways_by g.R.Rules g.K.PartialEq.eq g.K.Hash.hash_input g.S.BuildHasher g.S.Hasher.Hasher) in
    untouched ways _ c.args.hash c.part_mut-part.result.now c.get_with_hash_unless.new.self c.part_mut-part.ensures.there (where-none _ _ _ c.in-None.is c.in_ok-ignored.ensures.used) ∙ c.self.view_is
