use Rattle.std.proofs.Common.{◌∙◌, ap, sym, subst, Ok, Err, false}
use Rattle.front_parts.specs.Showing.{IsShown}
use Rattle.front_parts.specs.Places.Calls.{hash_in, ways_by}
use Rattle.front_state.proofs.Seen.{sees_visible}
use Rattle.front_state.proofs.Steady.{all_parts, comes_still, looking_keeps, open_part, stays_steady, touched, untouched, untouched_keeps}
use Rattle.front_state.proofs.state.LentState.look_up_with_hash.Goals as goal

pub part_mut-part-requires : goal.part_mut-part-requires
part_mut-part-requires g c =
    all_parts (ways_by g.R.Rules g.K.PartialEq.eq g.K.Hash.hash_input g.S.BuildHasher g.S.Hasher.Hasher) _ c.self.invariant

pub look_up_with_hash-requires-clause-hashed : goal.look_up_with_hash-requires-clause-hashed
look_up_with_hash-requires-clause-hashed g c =
    let ways = (ways_by g.R.Rules g.K.PartialEq.eq g.K.Hash.hash_input g.S.BuildHasher g.S.Hasher.Hasher) in
    let key = c.args.key.now in
    let is = c.requires.hashed ∙ ap (λ f. hash_in ways f key) (sym c.self.view_is) in
    (open_part ways _ c.args.hash key c.part_mut-part.result.now c.self.invariant is c.part_mut-part.ensures.there).hashed

pub invariant_of-self : goal.invariant_of-self
invariant_of-self g c =
    let ways = (ways_by g.R.Rules g.K.PartialEq.eq g.K.Hash.hash_input g.S.BuildHasher g.S.Hasher.Hasher) in
    let key = c.args.key.now in
    let is = c.requires.hashed ∙ ap (λ f. hash_in ways f key) (sym c.self.view_is) in
    stays_steady ways _ c.args.self.now c.args.now c.self.inside.step c.args.hash key _ c.part_mut-part.result.now c.look_up_with_hash.new.self c.self.view_is (comes_still ways _ c.args.self.now c.args.now c.self.view_is c.requires.later) is (looking_keeps ways g.met.K.Eq.laws key c.args.hash c.args.now c.self.inside.step false) c.part_mut-part.ensures.there c.in-Ok.ensures.used c.self.invariant

pub returns-in-Ok-clause-used : goal.returns-in-Ok-clause-used
returns-in-Ok-clause-used g c =
    let ways = (ways_by g.R.Rules g.K.PartialEq.eq g.K.Hash.hash_input g.S.BuildHasher g.S.Hasher.Hasher) in
    let key = c.args.key.now in
    let is = c.requires.hashed ∙ ap (λ f. hash_in ways f key) (sym c.self.view_is) in
    touched ways _ c.args.self.now c.args.now c.args.hash key c.part_mut-part.result.now c.look_up_with_hash.new.self c.self.view_is is c.part_mut-part.ensures.there c.in-Ok.ensures.used

pub returns-in-Ok-clause-shown : goal.returns-in-Ok-clause-shown
returns-in-Ok-clause-shown g c =
    let ways = (ways_by g.R.Rules g.K.PartialEq.eq g.K.Hash.hash_input g.S.BuildHasher g.S.Hasher.Hasher) in
    let key = c.args.key.now in
    let is = c.requires.hashed ∙ ap (λ f. hash_in ways f key) (sym c.self.view_is) in
    subst (λ v. IsShown g.F.FnOnce c.args.see v c.args.output.now (Ok c.in-Ok.answer) c.look_up_with_hash.new.output) (sees_visible ways _ c.args.self.now c.args.hash key c.part_mut-part.result.now c.self.view_is is c.part_mut-part.ensures.there c.args.now) c.in-Ok.ensures.shown

pub invariant_of-self-in-Err : goal.invariant_of-self-in-Err
invariant_of-self-in-Err g c =
    let ways = (ways_by g.R.Rules g.K.PartialEq.eq g.K.Hash.hash_input g.S.BuildHasher g.S.Hasher.Hasher) in
    untouched_keeps ways _ c.args.hash c.part_mut-part.result.now c.look_up_with_hash.new.self c.part_mut-part.ensures.there c.in-Err.ensures.err c.self.invariant

pub returns-in-Err-clause-shown : goal.returns-in-Err-clause-shown
returns-in-Err-clause-shown g c =
    let ways = (ways_by g.R.Rules g.K.PartialEq.eq g.K.Hash.hash_input g.S.BuildHasher g.S.Hasher.Hasher) in
    let key = c.args.key.now in
    let is = c.requires.hashed ∙ ap (λ f. hash_in ways f key) (sym c.self.view_is) in
    subst (λ v. IsShown g.F.FnOnce c.args.see v c.args.output.now (Err c.in-Err.error) c.look_up_with_hash.new.output) (sees_visible ways _ c.args.self.now c.args.hash key c.part_mut-part.result.now c.self.view_is is c.part_mut-part.ensures.there c.args.now) c.in-Err.ensures.shown

pub returns-in-Err-clause-err : goal.returns-in-Err-clause-err
returns-in-Err-clause-err g c =
    let ways = (ways_by g.R.Rules g.K.PartialEq.eq g.K.Hash.hash_input g.S.BuildHasher g.S.Hasher.Hasher) in
    untouched ways _ c.args.hash c.part_mut-part.result.now c.look_up_with_hash.new.self c.part_mut-part.ensures.there c.in-Err.ensures.err ∙ c.self.view_is
