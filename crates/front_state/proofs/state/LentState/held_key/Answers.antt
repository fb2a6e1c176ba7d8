use Rattle.std.proofs.Common.{◌∙◌, ◌≡◌, ap, subst, sym, true, IfSome}
use Rattle.std.proofs.lemmas.Result.{IfOk-weaker}
use Rattle.front_parts.proofs.places.HeldKey.{held_named}
use Rattle.front_parts.specs.Places.Calls.{hash_in, part_with, ways_by}
use Rattle.front_state.proofs.Seen.{sees_key}
use Rattle.front_state.proofs.Steady.{all_parts, open_part}
use Rattle.front_state.proofs.state.LentState.held_key.Goals as goal

pub part_ref-part-requires : goal.part_ref-part-requires
part_ref-part-requires g c =
    all_parts (ways_by g.R.Rules g.K.PartialEq.eq g.K.Hash.hash_input g.S.BuildHasher g.S.Hasher.Hasher) _ c.self.invariant

pub get_key_with_hash-requires-clause-hashed : goal.get_key_with_hash-requires-clause-hashed
get_key_with_hash-requires-clause-hashed g c =
    let ways = (ways_by g.R.Rules g.K.PartialEq.eq g.K.Hash.hash_input g.S.BuildHasher g.S.Hasher.Hasher) in
    let key = c.args.key.now in
    let is = c.requires.hashed ∙ ap (λ f. hash_in ways f key) (sym c.self.view_is) in
    (open_part ways _ c.args.hash key c.part_ref-part.result.now c.self.invariant is c.part_ref-part.ensures).hashed

pub get_key_with_hash-requires-clause-exact_key : goal.get_key_with_hash-requires-clause-exact_key
get_key_with_hash-requires-clause-exact_key g c = λ x y same. same

pub returns-clause-found : goal.returns-clause-found
returns-clause-found g c =
    let ways = (ways_by g.R.Rules g.K.PartialEq.eq g.K.Hash.hash_input g.S.BuildHasher g.S.Hasher.Hasher) in
    let key = c.args.key.now in
    let is = c.requires.hashed ∙ ap (λ f. hash_in ways f key) (sym c.self.view_is) in
    IfOk-weaker c.get_key_with_hash.result _ _ (λ found e. e ∙ sees_key ways _ c.args.self.now c.args.hash key c.part_ref-part.result.now c.self.view_is is c.part_ref-part.ensures) c.get_key_with_hash.ensures

pub returns-clause-equal : goal.returns-clause-equal
returns-clause-equal g c =
    let ways = (ways_by g.R.Rules g.K.PartialEq.eq g.K.Hash.hash_input g.S.BuildHasher g.S.Hasher.Hasher) in
    let key = c.args.key.now in
    let is = c.requires.hashed ∙ ap (λ f. hash_in ways f key) (sym c.self.view_is) in
    IfOk-weaker c.get_key_with_hash.result _ _ (λ found e. subst (λ f. IfSome f (λ held. g.K.PartialEq.eq key held ≡ true)) (sym (e ∙ sees_key ways _ c.args.self.now c.args.hash key c.part_ref-part.result.now c.self.view_is is c.part_ref-part.ensures)) (held_named ways (part_with ways c.args.self.now key) key)) c.get_key_with_hash.ensures
