use Rattle.std.proofs.Common.{◌∙◌, ap, subst, sym}
use Rattle.front_reference.specs.Parts.{Inserts}
use Rattle.front_parts.specs.Places.Calls.{hash_in, ways_by}
use Rattle.front_state.proofs.Seen.{cause_of_key}
use Rattle.front_state.proofs.Steady.{all_parts, called_key, inserting_keeps, open_part, stays_steady, untouched, untouched_keeps}
use Rattle.front_state.proofs.state.LentState.insert_with_hash.Goals as goal

pub part_mut-part-requires : goal.part_mut-part-requires
part_mut-part-requires g c =
    all_parts (ways_by g.R.Rules g.K.PartialEq.eq g.K.Hash.hash_input g.S.BuildHasher g.S.Hasher.Hasher) _ c.self.invariant

pub insert-requires-clause-hashed : goal.insert-requires-clause-hashed
insert-requires-clause-hashed g c =
    let ways = (ways_by g.R.Rules g.K.PartialEq.eq g.K.Hash.hash_input g.S.BuildHasher g.S.Hasher.Hasher) in
    let key = g.Q.Names.named_key c.args.name in
    let is = c.requires.hashed ∙ ap (λ f. hash_in ways f key) (sym c.self.view_is) in
    let own = is ∙ ap (λ k. ways.hash c.self.inside.hasher k) (sym c.in_ok-key.ensures) in
    (open_part ways _ c.args.hash c.in_ok-key.key c.part_mut-part.result.now c.self.invariant own c.part_mut-part.ensures.there).hashed

pub insert-requires-clause-ready : goal.insert-requires-clause-ready
insert-requires-clause-ready g c =
    let ways = (ways_by g.R.Rules g.K.PartialEq.eq g.K.Hash.hash_input g.S.BuildHasher g.S.Hasher.Hasher) in
    let key = g.Q.Names.named_key c.args.name in
    let is = c.requires.hashed ∙ ap (λ f. hash_in ways f key) (sym c.self.view_is) in
    let own = is ∙ ap (λ k. ways.hash c.self.inside.hasher k) (sym c.in_ok-key.ensures) in
    (open_part ways _ c.args.hash c.in_ok-key.key c.part_mut-part.result.now c.self.invariant own c.part_mut-part.ensures.there).ready

pub invariant_of-self : goal.invariant_of-self
invariant_of-self g c =
    let ways = (ways_by g.R.Rules g.K.PartialEq.eq g.K.Hash.hash_input g.S.BuildHasher g.S.Hasher.Hasher) in
    let key = g.Q.Names.named_key c.args.name in
    let is = c.requires.hashed ∙ ap (λ f. hash_in ways f key) (sym c.self.view_is) in
    let own = is ∙ ap (λ k. ways.hash c.self.inside.hasher k) (sym c.in_ok-key.ensures) in
    stays_steady ways _ c.args.self.now c.args.at.now c.args.at.step c.args.hash c.in_ok-key.key _ c.part_mut-part.result.now c.insert.new.part c.self.view_is c.requires.follows own (inserting_keeps ways g.met.K.Eq.laws c.in_ok-key.key c.args.hash c.args.value c.args.at.now c.args.at.step) c.part_mut-part.ensures.there c.in-Ok.ensures.inserts c.self.invariant

pub returns-in-Ok-clause-inserts : goal.returns-in-Ok-clause-inserts
returns-in-Ok-clause-inserts g c =
    let ways = (ways_by g.R.Rules g.K.PartialEq.eq g.K.Hash.hash_input g.S.BuildHasher g.S.Hasher.Hasher) in
    let key = g.Q.Names.named_key c.args.name in
    let is = c.requires.hashed ∙ ap (λ f. hash_in ways f key) (sym c.self.view_is) in
    let own = is ∙ ap (λ k. ways.hash c.self.inside.hasher k) (sym c.in_ok-key.ensures) in
    called_key ways _ c.args.self.now c.args.at.now c.args.at.step c.args.hash key (λ n. Inserts ways.answers ways.eq key n c.args.value c.args.at.now c.args.at.step) c.part_mut-part.result.now c.insert.new.part c.self.view_is is c.part_mut-part.ensures.there
    (subst (λ k. Inserts ways.answers ways.eq k c.args.hash c.args.value c.args.at.now c.args.at.step c.part_mut-part.result.now c.insert.new.part) c.in_ok-key.ensures c.in-Ok.ensures.inserts)

pub invariant_of-self-in-Err : goal.invariant_of-self-in-Err
invariant_of-self-in-Err g c =
    let ways = (ways_by g.R.Rules g.K.PartialEq.eq g.K.Hash.hash_input g.S.BuildHasher g.S.Hasher.Hasher) in
    untouched_keeps ways _ c.args.hash c.part_mut-part.result.now c.insert.new.part c.part_mut-part.ensures.there c.in-Err.ensures.err c.self.invariant

pub returns-in-Err-clause-err : goal.returns-in-Err-clause-err
returns-in-Err-clause-err g c =
    let ways = (ways_by g.R.Rules g.K.PartialEq.eq g.K.Hash.hash_input g.S.BuildHasher g.S.Hasher.Hasher) in
    untouched ways _ c.args.hash c.part_mut-part.result.now c.insert.new.part c.part_mut-part.ensures.there c.in-Err.ensures.err ∙ c.self.view_is

pub returns-in-Err-clause-cause : goal.returns-in-Err-clause-cause
returns-in-Err-clause-cause g c =
    let ways = (ways_by g.R.Rules g.K.PartialEq.eq g.K.Hash.hash_input g.S.BuildHasher g.S.Hasher.Hasher) in
    let key = g.Q.Names.named_key c.args.name in
    let is = c.requires.hashed ∙ ap (λ f. hash_in ways f key) (sym c.self.view_is) in
    let own = is ∙ ap (λ k. ways.hash c.self.inside.hasher k) (sym c.in_ok-key.ensures) in
    cause_of_key ways _ c.args.self.now c.args.hash key c.part_mut-part.result.now c.self.view_is is c.part_mut-part.ensures.there (λ _. 1) c.in-Err.refused c.in-Err.ensures.cause
