use Rattle.std.proofs.Common.{subst, sym, ap, ◌∙◌, arith}
use Rattle.engine_reference.specs.Scanning.{NotesLookUp}
use Rattle.engine_reference.specs.Rules.Hashing.{hash_of_key}
use Rattle.front_parts.proofs.Looked.{as_asked, insert-roomy, inserted-acts, roomy-hasher}
use Rattle.front_parts.proofs.coalesced.note_and_insert.Goals as goal

pub note_look_up-requires : goal.note_look_up-requires
note_look_up-requires g c = record {
  hashed = c.requires.hashed ∙ ap (λ h. hash_of_key g.S.Hasher.Hasher.finish g.S.Hasher.Hasher.write g.S.BuildHasher.build_hasher g.K.Hash.hash_input h c.args.key) (sym (ap (λ s. s.hasher) c.in_ok-reserve_insert.ensures.ok ∙ roomy-hasher c.args.part.now));
}

pub insert_reserved-requires-clause-hashed : goal.insert_reserved-requires-clause-hashed
insert_reserved-requires-clause-hashed g c =
    let a = g.R.Rules.answers in
    let looks = subst (λ x. NotesLookUp a g.K.PartialEq.eq c.args.key c.args.hash c.args.at.now c.args.ignored x c.note_look_up.new.self) c.in_ok-reserve_insert.ensures.ok c.note_look_up.ensures in
    let k = as_asked a g.K.PartialEq.eq c.args.key c.args.hash c.args.value c.args.at.now c.args.at.step c.args.ignored c.args.part.now c.note_look_up.new.self c.note_look_up.new.self looks in
    c.requires.hashed ∙ ap (λ h. hash_of_key g.S.Hasher.Hasher.finish g.S.Hasher.Hasher.write g.S.BuildHasher.build_hasher g.K.Hash.hash_input h c.args.key) (sym k.hasher)

pub insert_reserved-requires-clause-ready : goal.insert_reserved-requires-clause-ready
insert_reserved-requires-clause-ready g c =
    let a = g.R.Rules.answers in
    let looks = subst (λ x. NotesLookUp a g.K.PartialEq.eq c.args.key c.args.hash c.args.at.now c.args.ignored x c.note_look_up.new.self) c.in_ok-reserve_insert.ensures.ok c.note_look_up.ensures in
    let k = as_asked a g.K.PartialEq.eq c.args.key c.args.hash c.args.value c.args.at.now c.args.at.step c.args.ignored c.args.part.now c.note_look_up.new.self c.note_look_up.new.self looks in
    record { sent = k.unsent ∙ c.requires.ready.sent; room = let low = c.requires.ready.room in let few = k.few in omega (arith, low, few) }

pub insert_reserved-requires-clause-reserved : goal.insert_reserved-requires-clause-reserved
insert_reserved-requires-clause-reserved g c =
    let a = g.R.Rules.answers in
    let looks = subst (λ x. NotesLookUp a g.K.PartialEq.eq c.args.key c.args.hash c.args.at.now c.args.ignored x c.note_look_up.new.self) c.in_ok-reserve_insert.ensures.ok c.note_look_up.ensures in
    insert-roomy a g.K.PartialEq.eq c.args.key c.args.hash c.args.value c.args.at.now c.args.at.step c.args.ignored c.args.part.now c.note_look_up.new.self c.note_look_up.new.self looks

pub returns-clause-acts : goal.returns-clause-acts
returns-clause-acts g c =
    let a = g.R.Rules.answers in
    let looks = subst (λ x. NotesLookUp a g.K.PartialEq.eq c.args.key c.args.hash c.args.at.now c.args.ignored x c.note_look_up.new.self) c.in_ok-reserve_insert.ensures.ok c.note_look_up.ensures in
    inserted-acts a g.K.PartialEq.eq c.args.key c.args.hash c.args.value c.args.at.now c.args.at.step c.args.ignored c.args.part.now c.note_look_up.new.self c.insert_reserved.new.part looks c.insert_reserved.ensures
