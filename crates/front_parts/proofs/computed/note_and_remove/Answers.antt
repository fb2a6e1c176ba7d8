use Rattle.std.proofs.Common.{ap, sym, ◌∙◌, arith}
use Rattle.engine_reference.specs.Rules.Hashing.{hash_of_key}
use Rattle.engine_reference.specs.Records.{held_at}
use Rattle.front_parts.proofs.HeldAfter.{finds, removes-some, removes-none, removal_room-hasher}
use Rattle.front_parts.proofs.computed.note_and_remove.Goals as goal

pub note_look_up-requires : goal.note_look_up-requires
note_look_up-requires g c = record {
  hashed = c.requires.hashed ∙ ap (λ h. hash_of_key g.S.Hasher.Hasher.finish g.S.Hasher.Hasher.write g.S.BuildHasher.build_hasher g.K.Hash.hash_input h (g.Q.Names.named_key c.args.key.now))
      (sym (ap (λ s. s.hasher) c.in_ok-prepared.ensures.ok ∙ removal_room-hasher (held_at g.K.PartialEq.eq c.args.part.now.records (g.Q.Names.named_key c.args.key.now)) c.args.part.now));
}

pub take_out-requires-clause-hashed : goal.take_out-requires-clause-hashed
take_out-requires-clause-hashed g c =
    let key = g.Q.Names.named_key c.args.key.now in
    let f = finds g.R.Rules.answers g.K.PartialEq.eq g.met.K.Eq.laws key c.args.hash c.args.at.now c.args.at.step c.args.part.now c.prepare.new.part c.note_look_up.new.self c.requires.apart
    c.in-Some.parts c.in_ok-shown.shown c.in_ok-prepared.ensures.ok (sym c.in-Some.is ∙ c.in_ok-prepared.ensures.parts) c.in_ok-shown.ensures c.note_look_up.ensures in
    c.requires.hashed ∙ ap (λ h. hash_of_key g.S.Hasher.Hasher.finish g.S.Hasher.Hasher.write g.S.BuildHasher.build_hasher g.K.Hash.hash_input h key) (sym f.hasher)

pub take_out-requires-clause-ready : goal.take_out-requires-clause-ready
take_out-requires-clause-ready g c =
    let key = g.Q.Names.named_key c.args.key.now in
    let f = finds g.R.Rules.answers g.K.PartialEq.eq g.met.K.Eq.laws key c.args.hash c.args.at.now c.args.at.step c.args.part.now c.prepare.new.part c.note_look_up.new.self c.requires.apart
    c.in-Some.parts c.in_ok-shown.shown c.in_ok-prepared.ensures.ok (sym c.in-Some.is ∙ c.in_ok-prepared.ensures.parts) c.in_ok-shown.ensures c.note_look_up.ensures in
    record { sent = f.unsent ∙ c.requires.ready.sent; room = let low = c.requires.ready.room in let few = f.few in omega (arith, low, few) }

pub take_out-requires-clause-reserved : goal.take_out-requires-clause-reserved
take_out-requires-clause-reserved g c =
    let key = g.Q.Names.named_key c.args.key.now in
    let f = finds g.R.Rules.answers g.K.PartialEq.eq g.met.K.Eq.laws key c.args.hash c.args.at.now c.args.at.step c.args.part.now c.prepare.new.part c.note_look_up.new.self c.requires.apart
    c.in-Some.parts c.in_ok-shown.shown c.in_ok-prepared.ensures.ok (sym c.in-Some.is ∙ c.in_ok-prepared.ensures.parts) c.in_ok-shown.ensures c.note_look_up.ensures in
    f.reserved

pub take_out-requires-clause-parts : goal.take_out-requires-clause-parts
take_out-requires-clause-parts g c =
    let key = g.Q.Names.named_key c.args.key.now in
    let f = finds g.R.Rules.answers g.K.PartialEq.eq g.met.K.Eq.laws key c.args.hash c.args.at.now c.args.at.step c.args.part.now c.prepare.new.part c.note_look_up.new.self c.requires.apart
    c.in-Some.parts c.in_ok-shown.shown c.in_ok-prepared.ensures.ok (sym c.in-Some.is ∙ c.in_ok-prepared.ensures.parts) c.in_ok-shown.ensures c.note_look_up.ensures in
    f.own

pub take_out-requires-clause-shown : goal.take_out-requires-clause-shown
take_out-requires-clause-shown g c =
    let key = g.Q.Names.named_key c.args.key.now in
    let f = finds g.R.Rules.answers g.K.PartialEq.eq g.met.K.Eq.laws key c.args.hash c.args.at.now c.args.at.step c.args.part.now c.prepare.new.part c.note_look_up.new.self c.requires.apart
    c.in-Some.parts c.in_ok-shown.shown c.in_ok-prepared.ensures.ok (sym c.in-Some.is ∙ c.in_ok-prepared.ensures.parts) c.in_ok-shown.ensures c.note_look_up.ensures in
    f.told

pub returns-in-Some-clause-removes : goal.returns-in-Some-clause-removes
returns-in-Some-clause-removes g c =
    let a = g.R.Rules.answers in
    let key = g.Q.Names.named_key c.args.key.now in
    let f = finds a g.K.PartialEq.eq g.met.K.Eq.laws key c.args.hash c.args.at.now c.args.at.step c.args.part.now c.prepare.new.part c.note_look_up.new.self c.requires.apart
    c.in-Some.parts c.in_ok-shown.shown c.in_ok-prepared.ensures.ok (sym c.in-Some.is ∙ c.in_ok-prepared.ensures.parts) c.in_ok-shown.ensures c.note_look_up.ensures in
    removes-some a g.K.PartialEq.eq g.met.K.Eq.laws key c.args.hash c.args.at.now c.args.at.step c.args.part.now c.prepare.new.part c.note_look_up.new.self c.requires.apart
    c.in-Some.parts c.in_ok-shown.shown c.take_out.new.part c.take_out.result f c.take_out.ensures.takes_out c.take_out.ensures.value

pub returns-in-None-clause-removes : goal.returns-in-None-clause-removes
returns-in-None-clause-removes g c =
    let a = g.R.Rules.answers in
    let key = g.Q.Names.named_key c.args.key.now in
    removes-none a g.K.PartialEq.eq g.met.K.Eq.laws key c.args.hash c.args.at.now c.args.at.step c.args.part.now c.prepare.new.part c.note_look_up.new.self c.requires.apart
    c.in_ok-prepared.ensures.ok (sym c.in-None.is ∙ c.in_ok-prepared.ensures.parts) c.note_look_up.ensures
