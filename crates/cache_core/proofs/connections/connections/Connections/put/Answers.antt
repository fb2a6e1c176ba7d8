use Rattle.std.proofs.Common.{refl, ap, ◌∙◌, arith, slice_set}
use Rattle.std.proofs.lemmas.Option.{slice_get_within}
use Rattle.cache_core.specs.Connections.Presence.{Here, Out}
use Rattle.cache_core.proofs.connections.Getting.{at-place}
use Rattle.cache_core.proofs.connections.Saying.{changed, changed-settled, resident-in, small-out}
use Rattle.cache_core.proofs.connections.connections.Connections.put.Goals as goal

pub index_mut-resident-requires : goal.index_mut-resident-requires
index_mut-resident-requires c =
    let within = slice_get_within c.args.self.now c.args.index Out c.requires in
    let small = small-out c.self.inside.residents.items c.self.inside.words c.args.self.now c.self.view_is c.args.index c.find-word.result c.requires c.find-word.ensures in
    let inside = resident-in c.self.inside.residents.items c.self.inside.words c.args.self.now c.self.view_is c.args.index c.find-word.result c.self.invariant c.find-word.ensures small in
    omega (arith, inside, c.self.inside.residents.ok.0)

pub invariant_of-self : goal.invariant_of-self
invariant_of-self c =
    let rs = c.self.inside.residents.items in
    let w = c.find-word.result in
    let r = c.index_mut-resident.result.now in
    let within = slice_get_within c.args.self.now c.args.index Out c.requires in
    let small = small-out c.self.inside.residents.items c.self.inside.words c.args.self.now c.self.view_is c.args.index c.find-word.result c.requires c.find-word.ensures in
    let inside = resident-in c.self.inside.residents.items c.self.inside.words c.args.self.now c.self.view_is c.args.index c.find-word.result c.self.invariant c.find-word.ensures small in
    changed-settled rs c.self.inside.words w r _ c.self.invariant (at-place rs w r inside c.index_mut-resident.ensures.value) refl

pub returns : goal.returns
returns c =
    let i = c.args.index in
    let within = slice_get_within c.args.self.now i Out c.requires in
    let small = small-out c.self.inside.residents.items c.self.inside.words c.args.self.now c.self.view_is c.args.index c.find-word.result c.requires c.find-word.ensures in
    changed c.self.inside.residents.items c.self.inside.words i c.find-word.result _ c.self.invariant c.find-word.ensures small
    ∙ ap (λ ps. slice_set ps i (Here c.args.connection)) c.self.view_is
