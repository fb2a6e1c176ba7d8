use Rattle.std.proofs.Common.{refl, sym, ap, ◌∙◌, Some, slice_set}
use Rattle.cache_core.specs.Connections.Presence.{Out}
use Rattle.cache_core.specs.Connections.Residents.{held_or_out, presences_of}
use Rattle.cache_core.proofs.connections.Getting.{at-place}
use Rattle.cache_core.proofs.connections.Saying.{changed, changed-settled, held-in, resident-in, small-here, within-here}
use Rattle.cache_core.proofs.connections.connections.Connections.take.Goals as goal

pub invariant_of-self : goal.invariant_of-self
invariant_of-self c =
    let rs = c.self.inside.residents.items in
    let ws = c.self.inside.words in
    let w = c.find-word.result in
    let r = c.index_mut-resident.result.now in
    let within = within-here c.args.self.now c.args.index c.requires in
    let small = small-here c.self.inside.residents.items c.self.inside.words c.args.self.now c.self.view_is c.args.index c.find-word.result c.requires c.find-word.ensures in
    let inside = resident-in c.self.inside.residents.items c.self.inside.words c.args.self.now c.self.view_is c.args.index c.find-word.result c.self.invariant c.find-word.ensures small in
    changed-settled rs ws w r _ c.self.invariant (at-place rs w r inside c.index_mut-resident.ensures.value) refl

pub returns : goal.returns
returns c =
    let rs = c.self.inside.residents.items in
    let ws = c.self.inside.words in
    let i = c.args.index in
    let within = within-here c.args.self.now i c.requires in
    let small = small-here c.self.inside.residents.items c.self.inside.words c.args.self.now c.self.view_is c.args.index c.find-word.result c.requires c.find-word.ensures in
    record {
      taken = held-in c.self.inside.residents.items c.self.inside.words c.args.self.now c.self.view_is c.args.index c.find-word.result c.self.invariant c.index_mut-resident.result.now c.find-word.ensures small c.index_mut-resident.ensures.value ∙ ap (λ o. Some (held_or_out o)) (sym c.in-Some.ensures.value);
      rest = changed rs ws i c.find-word.result _ c.self.invariant c.find-word.ensures small
          ∙ ap (λ o. slice_set (presences_of rs ws) i (held_or_out o)) c.in-Some.ensures.after ∙ ap (λ ps. slice_set ps i Out) c.self.view_is;
    }
