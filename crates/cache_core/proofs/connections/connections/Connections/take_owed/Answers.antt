use Rattle.std.proofs.Common.{refl, sym, ap, ◌∙◌, arith, ◌-◌, Some, slice_set}
use Rattle.cache_core.specs.Connections.Presence.{Gone}
use Rattle.cache_core.specs.Connections.Residents.{first_reason, held_or_out, reason_numbered}
use Rattle.cache_core.proofs.connections.Getting.{at-place, set-same}
use Rattle.cache_core.proofs.connections.Saying.{by-reason, changed, changed-settled, held-in, resident-in, said-in}
use Rattle.cache_core.proofs.connections.connections.Connections.take_owed.Goals as goal

pub index_mut-requires : goal.index_mut-requires
index_mut-requires c =
    let inside = resident-in c.self.inside.residents.items c.self.inside.words c.args.self.now c.self.view_is c.args.index c.find-word.result c.self.invariant c.find-word.ensures c.if-word-ge-FIRST_REASON.false in
    omega (arith, inside, c.self.inside.residents.ok.0)

pub invariant_of-self : goal.invariant_of-self
invariant_of-self c =
    let rs = c.self.inside.residents.items in
    let ws = c.self.inside.words in
    let w = c.find-word.result in
    let inside = resident-in rs ws c.args.self.now c.self.view_is c.args.index w c.self.invariant c.find-word.ensures c.if-word-ge-FIRST_REASON.false in
    changed-settled rs ws w c.index_mut.result.now _ c.self.invariant (at-place rs w c.index_mut.result.now inside c.index_mut.ensures.value) c.take_held.ensures.place

pub returns-then-word-ge-FIRST_REASON : goal.returns-then-word-ge-FIRST_REASON
returns-then-word-ge-FIRST_REASON c =
    let w = c.find-word.result in
    let why = reason_numbered (w - first_reason) in
    let said = said-in c.self.inside.residents.items c.self.inside.words c.args.self.now c.self.view_is c.args.index w c.find-word.ensures ∙ ap Some (by-reason c.self.inside.residents.items w c.if-word-ge-FIRST_REASON.true) in
    record {
      was = Gone why;
      is = Gone why;
      at = said;
      set = sym (set-same c.args.self.now c.args.index (Gone why) said);
      left = refl;
      owed = record { replies = c.new.ensures.items; closing = ap Some c.reason_of.ensures; waits = refl };
    }

pub returns : goal.returns
returns c =
    let rs = c.self.inside.residents.items in
    let ws = c.self.inside.words in
    let w = c.find-word.result in
    let small = c.if-word-ge-FIRST_REASON.false in
    record {
      was = held_or_out c.index_mut.result.now.connection;
      is = held_or_out c.take_held.new.resident.connection;
      at = held-in rs ws c.args.self.now c.self.view_is c.args.index w c.self.invariant c.index_mut.result.now c.find-word.ensures small c.index_mut.ensures.value;
      set = changed rs ws c.args.index w _ c.self.invariant c.find-word.ensures small ∙ ap (λ ps. slice_set ps c.args.index (held_or_out c.take_held.new.resident.connection)) c.self.view_is;
      left = c.take_held.ensures.left;
      owed = c.take_held.ensures.owed;
    }
