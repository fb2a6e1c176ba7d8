use Rattle.std.proofs.Common.{refl, sym, ap, ◌∙◌, subst, arith, ◌<◌, ◌-◌, Some, IfSome, slice_set}
use Rattle.cache_core.specs.Connections.Presence.{Gone}
use Rattle.cache_core.specs.Connections.Residents.{first_reason, held_or_out, reason_numbered}
use Rattle.cache_core.proofs.connections.Listed.{retired-same, retired-within}
use Rattle.cache_core.proofs.connections.Saying.{by-reason, held-in, resident-in, said-in}
use Rattle.cache_core.proofs.connections.connections.Connections.retire.Goals as goal

pub returns-then-word-ge-FIRST_REASON : goal.returns-then-word-ge-FIRST_REASON
returns-then-word-ge-FIRST_REASON c =
    let w = c.find-word.result in
    let said = said-in c.self.inside.residents.items c.self.inside.words c.args.self.now c.self.view_is c.args.index c.find-word.result c.find-word.ensures in
    sym (retired-same c.args.self.now c.args.index (Gone (reason_numbered (w - first_reason))) (said ∙ ap Some (by-reason c.self.inside.residents.items w c.if-word-ge-FIRST_REASON.true)) refl)

pub index-requires : goal.index-requires
index-requires c =
    let inside = resident-in c.self.inside.residents.items c.self.inside.words c.args.self.now c.self.view_is c.args.index c.find-word.result c.self.invariant c.find-word.ensures c.if-word-ge-FIRST_REASON.false in
    omega (arith, inside, c.self.inside.residents.ok.0)

pub remove_at-requires-clause-here : goal.remove_at-requires-clause-here
remove_at-requires-clause-here c =
    subst (λ o. IfSome o (λ word. word < first_reason)) (sym c.find-word.ensures) c.if-word-ge-FIRST_REASON.false

pub returns-in-Some : goal.returns-in-Some
returns-in-Some c =
    let ps = c.args.self.now in
    let i = c.args.index in
    let held = held-in c.self.inside.residents.items c.self.inside.words c.args.self.now c.self.view_is c.args.index c.find-word.result c.self.invariant c.index.result.now c.find-word.ensures c.if-word-ge-FIRST_REASON.false c.index.ensures in
    c.remove_at.ensures.gone ∙ ap (λ qs. slice_set qs i (Gone c.in-Some.why)) c.self.view_is ∙ sym (retired-within ps i (held_or_out c.index.result.now.connection) held ∙ ap (slice_set ps i) c.in-Some.ensures)

pub returns-in-None : goal.returns-in-None
returns-in-None c =
    let held = held-in c.self.inside.residents.items c.self.inside.words c.args.self.now c.self.view_is c.args.index c.find-word.result c.self.invariant c.index.result.now c.find-word.ensures c.if-word-ge-FIRST_REASON.false c.index.ensures in
    sym (retired-same c.args.self.now c.args.index (held_or_out c.index.result.now.connection) held c.in-None.ensures)
