use Rattle.std.proofs.Common.{sym, ap, ◌∙◌, arith, Some, None}
use Rattle.std.specs.Option.{option_map_or}
use Rattle.cache_core.specs.Connections.Presence.{closing_of_presence}
use Rattle.cache_core.specs.Connections.Residents.{held_or_out}
use Rattle.cache_core.proofs.connections.Saying.{held-in, resident-in}
use Rattle.cache_core.proofs.connections.connections.Connections.closing.Goals as goal

pub index-requires : goal.index-requires
index-requires c =
    let inside = resident-in c.self.inside.residents.items c.self.inside.words c.args.self.now c.self.view_is c.args.index c.find-word.result c.self.invariant c.find-word.ensures c.if-word-ge-FIRST_REASON.false in
    omega (arith, inside, c.self.inside.residents.ok.0)

pub returns-in-Some : goal.returns-in-Some
returns-in-Some c =
    let held = held-in c.self.inside.residents.items c.self.inside.words c.args.self.now c.self.view_is c.args.index c.find-word.result c.self.invariant c.index.result.now c.find-word.ensures c.if-word-ge-FIRST_REASON.false c.index.ensures in
    sym (ap (λ o. option_map_or closing_of_presence o None) (held ∙ ap (λ o. Some (held_or_out o)) c.in-Some.is))

pub returns-in-None : goal.returns-in-None
returns-in-None c =
    let held = held-in c.self.inside.residents.items c.self.inside.words c.args.self.now c.self.view_is c.args.index c.find-word.result c.self.invariant c.index.result.now c.find-word.ensures c.if-word-ge-FIRST_REASON.false c.index.ensures in
    sym (ap (λ o. option_map_or closing_of_presence o None) (held ∙ ap (λ o. Some (held_or_out o)) c.in-None.is))
