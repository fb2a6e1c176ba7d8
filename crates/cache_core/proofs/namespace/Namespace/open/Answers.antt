use Rattle.std.proofs.Common.{◌∙◌, ap, sym, subst, arith, ◌≡◌, ◌∷◌, [], None, false, suc, length}
use Rattle.std.proofs.lemmas.List.{length-append}
use Rattle.std.specs.Option.{option_map}
use Rattle.cache_core.specs.Connections.Presence.{Here}
use Rattle.cache_core.specs.State.{IsBetweenEvents, NamespaceState, state_of}
use Rattle.cache_core.specs.Turned.{ContinuesBy}
use Rattle.cache_lines.specs.Tape.Taped.{finishes}
use Rattle.audit_model.specs.declared.event.Event.TheVariants as event
use Rattle.cache_core.proofs.Opened.{count-open, kept-bare, order-open, turns-open}
use Rattle.cache_core.proofs.namespace.Namespace.open.Goals as goal

pub invariant_of-self-2 : goal.invariant_of-self-2
invariant_of-self-2 g c =
    let inside = c.self.inside in
    let tape = g.T.Tape.view in
    let made = c.new_connection.ensures in
    let kept = kept-bare (event.Open c.len-number.result) (tape inside.interior.base.tape) (tape c.start.new.self) (tape c.finish.new.self) c.self.invariant.rests c.in_ok-start.ensures.started
    (c.finish.ensures ∙ ap (λ ns. option_map (finishes (event.Open c.len-number.result) None ns) (tape c.start.new.self)) c.new.ensures) in
    let more = ap length c.in_default.ensures.pushed in
    let added = length-append inside.interior.connections (Here c.new_connection.result ∷ []) in
    let number_is : c.len-number.result ≡ suc (length inside.interior.connections) = omega (arith, c.len-number.ensures, more, added) in
    subst (λ xs. IsBetweenEvents g.S.Store.view tape (state_of (record { store = inside.interior.base.store; loads = inside.interior.base.loads; tape = c.finish.new.self }) inside.latest xs)) (sym c.in_default.ensures.pushed)
    (order-open g.S.Store.view tape inside.interior.base c.finish.new.self inside.latest c.len-number.result inside.interior.connections c.new_connection.result number_is made.standing made.unread made.output made.closing kept c.sound.ensures c.self.invariant)

pub returns-clause-turned : goal.returns-clause-turned
returns-clause-turned g c =
    let inside = c.self.inside in
    let view = g.S.Store.view in
    let tape = g.T.Tape.view in
    let cs = inside.interior.connections in
    let made = c.new_connection.ensures in
    let kept = kept-bare (event.Open c.len-number.result) (tape inside.interior.base.tape) (tape c.start.new.self) (tape c.finish.new.self) c.self.invariant.rests c.in_ok-start.ensures.started
    (c.finish.ensures ∙ ap (λ ns. option_map (finishes (event.Open c.len-number.result) None ns) (tape c.start.new.self)) c.new.ensures) in
    let pushed = c.in_default.ensures.pushed in
    let more = ap length pushed in
    let added = length-append cs (Here c.new_connection.result ∷ []) in
    let number_is : c.len-number.result ≡ suc (length cs) = omega (arith, c.len-number.ensures, more, added) in
    let count = count-open cs in
    let was_count = ap (λ (n : NamespaceState _ _). length n.closings) c.self.view_is in (
      omega (arith, number_is, count, was_count),
      subst (λ n. ContinuesBy view tape n (state_of (record { store = inside.interior.base.store; loads = inside.interior.base.loads; tape = c.finish.new.self }) inside.latest c.push.new.self) (event.Open c.len-number.result) false) c.self.view_is
          (subst (λ xs. ContinuesBy view tape (state_of inside.interior.base inside.latest cs) (state_of (record { store = inside.interior.base.store; loads = inside.interior.base.loads; tape = c.finish.new.self }) inside.latest xs) (event.Open c.len-number.result) false) (sym pushed)
          (turns-open view tape inside.interior.base c.finish.new.self inside.latest c.len-number.result cs c.new_connection.result number_is made.standing made.unread made.output made.closing kept c.sound.ensures)),
    )
