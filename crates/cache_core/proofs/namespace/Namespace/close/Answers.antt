use Rattle.std.proofs.Common.{◌∙◌, ap, sym, subst, arith, [], None, false}
use Rattle.std.specs.Option.{option_map}
use Rattle.cache_core.specs.State.{IsBetweenEvents, state_of}
use Rattle.cache_core.specs.Turned.{RefusesBy, ContinuesBy}
use Rattle.cache_lines.specs.Tape.Taped.{finishes}
use Rattle.cache_lines.specs.declared.base.Base.{Base}
use Rattle.audit_model.specs.declared.event.Event.TheVariants as event
use Rattle.audit_model.specs.declared.input.ServiceError.TheVariants as error
use Rattle.cache_core.proofs.Opened.{kept-bare, left-is, order-close, turns-close}
use Rattle.cache_core.proofs.Orders.{closes-memory, state-retired}
use Rattle.cache_core.proofs.Spots.{closing-is}
use Rattle.cache_core.proofs.namespace.Namespace.close.Goals as goal

pub returns-in_default-clause-refused : goal.returns-in_default-clause-refused
returns-in_default-clause-refused g c =
    subst (λ n. RefusesBy g.S.Store.view n (event.Close c.args.number) false error.OutOfMemory) c.self.view_is
    (closes-memory g.S.Store.view c.self.inside.interior.base c.self.inside.latest c.args.number c.in_ok-index.index 0 c.self.inside.interior.connections [] (omega (arith, c.in_ok-index.ensures.place.0)) c.in_ok-index.ensures.place.1 c.in_ok-index.ensures.open)

pub invariant_of-self-2 : goal.invariant_of-self-2
invariant_of-self-2 g c =
    let inside = c.self.inside in
    let tape = g.T.Tape.view in
    let p = c.close_at.ensures in
    let kept = kept-bare (event.Close c.args.number) (tape inside.interior.base.tape) (tape c.start.new.self) (tape c.finish.new.self) c.self.invariant.rests c.in-Ok.ensures.started
    (c.finish.ensures ∙ ap (λ ns. option_map (finishes (event.Close c.args.number) None ns) (tape c.start.new.self)) c.new.ensures) in
    let behind : Base _ _ = record { store = inside.interior.base.store; loads = c.leave.new.self; tape = c.finish.new.self } in
    let retired = state-retired behind inside.latest c.in_ok-index.index c.close_at.new.connections c.retire.new.self c.retire.ensures in
    subst (λ n. IsBetweenEvents g.S.Store.view tape n) (sym retired)
    (order-close g.S.Store.view tape inside.interior.base c.leave.new.self c.finish.new.self inside.latest c.args.number c.in_ok-index.index inside.interior.connections c.close_at.new.connections p.0 (omega (arith, c.in_ok-index.ensures.place.0))
    (sym (closing-is inside.interior.connections c.in_ok-index.index p.0.was p.0.at) ∙ c.in_ok-index.ensures.open) p.1 p.2 (left-is inside.interior.base.loads c.leave.new.self c.args.number c.leave.ensures.sent c.leave.ensures.pending) kept c.sound.ensures c.self.invariant)

pub returns-clause-turned : goal.returns-clause-turned
returns-clause-turned g c =
    let inside = c.self.inside in
    let tape = g.T.Tape.view in
    let is_open = c.in_ok-index.ensures.open in
    let p = c.close_at.ensures in
    let kept = kept-bare (event.Close c.args.number) (tape inside.interior.base.tape) (tape c.start.new.self) (tape c.finish.new.self) c.self.invariant.rests c.in-Ok.ensures.started
    (c.finish.ensures ∙ ap (λ ns. option_map (finishes (event.Close c.args.number) None ns) (tape c.start.new.self)) c.new.ensures) in
    let behind : Base _ _ = record { store = inside.interior.base.store; loads = c.leave.new.self; tape = c.finish.new.self } in
    let retired = state-retired behind inside.latest c.in_ok-index.index c.close_at.new.connections c.retire.new.self c.retire.ensures in
    subst (λ n. ContinuesBy g.S.Store.view tape c.args.self.now n (event.Close c.args.number) false) (sym retired)
    (subst (λ n. ContinuesBy g.S.Store.view tape n (state_of (record { store = inside.interior.base.store; loads = c.leave.new.self; tape = c.finish.new.self }) inside.latest c.close_at.new.connections) (event.Close c.args.number) false) c.self.view_is
    (turns-close g.S.Store.view tape inside.interior.base c.leave.new.self c.finish.new.self inside.latest c.args.number c.in_ok-index.index inside.interior.connections c.close_at.new.connections p.0 (omega (arith, c.in_ok-index.ensures.place.0))
    (sym (closing-is inside.interior.connections c.in_ok-index.index p.0.was p.0.at) ∙ is_open) p.1 p.2 (left-is inside.interior.base.loads c.leave.new.self c.args.number c.leave.ensures.sent c.leave.ensures.pending) kept c.sound.ensures c.leave.ensures.goes))
