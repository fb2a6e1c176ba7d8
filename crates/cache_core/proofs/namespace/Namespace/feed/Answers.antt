use Rattle.std.proofs.Common.{◌∙◌, sym, subst, arith, []}
use Rattle.audit_model.specs.Situation.{is_holding_in}
use Rattle.cache_core.specs.State.{IsBetweenEvents, situation_with, state_of}
use Rattle.cache_core.specs.Turned.{RefusesBy, ContinuesBy, feeding}
use Rattle.audit_model.specs.declared.input.ServiceError.TheVariants as error
use Rattle.cache_core.proofs.Follows.{fed-turns}
use Rattle.cache_core.proofs.Orders.{can-turn, refuses-late, refuses-memory, state-same, state-retired}
use Rattle.cache_core.proofs.namespace.Namespace.feed.Goals as goal

pub feed_at-requires-clause-can_turn : goal.feed_at-requires-clause-can_turn
feed_at-requires-clause-can_turn g c =
    let is = c.max-now.ensures in
    let h = c.if-moment-gt-MAX_MOMENT.false in
    can-turn g.S.Store.view g.T.Tape.view c.self.inside.interior.base c.self.inside.latest c.max-now.result c.in_ok-index.index c.self.inside.interior.connections c.self.invariant (omega (arith, is)) (omega (arith, is, c.self.invariant.moment, h)) c.in_ok-index.ensures.place.1

pub returns-in-Err-clause-unchanged : goal.returns-in-Err-clause-unchanged
returns-in-Err-clause-unchanged g c =
    state-same c.self.inside.interior.base c.feed_at.new.self.base c.self.inside.latest c.in_ok-index.index c.self.inside.interior.connections c.feed_at.new.self.connections c.in-Err.ensures.unchanged.0 c.in-Err.ensures.unchanged.1 c.in-Err.ensures.unchanged.2 ∙ c.self.view_is

pub invariant_of-self-in-Err : goal.invariant_of-self-in-Err
invariant_of-self-in-Err g c =
    let u = c.in-Err.ensures.unchanged in
    subst (λ n. IsBetweenEvents g.S.Store.view g.T.Tape.view n) (sym (state-same c.self.inside.interior.base c.feed_at.new.self.base c.self.inside.latest c.in_ok-index.index c.self.inside.interior.connections c.feed_at.new.self.connections u.0 u.1 u.2)) c.self.invariant

pub returns-then-moment-gt-MAX_MOMENT-clause-refused : goal.returns-then-moment-gt-MAX_MOMENT-clause-refused
returns-then-moment-gt-MAX_MOMENT-clause-refused g c =
    let inside = c.self.inside in
    let place = c.in_ok-index.ensures.place in
    let is_open = c.in_ok-index.ensures.open in
    let h = c.if-moment-gt-MAX_MOMENT.true in
    subst (λ n. RefusesBy g.S.Store.view n (feeding c.args.number c.args.piece.now c.args.moment.nanos) (is_holding_in (situation_with g.S.Store.view n []) c.args.number) error.Moment) c.self.view_is
    (refuses-late g.S.Store.view inside.interior.base inside.latest c.args.number c.in_ok-index.index c.args.moment.nanos inside.interior.connections c.args.piece.now (omega (arith, place.0)) place.1 is_open (is_holding_in (situation_with g.S.Store.view (state_of inside.interior.base inside.latest inside.interior.connections) []) c.args.number) (omega (arith, h)))

pub returns-in-Err-clause-refused : goal.returns-in-Err-clause-refused
returns-in-Err-clause-refused g c =
    let inside = c.self.inside in
    let place = c.in_ok-index.ensures.place in
    let is_open = c.in_ok-index.ensures.open in
    let h = c.if-moment-gt-MAX_MOMENT.false in
    subst (λ n. RefusesBy g.S.Store.view n (feeding c.args.number c.args.piece.now c.args.moment.nanos) (is_holding_in (situation_with g.S.Store.view n []) c.args.number) c.in-Err.error) c.self.view_is
    (refuses-memory g.S.Store.view inside.interior.base inside.latest c.args.number c.in_ok-index.index c.args.moment.nanos inside.interior.connections c.args.piece.now (omega (arith, place.0)) place.1 is_open c.in-Err.error (omega (arith, h)) c.in-Err.ensures.refused)

pub returns-in-Ok-clause-turned : goal.returns-in-Ok-clause-turned
returns-in-Ok-clause-turned g c =
    let inside = c.self.inside in
    let tape = g.T.Tape.view in
    let turn = c.in-Ok.ensures.turned in
    let h = c.if-moment-gt-MAX_MOMENT.false in
    let behind = record c.feed_at.new.self.base { loads = c.leave_closed.new.loads } in
    let retired = state-retired behind c.max-now.result c.in_ok-index.index c.feed_at.new.self.connections c.retire.new.self c.retire.ensures in
    subst (λ n. ContinuesBy g.S.Store.view tape c.args.self.now n (feeding c.args.number c.args.piece.now c.args.moment.nanos) c.in-Ok.is_held) (sym retired)
    (subst (λ n. ContinuesBy g.S.Store.view tape n (state_of (record c.feed_at.new.self.base { loads = c.leave_closed.new.loads }) c.max-now.result c.feed_at.new.self.connections) (feeding c.args.number c.args.piece.now c.args.moment.nanos) c.in-Ok.is_held) c.self.view_is
    (fed-turns g.S.Store.view tape inside.interior.base c.feed_at.new.self.base c.leave_closed.new.loads inside.latest c.max-now.result c.args.number c.in_ok-index.index c.args.moment.nanos inside.interior.connections c.feed_at.new.self.connections c.args.piece.now c.in-Ok.is_held turn.0
    c.in_ok-index.ensures.place.0 c.max-now.ensures c.in_ok-index.ensures.open (omega (arith, h)) c.self.invariant c.sound.ensures c.sound-in-Ok.ensures c.leave_closed.ensures.left c.in-Ok.ensures.goes c.leave_closed.ensures.goes turn.1).0)

pub invariant_of-self : goal.invariant_of-self
invariant_of-self g c =
    let inside = c.self.inside in
    let tape = g.T.Tape.view in
    let turn = c.in-Ok.ensures.turned in
    let h = c.if-moment-gt-MAX_MOMENT.false in
    let behind = record c.feed_at.new.self.base { loads = c.leave_closed.new.loads } in
    let retired = state-retired behind c.max-now.result c.in_ok-index.index c.feed_at.new.self.connections c.retire.new.self c.retire.ensures in
    subst (λ n. IsBetweenEvents g.S.Store.view tape n) (sym retired)
    (fed-turns g.S.Store.view tape inside.interior.base c.feed_at.new.self.base c.leave_closed.new.loads inside.latest c.max-now.result c.args.number c.in_ok-index.index c.args.moment.nanos inside.interior.connections c.feed_at.new.self.connections c.args.piece.now c.in-Ok.is_held turn.0
    c.in_ok-index.ensures.place.0 c.max-now.ensures c.in_ok-index.ensures.open (omega (arith, h)) c.self.invariant c.sound.ensures c.sound-in-Ok.ensures c.leave_closed.ensures.left c.in-Ok.ensures.goes c.leave_closed.ensures.goes turn.1).1
