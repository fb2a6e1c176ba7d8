use Rattle.std.proofs.Common.{Err, IfOk, None, Ok, Option, Result, Some, subst}
use Rattle.cache_history.specs.declared.known.Own.{Own}
use Rattle.cache_run.specs.Devices.Sources.{Asking}
use Rattle.cache_service.specs.Exchanged.{SettledSo, given_up_or_left}
use Rattle.cache_run.specs.declared.devices.errors.RunError.{RunError}
use Rattle.cache_run.specs.declared.driver.host.Given.{Given}
use Rattle.cache_run.specs.Driver.Exchanges.{Answered, Settled}
use Rattle.cache_service.proofs.Exchanging.{as-given-up, as-said, of-turn}
use Rattle.cache_service.proofs.Refusing.{not_of_outcome, of_outcome}
use Rattle.cache_service.proofs.Seated.{settles-answer, settles-none, takes-behind}
use Rattle.cache_service.specs.Asked.{answer_input}
use Rattle.cache_service.proofs.sitting.Sitting.settle_load.Goals as goal

pub returns-in-None-clause-settled : goal.returns-in-None-clause-settled
returns-in-None-clause-settled g c = λ key.
    as-said g.L.Seating.configs g.C.Shareable.spaces g.C.Shareable.untaken g.C.Shareable.untold c.args.conn _ _ g.C.Shareable.KEEPS c.give_up.result c.in-None.is (as-given-up g.L.Seating.configs g.C.Shareable.spaces g.C.Shareable.untaken g.C.Shareable.untold c.args.conn _ _ g.C.Shareable.KEEPS c.give_up.result (record { key = key; answer = None }) tt c.give_up.ensures.taken c.give_up.ensures.settled)

pub returns-in-Ok-clause-settled : goal.returns-in-Ok-clause-settled
returns-in-Ok-clause-settled g c = λ key.
    let result : Result (Option Given) RunError = Ok (Some c.in-Ok.given) in
    as-said g.L.Seating.configs g.C.Shareable.spaces g.C.Shareable.untaken g.C.Shareable.untold c.args.conn _ _ g.C.Shareable.KEEPS result c.in-Some.is (
      settles-answer key c.in-Ok.ensures.taken,
      of-turn g.L.Seating.configs g.C.Shareable.spaces g.C.Shareable.untaken g.C.Shareable.untold c.args.conn _ _ c.in-Ok.given (Settled (Answered c.args.load key c.in-Some.outcome) c.args.moment) (answer_input c.args.conn.namespace c.args.moment c.args.load c.in-Some.outcome) (λ given. Unit {0}) tt c.in-Ok.ensures.turned,
    )

pub returns-in-LineEnd-clause-settled : goal.returns-in-LineEnd-clause-settled
returns-in-LineEnd-clause-settled g c = λ key.
    as-said g.L.Seating.configs g.C.Shareable.spaces g.C.Shareable.untaken g.C.Shareable.untold c.args.conn _ _ g.C.Shareable.KEEPS c.give_up-in-LineEnd.result c.in-Some.is
    (as-given-up g.L.Seating.configs g.C.Shareable.spaces g.C.Shareable.untaken g.C.Shareable.untold c.args.conn _ _ g.C.Shareable.KEEPS c.give_up-in-LineEnd.result (record { key = key; answer = Some c.in-Some.outcome }) (c.in-Err.ensures.why.unfit (of_outcome _ c.in-LineEnd.is))
    (takes-behind _ _ _ _ _ c.give_up-in-LineEnd.result c.in-Err.ensures.rests.0 c.give_up-in-LineEnd.ensures.taken)
    (subst (λ (own : Own g.row.C.Denot). IfOk c.give_up-in-LineEnd.result (λ given. (asking : Asking) → SettledSo g.L.Seating.configs g.C.Shareable.spaces g.C.Shareable.untaken g.C.Shareable.untold c.args.conn (given_up_or_left c.args.load asking given) c.args.moment own given c.give_up-in-LineEnd.new.seat.claims)) c.in-Err.ensures.rests.1 c.give_up-in-LineEnd.ensures.settled))

pub returns-in-OutOfMemory-clause-settled : goal.returns-in-OutOfMemory-clause-settled
returns-in-OutOfMemory-clause-settled g c = λ key.
    let result : Result (Option Given) RunError = Err c.error_of_refusal.result in
    as-said g.L.Seating.configs g.C.Shareable.spaces g.C.Shareable.untaken g.C.Shareable.untold c.args.conn c.args.seat.now.claims c.ask.new.seat.claims g.C.Shareable.KEEPS result c.in-Some.is (settles-none (record { key = key; answer = Some c.in-Some.outcome }) c.in-Err.ensures.rests.0, tt)

pub returns-in_default-clause-settled : goal.returns-in_default-clause-settled
returns-in_default-clause-settled g c = λ key.
    let result : Result (Option Given) RunError = Ok None in
    as-said g.L.Seating.configs g.C.Shareable.spaces g.C.Shareable.untaken g.C.Shareable.untold c.args.conn _ _ g.C.Shareable.KEEPS result c.in-Some.is (
      settles-none (record { key = key; answer = Some c.in-Some.outcome }) c.in-Err.ensures.rests.0,
      (c.in-Err.ensures.why.left c.in_default.not-OutOfMemory c.in_default.not-UsedUp c.in_default.not-Moment (not_of_outcome _ c.in_default.not-LineEnd c.in_default.not-TooLong c.in_default.not-Deadline), c.in-Err.ensures.rests.1),
    )
