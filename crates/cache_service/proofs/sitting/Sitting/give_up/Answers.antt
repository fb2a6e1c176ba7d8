use Rattle.std.proofs.Common.{◌∙◌, subst}
use Rattle.cache_history.specs.declared.known.Own.{Own}
use Rattle.cache_run.specs.Driver.Exchanges.{GivenUp, Settled}
use Rattle.cache_run.specs.Driver.Hosting.{exchange_of}
use Rattle.cache_service.specs.Exchanged.{ComesOfTurn}
use Rattle.cache_service.proofs.Exchanging.{of-turn}
use Rattle.cache_service.proofs.Refusing.{left-up}
use Rattle.cache_service.specs.Asked.{give_up_input}
use Rattle.cache_service.proofs.sitting.Sitting.give_up.Goals as goal

pub returns-in-Ok-clause-settled : goal.returns-in-Ok-clause-settled
returns-in-Ok-clause-settled g c = λ asking.
    subst (λ (own : Own g.row.C.Denot). ComesOfTurn g.L.Seating.configs g.C.Shareable.spaces g.C.Shareable.untaken g.C.Shareable.untold c.args.conn (give_up_input c.args.conn.namespace c.args.moment c.args.load) (λ given. Unit {0}) own (exchange_of (Settled (GivenUp c.args.load asking) c.args.moment) c.in-Ok.given) c.ask.new.seat.claims) c.loop-try.invariant.1
    (of-turn g.L.Seating.configs g.C.Shareable.spaces g.C.Shareable.untaken g.C.Shareable.untold c.args.conn _ _ c.in-Ok.given (Settled (GivenUp c.args.load asking) c.args.moment) (give_up_input c.args.conn.namespace c.args.moment c.args.load) (λ given. Unit {0}) tt c.in-Ok.ensures.turned)

pub returns-in_default-clause-settled : goal.returns-in_default-clause-settled
returns-in_default-clause-settled g c = λ asking. (
  left-up g.L.Seating.configs g.C.Shareable.spaces g.C.Shareable.untaken g.C.Shareable.untold c.args.conn.namespace c.args.moment c.args.load _ c.in-Err.ensures.why c.in_default.not-OutOfMemory c.in_default.not-UsedUp c.in_default.not-Moment,
  c.in-Err.ensures.rests.1 ∙ c.loop-try.invariant.1,
)
