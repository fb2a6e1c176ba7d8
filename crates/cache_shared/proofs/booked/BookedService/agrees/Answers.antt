use Rattle.cache_shared.specs.declared.seat.Seat.{Seat}
use Rattle.cache_shared.proofs.Stepping.{agree-more, agree-all}
use Rattle.cache_shared.proofs.booked.BookedService.agrees.Goals as goal

pub loop-namespace-preserved : goal.loop-namespace-preserved
loop-namespace-preserved g c =
    agree-more c.loop-namespace.namespace (g.C.Shareable.journals c.args.self.now.core) (λ (seat : Seat g.row.L.Denot g.row.C.Denot g.L.Seating g.L.Naming). seat.receipts.items) c.args.seats.now c.in-Ok.journal.now
    c.loop-namespace.invariant c.in-Ok.ensures.journal (c.agree.ensures c.if-not-agree.false)

pub returns-in-Err : goal.returns-in-Err
returns-in-Err g c = λ yes.
    agree-all c.loop-namespace.namespace (g.C.Shareable.journals c.args.self.now.core) (λ (seat : Seat g.row.L.Denot g.row.C.Denot g.L.Seating g.L.Naming). seat.receipts.items) c.args.seats.now
    c.loop-namespace.invariant c.in-Err.ensures.none
