use Rattle.cache_shared.specs.Seats.{AgreeBelow}
use Rattle.cache_shared.proofs.booked.BookedService.agrees.Given as goal

abbrev pub invariant-loop-namespace : goal.invariant-loop-namespace
invariant-loop-namespace g l = AgreeBelow l.namespace (g.C.Shareable.journals l.self.core) (λ seat. seat.receipts.items) l.seats
