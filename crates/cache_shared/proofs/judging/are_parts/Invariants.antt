use Rattle.std.proofs.Common.{drop}
use Rattle.cache_shared.specs.Seats.{ArePartsOf, receipts_at}
use Rattle.cache_shared.proofs.judging.are_parts.Given as goal

abbrev pub invariant-loop-seat : goal.invariant-loop-seat
invariant-loop-seat g l =
    ArePartsOf l.namespace l.journal.records (λ seat. receipts_at seat.receipts.items l.namespace) (drop l.seat-index l.seats)
    → ArePartsOf l.namespace l.journal.records (λ seat. receipts_at seat.receipts.items l.namespace) l.seats
