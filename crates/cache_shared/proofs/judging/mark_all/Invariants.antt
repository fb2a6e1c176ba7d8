use Rattle.std.proofs.Common.{◌≡◌, ℕ, ◌+◌, ◌<◌, length, take}
use Rattle.cache_shared.specs.Seats.{holders, receipts_at}
use Rattle.cache_shared.specs.Marks.{marks}
use Rattle.cache_shared.proofs.judging.mark_all.Given as goal

abbrev pub invariant-loop-seat : goal.invariant-loop-seat
invariant-loop-seat g l = record {
  so_far : (k : ℕ) → k < length l.initial.seen
      → marks l.seen k ≡ marks l.initial.seen k + holders (λ seat. receipts_at seat.receipts.items l.namespace) (k + 1) (take l.seat-index l.seats);
  len : length l.seen ≡ length l.initial.seen;
}
