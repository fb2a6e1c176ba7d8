use Rattle.std.proofs.Common.{◌≡◌, ℕ, ◌+◌, ◌<◌, length, take}
use Rattle.cache_shared.specs.Seats.{numbered}
use Rattle.cache_shared.specs.Marks.{marks}
use Rattle.cache_shared.proofs.judging.mark.Given as goal

abbrev pub invariant-loop-receipt : goal.invariant-loop-receipt
invariant-loop-receipt l = record {
  so_far : (k : ℕ) → k < length l.initial.seen → marks l.seen k ≡ marks l.initial.seen k + numbered (k + 1) (take l.receipt-index l.receipts);
  len : length l.seen ≡ length l.initial.seen;
}
