use Rattle.std.proofs.Common.{◌≡◌, ◌+◌, ◌≤◌, ◌++◌, length, map, sum_by, vec_len, vec_capacity}
use Rattle.std.specs.Vec.Iter.{into_iter_items, into_iter_len}
use Rattle.cache_history.specs.Histories.{AreAllOf}
use Rattle.cache_shared.proofs.booked.BookedService.close.Given as goal

abbrev pub invariant-loop-seat : goal.invariant-loop-seat
invariant-loop-seat g l = record {
  split : l.yielded ++ into_iter_items l.seat-iterator ≡ l.fn.seats.items;
  len : into_iter_len l.seat-iterator ≡ length (into_iter_items l.seat-iterator);
  parts : l.rest.parts ≡ l.initial.rest.parts + length l.yielded;
  amount : l.rest.amount ≡ sum_by (λ seat. seat.count) l.yielded;
  lists : l.receipts.items ≡ map (λ seat. seat.receipts) l.yielded;
  many : vec_len l.receipts ≡ length l.yielded;
  keeper : l.keeper ≡ l.initial.keeper;
  all : AreAllOf l.initial.keeper (λ seat. seat.claims) l.yielded;
  room : vec_len l.fn.seats ≤ vec_capacity l.receipts;
}
