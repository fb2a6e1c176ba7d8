use Rattle.std.proofs.Common.{◌≡◌, length}
use Rattle.policy_queue.specs.Indices.{Carries}
use Rattle.policy_queue.proofs.index_queue.carry.Given as goal

abbrev pub invariant-loop-k : goal.invariant-loop-k
invariant-loop-k l = record {
  carries : Carries l.fn.places l.places l.seats l.to l.fn.from l.k l.next;
  bound : length l.seats ≡ length l.fn.seats;
  len : length l.places ≡ length l.fn.places;
}
