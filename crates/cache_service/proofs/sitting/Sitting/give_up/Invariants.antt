use Rattle.cache_service.specs.Sitting.{SeatIdles}
use Rattle.cache_service.proofs.sitting.Sitting.give_up.Given as goal

abbrev pub invariant-loop-try : goal.invariant-loop-try
invariant-loop-try g l = SeatIdles l.fn.seat l.seat
