use Rattle.cache_service.specs.Sitting.{SeatRests, tally}
use Rattle.cache_service.proofs.sitting.SittingHost.close.Given as goal

abbrev pub invariant-loop-try : goal.invariant-loop-try
invariant-loop-try g l = SeatRests (tally l.fn.place) (tally l.place)
