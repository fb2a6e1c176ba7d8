use Rattle.cache_loop.specs.Turns.{GoesRound}
use Rattle.cache_loop.proofs.looping.turn_round.Given as goal

abbrev pub invariant-loop-wake : goal.invariant-loop-wake
invariant-loop-wake g l = GoesRound g.S.Steward l.fn.hall.served l.fn.steward l.hall.served l.steward
