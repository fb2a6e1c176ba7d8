use Rattle.cache_loop.specs.Turns.{GoesRound}
use Rattle.cache_loop.proofs.hall.Hall.take_first_turns.Given as goal

abbrev pub invariant-loop-index : goal.invariant-loop-index
invariant-loop-index g l = GoesRound g.S.Steward l.fn.self.served l.fn.steward l.self.served l.steward
