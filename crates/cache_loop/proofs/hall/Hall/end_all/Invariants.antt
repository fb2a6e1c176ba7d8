use Rattle.cache_loop.specs.Turns.{GoesRound}
use Rattle.cache_loop.proofs.hall.Hall.end_all.Given as goal

abbrev pub invariant-loop-key : goal.invariant-loop-key
invariant-loop-key g l = GoesRound g.S.Steward l.fn.self.served l.fn.steward l.self.served l.steward
