use Rattle.cache_loop.specs.Turns.{GoesRound}
use Rattle.cache_loop.proofs.hall.Hall.accept_all.Given as goal

abbrev pub invariant-loop-accept : goal.invariant-loop-accept
invariant-loop-accept g l = GoesRound g.S.Steward l.fn.self.served l.fn.steward l.self.served l.steward
