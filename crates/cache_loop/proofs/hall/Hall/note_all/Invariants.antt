use Rattle.cache_loop.specs.Turns.{GoesRound}
use Rattle.cache_loop.proofs.hall.Hall.note_all.Given as goal

abbrev pub invariant-loop-event : goal.invariant-loop-event
invariant-loop-event g l = GoesRound g.S.Steward l.fn.self.served l.fn.steward l.self.served l.fn.steward
