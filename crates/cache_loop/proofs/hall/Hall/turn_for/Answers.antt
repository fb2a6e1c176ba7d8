use Rattle.cache_loop.specs.Turns.{begins, turns}
use Rattle.cache_loop.proofs.hall.Hall.turn_for.Goals as goal

pub returns-in-Some : goal.returns-in-Some
returns-in-Some g c = turns c.in-Some.key c.args.self.now.served c.take_turn.new.self.served c.args.steward.now c.take_turn.new.steward begins c.take_turn.ensures

pub returns-in-None : goal.returns-in-None
returns-in-None g c = begins
