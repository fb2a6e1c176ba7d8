use Rattle.std.proofs.Common.{Some, None, Ok}
use Rattle.cache_loop.specs.Turns.{begins, closes}
use Rattle.cache_loop.proofs.hall.Hall.drop_one.Goals as goal

pub returns-in-Some : goal.returns-in-Some
returns-in-Some g c = closes c.args.key _ (Some c.in-Some.stream) c.args.self.now.served c.close.new.self.served c.args.steward.now c.close.new.steward begins c.in-Some.ensures

pub returns-in-None : goal.returns-in-None
returns-in-None g c = closes c.args.key (Ok tt) None c.args.self.now.served c.close.new.self.served c.args.steward.now c.close.new.steward begins c.in-None.ensures
