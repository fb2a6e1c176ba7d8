use Rattle.cache_loop.proofs.Goings.{goes-same}
use Rattle.cache_loop.specs.Turns.{opens}
use Rattle.cache_loop.proofs.hall.Hall.accept_one.Goals as goal

pub returns-in-Some : goal.returns-in-Some
returns-in-Some g c =
    let old = c.args.self.now.served in
    let asked = c.accept.new.self.served in
    opens c.admit-admitted.result c.in-Some.stream asked c.admit-admitted.new.self.served c.args.steward.now c.admit-admitted.new.steward
    (goes-same g.S.Steward old asked c.args.steward.now c.accept.ensures) c.admit-admitted.ensures

pub returns-in-None : goal.returns-in-None
returns-in-None g c = goes-same g.S.Steward c.args.self.now.served c.accept.new.self.served c.args.steward.now c.accept.ensures
