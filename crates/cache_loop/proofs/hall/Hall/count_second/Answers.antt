use Rattle.cache_loop.proofs.Goings.{goes-on}
use Rattle.cache_loop.specs.Turns.{begins}
use Rattle.cache_loop.proofs.hall.Hall.count_second.Goals as goal

pub loop-key-init : goal.loop-key-init
loop-key-init g c = begins

pub loop-key-preserved : goal.loop-key-preserved
loop-key-preserved g c =
    let l = c.loop-key in
    goes-on g.S.Steward c.args.self.now.served l.self.served c.args.steward.now l.steward c.count_one.new.self.served c.count_one.new.steward l.invariant c.count_one.ensures
