use Rattle.cache_loop.proofs.Goings.{goes-on, goes-same}
use Rattle.cache_loop.proofs.hall.Hall.accept_all.Goals as goal

pub loop-accept-init : goal.loop-accept-init
loop-accept-init g c = goes-same g.S.Steward c.args.self.now.served c.try_again.new.self.served c.args.steward.now c.try_again.ensures

pub loop-accept-preserved : goal.loop-accept-preserved
loop-accept-preserved g c =
    let l = c.loop-accept in
    goes-on g.S.Steward c.args.self.now.served l.self.served c.args.steward.now l.steward c.accept_one.new.self.served c.accept_one.new.steward l.invariant c.accept_one.ensures
