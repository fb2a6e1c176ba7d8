use Rattle.cache_loop.proofs.Goings.{goes-on}
use Rattle.cache_loop.specs.Turns.{begins}
use Rattle.cache_loop.proofs.hall.Hall.take_more_turns.Goals as goal

pub loop-index-init : goal.loop-index-init
loop-index-init g c = begins

pub loop-index-preserved : goal.loop-index-preserved
loop-index-preserved g c =
    let l = c.loop-index in
    goes-on g.S.Steward c.args.self.now.served l.self.served c.args.steward.now l.steward c.turn_for.new.self.served c.turn_for.new.steward l.invariant c.turn_for.ensures
