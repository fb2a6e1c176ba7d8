use Rattle.cache_loop.proofs.Goings.{goes-on}
use Rattle.cache_loop.specs.Turns.{begins}
use Rattle.cache_loop.proofs.hall.Hall.note_all.Goals as goal

pub loop-event-init : goal.loop-event-init
loop-event-init g c = begins

pub loop-event-preserved : goal.loop-event-preserved
loop-event-preserved g c =
    let l = c.loop-event in
    goes-on g.S.Steward c.args.self.now.served l.self.served c.args.steward.now c.args.steward.now c.note.new.self.served c.args.steward.now l.invariant c.note.ensures
