use Rattle.cache_loop.proofs.Goings.{goes-on}
use Rattle.cache_loop.specs.Turns.{begins, settles}
use Rattle.cache_loop.proofs.looping.turn_round.Goals as goal

pub loop-wake-init : goal.loop-wake-init
loop-wake-init g c = begins

pub loop-wake-preserved : goal.loop-wake-preserved
loop-wake-preserved g c =
    let l = c.loop-wake in
    let p = c.args.hall.now.served in
    let s = c.args.steward.now in
    let waits = settles l.hall.served l.steward c.patience-in-loop-wake.new.self l.invariant c.patience-in-loop-wake.ensures in
    let noted = goes-on g.S.Steward p l.hall.served s c.patience-in-loop-wake.new.self c.note_all.new.self.served c.patience-in-loop-wake.new.self waits c.note_all.ensures in
    goes-on g.S.Steward p c.note_all.new.self.served s c.patience-in-loop-wake.new.self c.work.new.hall.served c.work.new.steward noted c.work.ensures

pub returns-in_err-poll : goal.returns-in_err-poll
returns-in_err-poll g c =
    let l = c.loop-wake in
    settles l.hall.served l.steward c.patience-in-loop-wake.new.self l.invariant c.patience-in-loop-wake.ensures

pub returns-then-is_done : goal.returns-then-is_done
returns-then-is_done g c =
    let l = c.loop-wake in
    let p = c.args.hall.now.served in
    let s = c.args.steward.now in
    let waits = settles l.hall.served l.steward c.patience-in-loop-wake.new.self l.invariant c.patience-in-loop-wake.ensures in
    let noted = goes-on g.S.Steward p l.hall.served s c.patience-in-loop-wake.new.self c.note_all.new.self.served c.patience-in-loop-wake.new.self waits c.note_all.ensures in
    goes-on g.S.Steward p c.note_all.new.self.served s c.patience-in-loop-wake.new.self c.work.new.hall.served c.work.new.steward noted c.work.ensures
