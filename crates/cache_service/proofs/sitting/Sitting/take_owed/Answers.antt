use Rattle.std.proofs.Common.{false}
use Rattle.cache_service.proofs.Exchanging.{look-gives}
use Rattle.cache_service.proofs.Outgoing.{gives-due}
use Rattle.cache_service.specs.Exchanged.{WereTaken}
use Rattle.cache_service.specs.Telling.{TellsAll}
use Rattle.cache_service.proofs.sitting.Sitting.take_owed.Goals as goal

pub returns-clause-given : goal.returns-clause-given
returns-clause-given g c = gives-due g.L.Seating.configs g.C.Shareable.spaces g.C.Shareable.untaken c.args.conn c.args.wants_loads _ (record { held = false; owed = c.take_owed-owed.result }) c.give.result c.give.ensures.given c.take_owed-owed.ensures.owed

pub returns-clause-looked : goal.returns-clause-looked
returns-clause-looked g c =
    let told : TellsAll g.T.Teller.tells (WereTaken g.L.Seating.configs g.C.Shareable.spaces g.C.Shareable.untaken g.C.Shareable.untold c.args.conn.namespace) c.args.self.now.teller.now c.give.new.self.teller.now c.take_owed-owed.new.notes.items = rw c.give.ensures.teller c.tell_notes.ensures.told in
    look-gives g.L.Seating.configs g.C.Shareable.spaces g.C.Shareable.untaken g.C.Shareable.untold c.args.conn _ _ c.args.wants_loads _ (record { held = false; owed = c.take_owed-owed.result }) c.give.result _ _ c.give.ensures.given c.take_owed-owed.ensures.all told
