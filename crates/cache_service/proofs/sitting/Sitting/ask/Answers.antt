use Rattle.std.proofs.Common.{false}
use Rattle.cache_service.proofs.Exchanging.{turn-gives}
use Rattle.cache_service.proofs.Outgoing.{gives-due}
use Rattle.cache_service.proofs.Refusing.{refused-for}
use Rattle.cache_service.specs.Exchanged.{WereTaken}
use Rattle.cache_service.specs.Telling.{TellsAll}
use Rattle.cache_shared.proofs.Causes.{late_held}
use Rattle.cache_shared.specs.Intakes.{input_in}
use Rattle.cache_service.proofs.sitting.Sitting.ask.Goals as goal

pub returns-in-Err-clause-late : goal.returns-in-Err-clause-late
returns-in-Err-clause-late g c = late_held g.L.Seating.configs g.C.Shareable.spaces (input_in c.args.intake) _ _ c.in-Err.ensures.refused

pub returns-in-Err-clause-why : goal.returns-in-Err-clause-why
returns-in-Err-clause-why g c = refused-for g.L.Seating.configs g.C.Shareable.spaces g.C.Shareable.untaken g.C.Shareable.untold (input_in c.args.intake) _ _ c.in-Err.ensures.refused

pub returns-clause-given : goal.returns-clause-given
returns-clause-given g c = gives-due g.L.Seating.configs g.C.Shareable.spaces g.C.Shareable.untaken c.args.conn c.args.wants_loads _ (record { held = false; owed = c.in-Ok.turn.owed }) c.give.result c.give.ensures.given c.in-Ok.ensures.owed

pub returns-clause-turned : goal.returns-clause-turned
returns-clause-turned g c =
    let told : TellsAll g.T.Teller.tells (WereTaken g.L.Seating.configs g.C.Shareable.spaces g.C.Shareable.untaken g.C.Shareable.untold c.args.conn.namespace) c.args.self.now.teller.now c.give.new.self.teller.now c.turn.new.notes.items = rw c.give.ensures.teller c.tell_notes.ensures.told in
    turn-gives g.L.Seating.configs g.C.Shareable.spaces g.C.Shareable.untaken g.C.Shareable.untold c.args.conn _ _ (input_in c.args.intake) c.args.wants_loads _ c.in-Ok.turn _ c.give.result _ _ c.give.ensures.given c.is_held-held.ensures c.in-Ok.ensures.taken told
