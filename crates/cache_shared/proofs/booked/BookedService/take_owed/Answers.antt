use Rattle.std.proofs.Common.{inl, inr, refl}
use Rattle.cache_shared.proofs.Moving.{moves-nothing, moves-owed, owes-due}
use Rattle.cache_shared.proofs.booked.BookedService.take_owed.Goals as goal

pub returns-in-Ok-clause-all : goal.returns-in-Ok-clause-all
returns-in-Ok-clause-all g c =
    moves-owed g.C.Shareable.spaces g.C.Shareable.untaken g.C.Shareable.untold _ _ _ c.args.conn c.args.wants_loads c.in-Ok.owed _ _ c.in-Ok.ensures.moved c.owed-owed.ensures.notes (inl c.in-Ok.ensures.told) c.take_notices.ensures.all.rest c.take_notices.ensures.all.notes

pub returns-in-Err-clause-all : goal.returns-in-Err-clause-all
returns-in-Err-clause-all g c =
    moves-nothing g.C.Shareable.spaces g.C.Shareable.untaken g.C.Shareable.untold _ _ _ c.args.conn c.args.wants_loads _ _ c.in-Err.ensures.unchanged _ c.in-Err.ensures.refused c.take_notices.ensures.all.rest c.take_notices.ensures.all.notes

pub returns-in-Ok-clause-owed : goal.returns-in-Ok-clause-owed
returns-in-Ok-clause-owed g c =
    owes-due g.L.Seating.configs g.C.Shareable.spaces g.C.Shareable.untaken g.C.Shareable.untold _ _ _ c.args.self.now.stands.reached c.args.conn c.args.wants_loads c.in-Ok.owed c.in-Ok.ensures.moved (inl c.in-Ok.ensures.told)

pub returns-in-Err-clause-owed : goal.returns-in-Err-clause-owed
returns-in-Err-clause-owed g c = record {
  replies = tt;
  told = record {
    core = c.args.self.now.core;
    events = _;
    reached = c.args.self.now.stands.reached;
    fact = inr (_, c.in-Err.ensures.refused, refl);
  };
}

pub returns-in-Ok-clause-moved : goal.returns-in-Ok-clause-moved
returns-in-Ok-clause-moved g c = record { core = c.args.self.now.core; events = _; reached = c.args.self.now.stands.reached; left = _; moved = (returns-in-Ok-clause-all g c).notes }

pub returns-in-Err-clause-moved : goal.returns-in-Err-clause-moved
returns-in-Err-clause-moved g c = record { core = c.args.self.now.core; events = _; reached = c.args.self.now.stands.reached; left = _; moved = (returns-in-Err-clause-all g c).notes }
