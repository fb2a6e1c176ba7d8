use Rattle.cache_shared.proofs.shared.SharedService.take_notices.Goals as goal

pub returns-clause-all : goal.returns-clause-all
returns-clause-all g c = record { old = c.deref_mut.result.now.booked.core; new = c.take_notices.new.self.booked.core; events = _; reached = c.deref_mut.result.now.booked.stands.reached; fact = c.take_notices.ensures.all }

pub returns-clause-moved : goal.returns-clause-moved
returns-clause-moved g c = record { core = c.deref_mut.result.now.booked.core; events = _; reached = c.deref_mut.result.now.booked.stands.reached; left = _; moved = c.take_notices.ensures.all.notes }
