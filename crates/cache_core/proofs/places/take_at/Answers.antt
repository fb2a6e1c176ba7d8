use Rattle.cache_core.proofs.Orders.{owed-at, taken-left, taken-open}
use Rattle.cache_core.proofs.places.take_at.Goals as goal

pub returns-in-Some-clause-rest : goal.returns-in-Some-clause-rest
returns-in-Some-clause-rest c = taken-left _ _ _ _ c.take_owed-taken.result c.take_owed-taken.ensures c.retire.ensures

pub returns-in-None-clause-rest : goal.returns-in-None-clause-rest
returns-in-None-clause-rest c = taken-open _ _ _ c.take_owed-taken.result c.take_owed-taken.ensures c.in-None.is

pub returns-in-Some-clause-owed : goal.returns-in-Some-clause-owed
returns-in-Some-clause-owed c = owed-at _ _ _ c.take_owed-taken.result c.take_owed-taken.ensures

pub returns-in-None-clause-owed : goal.returns-in-None-clause-owed
returns-in-None-clause-owed c = owed-at _ _ _ c.take_owed-taken.result c.take_owed-taken.ensures
