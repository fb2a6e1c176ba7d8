use Rattle.cache_front.proofs.data.calling.clear.Goals as goal

pub returns-clause-clears : goal.returns-clause-clears
returns-clause-clears g c = rw c.in_ok-at.ensures.next at c.invalidate_all.ensures
