use Rattle.cache_spaces.proofs.service.Core.loads_open.Goals as goal

pub returns-clause-count : goal.returns-clause-count
returns-clause-count g c = record { space = c.in_ok-space.field-0.now; at = c.in_ok-space.ensures.space; fact = c.loads_open.ensures }
