use Rattle.cache_shared.proofs.Performing.{unused-bare}
use Rattle.cached_server.proofs.services.make_service.Goals as goal

pub returns-in-Ok-clause-empty : goal.returns-in-Ok-clause-empty
returns-in-Ok-clause-empty g c = unused-bare _ _ _ c.in-Ok.service c.in-Ok.ensures.made c.in-Ok.ensures.reached
