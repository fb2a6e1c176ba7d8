use Rattle.cache_shared.proofs.Performing.{unused-kept}
use Rattle.cache_service_tests.proofs.inputs.make_recorded.Goals as goal

pub returns-in-Ok : goal.returns-in-Ok
returns-in-Ok c = unused-kept _ _ _ c.in-Ok.core c.in-Ok.ensures.made
