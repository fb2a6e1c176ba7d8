use Rattle.cache_shared.proofs.Performing.{unused-bare}
use Rattle.cache_service_tests.proofs.inputs.make_live.Goals as goal

pub returns-in-Ok : goal.returns-in-Ok
returns-in-Ok c = unused-bare _ _ _ c.in-Ok.core c.in-Ok.ensures.made c.in-Ok.ensures.reached
