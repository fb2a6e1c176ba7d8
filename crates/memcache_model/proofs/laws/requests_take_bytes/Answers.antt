use Rattle.memcache_model.proofs.Fronts.{takes}
use Rattle.memcache_model.proofs.laws.requests_take_bytes.Goals as goal

pub returns : goal.returns
returns c = takes
