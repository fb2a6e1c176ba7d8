use Rattle.memcache_model.proofs.Leasing.{one_wins}
use Rattle.memcache_model.proofs.laws.one_client_wins.Goals as goal

pub returns : goal.returns
returns c = one_wins
