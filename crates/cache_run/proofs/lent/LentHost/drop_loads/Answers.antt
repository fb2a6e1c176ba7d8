use Rattle.std.proofs.Common.{arith, refl, []}
use Rattle.cache_run.proofs.lent.LentHost.drop_loads.Goals as goal

pub returns : goal.returns
returns g c = record { dropped = ([], (c.drop_loads.ensures, refl), refl); count = omega arith }
