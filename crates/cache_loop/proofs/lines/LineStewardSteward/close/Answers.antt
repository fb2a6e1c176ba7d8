use Rattle.std.proofs.Common.{refl}
use Rattle.cache_loop.proofs.lines.LineStewardSteward.close.Goals as goal

pub returns : goal.returns
returns g c = (c.close.ensures.closes, refl)
