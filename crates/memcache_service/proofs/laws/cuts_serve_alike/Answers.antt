use Rattle.std.proofs.Common.{refl}
use Rattle.memcache_service.proofs.Cutting.{served-more}
use Rattle.memcache_service.proofs.laws.cuts_serve_alike.Goals as goal

pub returns : goal.returns
returns g c = λ moment most first new bytes more left before after ends were.
    served-more g.T.Shelf moment most first before bytes more new left 0 after ends were refl
