use Rattle.std.proofs.Common.{refl}
use Rattle.memcache_cache.proofs.Bounding.{bounded}
use Rattle.memcache_cache.proofs.Calls.{item_ways}
use Rattle.memcache_cache.proofs.lent.LentShelfShelf.bounded.Goals as goal

pub returns : goal.returns
returns g c =
    let ways = item_ways g.S.BuildHasher g.S.Hasher.Hasher in
    bounded ways.answers ways.hash (λ rules key value. refl) c.args.self.now.cache c.keeps.ensures c.args.self.now.kept
