use Rattle.std.proofs.Common.{refl}
use Rattle.std.specs.Cmp.Lexicographic.{nat_list_eq_equiv}
use Rattle.memcache_cache.proofs.Calls.{item_ways, only_leave}
use Rattle.memcache_cache.proofs.lent.LentShelfShelf.pass.Goals as goal

pub returns : goal.returns
returns g c = only_leave (item_ways g.S.BuildHasher g.S.Hasher.Hasher) nat_list_eq_equiv (λ a b. refl) c.args.self.now.cache
