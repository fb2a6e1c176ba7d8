use Rattle.memcache_cache.proofs.Calls.{item_ways}
use Rattle.memcache_cache.proofs.Emptying.{removed}
use Rattle.memcache_cache.specs.Showing.{shelved_by}
use Rattle.memcache_cache.proofs.lent.LentShelfShelf.remove.Goals as goal

pub returns-clause-removes : goal.returns-clause-removes
returns-clause-removes g c =
    removed c.take_out-taken.result (λ s. shelved_by (item_ways g.S.BuildHasher g.S.Hasher.Hasher) s.cache) c.args.moment c.args.key.now c.args.self.now c.put.new.self c.take_out-taken.new.self (rw c.in_ok-empty.ensures at c.in_ok-put.ensures.puts) c.take_out-taken.ensures.removes c.take_out-taken.ensures.unchanged
