use Rattle.std.proofs.Common.{◌≡◌}
use Rattle.memcache_cache.proofs.Calls.{item_ways, waiting}
use Rattle.memcache_cache.specs.Showing.{AreTold, shelved_by}
use Rattle.memcache_service.specs.Shelves.{CountsRemovals}
use Rattle.memcache_cache.proofs.lent.LentShelfShelf.count_removals.Given as goal

abbrev pub invariant-loop-notice : goal.invariant-loop-notice
invariant-loop-notice g l = record {
  shows : shelved_by (item_ways g.S.BuildHasher g.S.Hasher.Hasher) l.self.cache ≡ shelved_by (item_ways g.S.BuildHasher g.S.Hasher.Hasher) l.initial.self.cache;
  told : AreTold l.initial.self.cache l.self.cache;
  only : CountsRemovals l.initial.counters l.counters;
}

abbrev pub decreases-loop-notice : goal.decreases-loop-notice
decreases-loop-notice g l = waiting l.self.cache.parts
