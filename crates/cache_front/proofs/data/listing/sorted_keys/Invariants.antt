use Rattle.std.proofs.Common.{drop}
use Rattle.cache_front.specs.Data.{hash_with}
use Rattle.cache_front.specs.Listing.{is_seen}
use Rattle.cache_front.proofs.data.Live.{Sorts}
use Rattle.cache_front.proofs.data.listing.sorted_keys.Given as goal

abbrev pub invariant-loop-key : goal.invariant-loop-key
invariant-loop-key g l = Sorts (is_seen (hash_with g.S.BuildHasher g.S.Hasher.Hasher) l.now l.front) l.keys (drop l.key-index l.keys) l.found.entries
