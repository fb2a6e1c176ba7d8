use Rattle.std.proofs.Common.{◌≡◌, take}
use Rattle.cache_front.specs.Listing.{held_by_all}
use Rattle.cache_front.proofs.data.listing.held_keys.Given as goal

abbrev pub invariant-loop-place : goal.invariant-loop-place
invariant-loop-place g l = l.keys.items ≡ held_by_all (take l.place l.front.parts)
