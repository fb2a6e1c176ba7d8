use Rattle.std.proofs.Common.{ap, refl}
use Rattle.std.specs.Prelude.{unwrap_or}
use Rattle.std.specs.Cmp.Lexicographic.{nat_list_eq_equiv}
use Rattle.memcache_cache.proofs.Bounding.{made_keeps}
use Rattle.memcache_cache.proofs.Calls.{item_ways, made_empty}
use Rattle.memcache_cache.proofs.lent.LentShelf.new.Goals as goal

pub returns-clause-empty : goal.returns-clause-empty
returns-clause-empty g c =
    made_empty (item_ways g.S.BuildHasher g.S.Hasher.Hasher) nat_list_eq_equiv (λ a b. refl) _ _ _ _ _ c.in_ok-cache.cache c.in_ok-cache.ensures

pub returns-clause-capacity : goal.returns-clause-capacity
returns-clause-capacity g c = ap (λ o. unwrap_or o 0) c.in_ok-cache.ensures.wants

pub returns-clause-policy : goal.returns-clause-policy
returns-clause-policy g c = ap (λ common. common.settings.policy) c.in_ok-cache.ensures.common

pub returns-clause-hasher : goal.returns-clause-hasher
returns-clause-hasher g c = ap (λ common. common.hasher) c.in_ok-cache.ensures.common

pub invariant_of-result : goal.invariant_of-result
invariant_of-result g c =
    let ways = item_ways g.S.BuildHasher g.S.Hasher.Hasher in
    record { kept = made_keeps ways.answers ways.hash (λ rules key value. refl) _ _ _ _ c.args.capacity c.in_ok-cache.cache refl c.in_ok-cache.ensures }
