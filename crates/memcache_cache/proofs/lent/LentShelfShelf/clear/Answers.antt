use Rattle.std.proofs.Common.{arith, ◌<◌, ◌≤◌, ap, refl}
use Rattle.std.specs.Prelude.{unwrap_or}
use Rattle.std.specs.Cmp.Lexicographic.{nat_list_eq_equiv}
use Rattle.memcache_cache.proofs.Bounding.{clear_keeps}
use Rattle.memcache_cache.proofs.Calls.{clear_becomes, item_ways}
use Rattle.memcache_cache.proofs.lent.LentShelfShelf.clear.Goals as goal

pub returns-in-Some-clause-clears : goal.returns-in-Some-clause-clears
returns-in-Some-clause-clears g c =
    let old = c.args.self.now.cache in
    let early : old.moment ≤ 9223372036854775807 = omega arith in
    let rises : old.step < c.in-Some.step = omega (arith, c.in-Some.ensures, ap (λ at. at.step) c.at-now.ensures) in
    clear_becomes (item_ways g.S.BuildHasher g.S.Hasher.Hasher) nat_list_eq_equiv (λ a b. refl) c.args.moment c.at-now.result.now c.in-Some.step old c.invalidate_all.new.self c.keeps.ensures (ap (λ at. at.now) c.at-now.ensures) early rises c.invalidate_all.ensures

pub invariant_of-self : goal.invariant_of-self
invariant_of-self g c =
    let ways = item_ways g.S.BuildHasher g.S.Hasher.Hasher in
    record { kept = clear_keeps ways.answers ways.hash (λ rules key value. refl) c.at-now.result.now c.in-Some.step c.args.self.now.cache c.invalidate_all.new.self c.args.self.now.kept c.invalidate_all.ensures }

pub returns-in-Some-clause-capacity : goal.returns-in-Some-clause-capacity
returns-in-Some-clause-capacity g c = ap (λ f. unwrap_or f.capacity 0) c.invalidate_all.ensures.changed
