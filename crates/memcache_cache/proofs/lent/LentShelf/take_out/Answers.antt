use Rattle.std.proofs.Common.{ap, refl}
use Rattle.std.specs.Prelude.{unwrap_or}
use Rattle.std.specs.Cmp.Lexicographic.{nat_list_eq_equiv}
use Rattle.memcache_cache.proofs.Bounding.{one-value, remove_keeps}
use Rattle.memcache_cache.proofs.Calls.{item_ways, remove_becomes}
use Rattle.memcache_cache.proofs.lent.LentShelf.take_out.Goals as goal

pub returns-in-Ok-clause-removes : goal.returns-in-Ok-clause-removes
returns-in-Ok-clause-removes g c =
    remove_becomes (item_ways g.S.BuildHasher g.S.Hasher.Hasher) nat_list_eq_equiv (λ a b. refl) c.args.moment c.args.key.now c.at-at.result c.args.self.now.cache c.invalidate.new.self c.keeps.ensures (ap (λ at. at.now) c.at-at.ensures)
    c.in-Ok.ensures.takes_out

pub invariant_of-self : goal.invariant_of-self
invariant_of-self g c =
    let ways = item_ways g.S.BuildHasher g.S.Hasher.Hasher in
    record { kept = remove_keeps ways.answers ways.hash (λ rules key value. refl) c.invalidate.result c.args.key.now c.at-at.result c.args.self.now.cache c.invalidate.new.self c.keeps.ensures c.args.self.now.kept c.invalidate.ensures.takes_out c.invalidate.ensures.err }

pub returns-in-Ok-clause-capacity : goal.returns-in-Ok-clause-capacity
returns-in-Ok-clause-capacity g c = ap (λ f. unwrap_or f.capacity 0) c.in-Ok.ensures.takes_out.changed

pub returns-in-Err-clause-unchanged : goal.returns-in-Err-clause-unchanged
returns-in-Err-clause-unchanged g c =
    one-value (λ f kept. record { alloc = c.args.self.now.alloc; cache = f; kept = kept }) c.invalidate.new.self c.args.self.now.cache _ c.args.self.now.kept c.in-Err.ensures.err
