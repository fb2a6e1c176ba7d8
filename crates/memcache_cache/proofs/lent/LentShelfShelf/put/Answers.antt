use Rattle.std.proofs.Common.{ap, refl, sym}
use Rattle.std.proofs.lemmas.Slice.Eq.{bytes_eq-Decides}
use Rattle.std.specs.Prelude.{unwrap_or}
use Rattle.std.specs.Cmp.Lexicographic.{nat_list_eq_equiv}
use Rattle.memcache_cache.proofs.Bounding.{one-value, put_keeps}
use Rattle.memcache_cache.proofs.Calls.{item_ways, put_becomes}
use Rattle.memcache_cache.proofs.lent.LentShelfShelf.put.Goals as goal

pub returns-in-Ok-clause-puts : goal.returns-in-Ok-clause-puts
returns-in-Ok-clause-puts g c =
    put_becomes (item_ways g.S.BuildHasher g.S.Hasher.Hasher) nat_list_eq_equiv (λ a b. refl) c.args.moment c.args.key.now c.args.item c.at-at.result c.args.self.now.cache c.insert_named.new.self c.keeps.ensures (ap (λ at. at.now) c.at-at.ensures)
    c.in-Ok.ensures.inserts

pub invariant_of-self : goal.invariant_of-self
invariant_of-self g c =
    let ways = item_ways g.S.BuildHasher g.S.Hasher.Hasher in
    record {
      kept = put_keeps ways.answers ways.hash (λ rules key value. refl) c.insert_named.result c.args.key.now c.args.item c.at-at.result c.args.self.now.cache c.insert_named.new.self c.keeps.ensures c.args.self.now.kept
          c.insert_named.ensures.inserts c.insert_named.ensures.err;
    }

pub returns-in-Ok-clause-capacity : goal.returns-in-Ok-clause-capacity
returns-in-Ok-clause-capacity g c = ap (λ f. unwrap_or f.capacity 0) c.in-Ok.ensures.inserts.changed

pub returns-in-Err-clause-unchanged : goal.returns-in-Err-clause-unchanged
returns-in-Err-clause-unchanged g c =
    one-value (λ f kept. record { alloc = c.args.self.now.alloc; cache = f; kept = kept }) c.insert_named.new.self c.args.self.now.cache _ c.args.self.now.kept c.in-Err.ensures.err

pub insert_named-requires-clause-name : goal.insert_named-requires-clause-name
insert_named-requires-clause-name g c = (λ x y is. is, λ other is. sym ((bytes_eq-Decides c.args.key.now other).0 is))
