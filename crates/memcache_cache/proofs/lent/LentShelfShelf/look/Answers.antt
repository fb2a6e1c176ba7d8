use Rattle.std.proofs.Common.{ap, refl, rules, ◌∙◌, option_map, Bor}
use Rattle.std.specs.Prelude.{unwrap_or}
use Rattle.std.specs.Cmp.Lexicographic.{nat_list_eq_equiv}
use Rattle.front_parts.specs.Places.Calls.{visible_in}
use Rattle.memcache_model.specs.Items.{Item, unexpired}
use Rattle.memcache_service.specs.Shelves.{SeesLive}
use Rattle.memcache_cache.proofs.Bounding.{one-value, use_keeps}
use Rattle.memcache_cache.proofs.Calls.{item_ways, use_becomes}
use Rattle.memcache_cache.proofs.lent.LentShelfShelf.look.Goals as goal

pub returns-in-Ok-clause-shown : goal.returns-in-Ok-clause-shown
returns-in-Ok-clause-shown g c =
    let ways = item_ways g.S.BuildHasher g.S.Hasher.Hasher in
    let s = c.look_up.ensures.shown in
    let r : SeesLive g.F.FnOnce c.args.see (unexpired c.args.moment (option_map (λ (b : Bor Item). b.now) s.found)) s.shown.now c.look_up.result s.left.now = search rules in
    let q = rw c.in-Ok.is at r in
    record {
      found = q.found;
      is = q.is ∙ ap (unexpired c.args.moment) (s.is ∙ ap (λ n. visible_in ways c.args.self.now.cache n c.args.key.now) c.instant.ensures);
      shown = q.shown;
      shows = q.shows ∙ s.shows;
      left = q.left;
      met = q.met;
      leaves = q.leaves ∙ s.leaves;
    }

pub returns-in-Err-clause-shown : goal.returns-in-Err-clause-shown
returns-in-Err-clause-shown g c =
    let ways = item_ways g.S.BuildHasher g.S.Hasher.Hasher in
    let s = c.look_up.ensures.shown in
    let r : SeesLive g.F.FnOnce c.args.see (unexpired c.args.moment (option_map (λ (b : Bor Item). b.now) s.found)) s.shown.now c.look_up.result s.left.now = search rules in
    let q = rw c.in-Err.is at r in
    record {
      found = q.found;
      is = q.is ∙ ap (unexpired c.args.moment) (s.is ∙ ap (λ n. visible_in ways c.args.self.now.cache n c.args.key.now) c.instant.ensures);
      shown = q.shown;
      shows = q.shows ∙ s.shows;
      left = q.left;
      met = q.met;
      leaves = q.leaves ∙ s.leaves;
    }

pub returns-in-Ok-clause-becomes : goal.returns-in-Ok-clause-becomes
returns-in-Ok-clause-becomes g c =
    use_becomes (item_ways g.S.BuildHasher g.S.Hasher.Hasher) nat_list_eq_equiv (λ a b. refl) c.args.moment c.args.key.now (record { now = c.instant.result; step = c.args.self.now.cache.step }) c.args.self.now.cache c.look_up.new.self c.keeps.ensures c.instant.ensures
    c.in-Ok.ensures.used

pub invariant_of-self : goal.invariant_of-self
invariant_of-self g c =
    let ways = item_ways g.S.BuildHasher g.S.Hasher.Hasher in
    record {
      kept = use_keeps ways.answers ways.hash (λ rules key value. refl) c.look_up.result c.args.key.now
          (record { now = c.instant.result; step = c.args.self.now.cache.step }) c.args.self.now.cache c.look_up.new.self c.keeps.ensures c.args.self.now.kept c.look_up.ensures.used c.look_up.ensures.err;
    }

pub returns-in-Ok-clause-capacity : goal.returns-in-Ok-clause-capacity
returns-in-Ok-clause-capacity g c = ap (λ f. unwrap_or f.capacity 0) c.in-Ok.ensures.used.changed

pub returns-in-Ok-clause-used : goal.returns-in-Ok-clause-used
returns-in-Ok-clause-used g c = rw (← c.instant.ensures) c.in-Ok.ensures.used

pub returns-in-Err-clause-unchanged : goal.returns-in-Err-clause-unchanged
returns-in-Err-clause-unchanged g c =
    one-value (λ f kept. record { alloc = c.args.self.now.alloc; cache = f; kept = kept }) c.look_up.new.self c.args.self.now.cache _ c.args.self.now.kept c.in-Err.ensures.err
