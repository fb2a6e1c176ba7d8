use Rattle.std.proofs.Common.{ap, refl, subst, sym, ◌∙◌}
use Rattle.std.specs.Cmp.Lexicographic.{nat_list_eq_equiv}
use Rattle.memcache_cache.proofs.Bounding.{notice_keeps}
use Rattle.memcache_cache.specs.Weights.{IsItemCache}
use Rattle.memcache_cache.proofs.Calls.{item_ways, notice_shows, counted_on, one_less, told_more}
use Rattle.memcache_cache.specs.Showing.{shelved_by}
use Rattle.memcache_cache.proofs.lent.LentShelfShelf.count_removals.Goals as goal

pub loop-notice-init : goal.loop-notice-init
loop-notice-init g c = record { shows = refl; told = (0, refl); only = refl }

pub loop-notice-preserved : goal.loop-notice-preserved
loop-notice-preserved g c =
    let ways = item_ways g.S.BuildHasher g.S.Hasher.Hasher in
    record {
      shows = ap (λ cache. shelved_by ways cache) c.next_notice.ensures.taken ∙ notice_shows ways nat_list_eq_equiv (λ a b. refl) c.loop-notice.self.cache ∙ c.loop-notice.invariant.shows;
      told = told_more c.args.self.now.cache c.loop-notice.self.cache c.next_notice.new.self c.loop-notice.invariant.told c.next_notice.ensures.taken;
      only = counted_on c.args.counters.now c.loop-notice.counters c.count_removal.new.counters c.loop-notice.invariant.only c.count_removal.ensures;
    }

pub loop-notice-smaller : goal.loop-notice-smaller
loop-notice-smaller g c = rw c.in-Some.ensures.taken (one_less c.loop-notice.self.cache.parts c.in-Some.notice (sym c.in-Some.ensures.notice))

pub returns-clause-shows : goal.returns-clause-shows
returns-clause-shows g c =
    let ways = item_ways g.S.BuildHasher g.S.Hasher.Hasher in
    ap (λ cache. shelved_by ways cache) c.next_notice.ensures.taken ∙ notice_shows ways nat_list_eq_equiv (λ a b. refl) c.loop-notice.self.cache ∙ c.loop-notice.invariant.shows

pub returns-clause-counted : goal.returns-clause-counted
returns-clause-counted g c = told_more c.args.self.now.cache c.loop-notice.self.cache c.next_notice.new.self c.loop-notice.invariant.told c.next_notice.ensures.taken

pub invariant_of-self : goal.invariant_of-self
invariant_of-self g c =
    let ways = item_ways g.S.BuildHasher g.S.Hasher.Hasher in
    record { kept = subst (λ f. ∥ IsItemCache f ∥₁) (sym c.next_notice.ensures.taken) (notice_keeps ways.answers ways.hash (λ rules key value. refl) c.loop-notice.self.cache c.loop-notice.self.kept) }
