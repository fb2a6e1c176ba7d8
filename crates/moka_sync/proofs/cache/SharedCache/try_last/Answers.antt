use Rattle.std.proofs.Common.{◌≡◌, IfSome, arith, subst}
use Rattle.std.proofs.lemmas.List.{get_or_read}
use Rattle.std.specs.Arc.{arc_value}
use Rattle.front_parts.specs.Places.Calls.{ways_by}
use Rattle.moka_sync.specs.Showing.{ShowsItem}
use Rattle.moka_sync.proofs.cache.SharedCache.try_last.Goals as goal

pub returns-in-Some-value-clause-shown : goal.returns-in-Some-value-clause-shown
returns-in-Some-value-clause-shown g c =
    let ways = ways_by g.R.Rules g.K.PartialEq.eq g.K.Hash.hash_input g.S.BuildHasher g.S.Hasher.Hasher in
    let keys = c.args.keys.now in
    let low = c.requires.some in
    let read = get_or_read keys.items _ _ (omega (arith, c.len-last.ensures, keys.ok.0)) c.index.ensures c.index.result.now in
    let popped = c.pop.ensures.value c.index.result.now (omega (arith, low, keys.ok.0)) in
    let taken = c.in-Some.is in
    let long = c.len-last.ensures in
    let same : c.index.result.now ≡ c.in-Some.key = cc (read, popped, taken, long) in
    let shown = subst (λ found. IfSome found (λ value. ShowsItem ways ways.hash (arc_value c.args.self.now.inner).spread (c.index.result.now, value))) c.in-Some-value.is c.in_ok-value.ensures.shown in
    subst (λ k. ShowsItem ways ways.hash (arc_value c.args.self.now.inner).spread (k, c.in-Some-value.value)) same shown
