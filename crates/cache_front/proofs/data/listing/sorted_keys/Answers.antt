use Rattle.std.proofs.Common.{◌+◌, ◌<◌, ◌∙◌, sym, subst, arith, ℕ, List, ◌∷◌, drop, length}
use Rattle.cache_front.specs.Data.{hash_with}
use Rattle.cache_front.specs.Listing.{is_seen}
use Rattle.cache_front.proofs.data.Live.{Sorts, item_next, sorts_more, sorts_skip}
use Rattle.cache_front.proofs.data.listing.sorted_keys.Goals as goal
use Rattle.cache_front.proofs.data.listing.sorted_keys.Goals.{then-contains_key+in_ok-insert, else-contains_key}

pub loop-key-preserved : goal.loop-key-preserved
loop-key-preserved g c =
    let test = is_seen (hash_with g.S.BuildHasher g.S.Hasher.Hasher) c.args.now c.args.front.now in
    let ks : List (List ℕ) = c.args.keys.now in
    let rest = drop (c.loop-key.key-index + 1) ks in
    let key : List ℕ = c.deref-key.result.now in
    let inside : c.loop-key.key-index < length ks = omega arith in
    let step = item_next ks c.loop-key.key-index c.key-item.result key inside c.key-item.is c.deref-key.ensures in
    let sorts : Sorts test ks (key ∷ rest) c.loop-key.found.entries = subst (λ (xs : List (List ℕ)). Sorts test ks xs c.loop-key.found.entries) step c.loop-key.invariant in
    elim c.if-contains_key.branch [
      | then-contains_key+in_ok-insert w ↦ rw w.found-is (sorts_more test ks rest c.loop-key.found.entries w.insert.new.self.entries w.as_bytes.result key (sym c.contains_key.ensures ∙ w.if-contains_key.true) w.as_bytes.ensures w.in_ok-insert.ensures.entries sorts)
      | else-contains_key w ↦ rw w.found-is (sorts_skip test ks rest c.loop-key.found.entries key (sym c.contains_key.ensures ∙ w.if-contains_key.false) sorts)
    ]
