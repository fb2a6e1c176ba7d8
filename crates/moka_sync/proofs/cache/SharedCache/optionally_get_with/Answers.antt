use Rattle.front_parts.specs.Places.Calls.{ways_by}
use Rattle.moka_sync.proofs.Resting.{option-at}
use Rattle.moka_sync.proofs.cache.SharedCache.optionally_get_with.Goals as goal

pub returns-clause-made : goal.returns-clause-made
returns-clause-made g c =
    let ways = ways_by g.R.Rules g.K.PartialEq.eq g.K.Hash.hash_input g.S.BuildHasher g.S.Hasher.Hasher in
    let number = c.of-desk.ensures.number in
    option-at ways (cc (number, c.deref.ensures)) _ _ (λ found. g.M.FnOnce.post c.args.make tt found) c.make_option.result c.make_option.ensures.made
