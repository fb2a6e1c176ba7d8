use Rattle.front_parts.specs.Places.Calls.{ways_by}
use Rattle.moka_sync.proofs.Resting.{value-at}
use Rattle.moka_sync.proofs.cache.SharedCache.get_with_if.Goals as goal

pub returns-clause-made : goal.returns-clause-made
returns-clause-made g c =
    let ways = ways_by g.R.Rules g.K.PartialEq.eq g.K.Hash.hash_input g.S.BuildHasher g.S.Hasher.Hasher in
    let number = c.of-desk.ensures.number in
    value-at ways (cc (number, c.deref.ensures)) _ _ _ _ c.make_value.result c.make_value.ensures.made
