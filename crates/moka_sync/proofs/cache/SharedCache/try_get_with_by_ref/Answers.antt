use Rattle.std.specs.Arc.{arc_value}
use Rattle.front_parts.specs.Access.Selecting.{with_fault}
use Rattle.front_parts.specs.Places.Calls.{ways_by}
use Rattle.moka_sync.proofs.Resting.{result-at}
use Rattle.moka_sync.proofs.cache.SharedCache.try_get_with_by_ref.Goals as goal

pub returns-clause-made : goal.returns-clause-made
returns-clause-made g c =
    let ways = ways_by g.R.Rules g.K.PartialEq.eq g.K.Hash.hash_input g.S.BuildHasher g.S.Hasher.Hasher in
    let number = c.of-desk.ensures.number in
    result-at ways (cc (number, c.deref.ensures)) _ (λ made. g.M.FnOnce.post c.args.make tt made) (with_fault arc_value) c.make_result.result c.make_result.ensures.made
