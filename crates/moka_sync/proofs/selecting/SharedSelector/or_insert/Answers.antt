use Rattle.std.proofs.Common.{None}
use Rattle.front_reference.specs.declared.data.Made.TheVariants.{Value}
use Rattle.moka_sync.proofs.Resting.{gives-of}
use Rattle.front_parts.specs.Places.Calls.{ways_by}
use Rattle.moka_sync.proofs.selecting.SharedSelector.or_insert.Goals as goal

pub returns-in-Ok-clause-made : goal.returns-in-Ok-clause-made
returns-in-Ok-clause-made g c =
    let ways = ways_by g.R.Rules g.K.PartialEq.eq g.K.Hash.hash_input g.S.BuildHasher g.S.Hasher.Hasher in
    let owner = c.entry.ensures.owner in
    let key = c.entry.ensures.key in
    gives-of ways (cc (owner, key, c.in_ok-attached.ensures.same)) key None (Value c.in-Ok.entry.value) c.in-Ok.entry.is_fresh c.in-Ok.ensures.entry
