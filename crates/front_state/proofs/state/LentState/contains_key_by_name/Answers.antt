use Rattle.std.proofs.Common.{◌∙◌}
use Rattle.front_parts.specs.Places.Calls.{ways_by}
use Rattle.front_state.proofs.Seen.{sees_some}
use Rattle.front_state.proofs.Steady.{all_parts, open_part}
use Rattle.front_state.proofs.state.LentState.contains_key_by_name.Goals as goal

pub part_ref-part-requires : goal.part_ref-part-requires
part_ref-part-requires g c =
    all_parts (ways_by g.R.Rules g.K.PartialEq.eq g.K.Hash.hash_input g.S.BuildHasher g.S.Hasher.Hasher) _ c.self.invariant

pub contains_key_with_hash-requires : goal.contains_key_with_hash-requires
contains_key_with_hash-requires g c =
    let ways = (ways_by g.R.Rules g.K.PartialEq.eq g.K.Hash.hash_input g.S.BuildHasher g.S.Hasher.Hasher) in
    let key = g.Q.Names.named_key c.args.name.now in
    let is = c.hash_name-hash.ensures in
    record { hashed = (open_part ways _ c.hash_name-hash.result key c.part_ref-part.result.now c.self.invariant is c.part_ref-part.ensures).hashed }

pub returns : goal.returns
returns g c =
    let ways = (ways_by g.R.Rules g.K.PartialEq.eq g.K.Hash.hash_input g.S.BuildHasher g.S.Hasher.Hasher) in
    let key = g.Q.Names.named_key c.args.name.now in
    let is = c.hash_name-hash.ensures in
    c.contains_key_with_hash.ensures ∙ sees_some ways _ c.args.self.now c.hash_name-hash.result key c.part_ref-part.result.now c.self.view_is is c.part_ref-part.ensures c.args.now
