use Rattle.std.proofs.Common.{◌∙◌}
use Rattle.front_parts.specs.Places.Calls.{ways_by}
use Rattle.front_state.proofs.Seen.{sees_visible}
use Rattle.front_state.proofs.Steady.{all_parts, open_part}
use Rattle.front_state.proofs.state.LentState.peek.Goals as goal

pub part_ref-part-requires : goal.part_ref-part-requires
part_ref-part-requires g c =
    all_parts (ways_by g.R.Rules g.K.PartialEq.eq g.K.Hash.hash_input g.S.BuildHasher g.S.Hasher.Hasher) _ c.self.invariant

pub peek-requires : goal.peek-requires
peek-requires g c =
    let ways = (ways_by g.R.Rules g.K.PartialEq.eq g.K.Hash.hash_input g.S.BuildHasher g.S.Hasher.Hasher) in
    let key = c.args.key.now in
    let is = c.hash_key-hash.ensures in
    record { hashed = (open_part ways _ c.hash_key-hash.result key c.part_ref-part.result.now c.self.invariant is c.part_ref-part.ensures).hashed }

pub returns : goal.returns
returns g c =
    let ways = (ways_by g.R.Rules g.K.PartialEq.eq g.K.Hash.hash_input g.S.BuildHasher g.S.Hasher.Hasher) in
    let key = c.args.key.now in
    let is = c.hash_key-hash.ensures in
    c.peek.ensures ∙ sees_visible ways _ c.args.self.now c.hash_key-hash.result key c.part_ref-part.result.now c.self.view_is is c.part_ref-part.ensures c.args.now
