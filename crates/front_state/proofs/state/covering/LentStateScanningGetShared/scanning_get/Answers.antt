use Rattle.std.proofs.Common.{◌∙◌, ap}
use Rattle.std.proofs.lemmas.Result.{IfOk-weaker}
use Rattle.front_parts.specs.Places.Calls.{visible_in, ways_by}
use Rattle.front_state.proofs.Seen.{sees_visible}
use Rattle.front_state.proofs.Steady.{all_parts, open_part}
use Rattle.front_state.proofs.state.covering.LentStateScanningGetShared.scanning_get.Goals as goal

pub part_ref-part-requires : goal.part_ref-part-requires
part_ref-part-requires g c =
    all_parts (ways_by g.R.Rules g.K.PartialEq.eq g.K.Hash.hash_input g.S.BuildHasher g.S.Hasher.Hasher) _ c.self.invariant

pub get_with_hash_without_recording-requires-clause-hashed : goal.get_with_hash_without_recording-requires-clause-hashed
get_with_hash_without_recording-requires-clause-hashed g c =
    let ways = (ways_by g.R.Rules g.K.PartialEq.eq g.K.Hash.hash_input g.S.BuildHasher g.S.Hasher.Hasher) in
    let key = c.deref-key.result.now in
    let is = c.hash_key-hash.ensures in
    (open_part ways _ c.hash_key-hash.result key c.part_ref-part.result.now c.self.invariant is c.part_ref-part.ensures).hashed

pub returns : goal.returns
returns g c =
    let ways = (ways_by g.R.Rules g.K.PartialEq.eq g.K.Hash.hash_input g.S.BuildHasher g.S.Hasher.Hasher) in
    let key = c.deref-key.result.now in
    let is = c.hash_key-hash.ensures in
    IfOk-weaker c.get_with_hash_without_recording.result _ _ (λ found e. e ∙ sees_visible ways _ c.args.self.now c.hash_key-hash.result key c.part_ref-part.result.now c.self.view_is is c.part_ref-part.ensures c.args.now ∙ ap (λ k. visible_in ways c.args.self.now c.args.now k) c.deref-key.ensures) c.get_with_hash_without_recording.ensures
