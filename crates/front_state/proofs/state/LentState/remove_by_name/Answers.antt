use Rattle.std.proofs.Common.{◌∙◌}
use Rattle.engine_reference.specs.Calls.{removal_rooms}
use Rattle.front_reference.specs.Parts.{TakesOut}
use Rattle.front_parts.specs.Places.Calls.{ways_by}
use Rattle.front_state.proofs.Seen.{cause_of_key, sees_held}
use Rattle.front_state.proofs.Steady.{all_parts, called_key, open_part, stays_steady, taking_out_keeps, untouched, untouched_keeps}
use Rattle.front_state.proofs.state.LentState.remove_by_name.Goals as goal

pub part_mut-part-requires : goal.part_mut-part-requires
part_mut-part-requires g c =
    all_parts (ways_by g.R.Rules g.K.PartialEq.eq g.K.Hash.hash_input g.S.BuildHasher g.S.Hasher.Hasher) _ c.self.invariant

pub remove-requires-clause-hashed : goal.remove-requires-clause-hashed
remove-requires-clause-hashed g c =
    let ways = (ways_by g.R.Rules g.K.PartialEq.eq g.K.Hash.hash_input g.S.BuildHasher g.S.Hasher.Hasher) in
    let key = g.Q.Names.named_key c.args.name.now in
    let is = c.hash_name-hash.ensures in
    (open_part ways _ c.hash_name-hash.result key c.part_mut-part.result.now c.self.invariant is c.part_mut-part.ensures.there).hashed

pub remove-requires-clause-ready : goal.remove-requires-clause-ready
remove-requires-clause-ready g c =
    let ways = (ways_by g.R.Rules g.K.PartialEq.eq g.K.Hash.hash_input g.S.BuildHasher g.S.Hasher.Hasher) in
    let key = g.Q.Names.named_key c.args.name.now in
    let is = c.hash_name-hash.ensures in
    (open_part ways _ c.hash_name-hash.result key c.part_mut-part.result.now c.self.invariant is c.part_mut-part.ensures.there).ready

pub invariant_of-self : goal.invariant_of-self
invariant_of-self g c =
    let ways = (ways_by g.R.Rules g.K.PartialEq.eq g.K.Hash.hash_input g.S.BuildHasher g.S.Hasher.Hasher) in
    let key = g.Q.Names.named_key c.args.name.now in
    let is = c.hash_name-hash.ensures in
    stays_steady ways _ c.args.self.now c.args.at.now c.args.at.step c.hash_name-hash.result key _ c.part_mut-part.result.now c.remove.new.part c.self.view_is c.requires.follows is (taking_out_keeps ways g.met.K.Eq.laws key c.args.at.now c.args.at.step) c.part_mut-part.ensures.there c.in-Ok.ensures.takes_out c.self.invariant

pub returns-in-Ok-clause-value : goal.returns-in-Ok-clause-value
returns-in-Ok-clause-value g c =
    let ways = (ways_by g.R.Rules g.K.PartialEq.eq g.K.Hash.hash_input g.S.BuildHasher g.S.Hasher.Hasher) in
    let key = g.Q.Names.named_key c.args.name.now in
    let is = c.hash_name-hash.ensures in
    c.in-Ok.ensures.value ∙ sees_held ways _ c.args.self.now c.hash_name-hash.result key c.part_mut-part.result.now c.self.view_is is c.part_mut-part.ensures.there

pub returns-in-Ok-clause-takes_out : goal.returns-in-Ok-clause-takes_out
returns-in-Ok-clause-takes_out g c =
    let ways = (ways_by g.R.Rules g.K.PartialEq.eq g.K.Hash.hash_input g.S.BuildHasher g.S.Hasher.Hasher) in
    let key = g.Q.Names.named_key c.args.name.now in
    let is = c.hash_name-hash.ensures in
    called_key ways _ c.args.self.now c.args.at.now c.args.at.step c.hash_name-hash.result key (λ n. TakesOut ways.answers ways.eq key c.args.at.now) c.part_mut-part.result.now c.remove.new.part c.self.view_is is c.part_mut-part.ensures.there c.in-Ok.ensures.takes_out

pub invariant_of-self-in-Err : goal.invariant_of-self-in-Err
invariant_of-self-in-Err g c =
    let ways = (ways_by g.R.Rules g.K.PartialEq.eq g.K.Hash.hash_input g.S.BuildHasher g.S.Hasher.Hasher) in
    untouched_keeps ways _ c.hash_name-hash.result c.part_mut-part.result.now c.remove.new.part c.part_mut-part.ensures.there c.in-Err.ensures.err c.self.invariant

pub returns-in-Err-clause-err : goal.returns-in-Err-clause-err
returns-in-Err-clause-err g c =
    let ways = (ways_by g.R.Rules g.K.PartialEq.eq g.K.Hash.hash_input g.S.BuildHasher g.S.Hasher.Hasher) in
    untouched ways _ c.hash_name-hash.result c.part_mut-part.result.now c.remove.new.part c.part_mut-part.ensures.there c.in-Err.ensures.err ∙ c.self.view_is

pub returns-in-Err-clause-cause : goal.returns-in-Err-clause-cause
returns-in-Err-clause-cause g c =
    let ways = (ways_by g.R.Rules g.K.PartialEq.eq g.K.Hash.hash_input g.S.BuildHasher g.S.Hasher.Hasher) in
    let key = g.Q.Names.named_key c.args.name.now in
    let is = c.hash_name-hash.ensures in
    cause_of_key ways _ c.args.self.now c.hash_name-hash.result key c.part_mut-part.result.now c.self.view_is is c.part_mut-part.ensures.there removal_rooms c.in-Err.refused c.in-Err.ensures.cause
