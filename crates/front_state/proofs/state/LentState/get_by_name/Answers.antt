use Rattle.std.proofs.Common.{◌∙◌, false}
use Rattle.engine_reference.specs.Scanning.{NotesLookUp}
use Rattle.front_parts.proofs.iterator.Pairs.{on_err}
use Rattle.front_parts.specs.Places.Calls.{ways_by}
use Rattle.front_state.proofs.Seen.{sees_visible}
use Rattle.front_state.proofs.Steady.{all_parts, called_key, looking_keeps, looks_noted, open_part, stays_steady, untouched, untouched_keeps}
use Rattle.front_state.proofs.state.LentState.get_by_name.Goals as goal

pub part_mut-part-requires : goal.part_mut-part-requires
part_mut-part-requires g c =
    all_parts (ways_by g.R.Rules g.K.PartialEq.eq g.K.Hash.hash_input g.S.BuildHasher g.S.Hasher.Hasher) _ c.self.invariant

pub get_with_hash-requires-clause-hashed : goal.get_with_hash-requires-clause-hashed
get_with_hash-requires-clause-hashed g c =
    let ways = (ways_by g.R.Rules g.K.PartialEq.eq g.K.Hash.hash_input g.S.BuildHasher g.S.Hasher.Hasher) in
    let key = g.Q.Names.named_key c.args.name.now in
    let is = c.hash_name-hash.ensures in
    (open_part ways _ c.hash_name-hash.result key c.part_mut-part.result.now c.self.invariant is c.part_mut-part.ensures.there).hashed

pub invariant_of-self : goal.invariant_of-self
invariant_of-self g c =
    let ways = (ways_by g.R.Rules g.K.PartialEq.eq g.K.Hash.hash_input g.S.BuildHasher g.S.Hasher.Hasher) in
    untouched_keeps ways _ c.hash_name-hash.result c.part_mut-part.result.now c.get_with_hash.new.self c.part_mut-part.ensures.there c.in_err-found.ensures.err c.self.invariant

pub returns-in_err-found-clause-err : goal.returns-in_err-found-clause-err
returns-in_err-found-clause-err g c =
    let ways = (ways_by g.R.Rules g.K.PartialEq.eq g.K.Hash.hash_input g.S.BuildHasher g.S.Hasher.Hasher) in
    on_err _ c.from_residual.result (untouched ways _ c.hash_name-hash.result c.part_mut-part.result.now c.get_with_hash.new.self c.part_mut-part.ensures.there c.in_err-found.ensures.err ∙ c.self.view_is)

pub invariant_of-self-2 : goal.invariant_of-self-2
invariant_of-self-2 g c =
    let ways = (ways_by g.R.Rules g.K.PartialEq.eq g.K.Hash.hash_input g.S.BuildHasher g.S.Hasher.Hasher) in
    let key = g.Q.Names.named_key c.args.name.now in
    let is = c.hash_name-hash.ensures in
    stays_steady ways _ c.args.self.now c.args.at.now c.args.at.step c.hash_name-hash.result key _ c.part_mut-part.result.now c.get_with_hash.new.self c.self.view_is c.requires.follows is (looking_keeps ways g.met.K.Eq.laws key c.hash_name-hash.result c.args.at.now c.args.at.step false) c.part_mut-part.ensures.there (looks_noted ways _ _ _ _ _ c.in_ok-found.ensures.used) c.self.invariant

pub returns-clause-found : goal.returns-clause-found
returns-clause-found g c =
    let ways = (ways_by g.R.Rules g.K.PartialEq.eq g.K.Hash.hash_input g.S.BuildHasher g.S.Hasher.Hasher) in
    let key = g.Q.Names.named_key c.args.name.now in
    let is = c.hash_name-hash.ensures in
    c.in_ok-found.ensures.found ∙ sees_visible ways _ c.args.self.now c.hash_name-hash.result key c.part_mut-part.result.now c.self.view_is is c.part_mut-part.ensures.there c.args.at.now

pub returns-clause-used : goal.returns-clause-used
returns-clause-used g c =
    let ways = (ways_by g.R.Rules g.K.PartialEq.eq g.K.Hash.hash_input g.S.BuildHasher g.S.Hasher.Hasher) in
    let key = g.Q.Names.named_key c.args.name.now in
    let is = c.hash_name-hash.ensures in
    called_key ways _ c.args.self.now c.args.at.now c.args.at.step c.hash_name-hash.result key (λ n. NotesLookUp ways.answers ways.eq key n c.args.at.now false) c.part_mut-part.result.now c.get_with_hash.new.self c.self.view_is is c.part_mut-part.ensures.there (looks_noted ways _ _ _ _ _ c.in_ok-found.ensures.used)
