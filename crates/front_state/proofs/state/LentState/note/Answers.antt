use Rattle.std.proofs.Common.{◌∙◌, ap, sym}
use Rattle.front_parts.specs.Places.Calls.{hash_in, ways_by}
use Rattle.front_state.proofs.Steady.{all_parts, called_hash, looking_keeps, open_part, stays_steady}
use Rattle.front_state.proofs.state.LentState.note.Goals as goal

pub part_mut-part-requires : goal.part_mut-part-requires
part_mut-part-requires g c =
    all_parts (ways_by g.R.Rules g.K.PartialEq.eq g.K.Hash.hash_input g.S.BuildHasher g.S.Hasher.Hasher) _ c.self.invariant

pub note_look_up-requires : goal.note_look_up-requires
note_look_up-requires g c =
    let ways = (ways_by g.R.Rules g.K.PartialEq.eq g.K.Hash.hash_input g.S.BuildHasher g.S.Hasher.Hasher) in
    let key = g.Q.Names.named_key c.args.key.now in
    let is = c.requires.hashed ∙ ap (λ f. hash_in ways f key) (sym c.self.view_is) in
    record { hashed = (open_part ways _ c.args.hash key c.part_mut-part.result.now c.self.invariant is c.part_mut-part.ensures.there).hashed }

pub invariant_of-self : goal.invariant_of-self
invariant_of-self g c =
    let ways = (ways_by g.R.Rules g.K.PartialEq.eq g.K.Hash.hash_input g.S.BuildHasher g.S.Hasher.Hasher) in
    let key = g.Q.Names.named_key c.args.key.now in
    let is = c.requires.hashed ∙ ap (λ f. hash_in ways f key) (sym c.self.view_is) in
    stays_steady ways _ c.args.self.now c.args.at.now c.args.at.step c.args.hash key _ c.part_mut-part.result.now c.note_look_up.new.self c.self.view_is c.requires.follows is (looking_keeps ways g.met.K.Eq.laws key c.args.hash c.args.at.now c.args.at.step c.args.ignored) c.part_mut-part.ensures.there c.note_look_up.ensures c.self.invariant

pub returns : goal.returns
returns g c =
    called_hash (ways_by g.R.Rules g.K.PartialEq.eq g.K.Hash.hash_input g.S.BuildHasher g.S.Hasher.Hasher) _ c.args.self.now c.args.at.now c.args.at.step c.args.hash _ c.part_mut-part.result.now c.note_look_up.new.self c.self.view_is c.part_mut-part.ensures.there c.note_look_up.ensures
