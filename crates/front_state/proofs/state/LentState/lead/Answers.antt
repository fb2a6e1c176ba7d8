use Rattle.std.proofs.Common.{◌∙◌, ap, sym}
use Rattle.front_parts.specs.Places.Calls.{hash_in, ways_by}
use Rattle.front_state.proofs.Steady.{all_parts, begun_turns, comes_last, leads_steadily, led, noted_key, open_part}
use Rattle.front_state.proofs.state.LentState.lead.Goals as goal

pub part_mut-part-requires : goal.part_mut-part-requires
part_mut-part-requires g c =
    all_parts (ways_by g.R.Rules g.K.PartialEq.eq g.K.Hash.hash_input g.S.BuildHasher g.S.Hasher.Hasher) _ c.self.invariant

pub add-requires : goal.add-requires
add-requires g c =
    comes_last (ways_by g.R.Rules g.K.PartialEq.eq g.K.Hash.hash_input g.S.BuildHasher g.S.Hasher.Hasher) g.met.K.Eq.laws _ c.in_ok-turn.turn (ap (λ t. t.number) c.in_ok-turn.ensures.made) c.self.invariant

pub note_look_up-requires : goal.note_look_up-requires
note_look_up-requires g c =
    let ways = (ways_by g.R.Rules g.K.PartialEq.eq g.K.Hash.hash_input g.S.BuildHasher g.S.Hasher.Hasher) in
    let key = g.Q.Names.named_key c.args.name in
    let is = c.requires.hashed ∙ ap (λ f. hash_in ways f key) (sym c.self.view_is) in
    let own = (c.in_ok-key.ensures.cases ∙ ap (λ t. t.key) c.in_ok-turn.ensures.made) in
    record { hashed = (open_part ways _ c.args.hash c.in_ok-key.key c.part_mut-part.result.now c.self.invariant (is ∙ ap (λ k. ways.hash c.self.inside.hasher k) (sym own)) c.part_mut-part.ensures.there).hashed }

pub invariant_of-self-2 : goal.invariant_of-self-2
invariant_of-self-2 g c =
    let ways = (ways_by g.R.Rules g.K.PartialEq.eq g.K.Hash.hash_input g.S.BuildHasher g.S.Hasher.Hasher) in
    let key = g.Q.Names.named_key c.args.name in
    let is = c.requires.hashed ∙ ap (λ f. hash_in ways f key) (sym c.self.view_is) in
    let own = (c.in_ok-key.ensures.cases ∙ ap (λ t. t.key) c.in_ok-turn.ensures.made) in
    leads_steadily ways g.met.K.Eq.laws _ c.args.self.now c.args.at.now c.args.at.step c.args.hash c.args.kind key c.args.ignored c.part_mut-part.result.now c.note_look_up.new.self c.add.new.self c.self.view_is c.requires.follows is c.requires.free c.part_mut-part.ensures.there
    (noted_key ways _ _ _ _ _ _ _ own c.note_look_up.ensures) (begun_turns ways _ _ _ _ _ _ _ c.in_ok-add.ensures.added c.in_ok-turn.ensures.made) c.self.invariant

pub returns-clause-leads : goal.returns-clause-leads
returns-clause-leads g c =
    let ways = (ways_by g.R.Rules g.K.PartialEq.eq g.K.Hash.hash_input g.S.BuildHasher g.S.Hasher.Hasher) in
    let key = g.Q.Names.named_key c.args.name in
    let is = c.requires.hashed ∙ ap (λ f. hash_in ways f key) (sym c.self.view_is) in
    let own = (c.in_ok-key.ensures.cases ∙ ap (λ t. t.key) c.in_ok-turn.ensures.made) in
    led ways _ c.args.self.now c.args.at c.args.hash c.args.kind key c.args.ignored c.part_mut-part.result.now c.note_look_up.new.self c.add.new.self c.self.view_is c.part_mut-part.ensures.there
    (noted_key ways _ _ _ _ _ _ _ own c.note_look_up.ensures) (begun_turns ways _ _ _ _ _ _ _ c.in_ok-add.ensures.added c.in_ok-turn.ensures.made)
