use Rattle.std.proofs.Common.{◌∙◌, ap, sym}
use Rattle.front_parts.specs.Places.Calls.{hash_in, ways_by}
use Rattle.front_state.proofs.Steady.{begun_turns, comes_last, computing_leads, led_computing}
use Rattle.front_reference.specs.declared.data.TurnKind.TheVariants as turns
use Rattle.front_state.proofs.state.LentState.lead_compute.Goals as goal

pub add-requires : goal.add-requires
add-requires g c = comes_last (ways_by g.R.Rules g.K.PartialEq.eq g.K.Hash.hash_input g.S.BuildHasher g.S.Hasher.Hasher) g.met.K.Eq.laws _ c.in_ok-turn.turn (ap (λ t. t.number) c.in_ok-turn.ensures.made) c.self.invariant

pub invariant_of-self-2 : goal.invariant_of-self-2
invariant_of-self-2 g c =
    let ways = (ways_by g.R.Rules g.K.PartialEq.eq g.K.Hash.hash_input g.S.BuildHasher g.S.Hasher.Hasher) in
    let key = g.Q.Names.named_key c.args.name in
    computing_leads ways g.met.K.Eq.laws _ c.args.self.now c.args.at.now c.args.at.step c.args.hash turns.Compute key c.add.new.self
    c.self.view_is c.requires.follows (c.requires.hashed ∙ ap (λ f. hash_in ways f key) (sym c.self.view_is)) c.requires.free
    (begun_turns ways _ _ _ _ _ _ _ c.in_ok-add.ensures.added c.in_ok-turn.ensures.made) c.self.invariant

pub returns-clause-leads : goal.returns-clause-leads
returns-clause-leads g c =
    let ways = (ways_by g.R.Rules g.K.PartialEq.eq g.K.Hash.hash_input g.S.BuildHasher g.S.Hasher.Hasher) in
    let key = g.Q.Names.named_key c.args.name in
    led_computing ways _ c.args.self.now c.args.at.now c.args.at.step c.args.hash turns.Compute key c.add.new.self c.self.view_is
    (begun_turns ways _ _ _ _ _ _ _ c.in_ok-add.ensures.added c.in_ok-turn.ensures.made)
