use Rattle.std.proofs.Common.{◌∙◌, subst}
use Rattle.front_parts.specs.Places.Calls.{ways_by}
use Rattle.front_state.specs.Covering.{GivesVisible}
use Rattle.front_state.proofs.state.showing.RefLentStateIntoIterator.into_iter.Goals as goal

pub returns : goal.returns
returns g c = record {
  into_iter_gives = (
    c.iter.ensures.source,
    c.iter.ensures.now ∙ c.last_call.ensures.now,
    subst (λ now. GivesVisible (ways_by g.R.Rules g.K.PartialEq.eq g.K.Hash.hash_input g.S.BuildHasher g.S.Hasher.Hasher) now c.args.self.now c.iter.result.coming) c.last_call.ensures.now c.iter.ensures.coming,
  );
}
