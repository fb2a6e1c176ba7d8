use Rattle.front_parts.specs.Places.Calls.{ways_by}
use Rattle.front_state.proofs.Accessed.{decides-if-ok}
use Rattle.front_state.proofs.state.accessing.LentStateAccess.compute.Goals as goal

pub returns-clause-decides : goal.returns-clause-decides
returns-clause-decides g c =
    decides-if-ok (ways_by g.R.Rules g.K.PartialEq.eq g.K.Hash.hash_input g.S.BuildHasher g.S.Hasher.Hasher) c.args.key c.args.when (λ seen decided. goal.D-post g c.args.decide seen decided) c.args.self.now c.compute.new.self c.compute.result c.compute.ensures.computes

pub returns-clause-cause : goal.returns-clause-cause
returns-clause-cause g c = c.compute.ensures.cause
