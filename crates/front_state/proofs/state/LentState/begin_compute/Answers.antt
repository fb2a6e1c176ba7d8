use Rattle.front_parts.specs.Places.Calls.{ways_by}
use Rattle.front_state.proofs.Steady.{begun_leading, begun_waiting, none_under}
use Rattle.front_state.proofs.state.LentState.begin_compute.Goals as goal

pub returns-in-Some-clause-begins : goal.returns-in-Some-clause-begins
returns-in-Some-clause-begins g c = begun_waiting (ways_by g.R.Rules g.K.PartialEq.eq g.K.Hash.hash_input g.S.BuildHasher g.S.Hasher.Hasher) c.args.self.now _ (g.Q.Names.named_key c.args.name) c.args.hash c.args.at.now c.args.at.step c.in-Some.number c.in-Some.ensures c.pass.ensures

pub lead_compute-requires-clause-free : goal.lead_compute-requires-clause-free
lead_compute-requires-clause-free g c = none_under (ways_by g.R.Rules g.K.PartialEq.eq g.K.Hash.hash_input g.S.BuildHasher g.S.Hasher.Hasher) _ c.in-None.ensures

pub returns-in-Ok-clause-begins : goal.returns-in-Ok-clause-begins
returns-in-Ok-clause-begins g c = begun_leading (ways_by g.R.Rules g.K.PartialEq.eq g.K.Hash.hash_input g.S.BuildHasher g.S.Hasher.Hasher) c.args.self.now _ (g.Q.Names.named_key c.args.name) c.args.hash c.args.at.now c.args.at.step c.in-Ok.number c.in-None.ensures c.in-Ok.ensures.number c.in-Ok.ensures.leads
