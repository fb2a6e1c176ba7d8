use Rattle.front_parts.specs.Places.Calls.{ways_by}
use Rattle.front_state.proofs.Steady.{led_on, none_under, waited}
use Rattle.front_state.proofs.state.LentState.wait_or_lead.Goals as goal

pub returns-in-Some-clause-starts : goal.returns-in-Some-clause-starts
returns-in-Some-clause-starts g c = waited (ways_by g.R.Rules g.K.PartialEq.eq g.K.Hash.hash_input g.S.BuildHasher g.S.Hasher.Hasher) _ _ c.args.kind (g.Q.Names.named_key c.args.name) c.args.hash c.args.at c.args.ignored c.in-Some.number c.in-Some.ensures c.note.ensures

pub returns-in-Ok-clause-starts : goal.returns-in-Ok-clause-starts
returns-in-Ok-clause-starts g c = led_on (ways_by g.R.Rules g.K.PartialEq.eq g.K.Hash.hash_input g.S.BuildHasher g.S.Hasher.Hasher) _ _ c.args.kind (g.Q.Names.named_key c.args.name) c.args.hash c.args.at c.args.ignored c.in-Ok.number c.in-None.ensures c.in-Ok.ensures.leads

pub lead-requires-clause-free : goal.lead-requires-clause-free
lead-requires-clause-free g c = none_under (ways_by g.R.Rules g.K.PartialEq.eq g.K.Hash.hash_input g.S.BuildHasher g.S.Hasher.Hasher) _ c.in-None.ensures
