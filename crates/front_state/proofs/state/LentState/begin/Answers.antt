use Rattle.std.proofs.Common.{rules}
use Rattle.front_parts.specs.Access.Answering.{passes_none}
use Rattle.front_parts.specs.Places.Calls.{ways_by}
use Rattle.front_state.proofs.Beginning.{begins-as}
use Rattle.front_state.proofs.state.LentState.begin.Goals as goal

pub returns-clause-begins : goal.returns-clause-begins
returns-clause-begins g c =
    begins-as (ways_by g.R.Rules g.K.PartialEq.eq g.K.Hash.hash_input g.S.BuildHasher g.S.Hasher.Hasher) c.args.key c.args.at _ passes_none c.args.self.now c.begin_with_hash.new.self (λ v i says. search rules) c.args.kind c.hash-hash.result _ c.begin_with_hash.result c.hash-hash.ensures c.begin_with_hash.ensures.begins
