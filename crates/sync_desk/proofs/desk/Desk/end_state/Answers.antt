use Rattle.std.proofs.Common.{inr}
use Rattle.front_parts.specs.Places.Calls.{ways_by}
use Rattle.sync_desk.proofs.Refusing.{ending_used_up}
use Rattle.sync_desk.proofs.desk.Desk.end_state.Goals as goal

pub returns-in-Err-clause-used_up : goal.returns-in-Err-clause-used_up
returns-in-Err-clause-used_up g c is =
    let ways = ways_by g.R.Rules g.K.PartialEq.eq g.K.Hash.hash_input g.S.BuildHasher g.S.Hasher.Hasher in
    inr (ending_used_up ways c.args.number c.args.self.now.state c.in-Err.refused c.in-Err.ensures.cause is)
