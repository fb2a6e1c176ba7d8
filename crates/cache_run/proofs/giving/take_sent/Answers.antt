use Rattle.std.proofs.Common.{arith}
use Rattle.std.proofs.lemmas.Option.{slice_get_within}
use Rattle.cache_spaces.specs.Calls.{TakesLoads}
use Rattle.cache_run.specs.Loading.{GivesLoads}
use Rattle.cache_spaces.proofs.Placing.{at-given}
use Rattle.cache_run.proofs.Driving.{known-given}
use Rattle.cache_run.proofs.giving.take_sent.Goals as goal

pub returns : goal.returns
returns c =
    let taken = at-given (λ was is. TakesLoads was is c.in-Ok.loads.items) (GivesLoads c.in-Ok.loads.items) _ _ _ c.in-Ok.ensures.taken (λ x y at behind t. (c.sound.ensures x at, t)) in
    record { taken = taken; known = known-given _ _ _ _ c.in-Ok.loads.items taken c.requires.known }

pub unreachable-requires : goal.unreachable-requires
unreachable-requires c = let r = c.requires.known in let known = slice_get_within c.args.service.now c.args.conn.namespace r.space r.at in let past = c.in-Err.ensures.refused.1 in omega (arith, known, past)
