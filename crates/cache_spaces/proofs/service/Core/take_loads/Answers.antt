use Rattle.cache_spaces.proofs.Placing.{put-at}
use Rattle.cache_spaces.proofs.Reaching.{put-still, still-loads}
use Rattle.cache_spaces.proofs.service.Core.take_loads.Goals as goal

pub returns-clause-taken : goal.returns-clause-taken
returns-clause-taken g c =
    let e = c.take_loads.ensures in
    put-at c.args.self.now c.self.inside.spaces.items c.self.view_is c.args.namespace c.in-Some.space.now c.in-Some.ensures.item.3.0 c.in-Some.ensures.item.1 _ c.take_loads.new.self (record { taken = e.taken.0; rest = e.taken.1; in_turn = e.in_turn; keys = e.keys })

pub returns-clause-reached : goal.returns-clause-reached
returns-clause-reached g c =
    put-still c.args.self.now c.self.inside.spaces.items c.self.view_is c.args.namespace c.in-Some.space.now c.in-Some.ensures.item.3.0 c.in-Some.ensures.item.1 c.take_loads.new.self
    (still-loads c.in-Some.space.now c.take_loads.new.self c.take_loads.ensures.taken.1)
