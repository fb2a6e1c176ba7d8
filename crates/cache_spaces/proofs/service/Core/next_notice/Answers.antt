use Rattle.cache_spaces.proofs.Placing.{put-at}
use Rattle.cache_spaces.proofs.Reaching.{put-still, still-note}
use Rattle.cache_spaces.proofs.service.Core.next_notice.Goals as goal

pub returns-clause-taken : goal.returns-clause-taken
returns-clause-taken g c =
    let e = c.next_notice.ensures in
    put-at c.args.self.now c.self.inside.spaces.items c.self.view_is c.args.namespace c.in-Some.space.now c.in-Some.ensures.item.3.0 c.in-Some.ensures.item.1 _ c.next_notice.new.self (record { taken = e.taken; gives = e.gives; rest = e.rest })

pub returns-clause-reached : goal.returns-clause-reached
returns-clause-reached g c =
    put-still c.args.self.now c.self.inside.spaces.items c.self.view_is c.args.namespace c.in-Some.space.now c.in-Some.ensures.item.3.0 c.in-Some.ensures.item.1 c.next_notice.new.self
    (still-note c.in-Some.space.now c.next_notice.new.self c.next_notice.ensures.gives c.next_notice.ensures.rest)
