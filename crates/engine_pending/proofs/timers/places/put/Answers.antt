use Rattle.std.proofs.Common.{arith}
use Rattle.engine_pending.proofs.timers.Showing.{put-others, put-stays}
use Rattle.engine_pending.proofs.timers.places.put.Goals as goal

pub returns-then-stays-clause-whole : goal.returns-then-stays-clause-whole
returns-then-stays-clause-whole c =
    put-stays c.args.expiries.now c.args.firsts.now c.args.place c.args.expiry c.requires.whole c.requires.within (omega arith) c.shown_by-shown.result c.shown_by-shown.ensures.within c.shown_by-shown.ensures.past
    (c.is_shown_first-stays.ensures.other c.if-stays.true) (c.is_shown_first-stays.ensures.first c.if-stays.true)

pub settle_up-requires-clause-others : goal.settle_up-requires-clause-others
settle_up-requires-clause-others c =
    put-others c.args.expiries.now c.args.firsts.now c.args.place c.args.expiry c.requires.whole c.requires.within (omega arith) c.shown_by-shown.result c.shown_by-shown.ensures.within c.shown_by-shown.ensures.past
