use Rattle.std.specs.Result.{is_ok}
use Rattle.engine_pending.proofs.timers.Showing.{added}
use Rattle.engine_pending.proofs.timers.places.add.Goals as goal

pub returns-then-cover_next-clause-whole : goal.returns-then-cover_next-clause-whole
returns-then-cover_next-clause-whole c =
    added (is_ok c.push.result) c.args.expiries.now.items c.args.firsts.now.items c.push.new.self.items c.cover_next.new.firsts.items c.push.ensures.items
    (rw c.as_slice.ensures.value at c.cover_next.ensures.same) (rw c.as_slice.ensures.value at (c.cover_next.ensures.enough c.if-cover_next.true)) c.requires
