use Rattle.cache_spaces.proofs.Placing.{put-at, refused-at}
use Rattle.cache_spaces.proofs.service.Core.feed.Goals.{in-Ok-true, in-Ok-false, in-Err}
use Rattle.cache_spaces.proofs.service.Core.feed.Goals as goal

pub returns-clause-taken : goal.returns-clause-taken
returns-clause-taken g c =
    elim c.match-feed.branch [
      | in-Ok-true w ↦ rw w.result-is (put-at c.args.self.now c.self.inside.spaces.items c.self.view_is c.args.conn.namespace c.in-Some.space.now c.in-Some.ensures.item.3.0 c.in-Some.ensures.item.1 _ c.feed.new.self (rw w.in-Ok-true.field-0-test at w.in-Ok-true.ensures.turned))
      | in-Ok-false w ↦ rw w.result-is (put-at c.args.self.now c.self.inside.spaces.items c.self.view_is c.args.conn.namespace c.in-Some.space.now c.in-Some.ensures.item.3.0 c.in-Some.ensures.item.1 _ c.feed.new.self (rw w.in-Ok-false.field-0-test at w.in-Ok-false.ensures.turned))
      | in-Err w ↦ rw w.result-is tt
    ]

pub returns-clause-refused : goal.returns-clause-refused
returns-clause-refused g c =
    elim c.match-feed.branch [
      | in-Ok-true w ↦ rw w.result-is tt
      | in-Ok-false w ↦ rw w.result-is tt
      | in-Err w ↦ rw w.result-is (refused-at c.args.self.now c.self.inside.spaces.items c.self.view_is c.args.conn.namespace c.in-Some.space.now c.in-Some.ensures.item.3.0 c.in-Some.ensures.item.1 _ _ w.in-Err.ensures.refused)
    ]
