use Rattle.std.proofs.lemmas.Result.{IfOk-weaker}
use Rattle.cache_spaces.proofs.Placing.{first-of, looked, put-at, refused-there, unknown}
use Rattle.cache_spaces.proofs.Reaching.{put-still, still-owed}
use Rattle.cache_spaces.proofs.service.Core.owed.Goals as goal

pub returns-clause-given : goal.returns-clause-given
returns-clause-given g c =
    IfOk-weaker c.owed.result _ _ (λ owed. put-at c.args.self.now c.self.inside.spaces.items c.self.view_is c.args.conn.namespace c.in-Some.space.now c.in-Some.ensures.item.3.0 c.in-Some.ensures.item.1 _ c.owed.new.self)
    (looked c.in-Some.space.now c.args.conn.number _ c.owed.result c.owed.ensures.given c.owed.ensures.refused)

pub returns-clause-refused : goal.returns-clause-refused
returns-clause-refused g c =
    refused-there c.args.self.now c.self.inside.spaces.items c.self.view_is c.args.conn.namespace c.in-Some.space.now c.in-Some.ensures.item.3.0 c.in-Some.ensures.item.1 _ c.owed.result
    (unknown c.in-Some.space.now c.args.conn.number c.owed.result c.owed.ensures.refused (first-of c.in-Some.space.now c.args.conn.number _ c.owed.result c.owed.ensures.unchanged))

pub returns-clause-reached : goal.returns-clause-reached
returns-clause-reached g c =
    put-still c.args.self.now c.self.inside.spaces.items c.self.view_is c.args.conn.namespace c.in-Some.space.now c.in-Some.ensures.item.3.0 c.in-Some.ensures.item.1 c.owed.new.self
    (still-owed c.in-Some.space.now c.owed.new.self c.args.conn.number c.args.wants_loads c.owed.result c.owed.ensures.given c.owed.ensures.unchanged)
