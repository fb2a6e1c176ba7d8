use Rattle.std.proofs.lemmas.Result.{IfOk-weaker}
use Rattle.cache_spaces.proofs.Placing.{put-at, refused-there, first-of, takes-output, unknown}
use Rattle.cache_spaces.proofs.Reaching.{put-still, still-output}
use Rattle.cache_spaces.proofs.service.Core.take_output.Goals as goal

pub returns-clause-taken : goal.returns-clause-taken
returns-clause-taken g c =
    IfOk-weaker c.take_output.result _ _ (λ text. put-at c.args.self.now c.self.inside.spaces.items c.self.view_is c.args.conn.namespace c.in-Some.space.now c.in-Some.ensures.item.3.0 c.in-Some.ensures.item.1 _ c.take_output.new.self)
    (takes-output c.in-Some.space.now c.args.conn.number c.take_output.new.self c.take_output.result c.take_output.ensures.taken c.take_output.ensures.refused)

pub returns-clause-refused : goal.returns-clause-refused
returns-clause-refused g c =
    refused-there c.args.self.now c.self.inside.spaces.items c.self.view_is c.args.conn.namespace c.in-Some.space.now c.in-Some.ensures.item.3.0 c.in-Some.ensures.item.1 _ c.take_output.result
    (unknown c.in-Some.space.now c.args.conn.number c.take_output.result c.take_output.ensures.refused (first-of c.in-Some.space.now c.args.conn.number _ c.take_output.result c.take_output.ensures.unchanged))

pub returns-clause-reached : goal.returns-clause-reached
returns-clause-reached g c =
    put-still c.args.self.now c.self.inside.spaces.items c.self.view_is c.args.conn.namespace c.in-Some.space.now c.in-Some.ensures.item.3.0 c.in-Some.ensures.item.1 c.take_output.new.self
    (still-output c.in-Some.space.now c.take_output.new.self c.args.conn.number c.take_output.result
    (takes-output c.in-Some.space.now c.args.conn.number c.take_output.new.self c.take_output.result c.take_output.ensures.taken c.take_output.ensures.refused) c.take_output.ensures.unchanged)
