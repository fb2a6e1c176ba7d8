use Rattle.std.proofs.lemmas.Result.{on_ok_weaker}
use Rattle.cache_spaces.proofs.Placing.{if-err-given, put-at, refused-there}
use Rattle.cache_spaces.proofs.service.Core.close.Goals as goal

pub returns-clause-taken : goal.returns-clause-taken
returns-clause-taken g c =
    on_ok_weaker c.close.result (put-at c.args.self.now c.self.inside.spaces.items c.self.view_is c.args.conn.namespace c.in-Some.space.now c.in-Some.ensures.item.3.0 c.in-Some.ensures.item.1 _ c.close.new.self) c.close.ensures.turned

pub returns-clause-refused : goal.returns-clause-refused
returns-clause-refused g c =
    refused-there c.args.self.now c.self.inside.spaces.items c.self.view_is c.args.conn.namespace c.in-Some.space.now c.in-Some.ensures.item.3.0 c.in-Some.ensures.item.1 _ c.close.result c.close.ensures.refused

pub returns-clause-spare : goal.returns-clause-spare
returns-clause-spare g c =
    refused-there c.args.self.now c.self.inside.spaces.items c.self.view_is c.args.conn.namespace c.in-Some.space.now c.in-Some.ensures.item.3.0 c.in-Some.ensures.item.1 _ c.close.result (if-err-given _ c.close.result c.close.ensures.spare)
