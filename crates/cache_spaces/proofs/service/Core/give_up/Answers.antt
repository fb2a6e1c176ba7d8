use Rattle.std.proofs.lemmas.Result.{on_ok_weaker}
use Rattle.cache_spaces.proofs.Placing.{if-err-given, put-at, refused-there}
use Rattle.cache_spaces.proofs.service.Core.give_up.Goals as goal

pub returns-clause-taken : goal.returns-clause-taken
returns-clause-taken g c =
    on_ok_weaker c.give_up.result (put-at c.args.self.now c.self.inside.spaces.items c.self.view_is c.args.load.namespace c.in-Some.space.now c.in-Some.ensures.item.3.0 c.in-Some.ensures.item.1 _ c.give_up.new.self) c.give_up.ensures.turned

pub returns-clause-refused : goal.returns-clause-refused
returns-clause-refused g c =
    refused-there c.args.self.now c.self.inside.spaces.items c.self.view_is c.args.load.namespace c.in-Some.space.now c.in-Some.ensures.item.3.0 c.in-Some.ensures.item.1 _ c.give_up.result c.give_up.ensures.refused

pub returns-clause-spare : goal.returns-clause-spare
returns-clause-spare g c =
    refused-there c.args.self.now c.self.inside.spaces.items c.self.view_is c.args.load.namespace c.in-Some.space.now c.in-Some.ensures.item.3.0 c.in-Some.ensures.item.1 _ c.give_up.result (if-err-given _ c.give_up.result c.give_up.ensures.spare)
