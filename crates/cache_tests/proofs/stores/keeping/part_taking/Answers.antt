use Rattle.std.proofs.Common.{None, ◌∙◌}
use Rattle.cache_tests.proofs.Accepting.{accepted-config, accepted-latest}
use Rattle.cache_tests.proofs.stores.keeping.part_taking.Goals as goal

pub returns-clause-config : goal.returns-clause-config
returns-clause-config g c = accepted-config g.S.Store.view c.args.now c.args.key.now c.args.value.now None c.args.store.now c.accept.new.self c.accept.result c.accept.ensures.does c.accept.ensures.unchanged ∙ c.requires.config

pub returns-clause-in_time : goal.returns-clause-in_time
returns-clause-in_time g c = accepted-latest g.S.Store.view c.args.now c.args.key.now c.args.value.now None c.args.store.now c.accept.new.self c.accept.result c.accept.ensures.does c.accept.ensures.unchanged c.requires.in_time
