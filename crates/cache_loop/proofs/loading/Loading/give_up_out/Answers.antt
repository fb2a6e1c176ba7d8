use Rattle.std.proofs.Common.{subst}
use Rattle.cache_run.specs.Driver.Exchanges.{Outs}
use Rattle.cache_loop.specs.Loads.{GivesUpEach, numbers_out}
use Rattle.cache_loop.proofs.loading.Loading.give_up_out.Goals as goal

pub returns-clause-each : goal.returns-clause-each
returns-clause-each g c =
    let told = c.give_up_all in
    subst (λ (outs : Outs). GivesUpEach g.H.Host.came g.H.Host.rests c.args.self.now.conn c.args.place.now (numbers_out outs) told.new.place) c.take_loads-loads.ensures.all told.ensures.each
