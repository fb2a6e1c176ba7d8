use Rattle.cache_loop.proofs.LoadsSettled.{settle-then}
use Rattle.cache_loop.proofs.loading.Loading.take_answers.Goals as goal

pub returns-clause-each : goal.returns-clause-each
returns-clause-each g c =
    let first = c.settle_answered in
    settle-then g.H.Host.came g.H.Host.rests c.args.self.now.conn _ _ _ c.args.place.now first.new.place c.give_up_late.new.place _ first.ensures.conn first.ensures.each c.give_up_late.ensures.each
