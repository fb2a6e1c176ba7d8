use Rattle.std.proofs.Common.{[], ap, subst, arith}
use Rattle.cache_run.specs.Driver.Exchanges.{Outs}
use Rattle.cache_loop.specs.Loads.{SettlesBehind, held, held_in_hand, times_out}
use Rattle.cache_loop.proofs.LoadsSettled.{settle-as-behind}
use Rattle.cache_loop.proofs.loading.Loading.ask_all.Goals as goal

pub returns-clause-each : goal.returns-clause-each
returns-clause-each g c =
    let taken = c.take_loads-out in
    let old = c.args.self.now in
    let now = c.ask_each.new in
    let hand = held_in_hand taken.result.items taken.new.self.loads.items old.pending.items in
    let after = held now.host.loads.items now.self.pending.items in
    let each = subst (λ outs. SettlesBehind g.H.Host.came g.H.Host.rests old.conn hand c.args.place.now after now.place outs now.host.loads.items) taken.ensures.none c.ask_each.ensures.each in
    settle-as-behind g.H.Host.came g.H.Host.rests old.conn hand after (held c.args.host.now.loads.items old.pending.items) after c.args.place.now now.place [] now.host.loads.items each
    (λ n. let took = ap (λ (outs : Outs). times_out outs n) taken.ensures.all in let none = ap (λ (outs : Outs). times_out outs n) taken.ensures.none in omega (arith, took, none))
