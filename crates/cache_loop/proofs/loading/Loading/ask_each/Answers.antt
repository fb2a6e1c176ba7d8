use Rattle.std.proofs.Common.{◌+◌, length, refl, ap, subst, sym, ◌∙◌, arith}
use Rattle.std.proofs.lemmas.List.{nil_from_length}
use Rattle.std.specs.Vec.Iter.{into_iter_items}
use Rattle.cache_run.specs.Driver.Exchanges.{Outs}
use Rattle.cache_loop.specs.Loads.{SettlesBehind, held, held_in_hand, held_one, times_out}
use Rattle.cache_loop.proofs.LoadsSettled.{out-first, settle-as-behind, settle-none-behind, settle-on-behind}
use Rattle.cache_loop.proofs.loading.Loading.ask_each.Goals as goal

pub loop-load-preserved : goal.loop-load-preserved
loop-load-preserved g c =
    let l = c.loop-load in
    let conn = c.args.self.now.conn in
    let number = c.in-Some.load.number in
    let left = into_iter_items c.next.new.self in
    let all = held_in_hand c.args.loads.items c.args.host.now.loads.items c.args.self.now.pending.items in
    let before = held_in_hand (into_iter_items l.load-iterator) l.host.loads.items l.self.pending.items in
    let one = held_one number l.host.loads.items l.self.pending.items in
    let after = held c.ask.new.host.loads.items c.ask.new.self.pending.items in
    let each = subst (λ k. SettlesBehind g.H.Host.came g.H.Host.rests k one l.place after c.ask.new.place l.host.loads.items c.ask.new.host.loads.items) l.invariant.conn c.ask.ensures.each in
    record {
      len = let many = ap (λ (outs : Outs). length outs) c.in-Some.ensures.steps.0 in omega (arith, many, c.in-Some.ensures.steps.1, l.invariant.len);
      each = settle-on-behind g.H.Host.came g.H.Host.rests conn all before one after all (held_in_hand left c.ask.new.host.loads.items c.ask.new.self.pending.items) c.args.place.now l.place c.ask.new.place c.args.host.now.loads.items l.host.loads.items c.ask.new.host.loads.items l.invariant.each each
          (λ n. let first = ap (λ (outs : Outs). times_out outs n) c.in-Some.ensures.steps.0 ∙ out-first (c.in-Some.load, c.in-Some.key) left n in omega (arith, first));
      conn = c.ask.ensures.conn ∙ l.invariant.conn;
    }

pub loop-load-init : goal.loop-load-init
loop-load-init g c =
    let items = c.into_iter-load-iterator.ensures.into_iter_gives in
    let outs = c.args.host.now.loads.items in
    let pending = c.args.self.now.pending.items in
    record {
      len = items.1 ∙ c.args.loads.ok.0 ∙ sym (ap (λ (xs : Outs). length xs) items.0);
      each = settle-none-behind g.H.Host.came g.H.Host.rests c.args.self.now.conn (held_in_hand c.args.loads.items outs pending) _ c.args.place.now outs outs
          (λ n. ap (λ (xs : Outs). times_out xs n + held outs pending n) (sym items.0)) refl;
      conn = refl;
    }

pub returns-clause-each : goal.returns-clause-each
returns-clause-each g c =
    let l = c.loop-load in
    let all = held_in_hand c.args.loads.items c.args.host.now.loads.items c.args.self.now.pending.items in
    let left = into_iter_items l.load-iterator in
    let none = nil_from_length left (sym l.invariant.len ∙ c.in-None.ensures.steps.0) in
    settle-as-behind g.H.Host.came g.H.Host.rests c.args.self.now.conn all (held_in_hand left l.host.loads.items l.self.pending.items) all (held l.host.loads.items l.self.pending.items) c.args.place.now l.place c.args.host.now.loads.items l.host.loads.items l.invariant.each
    (λ n. let no = ap (λ (xs : Outs). times_out xs n) none in omega (arith, no))
