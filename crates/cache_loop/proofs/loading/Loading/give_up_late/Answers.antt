use Rattle.std.proofs.Common.{None, subst, ◌∙◌, arith}
use Rattle.cache_loop.specs.Loads.{Resolves, held, held_one}
use Rattle.cache_loop.proofs.LoadsSettled.{settle-on, settle-told}
use Rattle.cache_loop.proofs.loading.Loading.give_up_late.Goals as goal

pub loop-late-preserved : goal.loop-late-preserved
loop-late-preserved g c =
    let l = c.loop-late in
    let gone = c.forget_at-number in
    let same = gone.ensures.conn ∙ l.invariant.conn in
    let all = held c.args.host.now.loads.items c.args.self.now.pending.items in
    let before = held l.host.loads.items l.self.pending.items in
    let one = held_one gone.result l.host.loads.items gone.new.self.pending.items in
    let after = held c.settle.new.host.loads.items c.settle.new.self.pending.items in
    let told = c.settle.ensures.told in
    let each = settle-told g.H.Host.came g.H.Host.rests c.args.self.now.conn gone.result c.now-moment.result None told.0 l.host.loads.items c.settle.new.host.loads.items gone.new.self.pending.items c.settle.new.self.pending.items l.place c.settle.new.place
    (subst (λ k. Resolves g.H.Host.came g.H.Host.rests k gone.result c.now-moment.result None l.place told.0 c.settle.new.place) same told.1) told.2 c.settle.ensures.same.1 in
    record {
      each = settle-on g.H.Host.came g.H.Host.rests c.args.self.now.conn all before one after all after c.args.place.now l.place c.settle.new.place l.invariant.each each (λ n. let less = gone.ensures.one n in omega (arith, less));
      conn = c.settle.ensures.same.0 ∙ same;
    }
