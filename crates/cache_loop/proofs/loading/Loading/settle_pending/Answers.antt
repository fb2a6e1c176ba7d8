use Rattle.std.proofs.Common.{subst, arith}
use Rattle.cache_loop.specs.Loads.{Resolves, held, held_one}
use Rattle.cache_loop.proofs.LoadsSettled.{settle-as, settle-told}
use Rattle.cache_loop.proofs.loading.Loading.settle_pending.Goals as goal

pub returns-then-forget-clause-each : goal.returns-then-forget-clause-each
returns-then-forget-clause-each g c =
    let self = c.args.self.now in
    let old = c.args.host.now.loads.items in
    let gone = c.forget in
    let now = c.settle.new in
    let told = c.settle.ensures.told in
    let before = held_one c.args.number old gone.new.self.pending.items in
    let after = held now.host.loads.items now.self.pending.items in
    let each = settle-told g.H.Host.came g.H.Host.rests self.conn c.args.number c.now-moment.result c.args.said told.0 old now.host.loads.items gone.new.self.pending.items now.self.pending.items c.args.place.now now.place
    (subst (λ k. Resolves g.H.Host.came g.H.Host.rests k c.args.number c.now-moment.result c.args.said c.args.place.now told.0 now.place) gone.ensures.conn told.1) told.2 c.settle.ensures.same.1 in
    settle-as g.H.Host.came g.H.Host.rests self.conn before after (held old self.pending.items) after c.args.place.now now.place each (λ n. let less = gone.ensures.one c.if-forget.true n in omega (arith, less))
