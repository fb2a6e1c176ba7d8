use Rattle.std.proofs.Common.{sym, ◌∙◌, arith}
use Rattle.engine_reference.specs.Identifiers.Drawing.{is_registered}
use Rattle.engine_reference.proofs.identifiers.Drawn.{draws_none_yet, draws_it, draws_more}
use Rattle.engine_reference.proofs.identifiers.draw.Goals as goal

pub loop-try-init : goal.loop-try-init
loop-try-init g c = draws_none_yet (g.G.Rng.stream c.args.generator.now) (is_registered c.args.registered.now)

pub returns-then-not-is_registered-clause-some : goal.returns-then-not-is_registered-clause-some
returns-then-not-is_registered-clause-some g c =
    draws_it c.loop-try._try (g.G.Rng.stream c.args.generator.now) (g.G.Rng.stream c.loop-try.generator) (g.G.Rng.stream c.draw_one-drawn.new.generator) (is_registered c.args.registered.now) c.draw_one-drawn.result c.as_u128-id.result
    c.loop-try.invariant c.draw_one-drawn.ensures.bytes c.draw_one-drawn.ensures.drawn c.as_u128-id.ensures (sym c.is_registered.ensures ∙ c.if-not-is_registered.true) (let t = c.loop-try-test.true in omega arith)

pub loop-try-preserved : goal.loop-try-preserved
loop-try-preserved g c =
    draws_more c.loop-try._try (g.G.Rng.stream c.args.generator.now) (g.G.Rng.stream c.loop-try.generator) (g.G.Rng.stream c.draw_one-drawn.new.generator) (is_registered c.args.registered.now) c.draw_one-drawn.result c.as_u128-id.result
    c.loop-try.invariant c.draw_one-drawn.ensures.bytes c.draw_one-drawn.ensures.drawn c.as_u128-id.ensures
    (sym c.is_registered.ensures ∙ c.if-not-is_registered.false)

pub returns-clause-none : goal.returns-clause-none
returns-clause-none g c = λ _.
    let t = c.loop-try-test.false in
    let e = c.loop-try.auto._try-end in
    record { number = c.loop-try._try; thousand = omega arith; drawn = c.loop-try.invariant }
