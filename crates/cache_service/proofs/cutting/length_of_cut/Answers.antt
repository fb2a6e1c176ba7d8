use Rattle.std.proofs.Common.{arith, sym, ◌∙◌}
use Rattle.cache_service.proofs.Lines.{end-within, none-more, one-counted, quick-to-end, quick-to-first, scanned-behind}
use Rattle.cache_service.proofs.cutting.length_of_cut.Goals as goal

pub returns-in_default-clause-few : goal.returns-in_default-clause-few
returns-in_default-clause-few c = omega (arith, none-more c.args.bytes.now c.loop-start.start c.loop-start.invariant.within c.in_default.ensures)

pub returns-in_default-clause-quick : goal.returns-in_default-clause-quick
returns-in_default-clause-quick c = quick-to-end c.args.bytes.now c.loop-start.start c.loop-start.invariant.within c.loop-start.invariant.scanned c.in_default.ensures

pub returns-then-left-eq0-clause-few : goal.returns-then-left-eq0-clause-few
returns-then-left-eq0-clause-few c =
    let i = c.loop-start.invariant in
    omega (arith, one-counted c.args.bytes.now c.loop-start.start i.within i.scanned c.in-Some.at c.in-Some.ensures.0 c.in-Some.ensures.1, i.counted, i.some)

pub returns-then-left-eq0-clause-quick : goal.returns-then-left-eq0-clause-quick
returns-then-left-eq0-clause-quick c =
    let i = c.loop-start.invariant in quick-to-first c.args.bytes.now c.loop-start.start i.within i.scanned c.in-Some.at c.in-Some.ensures.0 c.in-Some.ensures.1

pub loop-start-preserved : goal.loop-start-preserved
loop-start-preserved c =
    let i = c.loop-start.invariant in
    let more = c.if-left-eq0.false in record {
      some = omega (arith, more);
      within = omega (arith, end-within c.args.bytes.now c.loop-start.start i.within i.scanned c.in-Some.at c.in-Some.ensures.0 c.in-Some.ensures.1);
      counted = omega (arith, one-counted c.args.bytes.now c.loop-start.start i.within i.scanned c.in-Some.at c.in-Some.ensures.0 c.in-Some.ensures.1, i.counted, i.some);
      scanned = scanned-behind c.args.bytes.now c.loop-start.start i.within i.scanned c.in-Some.at c.in-Some.ensures.0 c.in-Some.ensures.1 (sym c.may_take_long.ensures ∙ c.if-may_take_long.false);
    }
