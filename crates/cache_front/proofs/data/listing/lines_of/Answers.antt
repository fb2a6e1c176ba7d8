use Rattle.std.proofs.Common.{subst}
use Rattle.cache_front.proofs.data.Live.{Lined, lined_end, lined_more}
use Rattle.cache_front.proofs.data.listing.lines_of.Goals as goal

pub loop-key-preserved : goal.loop-key-preserved
loop-key-preserved c =
    lined_more c.args.keys.now.entries c.next.new.self c.loop-key.lines.items c.write_line.new.output.items (c.in-Some.key.now, tt) c.in_ok-write_line.ensures
    (subst (λ xs. Lined c.args.keys.now.entries xs c.loop-key.lines.items) c.in-Some.ensures.steps c.loop-key.invariant)

pub returns : goal.returns
returns c =
    lined_end c.args.keys.now.entries c.loop-key.lines.items (subst (λ xs. Lined c.args.keys.now.entries xs c.loop-key.lines.items) c.in-None.ensures.steps.0 c.loop-key.invariant)
