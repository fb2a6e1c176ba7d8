use Rattle.std.proofs.Common.{subst}
use Rattle.moka_audit.proofs.steps.Sorting.{Lined, lined_more, lined_end}
use Rattle.moka_audit.proofs.steps.keys.write_keys.Goals as goal

pub loop-key-preserved : goal.loop-key-preserved
loop-key-preserved c =
    lined_more c.args.keys.now.entries c.next.new.self c.args.output.now.items c.loop-key.output.items c.write_key.new.output.items (c.in-Some.key.now, tt) c.in_ok-write_key.ensures
    (subst (λ xs. Lined c.args.keys.now.entries xs c.args.output.now.items c.loop-key.output.items) c.in-Some.ensures.steps c.loop-key.invariant)

pub returns : goal.returns
returns c =
    lined_end c.args.keys.now.entries c.args.output.now.items c.loop-key.output.items
    (subst (λ xs. Lined c.args.keys.now.entries xs c.args.output.now.items c.loop-key.output.items) c.in-None.ensures.steps.0 c.loop-key.invariant)
