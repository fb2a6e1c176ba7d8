use Rattle.std.proofs.Common.{rules, subst, sym}
use Rattle.front_parts.specs.Wholes.Covering.{AreOnly}
use Rattle.front_parts.proofs.wholes.Drawn.{all-append}
use Rattle.front_parts.proofs.wholes.clones.clone_each.Goals as goal

pub loop-preserved : goal.loop-preserved
loop-preserved g c =
    let count = c.loop.invariant.count in
    record {
      count = search rules;
      alike = subst (λ xs. AreOnly c.args.predicate.now xs) (sym c.in_ok-push.ensures.items)
          (all-append c.args.predicate.now c.in_ok-own.own c.loop.clones.items c.loop.invariant.alike (c.requires c.args.predicate.now c.in_ok-own.own c.in_ok-own.ensures.cases));
    }
