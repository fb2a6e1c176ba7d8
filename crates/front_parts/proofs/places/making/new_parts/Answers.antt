use Rattle.std.proofs.Common.{rules, subst, sym}
use Rattle.front_parts.specs.Places.Making.{AreNew}
use Rattle.front_parts.proofs.places.Newness.{next_new}
use Rattle.front_parts.proofs.places.making.new_parts.Goals as goal

pub returns-clause-new : goal.returns-clause-new
returns-clause-new g c = c.loop.invariant.new

pub loop-preserved : goal.loop-preserved
loop-preserved g c =
    let count = c.loop.invariant.count in
    record {
      count = search rules;
      new = subst (λ xs. AreNew c.args.settings c.args.hasher.now c.args.rules.now xs) (sym c.in_ok-push.ensures.items)
          (next_new c.args.settings c.args.hasher.now c.args.rules.now c.loop.parts.items c.in_ok-part.part c.loop.invariant.new c.in_ok-part.ensures);
    }
