use Rattle.std.proofs.Common.{◌+◌, arith, subst, sym}
use Rattle.cache_spaces.specs.Recorded.{AreAtStart}
use Rattle.cache_spaces.proofs.Reading.{start-more, start-none}
use Rattle.cache_spaces.proofs.journals.new_cursors.Goals as goal

pub loop-namespace-init : goal.loop-namespace-init
loop-namespace-init c = record { fresh = subst (λ l. AreAtStart l 0) (sym c.in_ok-read.ensures.items) start-none }

pub loop-namespace-preserved : goal.loop-namespace-preserved
loop-namespace-preserved c = record {
  fresh = subst (λ l. AreAtStart l (c.loop-namespace._namespace + 1)) (sym c.in_ok-push.ensures.items)
      (start-more c.loop-namespace.read.items c.new.result c.loop-namespace._namespace c.loop-namespace.invariant.fresh c.new.ensures.replies c.new.ensures.notes);
}

pub returns : goal.returns
returns c =
    let over = c.loop-namespace-test.false in
    let within = c.loop-namespace.auto._namespace-end in
    subst (AreAtStart c.loop-namespace.read.items) (omega (arith, over, within)) c.loop-namespace.invariant.fresh
