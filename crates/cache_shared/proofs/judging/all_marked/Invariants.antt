use Rattle.cache_shared.specs.Marks.{AllMarked}
use Rattle.cache_shared.proofs.judging.all_marked.Given as goal

abbrev pub invariant-loop-at : goal.invariant-loop-at
invariant-loop-at l = AllMarked l.seen l.at
