use Rattle.cache_spaces.specs.Recorded.{AreAtStart}
use Rattle.cache_spaces.proofs.journals.new_cursors.Given as goal

abbrev pub invariant-loop-namespace : goal.invariant-loop-namespace
invariant-loop-namespace l = record { fresh : AreAtStart l.read.items l._namespace }
