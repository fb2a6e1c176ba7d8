use Rattle.moka_audit.proofs.steps.Sorting.{Lined}
use Rattle.moka_audit.proofs.steps.keys.write_keys.Given as goal

abbrev pub invariant-loop-key : goal.invariant-loop-key
invariant-loop-key l = Lined l.keys.entries l.key-iterator l.initial.output.items l.output.items
