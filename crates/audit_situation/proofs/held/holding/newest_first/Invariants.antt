use Rattle.std.proofs.Common.{◌≡◌, ◌++◌, map}
use Rattle.audit_situation.specs.Held.Seeing.{held_of}
use Rattle.audit_situation.proofs.held.holding.newest_first.Given as goal

abbrev pub invariant-loop-seen : goal.invariant-loop-seen
invariant-loop-seen l = map held_of l.all.items ++ map (λ e. held_of e.1) l.seen-iterator ≡ map (λ e. held_of e.1) l.lent.entries
