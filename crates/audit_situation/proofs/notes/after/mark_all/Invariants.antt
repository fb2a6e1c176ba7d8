use Rattle.std.proofs.Common.{◌≡◌, map}
use Rattle.audit_situation.specs.Held.Weights.{values_of}
use Rattle.audit_situation.proofs.notes.Passing.{marked_below}
use Rattle.audit_situation.proofs.notes.after.mark_all.Given as goal

abbrev pub invariant-loop-part : goal.invariant-loop-part
invariant-loop-part l = l.held ≡ map (marked_below l.config l.syncs l.sized (values_of l.initial.held) l.part) l.initial.held
