use Rattle.std.proofs.Common.{◌≡◌, ◌<◌, ℕ, false}
use Rattle.audit_model.specs.Notes.{is_over}
use Rattle.audit_situation.specs.Held.Weights.{values_of}
use Rattle.moka_audit.proofs.steps.judging.are_within.Given as goal

abbrev pub invariant-loop-part : goal.invariant-loop-part
invariant-loop-part l = (part : ℕ) → part < l.part → is_over l.config part (values_of l.held) ≡ false
