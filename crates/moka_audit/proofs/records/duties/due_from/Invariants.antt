use Rattle.std.proofs.Common.{◌≡◌, map, drop}
use Rattle.audit_model.specs.Places.{due}
use Rattle.audit_model.specs.Situation.{may_run_in}
use Rattle.audit_situation.specs.States.{shown_situation}
use Rattle.moka_audit.specs.Steps.Showing.{task_of}
use Rattle.moka_audit.proofs.records.duties.due_from.Given as goal

abbrev pub invariant-loop-at : goal.invariant-loop-at
invariant-loop-at l = due (may_run_in (shown_situation l.s)) (map task_of (drop l.at l.duties)) ≡ due (may_run_in (shown_situation l.s)) (map task_of (drop l.from l.duties))
