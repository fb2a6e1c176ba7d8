use Rattle.std.proofs.Common.{◌≡◌, ◌≤◌, map, drop, length, true}
use Rattle.audit_situation.specs.States.{shown_situation}
use Rattle.moka_audit.specs.Steps.Showing.{task_of}
use Rattle.moka_audit.specs.Records.Auditing.{audited_steps}
use Rattle.moka_audit.specs.Records.Tidy.{is_tidy}
use Rattle.moka_audit.proofs.records.records.judge_steps.Given as goal

abbrev pub invariant-loop-step : goal.invariant-loop-step
invariant-loop-step l = record {
  same : audited_steps l.config l.initial.parts (shown_situation l.initial.s) (map task_of l.duties) l.steps ≡ audited_steps l.config l.parts (shown_situation l.s) (map task_of (drop l.at l.duties)) (drop l.step-index l.steps);
  tidy : is_tidy (shown_situation l.s) ≡ true;
  within : l.at ≤ length l.duties;
}
