use Rattle.std.proofs.Common.{◌≡◌, map, take}
use Rattle.audit_model.specs.Places.{tasks_to_give_up}
use Rattle.moka_audit.specs.Steps.Showing.{task_of}
use Rattle.moka_audit.proofs.records.duties.duties_to_give_up.Given as goal

abbrev pub invariant-loop-conn : goal.invariant-loop-conn
invariant-loop-conn l = map task_of l.duties.items ≡ tasks_to_give_up (take l.conn-index l.conns)
