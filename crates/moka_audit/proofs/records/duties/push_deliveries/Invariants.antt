use Rattle.std.proofs.Common.{◌≡◌, ◌++◌, map, take}
use Rattle.audit_model.specs.Steps.{Deliver}
use Rattle.moka_audit.specs.Steps.Showing.{task_of}
use Rattle.moka_audit.proofs.records.duties.push_deliveries.Given as goal

abbrev pub invariant-loop-conn : goal.invariant-loop-conn
invariant-loop-conn l = map task_of l.duties.items ≡ map task_of l.initial.duties.items ++ map (λ conn. Deliver conn l.outcome) (take l.conn-index l.conns)
