use Rattle.std.proofs.Common.{◌≡◌, ◌++◌, map, take}
use Rattle.audit_model.specs.Steps.{RunLines}
use Rattle.moka_audit.specs.Steps.Showing.{task_of}
use Rattle.moka_audit.proofs.records.duties.push_lines.Given as goal

abbrev pub invariant-loop-conn : goal.invariant-loop-conn
invariant-loop-conn l = map task_of l.duties.items ≡ map task_of l.initial.duties.items ++ map RunLines (take l.conn-index l.conns)
