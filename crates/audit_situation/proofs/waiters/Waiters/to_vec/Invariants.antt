use Rattle.std.proofs.Common.{◌≡◌, ◌++◌}
use Rattle.audit_situation.proofs.waiters.Waiters.to_vec.Given as goal

abbrev pub invariant-loop-conn : goal.invariant-loop-conn
invariant-loop-conn l = l.conns.items ++ l.conn-iterator ≡ l.self
