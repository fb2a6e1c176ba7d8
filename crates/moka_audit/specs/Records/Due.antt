-- Which tasks are due.
use Rattle.std.specs.Prelude.{ℕ, Bool, true}
use Rattle.audit_model.specs.Steps.{Task, RunLines}

-- the task is due, if the lines of these connections may run
abbrev pub is_due_by : (ℕ → Bool) → Task → Bool
is_due_by may (RunLines conn) = may conn
is_due_by may task = true
