use Rattle.std.proofs.Common.{cond, drop, ◌≡◌, ◌==◌, ℕ, None}
use Rattle.std.specs.List.{list_any}
use Rattle.audit_model.specs.Underway.{load_of}
use Rattle.cache_commands.proofs.loads.loads.remove_all.Given as goal

abbrev pub invariant-loop-conn : goal.invariant-loop-conn
invariant-loop-conn l = (q : ℕ) → cond (list_any (λ n. n == q) (drop l.conn-index l.conns)) None (load_of q l.joined) ≡ cond (list_any (λ n. n == q) l.conns) None (load_of q l.initial.joined)
