use Rattle.std.proofs.Common.{◌≡◌, ◌==◌, ℕ, None, cond}
use Rattle.std.specs.List.{list_any}
use Rattle.audit_model.specs.Underway.{load_of}
use Rattle.audit_situation.proofs.joined.remove_all.Given as goal

abbrev pub invariant-loop-conn : goal.invariant-loop-conn
invariant-loop-conn l =
    (q : ℕ) → cond (list_any (λ n. n == q) l.conn-iterator) None (load_of q l.joined) ≡ cond (list_any (λ n. n == q) l.conns) None (load_of q l.initial.joined)
