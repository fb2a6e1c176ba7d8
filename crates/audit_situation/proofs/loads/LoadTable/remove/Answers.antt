use Rattle.std.proofs.Common.{◌≡◌, ◌==◌, ℕ, List, sym, ap, ◌∙◌, None, cond}
use Rattle.std.specs.List.{list_any}
use Rattle.audit_model.specs.Bytewise.{same}
use Rattle.audit_model.specs.Underway.{load_of, number_at}
use Rattle.audit_model.proofs.Waiting.{none-removed, removed-keeps}
use Rattle.audit_situation.proofs.loads.LoadTable.remove.Goals as goal

pub invariant_of-self-inside : goal.invariant_of-self-inside
invariant_of-self-inside c =
    let inside = c.self.inside in
    let less : (q : List ℕ) → number_at q c.remove_key.new.keys ≡ cond (same c.in-Some.load.key q) None (number_at q inside.keys) = λ q. c.remove_key.ensures q ∙ ap (λ k. cond (same k q) None (number_at q inside.keys)) c.key.ensures in
    let fewer : (q : ℕ) → load_of q c.remove_all.new.joined ≡ cond (list_any (λ n. n == q) c.in-Some.load.waiting) None (load_of q inside.joined) = λ q. c.remove_all.ensures q ∙ ap (λ ns. cond (list_any (λ n. n == q) ns) None (load_of q inside.joined)) c.waiters.ensures in
    rw c.take.ensures.rest
    (removed-keeps inside.last c.args.number inside.keys c.remove_key.new.keys inside.joined c.remove_all.new.joined inside.table c.in-Some.load (sym c.take.ensures.found ∙ c.in-Some.is) less fewer inside.keeps, tt)

pub invariant_of-self-inside-in_default : goal.invariant_of-self-inside-in_default
invariant_of-self-inside-in_default c =
    let inside = c.self.inside in
    rw c.take.ensures.rest (none-removed inside.last c.args.number inside.keys inside.joined inside.table inside.keeps, tt)
