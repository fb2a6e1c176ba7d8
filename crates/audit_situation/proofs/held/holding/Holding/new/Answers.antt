use Rattle.std.proofs.Common.{sym, subst}
use Rattle.audit_situation.specs.Held.Holds.{RepresentsHeld}
use Rattle.audit_situation.proofs.held.Keeping.{keeps-none}
use Rattle.audit_situation.proofs.held.holding.Holding.new.Goals as goal

pub invariant_of-result : goal.invariant_of-result
invariant_of-result c =
    let none = keeps-none c.in_ok-vec.field-0.items c.in_ok-vec-2.field-0.items (c.in_ok-vec.ensures.items_if_clones_equal (λ y h. h)) (c.in_ok-vec-2.ensures.items_if_clones_equal (λ y h. h)) in
    (subst (RepresentsHeld 0 c.in_ok-vec.field-0.items c.in_ok-vec-2.field-0.items 0) (sym c.new.ensures) none, tt)
