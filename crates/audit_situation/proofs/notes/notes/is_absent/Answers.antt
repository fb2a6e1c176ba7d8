use Rattle.std.proofs.Common.{arith, ◌≡◌, ap, ◌∙◌, sym, option_map, is_none}
use Rattle.audit_situation.specs.Held.Seeing.{held_of}
use Rattle.audit_situation.proofs.notes.Judging.{absent-all, none-map, spared, spared-none}
use Rattle.audit_situation.proofs.notes.notes.is_absent.Goals as goal

pub returns-in-Some : goal.returns-in-Some
returns-in-Some c =
    let absent : c.is_none.result ≡ is_none c.get.result = grind (arith, c.is_none.ensures) in
    absent ∙ none-map held_of c.get.result ∙ ap is_none c.get.ensures ∙ absent-all c.in-Some.key.now c.args.held.now
    ∙ ap (λ k. spared (option_map (λ k. k.now) k) c.args.held.now) (sym c.in-Some.is)

pub returns-in-None : goal.returns-in-None
returns-in-None c = sym (spared-none c.args.held.now) ∙ ap (λ k. spared (option_map (λ k. k.now) k) c.args.held.now) (sym c.in-None.is)
