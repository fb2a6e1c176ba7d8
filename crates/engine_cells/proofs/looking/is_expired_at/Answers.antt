use Rattle.std.proofs.Common.{◌≡◌, sym, ap, ◌∙◌, Some}
use Rattle.std.proofs.lemmas.Option.{same_Some}
use Rattle.engine_cells.specs.Cells.{cell_at}
use Rattle.engine_cells.specs.Looking.{is_expired}
use Rattle.engine_cells.proofs.looking.is_expired_at.Goals as goal

pub returns-in-Some-clause-due : goal.returns-in-Some-clause-due
returns-in-Some-clause-due g c = λ due.
    let there : cell_at c.args.cells.now.slots c.args.place ≡ Some c.in-Some.cell.now = sym c.in-Some.ensures in
    (c.in-Some.cell.now, there, sym c.is_expired.ensures ∙ due)

pub returns-in-Some-clause-not : goal.returns-in-Some-clause-not
returns-in-Some-clause-not g c = λ off x there.
    ap (λ y. is_expired c.args.now y) (same_Some _ _ (sym there ∙ sym c.in-Some.ensures)) ∙ sym c.is_expired.ensures ∙ off
