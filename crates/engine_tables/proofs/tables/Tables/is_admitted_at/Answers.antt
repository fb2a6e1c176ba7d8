use Rattle.std.proofs.Common.{◌≡◌, ap, sym, ◌∙◌, Some}
use Rattle.engine_cells.specs.Kept.{kept_at, is_admitted_as}
use Rattle.engine_cells.specs.Cells.{cell_at}
use Rattle.engine_cells.proofs.Views.{kept-in}
use Rattle.engine_tables.proofs.tables.Tables.is_admitted_at.Goals as goal

pub returns-in-Some : goal.returns-in-Some
returns-in-Some g c =
    let cells = c.self.inside.cells.slots in
    let there : cell_at cells c.args.place ≡ Some c.in-Some.cell.now = sym c.in-Some.ensures in
    let seen = ap (λ t. kept_at t c.args.place) (sym c.self.view_is) ∙ kept-in cells c.args.place c.self.invariant.kept.apart ∙ there in
    c.is_admitted_as.ensures ∙ sym (ap (λ o. is_admitted_as c.args.number o) seen)
