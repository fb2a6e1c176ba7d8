use Rattle.std.proofs.Common.{◌≡◌, ap, sym, ◌∙◌, subst, Some, None}
use Rattle.engine_reference.specs.Records.{record_at}
use Rattle.engine_cells.specs.Cells.{cell_at}
use Rattle.engine_cells.specs.Kept.{kept_at}
use Rattle.engine_cells.specs.Noting.{AimsOnlyAt}
use Rattle.engine_cells.proofs.Views.{kept-in}
use Rattle.engine_cells.proofs.Standing.{number-there, number-gone, number-nowhere}
use Rattle.engine_tables.proofs.tables.Tables.has_record.Goals as goal

pub returns-in-Some-clause-there : goal.returns-in-Some-clause-there
returns-in-Some-clause-there g c = λ yes.
    let cells = c.self.inside.cells.slots in
    let apart = c.self.invariant.kept.apart in
    let cell = c.in-Some.cell.now in
    let there : cell_at cells c.args.place ≡ Some cell = sym c.in-Some.ensures in (
      cell,
      ap (λ t. kept_at t c.args.place) (sym c.self.view_is) ∙ kept-in cells c.args.place apart ∙ there,
      ap (λ t. record_at t.state.records c.args.number) (sym c.self.view_is) ∙ number-there cells c.args.place c.args.number cell apart there (rw c.number.ensures at yes),
    )

pub returns-in-Some-clause-gone : goal.returns-in-Some-clause-gone
returns-in-Some-clause-gone g c = λ no.
    let cells = c.self.inside.cells.slots in
    let there : cell_at cells c.args.place ≡ Some c.in-Some.cell.now = sym c.in-Some.ensures in
    let aims = subst (λ t. AimsOnlyAt t.numbers c.args.place c.args.number) (sym c.self.view_is) c.requires in
    ap (λ t. record_at t.state.records c.args.number) (sym c.self.view_is) ∙ number-gone cells c.args.place c.args.number c.in-Some.cell.now c.self.invariant.kept.apart aims there (rw c.number.ensures at no)

pub returns-in-None-clause-gone : goal.returns-in-None-clause-gone
returns-in-None-clause-gone g c =
    let cells = c.self.inside.cells.slots in
    let none : cell_at cells c.args.place ≡ None = sym c.in-None.ensures in
    let aims = subst (λ t. AimsOnlyAt t.numbers c.args.place c.args.number) (sym c.self.view_is) c.requires in
    λ no. ap (λ t. record_at t.state.records c.args.number) (sym c.self.view_is) ∙ number-nowhere cells c.args.place c.args.number c.self.invariant.kept.apart aims none
