use Rattle.std.proofs.Common.{ap, sym, ◌∙◌}
use Rattle.std.specs.Prelude.{slice_get}
use Rattle.engine_cells.specs.Cells.{numbers_in}
use Rattle.engine_cells.specs.Kept.{kept_at}
use Rattle.engine_cells.proofs.Views.{kept-in}
use Rattle.engine_cells.proofs.Pointing.{fronts, no-front}
use Rattle.engine_cells.proofs.Walking.{found-map, none-map}
use Rattle.engine_tables.proofs.tables.Tables.first_written.Goals as goal

pub returns-clause-first : goal.returns-clause-first
returns-clause-first g c =
    let cells = c.self.inside.cells.slots in
    found-map _ _ (λ i f. (
      f.cell,
      ap (λ t. kept_at t i) (sym c.self.view_is) ∙ kept-in cells i c.self.invariant.kept.apart ∙ f.there,
      ap (λ t. slice_get t.state.order 0) (sym c.self.view_is) ∙ f.first,
      f.counts,
    )) c.place_at.result (fronts cells c.self.inside.order.places.indices c.place_at.result c.self.invariant.written (c.place_at.ensures ∙ c.first.ensures))

pub returns-clause-none : goal.returns-clause-none
returns-clause-none g c =
    none-map _ _ (λ none. ap (λ t. t.state.order) (sym c.self.view_is) ∙ ap (numbers_in c.self.inside.cells.slots) none) c.place_at.result (no-front c.self.inside.order.places.indices c.place_at.result (c.place_at.ensures ∙ c.first.ensures))
