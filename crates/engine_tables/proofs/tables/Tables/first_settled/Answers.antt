use Rattle.std.proofs.Common.{ap, sym, ◌∙◌}
use Rattle.engine_reference.specs.Records.{settled_in}
use Rattle.engine_reference.specs.Runs.{next_to_evict}
use Rattle.engine_cells.specs.Kept.{kept_at}
use Rattle.engine_cells.proofs.Views.{kept-in}
use Rattle.engine_cells.proofs.Walking.{found-map, none-map}
use Rattle.engine_tables.proofs.tables.Tables.first_settled.Goals as goal

pub returns-clause-found : goal.returns-clause-found
returns-clause-found g c =
    let cells = c.self.inside.cells.slots in
    found-map _ _ (λ i f. (
      f.0,
      ap (λ t. kept_at t i) (sym c.self.view_is) ∙ kept-in cells i c.self.invariant.kept.apart ∙ f.1,
      ap (λ t. next_to_evict t.state) (sym c.self.view_is) ∙ f.2,
    )) c.first_settled.result c.first_settled.ensures.found

pub returns-clause-none : goal.returns-clause-none
returns-clause-none g c =
    none-map _ _ (λ none. ap (λ t. settled_in t.state.records t.state.access) (sym c.self.view_is) ∙ none) c.first_settled.result c.first_settled.ensures.none
