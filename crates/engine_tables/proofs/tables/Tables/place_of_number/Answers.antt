use Rattle.std.proofs.Common.{ap, sym, ◌∙◌, true≢false}
use Rattle.std.proofs.lemmas.Bool.{eq-eqb}
use Rattle.engine_reference.specs.Records.{record_at}
use Rattle.engine_cells.specs.Kept.{kept_at}
use Rattle.engine_cells.specs.Spotted.{holds_number}
use Rattle.engine_cells.proofs.Again.{numbered-cell}
use Rattle.engine_cells.proofs.Listed.{record_at-none}
use Rattle.engine_cells.proofs.Standing.{number-there}
use Rattle.engine_cells.proofs.Views.{kept-in}
use Rattle.engine_cells.proofs.Walking.{found-map, none-map}
use Rattle.engine_tables.proofs.tables.Tables.place_of_number.Goals as goal

pub find_number-requires-clause-held : goal.find_number-requires-clause-held
find_number-requires-clause-held g c i x at m =
    let cells = c.self.inside.cells.slots in
    c.requires.held x (ap (λ t. record_at t.state.records c.args.number) (sym c.self.view_is) ∙ number-there cells i c.args.number x c.self.invariant.kept.apart at m)

pub returns-clause-found : goal.returns-clause-found
returns-clause-found g c =
    let cells = c.self.inside.cells.slots in
    found-map _ _ (λ i t.
    let x = numbered-cell cells i c.args.number t in (
      x.0,
      ap (λ s. kept_at s i) (sym c.self.view_is) ∙ kept-in cells i c.self.invariant.kept.apart ∙ x.1,
      ap (λ s. record_at s.state.records c.args.number) (sym c.self.view_is) ∙ number-there cells i c.args.number x.0 c.self.invariant.kept.apart x.1 x.2,
    )) c.find_number.result c.find_number.ensures.found

pub returns-clause-none : goal.returns-clause-none
returns-clause-none g c =
    let cells = c.self.inside.cells.slots in
    none-map _ _ (λ none.
    ap (λ s. record_at s.state.records c.args.number) (sym c.self.view_is)
    ∙ record_at-none cells c.args.number c.self.invariant.kept.apart (λ i x at same. true≢false (sym (eq-eqb x.number c.args.number same) ∙ ap (λ o. holds_number c.args.number o) (sym at) ∙ none i))) c.find_number.result c.find_number.ensures.none
