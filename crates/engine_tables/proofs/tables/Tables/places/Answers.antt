use Rattle.std.proofs.Common.{ap, sym, ◌∙◌, subst, ◌<◌, ◌≤◌, length, arith, Some}
use Rattle.engine_reference.specs.Records.{record_at}
use Rattle.engine_cells.specs.Kept.{kept_at}
use Rattle.engine_cells.proofs.Views.{kept-in}
use Rattle.engine_cells.proofs.Walking.{place-there, numbers-within, many-numbers}
use Rattle.engine_tables.proofs.tables.Tables.places.Goals as goal

pub returns-clause-most : goal.returns-clause-most
returns-clause-most g c =
    let cells = c.self.inside.cells.slots in
    let slots = c.capacity.ensures.slots in
    let is = c.capacity.ensures.value in
    subst (λ t. length t.numbers ≤ c.capacity.result) c.self.view_is (let many = many-numbers cells in omega (arith, many, slots))

pub returns-clause-stand : goal.returns-clause-stand
returns-clause-stand g c = λ r there.
    let cells = c.self.inside.cells.slots in
    let p = place-there cells r.number r c.self.invariant.kept.apart (ap (λ t. record_at t.state.records r.number) c.self.view_is ∙ there) in (
      p.place,
      subst (λ t. p.place < length t.numbers) c.self.view_is (numbers-within cells p.place p.cell p.there),
      ap (λ t. kept_at t p.place) (sym c.self.view_is) ∙ kept-in cells p.place c.self.invariant.kept.apart ∙ p.there ∙ ap (λ x. Some x) p.is,
    )
