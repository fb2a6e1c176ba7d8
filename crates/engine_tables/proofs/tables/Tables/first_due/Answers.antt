use Rattle.std.proofs.Common.{◌≡◌, ap, sym, ◌∙◌, subst, false}
use Rattle.engine_reference.specs.Records.{record_at}
use Rattle.engine_cells.specs.Kept.{kept_at}
use Rattle.engine_cells.specs.Looking.{is_expired}
use Rattle.engine_cells.proofs.Views.{kept-in}
use Rattle.engine_cells.proofs.Walking.{place-there, found-map, none-map}
use Rattle.engine_tables.proofs.tables.Tables.first_due.Goals as goal

pub returns-clause-found : goal.returns-clause-found
returns-clause-found g c =
    let cells = c.self.inside.cells.slots in
    found-map _ _ (λ i f. (
      f.0,
      ap (λ t. kept_at t i) (sym c.self.view_is) ∙ kept-in cells i c.self.invariant.kept.apart ∙ f.1,
      f.2,
    )) c.first_expired.result c.first_expired.ensures.found

pub returns-clause-none : goal.returns-clause-none
returns-clause-none g c =
    let cells = c.self.inside.cells.slots in
    none-map _ _ (λ none r there.
    let p = place-there cells r.number r c.self.invariant.kept.apart (ap (λ t. record_at t.state.records r.number) c.self.view_is ∙ there) in
    subst (λ x. is_expired c.args.now x ≡ false) p.is (none p.place p.cell p.there)) c.first_expired.result c.first_expired.ensures.none
