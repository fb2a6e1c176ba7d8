use Rattle.std.proofs.Common.{sym, subst}
use Rattle.std.proofs.lemmas.Option.{IfSome_then}
use Rattle.engine_cells.specs.Keys.Spots.{Spots, IsUnder}
use Rattle.engine_cells.specs.Keys.Slots.{Has}
use Rattle.engine_cells.proofs.keys.Tables.{has-among, among-has}
use Rattle.engine_cells.proofs.keys.Putting.{none-maps}
use Rattle.engine_cells.proofs.keys.Keys.get.Goals as goal

pub returns-clause-found : goal.returns-clause-found
returns-clause-found g c =
    IfSome_then c.find.result c.find.ensures.found (λ place h. (
      subst (λ (v : Spots). IsUnder v c.args.hash place) c.self.view_is (has-among _ _ _ (subst (λ t. Has c.self.inside.slots.items t place) c.tag_of.ensures h.0)),
      h.1,
    ))

pub returns-clause-none : goal.returns-clause-none
returns-clause-none g c =
    none-maps c.find.result (λ none place u. none place (subst (λ t. Has c.self.inside.slots.items t place) (sym c.tag_of.ensures) (among-has _ _ _ (subst (λ (v : Spots). IsUnder v c.args.hash place) (sym c.self.view_is) u)))) c.find.ensures.none
