use Rattle.std.proofs.Common.{ap, sym, ◌∙◌}
use Rattle.engine_cells.specs.Kept.{kept_at}
use Rattle.engine_cells.proofs.Views.{kept-in}
use Rattle.engine_tables.proofs.tables.Tables.record.Goals as goal

pub returns : goal.returns
returns g c = c.get.ensures ∙ sym (ap (λ t. kept_at t c.args.place) (sym c.self.view_is) ∙ kept-in c.self.inside.cells.slots c.args.place c.self.invariant.kept.apart)
