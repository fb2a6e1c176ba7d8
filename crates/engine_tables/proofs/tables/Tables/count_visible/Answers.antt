use Rattle.std.proofs.Common.{◌≡◌, ap, sym, ◌∙◌, subst, length}
use Rattle.engine_reference.specs.Scanning.{visible_keys}
use Rattle.engine_cells.specs.Noting.{read_of, write_of}
use Rattle.engine_cells.specs.Cells.{numbers_in}
use Rattle.engine_cells.specs.Showing.{shown_part}
use Rattle.engine_cells.specs.Tallying.{sum_over}
use Rattle.engine_cells.proofs.Shown.{shown-is}
use Rattle.engine_tables.proofs.tables.Tables.count_visible.Goals as goal

pub returns : goal.returns
returns g c = λ answers covers.
    let inside = c.self.inside in
    let cells = inside.cells.slots in
    let eq = g.K.PartialEq.eq in
    subst (λ f. c.count_shown.result ≡ sum_over (shown_part f inside.backlog c.args.now) cells) (sym covers) c.count_shown.ensures
    ∙ shown-is read_of write_of answers eq c.args.now inside.backlog cells (numbers_in cells inside.access.indices) (numbers_in cells inside.order.places.indices) inside.next_number g.met.K.Eq.laws.refl c.self.invariant.spotted.single
    ∙ ap (λ t. length (visible_keys answers eq t.state c.args.now)) c.self.view_is
