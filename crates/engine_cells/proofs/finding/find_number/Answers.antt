use Rattle.std.proofs.Common.{◌≡◌, rules, true, false}
use Rattle.engine_cells.specs.Cells.{cell_at}
use Rattle.engine_cells.specs.Spotted.{holds_number}
use Rattle.engine_cells.proofs.Again.{none-numbered}
use Rattle.engine_cells.proofs.Walking.{found-map, none-map}
use Rattle.engine_cells.proofs.finding.find_number.Goals as goal

pub returns-clause-found : goal.returns-clause-found
returns-clause-found g c =
    let cells = c.args.cells.now.slots in
    found-map _ _ (λ i u. let here : holds_number c.args.number (cell_at cells i) ≡ true = search rules in here) c.get.result c.get.ensures.found

pub returns-clause-none : goal.returns-clause-none
returns-clause-none g c =
    let cells = c.args.cells.now.slots in
    none-map _ _ (λ f. none-numbered g.K.PartialEq.eq cells c.args.keys.now c.args.number c.args.hash c.requires.spotted c.requires.held (λ i u.
    let post = f i u in
    let off : holds_number c.args.number (cell_at cells i) ≡ false = search rules in off)) c.get.result c.get.ensures.none
