use Rattle.std.proofs.Common.{◌≡◌, rules, true, false}
use Rattle.engine_cells.specs.Cells.{cell_at}
use Rattle.engine_cells.specs.Spotted.{is_match}
use Rattle.engine_cells.proofs.Held.{held-there, none-under}
use Rattle.engine_cells.proofs.Walking.{found-map, none-map}
use Rattle.engine_cells.proofs.finding.find_held.Goals as goal

pub returns-clause-found : goal.returns-clause-found
returns-clause-found g c =
    let eq = g.K.PartialEq.eq in
    let cells = c.args.cells.now.slots in
    found-map _ _ (λ i u.
    let here : is_match eq (g.Q.Names.named_key c.args.key.now) (cell_at cells i) ≡ true = search rules in
    held-there eq cells i (g.Q.Names.named_key c.args.key.now) here (λ j e. c.requires.spotted.single (g.Q.Names.named_key c.args.key.now) i j here e)) c.get.result c.get.ensures.found

pub returns-clause-none : goal.returns-clause-none
returns-clause-none g c =
    let eq = g.K.PartialEq.eq in
    let cells = c.args.cells.now.slots in
    none-map _ _ (λ f. none-under eq cells c.args.keys.now (g.Q.Names.named_key c.args.key.now) c.args.hash c.requires.spotted c.requires.hashed (λ i u.
    let post = f i u in
    let off : is_match eq (g.Q.Names.named_key c.args.key.now) (cell_at cells i) ≡ false = search rules in off)) c.get.result c.get.ensures.none

pub returns-clause-matched : goal.returns-clause-matched
returns-clause-matched g c =
    let eq = g.K.PartialEq.eq in
    let cells = c.args.cells.now.slots in
    found-map _ _ (λ i u. let here : is_match eq (g.Q.Names.named_key c.args.key.now) (cell_at cells i) ≡ true = search rules in here) c.get.result c.get.ensures.found
