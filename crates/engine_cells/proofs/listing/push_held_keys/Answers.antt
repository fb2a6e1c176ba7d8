use Rattle.std.proofs.Common.{ap, ◌∙◌, subst}
use Rattle.std.specs.List.Sorted.{IsPermutation}
use Rattle.engine_cells.specs.Listing.{keys_in}
use Rattle.engine_cells.proofs.InOrder.{keys-sorted}
use Rattle.engine_cells.proofs.Walking.{ok-map}
use Rattle.engine_cells.proofs.listing.push_held_keys.Goals as goal

pub returns : goal.returns
returns g c =
    let cells = c.args.cells.now.slots in
    let ss = c.sort.new.found.items in
    ok-map _ _ (λ e.
    e ∙ ap (λ l. keys_in cells l) c.deref.ensures.value
    ∙ keys-sorted cells ss c.requires.apart (subst (λ xs. IsPermutation xs ss) c.in_ok-push_all.ensures c.sort.ensures.same) c.sort.ensures.sorted) c.push_keys.result c.push_keys.ensures
