use Rattle.std.proofs.Common.{◌≡◌, ◌<◌, sym, ap, ◌∙◌, subst, length, false}
use Rattle.policy_queue.specs.Places.{slots_from}
use Rattle.engine_cells.specs.Cells.{cell_at}
use Rattle.engine_cells.specs.Looking.{is_settled_as}
use Rattle.engine_cells.proofs.Settling.{seeks_has, seeks-one, seeks-less, seeks-found}
use Rattle.engine_cells.proofs.looking.first_settled.Goals as goal

pub returns-then-is_settled_at-clause-found : goal.returns-then-is_settled_at-clause-found
returns-then-is_settled_at-clause-found g c =
    let h = rw c.in-Some.is at c.loop-next.invariant in
    seeks-found c.args.cells.now.slots c.args.queue.now.indices c.requires.apart c.requires.listed c.in-Some.index h (sym c.is_settled_at.ensures ∙ c.if-is_settled_at.true)

pub behind-next-requires : goal.behind-next-requires
behind-next-requires g c =
    let h = rw c.in-Some.is at c.loop-next.invariant in
    seeks_has c.args.cells.now.slots c.args.queue.now.indices c.requires.apart c.requires.listed c.in-Some.index h

pub loop-next-smaller : goal.loop-next-smaller
loop-next-smaller g c =
    let h = rw c.in-Some.is at c.loop-next.invariant in
    let size = ap (λ o. length (slots_from o c.args.queue.now.indices)) c.in-Some.is in
    let less = seeks-less c.args.cells.now.slots c.args.queue.now.indices c.requires.apart c.requires.listed c.in-Some.index h c.behind-next.result c.behind-next.ensures in
    subst (λ n. length (slots_from c.behind-next.result c.args.queue.now.indices) < n) (sym size) less

pub loop-next-preserved : goal.loop-next-preserved
loop-next-preserved g c =
    let h = rw c.in-Some.is at c.loop-next.invariant in
    let off : is_settled_as (cell_at c.args.cells.now.slots c.in-Some.index) ≡ false = sym c.is_settled_at.ensures ∙ c.if-is_settled_at.false in
    seeks-one c.args.cells.now.slots c.args.queue.now.indices c.requires.apart c.requires.listed c.in-Some.index h c.behind-next.result off c.behind-next.ensures
