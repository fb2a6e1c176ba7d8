use Rattle.std.proofs.Common.{sym, ◌∙◌, subst, ℕ, ◌<◌}
use Rattle.std.proofs.Math.Logic.{∥∥₁_elim}
use Rattle.std.proofs.Props.{props}
use Rattle.engine_pending.specs.Timers.Awaited.{IsAwaited}
use Rattle.engine_cells.proofs.Awaits.{none-expired}
use Rattle.engine_cells.proofs.looking.first_expired.Goals as goal

pub returns-then-is_whole-clause-none : goal.returns-then-is_whole-clause-none
returns-then-is_whole-clause-none g c = λ i x there.
    let none = subst (λ now. (place time : ℕ) → IsAwaited c.args.expirations.now place time → now < time) c.from_nanos.ensures c.in-None.ensures.none in
    ∥∥₁_elim c.requires (Prim.hlevel props) (λ k. none-expired c.args.cells.now.slots c.args.expirations.now c.args.now k (sym c.is_whole.ensures ∙ c.if-is_whole.true) none i x there)

pub returns-then-is_expired_at-clause-found : goal.returns-then-is_expired_at-clause-found
returns-then-is_expired_at-clause-found g c = c.is_expired_at.ensures.due c.if-is_expired_at.true
