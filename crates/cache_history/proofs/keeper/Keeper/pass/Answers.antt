use mathlib.Core.Option.{some}
use prog.Atomic.{either}
use Rattle.atomic_table.specs.Table.{step}
use Rattle.std.proofs.Common.{◌==◌, ℕ, ap, refl, subst, sym}
use Rattle.cache_history.specs.Histories.{IsNext}
use Rattle.cache_history.proofs.Moves.{passes}
use Rattle.cache_history.proofs.keeper.Keeper.pass.Goals as goal

-- what the step makes of a word
abbrev swap : ℕ → ℕ
swap n = either (n == 0) 0 n

pub compare_exchange_with-requires : goal.compare_exchange_with-requires
compare_exchange_with-requires g c =
    let slots = c.self.inside.table.shared.table_id.slots in
    let i = c.self.invariant in
    let next = subst (λ cs. IsNext g.R.Law.starts g.R.Law.holds cs c.args.new.now)
    (sym c.self.view_is) c.requires.next in
    let keeps = ap (λ m. m.0.keeps) i.3 in (
      i.1,
      i.2,
      passes _ _ slots _ _ swap _ _ c.args.new.now
          (step slots 0 0 0 (some c.args.new.now)) refl keeps next,
    )
