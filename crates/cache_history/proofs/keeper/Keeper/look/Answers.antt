use mathlib.Core.Option.{none}
use Rattle.atomic_table.specs.Table.{step}
use Rattle.std.proofs.Common.{◌∙◌, ap, sym}
use Rattle.cache_history.proofs.Moves.{cuts, looks, takes_in}
use Rattle.cache_history.proofs.keeper.Keeper.look.Goals as goal

pub join_seat-requires : goal.join_seat-requires
join_seat-requires g c =
    let i = c.self.invariant in
    let e = c.into_seat.ensures in
    let own = ap (λ b. b.table_id) c.replace-token.ensures.value ∙ c.claims.invariant.0 in
    (i.1, e.0 ∙ own ∙ sym i.0, e.3, i.2, takes_in _ _ _ _ _ _)

pub load-requires : goal.load-requires
load-requires g c =
    let i = c.self.invariant in
    let j = c.join_seat.ensures in
    let slots = c.self.inside.table.shared.table_id.slots in
    let keeps = ap (λ m. m.0.keeps) j.2 ∙ ap (λ m. m.0.keeps) i.3 in
    (j.0 ∙ i.1, i.2, looks _ _ slots _ _ (λ n. n) _ _ (step slots 0 0 0 none) keeps)

pub split_seat-token-requires : goal.split_seat-token-requires
split_seat-token-requires g c =
    let i = c.self.invariant in
    (c.load.ensures.0 ∙ c.join_seat.ensures.0 ∙ i.1, i.2, cuts _ _ _ _)
