use Rattle.cache_history.proofs.Moves.{cuts}
use Rattle.cache_history.proofs.keeper.Keeper.token.Goals as goal

pub split_seat-seat-requires : goal.split_seat-seat-requires
split_seat-seat-requires g c =
    let i = c.self.invariant in (i.1, i.2, cuts _ _ _ _)
