use Rattle.std.proofs.Common.{inl, refl}
use Rattle.cache_loop.proofs.Pairs.{pairs-same}
use Rattle.cache_loop.proofs.hall.Hall.admit.Goals as goal

pub returns-then-is_full : goal.returns-then-is_full
returns-then-is_full g c = (pairs-same c.args.self.now.served c.turn_away.new.self.served c.turn_away.ensures, inl refl)
