use Rattle.std.proofs.Common.{refl, sym, subst}
use Rattle.cache_core.specs.Connections.Presence.{Here}
use Rattle.cache_core.specs.Connections.Residents.{held_or_out}
use Rattle.cache_core.specs.Taking.{IsLeftOf}
use Rattle.cache_core.proofs.connections.residents.take_held.Goals as goal

pub returns-in-Some-clause-left : goal.returns-in-Some-clause-left
returns-in-Some-clause-left c =
    subst (λ o. IsLeftOf (held_or_out o) (Here c.take_owed.new.connection)) (sym c.in-Some.is) (c.take_owed.new.connection, refl, c.take_owed.ensures.rest)
