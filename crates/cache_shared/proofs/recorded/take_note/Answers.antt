use Rattle.std.proofs.Common.{inr, refl}
use Rattle.cache_core.proofs.connections.Getting.{found-at}
use Rattle.cache_shared.proofs.recorded.take_note.Goals as goal

pub returns-in_default-clause-refused : goal.returns-in_default-clause-refused
returns-in_default-clause-refused c =
    let x = found-at c.args.recorded.now.spaces c.args.namespace c.in_ok-note.ensures.there in
    inr (record { space = x.0; at = x.1; fact = refl })
