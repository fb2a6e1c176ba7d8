use Rattle.cache_core.proofs.connection.Reruns.{fits-behind}
use Rattle.cache_core.proofs.connection.again.abandon_load.Goals as goal

pub invariant_of-connection-clause-fits : goal.invariant_of-connection-clause-fits
invariant_of-connection-clause-fits g c =
    let old = c.args.connection.now in
    fits-behind old.closing old.standing old.waited old.unread.bytes c.pass_line.new.unread.bytes c.requires.open c.requires.waits old.fits c.pass_line.ensures.bytes
