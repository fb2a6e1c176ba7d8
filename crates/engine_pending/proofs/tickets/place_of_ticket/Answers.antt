use Rattle.std.proofs.Common.{refl, arith}
use Rattle.std.proofs.lemmas.Option.{slice_get_read}
use Rattle.engine_pending.proofs.Dropped.{ticket-found}
use Rattle.engine_pending.proofs.tickets.place_of_ticket.Goals as goal

pub returns-then-u-ticket-clause-found : goal.returns-then-u-ticket-clause-found
returns-then-u-ticket-clause-found g c =
    let u = c.index-unsent-i.result in
    let there = slice_get_read c.args.unsent.now _ c.loop-i.i u refl (omega arith) c.index-unsent-i.is in
    ticket-found c.args.unsent.now c.loop-i.i c.args.ticket u there c.if-u-ticket.true c.loop-i.invariant.write c.loop-i.invariant.others
