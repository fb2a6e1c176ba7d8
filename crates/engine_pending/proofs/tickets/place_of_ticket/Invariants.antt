use Rattle.std.proofs.Common.{◌≡◌, ◌++◌, drop, take}
use Rattle.engine_pending.specs.Pending.{ticketed_at, without_ticketed}
use Rattle.engine_pending.proofs.tickets.place_of_ticket.Given as goal

abbrev pub invariant-loop-i : goal.invariant-loop-i
invariant-loop-i g l = record {
  write : ticketed_at (drop l.i l.unsent) l.ticket ≡ ticketed_at l.unsent l.ticket;
  others : without_ticketed l.ticket l.unsent ≡ take l.i l.unsent ++ without_ticketed l.ticket (drop l.i l.unsent);
}
