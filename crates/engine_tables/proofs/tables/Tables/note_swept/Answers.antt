use Rattle.std.proofs.Common.{sym, subst}
use Rattle.engine_cells.specs.Swept.{NoneIsCleared}
use Rattle.engine_cells.proofs.Sweeps.{records-since}
use Rattle.engine_tables.proofs.tables.Tables.note_swept.Goals as goal

pub invariant_of-self : goal.invariant_of-self
invariant_of-self g c = record {
  kept = c.self.invariant.kept;
  used = c.self.invariant.used;
  written = c.self.invariant.written;
  cells = c.self.invariant.cells;
  access = c.self.invariant.access;
  order = c.self.invariant.order;
  notices = c.self.invariant.notices;
  tallied = c.self.invariant.tallied;
  aimed = c.self.invariant.aimed;
  reserved = c.self.invariant.reserved;
  tickets = c.self.invariant.tickets;
  numbers = c.self.invariant.numbers;
  spotted = c.self.invariant.spotted;
  hashed = c.self.invariant.hashed;
  keys = c.self.invariant.keys;
  awaited = c.self.invariant.awaited;
  live = c.self.invariant.live;
  since = rw c.cleared-self-inside.ensures (records-since c.self.inside.backlog.cleared c.self.inside.cells.slots c.self.invariant.kept.apart (subst (λ t. NoneIsCleared t.state) (sym c.self.view_is) c.requires));
}
