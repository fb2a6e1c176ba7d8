use Rattle.engine_cells.specs.declared.noting.Noted.TheVariants.{Miss}
use Rattle.engine_cells.proofs.Pointing.{aims-noted}
use Rattle.engine_tables.proofs.tables.Tables.push_miss.Goals as goal

pub invariant_of-self : goal.invariant_of-self
invariant_of-self g c = rw c.push_read.ensures (record {
  kept = c.self.invariant.kept;
  used = c.self.invariant.used;
  written = c.self.invariant.written;
  cells = c.self.invariant.cells;
  access = c.self.invariant.access;
  order = c.self.invariant.order;
  notices = c.self.invariant.notices;
  tallied = c.self.invariant.tallied;
  aimed = aims-noted c.self.inside.cells.slots c.self.inside.next_number (Miss c.args.hash) tt c.self.invariant.aimed;
  reserved = c.self.invariant.reserved;
  tickets = c.self.invariant.tickets;
  numbers = c.self.invariant.numbers;
  spotted = c.self.invariant.spotted;
  hashed = c.self.invariant.hashed;
  keys = c.self.invariant.keys;
  awaited = c.self.invariant.awaited;
  live = c.self.invariant.live;
  since = c.self.invariant.since;
})
