use Rattle.engine_tables.proofs.tables.Tables.end_writes.Goals as goal

pub invariant_of-self : goal.invariant_of-self
invariant_of-self g c = rw c.end_writes.ensures (record {
  kept = c.self.invariant.kept;
  used = c.self.invariant.used;
  written = c.self.invariant.written;
  cells = c.self.invariant.cells;
  access = c.self.invariant.access;
  order = c.self.invariant.order;
  notices = c.self.invariant.notices;
  tallied = c.self.invariant.tallied;
  aimed = record { reads_are = c.self.invariant.aimed.reads_are; writes_are = tt; unsent_are = c.self.invariant.aimed.unsent_are };
  reserved = c.self.invariant.reserved;
  tickets = c.self.invariant.tickets;
  numbers = c.self.invariant.numbers;
  spotted = c.self.invariant.spotted;
  hashed = c.self.invariant.hashed;
  keys = c.self.invariant.keys;
  awaited = c.self.invariant.awaited;
  live = c.self.invariant.live;
  since = c.self.invariant.since;
})
