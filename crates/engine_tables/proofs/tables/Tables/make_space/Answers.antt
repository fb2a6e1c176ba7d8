use Rattle.std.proofs.Common.{◌∙◌, ◌≡◌, refl, ap, arith}
use Rattle.std.specs.Prelude.{count_by, is_some}
use Rattle.slab.specs.Slab.{slab_len}
use Rattle.engine_cells.proofs.Spotting.{spotted-roomier}
use Rattle.engine_cells.proofs.Totals.{places-gained}
use Rattle.engine_tables.proofs.tables.Tables.make_space.Goals as goal

pub invariant_of-self : goal.invariant_of-self
invariant_of-self g c =
    let cells = c.self.inside.cells.slots in
    let grown = c.grow.ensures in
    let slots = grown.cells.slots in
    let many : slab_len c.grow.new.cells ≡ slab_len c.self.inside.cells = ap (λ l. count_by is_some l) slots in
    record {
      kept = rw slots c.self.invariant.kept;
      used = rw (slots, grown.access.same) c.self.invariant.used;
      written = rw (slots, grown.order.same) c.self.invariant.written;
      cells = omega (arith, many, grown.cells.capacity, c.self.invariant.cells);
      access = places-gained c.self.inside.cells c.grow.new.cells c.self.inside.tally.number c.self.inside.backlog.reserved c.self.inside.access c.grow.new.access c.self.invariant.access slots grown.access;
      order = places-gained c.self.inside.cells c.grow.new.cells c.self.inside.tally.number c.self.inside.backlog.reserved c.self.inside.order.places c.grow.new.order.places c.self.invariant.order slots grown.order;
      notices = λ tells. omega (arith, many, c.self.invariant.notices tells);
      tallied = rw slots c.self.invariant.tallied;
      aimed = rw slots c.self.invariant.aimed;
      reserved = c.self.invariant.reserved;
      tickets = c.self.invariant.tickets;
      numbers = c.self.invariant.numbers;
      spotted = rw slots (spotted-roomier g.K.PartialEq.eq cells c.self.inside.keys c.grow.new.keys grown.keys c.self.invariant.spotted);
      hashed = rw slots c.self.invariant.hashed;
      keys = omega (arith, grown.keys.space, c.self.invariant.keys);
      awaited = rw slots c.self.invariant.awaited;
      live = λ live. grown.kept ∙ c.self.invariant.live live;
      since = rw slots c.self.invariant.since;
    }

pub returns : goal.returns
returns g c =
    let grown = c.grow.ensures in
    rw (← c.self.view_is, grown.cells.slots, grown.access.same, grown.order.same) refl
