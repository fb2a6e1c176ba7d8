use Rattle.std.proofs.Common.{◌≡◌, ◌+◌, ◌-◌, ◌≤◌, ap, ◌∙◌, arith, rules}
use Rattle.std.specs.Prelude.{count_by, is_some}
use Rattle.slab.specs.Slab.{slab_len}
use Rattle.engine_cells.proofs.Spotting.{spotted-roomier}
use Rattle.engine_cells.proofs.Totals.{number-below, places-gained, places-grown}
use Rattle.engine_tables.proofs.tables.Tables.make_more_room.Goals as goal

pub overflow_sub-waiting : goal.overflow_sub-waiting
overflow_sub-waiting g c =
    let below = number-below c.self.inside.cells.slots c.self.inside.tally c.self.invariant.tallied in
    omega (arith, below, c.len.ensures)

pub invariant_of-self : goal.invariant_of-self
invariant_of-self g c =
    let cells = c.self.inside.cells.slots in
    let grown = c.grow-has_grown.ensures in
    let slots = grown.cells.slots in
    let many : slab_len c.grow-has_grown.new.cells ≡ slab_len c.self.inside.cells = ap (λ l. count_by is_some l) slots in
    record {
      kept = rw slots c.self.invariant.kept;
      used = rw (slots, grown.access.same) c.self.invariant.used;
      written = rw (slots, grown.order.same) c.self.invariant.written;
      cells = omega (arith, many, grown.cells.capacity, c.self.invariant.cells);
      access = places-gained c.self.inside.cells c.grow-has_grown.new.cells c.self.inside.tally.number c.self.inside.backlog.reserved c.self.inside.access c.grow-has_grown.new.access c.self.invariant.access slots grown.access;
      order = places-gained c.self.inside.cells c.grow-has_grown.new.cells c.self.inside.tally.number c.self.inside.backlog.reserved c.self.inside.order.places c.grow-has_grown.new.order.places c.self.invariant.order slots grown.order;
      notices = λ tells. omega (arith, many, c.self.invariant.notices tells);
      tallied = rw slots c.self.invariant.tallied;
      aimed = rw slots c.self.invariant.aimed;
      reserved = c.self.invariant.reserved;
      tickets = c.self.invariant.tickets;
      numbers = c.self.invariant.numbers;
      spotted = rw slots (spotted-roomier g.K.PartialEq.eq cells c.self.inside.keys c.grow-has_grown.new.keys grown.keys c.self.invariant.spotted);
      hashed = rw slots c.self.invariant.hashed;
      keys = omega (arith, grown.keys.space, c.self.invariant.keys);
      awaited = rw slots c.self.invariant.awaited;
      live = λ live. grown.kept ∙ c.self.invariant.live live;
      since = rw slots c.self.invariant.since;
    }

pub invariant_of-self-in-Ok : goal.invariant_of-self-in-Ok
invariant_of-self-in-Ok g c =
    let cells = c.self.inside.cells.slots in
    let grown = c.grow-has_grown.ensures in
    let slots = grown.cells.slots in
    let rooms = grown.room (search rules) in
    let below = number-below cells c.self.inside.tally c.self.invariant.tallied in
    let many : slab_len c.grow-has_grown.new.cells ≡ slab_len c.self.inside.cells = ap (λ l. count_by is_some l) slots in
    let wait : slab_len c.grow-has_grown.new.cells ≤ c.self.inside.tally.number + (c.len.result - c.self.inside.tally.number) = omega (arith, many, below, c.len.ensures) in
    let there = c.reserved-there.ensures in
    let more = c.saturating_sub-more.ensures in
    let wanted = c.min.ensures in
    let plus = c.saturating_add.ensures in
    let free = c.saturating_sub-free.ensures in
    let ticket = c.next_ticket.ensures in
    let m = c.in-Ok.ensures.ok in
    let enough = m.enough in
    rw m.made (record {
      kept = rw slots c.self.invariant.kept;
      used = rw (slots, grown.access.same) c.self.invariant.used;
      written = rw (slots, grown.order.same) c.self.invariant.written;
      cells = omega (arith, rooms.cells_fit, there);
      access = places-grown c.grow-has_grown.new.cells c.self.inside.tally.number _ _ _ c.grow-has_grown.new.access wait rooms.access_fits rooms.cells_fit rooms.places_fit rooms.access_reaches (omega (arith, there));
      order = places-grown c.grow-has_grown.new.cells c.self.inside.tally.number _ _ _ c.grow-has_grown.new.order.places wait rooms.order_fits rooms.cells_fit rooms.places_fit rooms.order_reaches (omega (arith, there));
      notices = λ tells. omega (arith, enough tells, c.len-2.ensures);
      tallied = rw slots c.self.invariant.tallied;
      aimed = rw slots c.self.invariant.aimed;
      reserved = omega (arith, there, more, wanted, plus, c.if-free-by.false);
      tickets = omega (arith, there, more, wanted, free, ticket, c.self.invariant.tickets);
      numbers = c.self.invariant.numbers;
      spotted = rw slots (spotted-roomier g.K.PartialEq.eq cells c.self.inside.keys c.grow-has_grown.new.keys grown.keys c.self.invariant.spotted);
      hashed = rw slots c.self.invariant.hashed;
      keys = omega (arith, rooms.keys_fit, there);
      awaited = rw slots c.self.invariant.awaited;
      live = λ live. grown.kept ∙ c.self.invariant.live live;
      since = rw slots c.self.invariant.since;
    })

pub invariant_of-self-in-Err : goal.invariant_of-self-in-Err
invariant_of-self-in-Err g c =
    let cells = c.self.inside.cells.slots in
    let grown = c.grow-has_grown.ensures in
    let slots = grown.cells.slots in
    let rooms = grown.room (search rules) in
    let below = number-below cells c.self.inside.tally c.self.invariant.tallied in
    let many : slab_len c.grow-has_grown.new.cells ≡ slab_len c.self.inside.cells = ap (λ l. count_by is_some l) slots in
    let wait : slab_len c.grow-has_grown.new.cells ≤ c.self.inside.tally.number + (c.len.result - c.self.inside.tally.number) = omega (arith, many, below, c.len.ensures) in
    let there = c.reserved-there.ensures in
    rw c.in-Err.ensures.err (record {
      kept = rw slots c.self.invariant.kept;
      used = rw (slots, grown.access.same) c.self.invariant.used;
      written = rw (slots, grown.order.same) c.self.invariant.written;
      cells = omega (arith, rooms.cells_fit, there);
      access = places-grown c.grow-has_grown.new.cells c.self.inside.tally.number _ _ _ c.grow-has_grown.new.access wait rooms.access_fits rooms.cells_fit rooms.places_fit rooms.access_reaches (omega (arith, there));
      order = places-grown c.grow-has_grown.new.cells c.self.inside.tally.number _ _ _ c.grow-has_grown.new.order.places wait rooms.order_fits rooms.cells_fit rooms.places_fit rooms.order_reaches (omega (arith, there));
      notices = λ tells. omega (arith, many, c.self.invariant.notices tells);
      tallied = rw slots c.self.invariant.tallied;
      aimed = rw slots c.self.invariant.aimed;
      reserved = c.self.invariant.reserved;
      tickets = c.self.invariant.tickets;
      numbers = c.self.invariant.numbers;
      spotted = rw slots (spotted-roomier g.K.PartialEq.eq cells c.self.inside.keys c.grow-has_grown.new.keys grown.keys c.self.invariant.spotted);
      hashed = rw slots c.self.invariant.hashed;
      keys = omega (arith, rooms.keys_fit, there);
      awaited = rw slots c.self.invariant.awaited;
      live = λ live. grown.kept ∙ c.self.invariant.live live;
      since = rw slots c.self.invariant.since;
    })
