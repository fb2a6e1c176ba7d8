use Rattle.std.proofs.Common.{◌≡◌, arith, true}
use Rattle.memcache_service.specs.Packing.{takes_room}
use Rattle.memcache_service.proofs.Packed.{room-taken}
use Rattle.memcache_service.proofs.item.Label.append_room.Goals as goal

pub returns-clause-room : goal.returns-clause-room
returns-clause-room c =
    let label = c.args.self.now in
    let takes : takes_room label.flags label.deadline ≡ true = grind (arith, c.takes_room.ensures, c.if-not-takes_room.false) in
    let taken = room-taken c.args.packed.now.items label.flags label.deadline takes in
    grind (arith, taken, c.in_ok-extend_from_slice-2.ensures.items, c.in_ok-extend_from_slice.ensures.items, c.to_le_bytes.ensures, c.to_le_bytes-2.ensures, c.unwrap_or-deadline.ensures)
