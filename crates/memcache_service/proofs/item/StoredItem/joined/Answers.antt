use Rattle.std.proofs.Common.{◌++◌}
use Rattle.memcache_service.proofs.Packed.{packed-back, packed-is}
use Rattle.memcache_service.proofs.item.StoredItem.joined.Goals as goal

pub invariant_of-result : goal.invariant_of-result
invariant_of-result c =
    let label = c.args.label in
    rw (c.in_ok-append.ensures.label, c.in_ok-extend_from_slice-2.ensures.items, c.in_ok-extend_from_slice.ensures.items, c.in_ok-packed.ensures.items)
    (packed-is (c.args.first.now ++ c.args.second.now) label.flags label.unique label.deadline label.leased label.stale c.requires)

pub returns : goal.returns
returns c =
    let label = c.args.label in
    let range = c.append.ensures.range in
    rw (c.in_ok-append.ensures.label, c.in_ok-extend_from_slice-2.ensures.items, c.in_ok-extend_from_slice.ensures.items, c.in_ok-packed.ensures.items)
    (packed-back (c.args.first.now ++ c.args.second.now) label.flags label.unique label.deadline label.leased label.stale range.0 c.requires range.1)
