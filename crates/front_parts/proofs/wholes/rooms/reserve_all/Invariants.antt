use Rattle.std.proofs.Common.{◌≡◌, length}
use Rattle.engine_reference.specs.Calls.{with_room}
use Rattle.front_parts.specs.Wholes.Firsts.{changed_first}
use Rattle.front_parts.proofs.wholes.rooms.reserve_all.Given as goal

abbrev pub invariant-loop-place : goal.invariant-loop-place
invariant-loop-place g l = record {
  far : l.parts.items ≡ changed_first (λ k. with_room) l.place l.fn.parts.items;
  count : l.count ≡ length l.fn.parts.items;
}
