use Rattle.std.proofs.Common.{◌≡◌}
use Rattle.engine_reference.specs.Calls.{without_room}
use Rattle.front_parts.specs.Wholes.Firsts.{changed_first}
use Rattle.front_parts.proofs.wholes.rooms.release_first.Given as goal

abbrev pub invariant-loop-place : goal.invariant-loop-place
invariant-loop-place g l = l.parts.items ≡ changed_first (λ k. without_room) l.place l.fn.parts.items
