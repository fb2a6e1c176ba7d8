use Rattle.std.specs.Prelude.{take}
use Rattle.cache_core.specs.Settling.{AllLookAsBefore, HaveReplyRoom}
use Rattle.cache_core.proofs.reserving.reserve_all.Given as goal

abbrev pub invariant-loop-number : goal.invariant-loop-number
invariant-loop-number l = record {
  same : AllLookAsBefore l.fn.connections l.connections;
  room : HaveReplyRoom l.connections l.size (take l.number-index l.waiting);
}
