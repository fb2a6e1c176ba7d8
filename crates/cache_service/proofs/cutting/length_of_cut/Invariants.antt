use Rattle.std.proofs.Common.{◌≡◌, ◌<◌, ◌≤◌, ◌==◌, ◌+◌, ◌-◌, count_by, take, length}
use Rattle.cache_service.proofs.Lines.{IsScanned}
use Rattle.cache_service.proofs.cutting.length_of_cut.Given as goal

abbrev pub invariant-loop-start : goal.invariant-loop-start
invariant-loop-start l = record {
  some : 0 < l.left;
  within : l.start ≤ length l.bytes;
  counted : count_by (λ byte. byte == 10) (take l.start l.bytes) + l.left ≡ l.lines;
  scanned : IsScanned l.bytes l.start l.start;
}

abbrev pub decreases-loop-start : goal.decreases-loop-start
decreases-loop-start l = length l.bytes - l.start
