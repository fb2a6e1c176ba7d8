use Rattle.std.proofs.Common.{◌+◌, ◌≤◌, ◌⊎◌, length}
use Rattle.cache_run.specs.Devices.Failures.{HasFailed}
use Rattle.cache_run.specs.Devices.Sent.{SentBut}
use Rattle.cache_run.proofs.devices.output.send.Given as goal

abbrev pub invariant-loop-turn : goal.invariant-loop-turn
invariant-loop-turn g l = record {
  sent : SentBut l.rest l.output (g.W.Write.contents l.fn.writer.inner) (g.W.Write.contents l.writer.inner);
  count : l.fn.writer.failed ≤ l.writer.failed;
  turns : HasFailed l.fn.writer.failed l.writer.failed ⊎ (l._turn + length l.rest ≤ length l.output);
}
