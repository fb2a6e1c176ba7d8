use Rattle.std.proofs.Common.{◌≤◌}
use Rattle.cache_run.specs.Devices.Sent.{SentBut}
use Rattle.cache_link.specs.Patience.{device_of}
use Rattle.cache_link.proofs.backlog.Backlog.write_to.Given as goal

abbrev pub invariant-loop-try : goal.invariant-loop-try
invariant-loop-try g l = record {
  sent : SentBut l.self l.fn.self (g.W.Write.contents (device_of l.fn.writer)) (g.W.Write.contents (device_of l.writer));
  later : l.fn.writer.broken ≤ l.writer.broken;
}
