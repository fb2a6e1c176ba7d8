use Rattle.std.proofs.Common.{◌≤◌, ◌<◌, length}
use Rattle.cache_run.specs.Devices.Watched.{device, failures}
use Rattle.cached_server.specs.Script.Notes.{notices_at}
use Rattle.cached_server.proofs.script.Telling.{HasTold}
use Rattle.cached_server.proofs.script.notes.tell_notes.Given as goal

abbrev pub invariant-loop-note : goal.invariant-loop-note
invariant-loop-note g l = record {
  known : l.namespace < length l.service;
  told : HasTold (g.W.Write.contents (device l.fn.writer)) (notices_at l.fn.service l.namespace) (g.W.Write.contents (device l.writer)) l.gathered.items (notices_at l.service l.namespace) l._note;
  count : failures l.fn.writer ≤ failures l.writer;
}
