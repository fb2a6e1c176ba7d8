use Rattle.std.proofs.Common.{arith}
use Rattle.cache_run.specs.Devices.Watched.{device}
use Rattle.cached_server.specs.Script.Notes.{notices_at}
use Rattle.cached_server.proofs.script.Telling.{told-more}
use Rattle.cached_server.proofs.script.notes.tell_notes.Goals as goal

pub loop-note-preserved : goal.loop-note-preserved
loop-note-preserved g c = record {
  known = let known = c.loop-note.invariant.known in let same = c.next_note.ensures.count in omega arith;
  told = told-more (g.W.Write.contents (device c.args.writer.now)) (g.W.Write.contents (device c.loop-note.writer)) (g.W.Write.contents (device c.write_note.new.writer)) (notices_at c.args.service.now c.args.namespace)
      (notices_at c.loop-note.service c.args.namespace) (notices_at c.next_note.new.service c.args.namespace) c.loop-note.gathered.items c.write_note.new.gathered.items c.loop-note._note c.in-Some.note
      c.loop-note.invariant.told c.in-Some.ensures.first c.in_ok-write_note-in-Some.ensures.ok;
  count = let before = c.loop-note.invariant.count in let after = c.write_note.ensures.count in omega arith;
}
