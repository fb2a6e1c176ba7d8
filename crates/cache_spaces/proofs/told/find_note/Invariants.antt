use Rattle.std.proofs.Common.{◌≡◌}
use Rattle.cache_spaces.specs.Cursors.{notes_from}
use Rattle.cache_spaces.proofs.told.find_note.Given as goal

abbrev pub invariant-loop-entry : goal.invariant-loop-entry
invariant-loop-entry l = notes_from l.records l.fn.told ≡ notes_from l.records (record { entry = l.entry; list = l.list; note = l.note })
