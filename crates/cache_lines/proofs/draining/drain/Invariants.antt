use Rattle.std.specs.Prelude.{◌≡◌, ◌+◌, ◌≤◌, ◌++◌, length, vec_len, vec_capacity}
use Rattle.cache_commands.specs.Values.{GivesNote}
use Rattle.cache_lines.proofs.draining.drain.Given as goal

abbrev pub invariant-loop-note : goal.invariant-loop-note
invariant-loop-note g l = record {
  room : vec_len l.notes + length (g.S.Store.view l.store).untaken ≤ vec_capacity l.notes;
  order : l.notes.items ++ (g.S.Store.view l.store).untaken ≡ l.fn.notes.items ++ (g.S.Store.view l.fn.store).untaken;
  gives : GivesNote (g.S.Store.view l.fn.store) (g.S.Store.view l.store);
}

abbrev pub decreases-loop-note : goal.decreases-loop-note
decreases-loop-note g l = length (g.S.Store.view l.store).untaken
