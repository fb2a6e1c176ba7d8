use Rattle.std.proofs.Common.{◌≡◌, ◌++◌, take}
use Rattle.cache_spaces.specs.Cursors.{replies_for}
use Rattle.cache_spaces.proofs.replies.add_all.Given as goal

abbrev pub invariant-loop-entry : goal.invariant-loop-entry
invariant-loop-entry l = l.text.items ≡ l.initial.text.items ++ replies_for l.number (take l.entry-index l.records)
