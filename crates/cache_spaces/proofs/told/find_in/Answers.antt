use Rattle.std.proofs.Common.{[], ◌≤◌, length, get_or, subst, ◌∙◌, arith}
use Rattle.cache_spaces.proofs.Reading.{next-list}
use Rattle.cache_spaces.specs.Cursors.{lists_of}
use Rattle.cache_spaces.proofs.told.find_in.Goals as goal

pub loop-at-preserved : goal.loop-at-preserved
loop-at-preserved c =
    let k = c.loop-at.at in
    let lists = lists_of c.args.entry.now in
    let over : length (get_or lists k []) ≤ c.loop-at.from = subst (λ l. length l ≤ c.loop-at.from) c.list_at-notes.ensures (omega arith) in
    c.loop-at.invariant ∙ next-list lists k c.loop-at.from over
