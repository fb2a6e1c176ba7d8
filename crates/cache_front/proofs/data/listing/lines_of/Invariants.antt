use Rattle.cache_front.proofs.data.Live.{Lined}
use Rattle.cache_front.proofs.data.listing.lines_of.Given as goal

abbrev pub invariant-loop-key : goal.invariant-loop-key
invariant-loop-key l = Lined l.keys.entries l.key-iterator l.lines.items
