use Rattle.std.proofs.Common.{◌≡◌, length}
use Rattle.front_parts.specs.Iterator.Coming.{pairs_back, source_at}
use Rattle.front_parts.proofs.iterator.keys.take_last.Given as goal

abbrev pub invariant-loop-now : goal.invariant-loop-now
invariant-loop-now g l =
    pairs_back (source_at g.C.ScanningGet.segments g.C.ScanningGet.keys_in g.C.ScanningGet.value_of l.source l.now) l.keys.items
    ≡ pairs_back (source_at g.C.ScanningGet.segments g.C.ScanningGet.keys_in g.C.ScanningGet.value_of l.source l.now) l.fn.keys.items

abbrev pub decreases-loop-now : goal.decreases-loop-now
decreases-loop-now g l = length l.keys.items
