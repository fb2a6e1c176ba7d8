use Rattle.std.proofs.Common.{◌≡◌, ◌-◌}
use Rattle.front_parts.specs.Iterator.Coming.{coming_of, source_at}
use Rattle.front_parts.proofs.iterator.keys.advance.Given as goal

abbrev pub invariant-loop-place : goal.invariant-loop-place
invariant-loop-place g l =
    coming_of (source_at g.C.ScanningGet.segments g.C.ScanningGet.keys_in g.C.ScanningGet.value_of l.source l.now) l.keys.items l.place
    ≡ coming_of (source_at g.C.ScanningGet.segments g.C.ScanningGet.keys_in g.C.ScanningGet.value_of l.source l.now) l.fn.keys.items l.fn.place

abbrev pub decreases-loop-place : goal.decreases-loop-place
decreases-loop-place g l = l.count - l.place
