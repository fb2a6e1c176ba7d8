use Rattle.std.proofs.Common.{◌≡◌}
use Rattle.cache_spaces.specs.Cursors.{lists_of, rest_in}
use Rattle.cache_spaces.proofs.told.find_in.Given as goal

abbrev pub invariant-loop-at : goal.invariant-loop-at
invariant-loop-at l = rest_in (lists_of l.entry) l.fn.list l.fn.note ≡ rest_in (lists_of l.entry) l.at l.from
