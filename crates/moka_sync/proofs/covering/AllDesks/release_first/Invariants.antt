use Rattle.std.proofs.Common.{◌≡◌}
use Rattle.front_parts.specs.Wholes.Firsts.{changed_first}
use Rattle.moka_sync.specs.Covering.{released}
use Rattle.moka_sync.proofs.covering.AllDesks.release_first.Given as goal

abbrev pub invariant-loop-number : goal.invariant-loop-number
invariant-loop-number g l = l.self ≡ changed_first (λ k. released) l.number l.fn.self
