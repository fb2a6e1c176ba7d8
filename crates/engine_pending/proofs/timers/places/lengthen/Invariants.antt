use Rattle.std.proofs.Common.{◌≡◌, ℕ, ◌+◌, ◌-◌, length}
use Rattle.engine_pending.specs.Timers.Awaited.{expiry_at}
use Rattle.engine_pending.specs.Timers.Firsts.{AreFirsts}
use Rattle.engine_pending.proofs.timers.places.lengthen.Given as goal

abbrev pub invariant-loop-expiries : goal.invariant-loop-expiries
invariant-loop-expiries l = record {
  whole : AreFirsts l.expiries.items l.firsts.items;
  same : (k : ℕ) → expiry_at l.expiries.items k ≡ expiry_at l.fn.expiries.items k;
}

-- each turn adds a place
abbrev pub decreases-loop-expiries : goal.decreases-loop-expiries
decreases-loop-expiries l = l.place + 1 - length l.expiries.items
