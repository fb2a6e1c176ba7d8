-- What loops count. A sum above the largest 64-bit number stays at it.
use Rattle.std.specs.Prelude.{ℕ, ◌+◌, ◌-◌, ◌^◌, min}
use Rattle.audit_model.specs.declared.transcript.RemovalCause.{RemovalCause}
use Rattle.audit_model.specs.declared.transcript.RemovalCause.TheVariants.{Expired, Explicit, Replaced, Size}
use Rattle.cache_loop.specs.declared.counts.Counts.{Counts}
use Rattle.cache_loop.specs.declared.counts.Departures.{Departures}
use Rattle.cache_loop.specs.declared.replies.Found.{Found}

-- two counts together
abbrev pub counted_both : ℕ → ℕ → ℕ
counted_both a b = min (a + b) (2 ^ 64 - 1)

-- one more value has left for a cause
abbrev pub departed : RemovalCause → Departures → Departures
departed Expired counts = record counts { expired = counted_both counts.expired 1 }
departed Explicit counts = record counts { explicit = counted_both counts.explicit 1 }
departed Replaced counts = record counts { replaced = counted_both counts.replaced 1 }
departed Size counts = record counts { size = counted_both counts.size 1 }

-- the values that have left two places
abbrev pub departed_both : Departures → Departures → Departures
departed_both a b = record {
  expired = counted_both a.expired b.expired;
  explicit = counted_both a.explicit b.explicit;
  replaced = counted_both a.replaced b.replaced;
  size = counted_both a.size b.size;
}

-- the replies of two places
abbrev pub found_both : Found → Found → Found
found_both a b = record {
  hits = counted_both a.hits b.hits;
  misses = counted_both a.misses b.misses;
  replies = counted_both a.replies b.replies;
  errors = counted_both a.errors b.errors;
}

-- what two loops have counted, but for their turns, which are those of the first
abbrev pub counts_both : Counts → Counts → Counts
counts_both a b = record a {
  accepted = counted_both a.accepted b.accepted;
  refused = counted_both a.refused b.refused;
  idle = counted_both a.idle b.idle;
  starved = counted_both a.starved b.starved;
  lacking = counted_both a.lacking b.lacking;
  read = counted_both a.read b.read;
  written = counted_both a.written b.written;
  found = found_both a.found b.found;
  departures = departed_both a.departures b.departures;
  loads = counted_both a.loads b.loads;
  nanos = counted_both a.nanos b.nanos;
}
