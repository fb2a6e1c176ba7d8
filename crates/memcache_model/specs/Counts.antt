-- What a service counts: a count stays at 2 ^ 64 - 1 when it is there.
use Rattle.std.specs.Prelude.{ℕ, ◌+◌, ◌-◌, ◌^◌, min, Bool, if◌then◌else◌}
use Rattle.memcache_model.specs.declared.counters.Counters.{Counters}
use Rattle.memcache_model.specs.declared.counters.Looks.{Looks}

-- so many more
abbrev pub added : (count more : ℕ) → ℕ
added count more = min (count + more) (2 ^ 64 - 1)

-- nothing was counted
abbrev pub no_counts : Counters
no_counts = record {
  total_connections = 0;
  cmd_get = 0;
  cmd_set = 0;
  cmd_flush = 0;
  cmd_touch = 0;
  get_hits = 0;
  get_misses = 0;
  delete_misses = 0;
  delete_hits = 0;
  incr_misses = 0;
  incr_hits = 0;
  decr_misses = 0;
  decr_hits = 0;
  cas_misses = 0;
  cas_hits = 0;
  cas_badval = 0;
  touch_hits = 0;
  touch_misses = 0;
  bytes_read = 0;
  bytes_written = 0;
  total_items = 0;
  expired = 0;
  evictions = 0;
}

-- no key was looked at
abbrev pub no_looks : Looks
no_looks = record { found = 0; missing = 0 }

-- one more key was looked at, which has an item or none
abbrev pub noted : (is_there : Bool) → Looks → Looks
noted is_there looks = if is_there then record looks { found = added looks.found 1 }
    else record looks { missing = added looks.missing 1 }

-- keys were looked up
abbrev pub looked : Looks → Counters → Counters
looked looks counts = record counts {
  cmd_get = added (added counts.cmd_get looks.found) looks.missing;
  get_hits = added counts.get_hits looks.found;
  get_misses = added counts.get_misses looks.missing;
}

-- keys were touched
abbrev pub touches : Looks → Counters → Counters
touches looks counts = record counts {
  cmd_touch = added (added counts.cmd_touch looks.found) looks.missing;
  touch_hits = added counts.touch_hits looks.found;
  touch_misses = added counts.touch_misses looks.missing;
}

-- so many bytes were read
abbrev pub reads : (bytes : ℕ) → Counters → Counters
reads bytes counts = record counts { bytes_read = added counts.bytes_read bytes }

-- so many were written
abbrev pub writes : (bytes : ℕ) → Counters → Counters
writes bytes counts = record counts { bytes_written = added counts.bytes_written bytes }

-- a connection was opened
abbrev pub opens : Counters → Counters
opens counts = record counts { total_connections = added counts.total_connections 1 }
