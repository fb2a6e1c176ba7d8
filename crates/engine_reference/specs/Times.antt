-- Deadlines.
use Rattle.std.specs.Prelude.{ℕ, ◌+◌, ◌-◌, ◌*◌, ◌/◌, nat_le, min, Bool, false, Option, Some, None, option_map}
use Rattle.policy_base.specs.Info.{kept_time}
use Rattle.engine_reference.specs.declared.data.Entry.{Entry}
use Rattle.engine_reference.specs.declared.data.Settings.{Settings}

-- the moment this long after another one, or the last moment if there is no later one
abbrev pub later : ℕ → ℕ → ℕ
later moment time = min (moment + time) 18446744073709551614

-- when a time ends that began at a moment
abbrev pub end_of : ℕ → Option ℕ → Option ℕ
end_of since time = option_map (later since) time

-- the earlier of two moments, of those that exist
abbrev pub earlier_of : Option ℕ → Option ℕ → Option ℕ
earlier_of None b = b
earlier_of (Some a) None = Some a
earlier_of (Some a) (Some b) = Some (min a b)

-- a moment has been reached, if there is one
abbrev pub is_reached : Option ℕ → ℕ → Bool
is_reached None now = false
is_reached (Some moment) now = nat_le moment now

-- an own expiration: this long after the moment, as it is kept
abbrev pub own_expiration : ℕ → Option ℕ → Option ℕ
own_expiration now time = option_map (λ d. kept_time (later now d)) time

-- the own expiration after a result that may leave it as it is
abbrev pub changed_expiration : ℕ → Option (Option ℕ) → Option ℕ → Option ℕ
changed_expiration now None before = before
changed_expiration now (Some time) before = own_expiration now time

module _ {K V : Type 0} where
  -- the earliest of the own expiration, the write plus the live time and the last use plus the idle time, of those that exist
  abbrev pub deadline_of : Settings → Entry K V → Option ℕ
  deadline_of settings e =
      earlier_of e.expires
      (earlier_of (end_of e.written settings.live) (end_of e.used settings.idle))

  -- the deadline has come: it ends at the very moment
  abbrev pub has_come : Settings → ℕ → Entry K V → Bool
  has_come settings now e = is_reached (deadline_of settings e) now

  -- the time that remains until the deadline: nothing if it has come
  abbrev pub time_left : Settings → ℕ → Entry K V → Option ℕ
  time_left settings now e = option_map (λ deadline. deadline - now) (deadline_of settings e)

-- the tick of a moment: own expirations are noticed by ticks of 2^30 nanoseconds, counted from the moment of creation rounded down
abbrev pub tick_of : Settings → ℕ → ℕ
tick_of settings moment = (moment - settings.made / 4096 * 4096) / 1073741824
