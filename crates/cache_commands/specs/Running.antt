-- What maintenance guarantees: how much a part may hold between its runs, and what no run of all parts leaves.
use Rattle.std.specs.Prelude.{ℕ, ◌+◌, ◌-◌, ◌/◌, Bool, true, false, not, ◌&&◌, ◌==◌, nat_le, nat_lt, List, Option, Some, None}
use Rattle.std.specs.List.{list_all, filter, sum_by}
use Rattle.std.specs.Option.{option_map}
use Rattle.audit_model.specs.History.{share}
use Rattle.audit_model.specs.Situation.{HeldValue}
use Rattle.audit_model.specs.Values.{rounded, after_ms, deadline_has_come}
use Rattle.audit_model.specs.declared.config.Config.{Config}

-- the weight of the values of a part
abbrev pub weight_in : ℕ → List HeldValue → ℕ
weight_in part held = sum_by (λ h. h.value.weight) (filter (λ h. h.value.part == part) held)

-- each part weighs at most its share plus 64 values of 8192 bytes
abbrev pub is_bounded : Config → List HeldValue → Bool
is_bounded config held = go config.capacity
  where
    go : Option ℕ → Bool
    go None = true
    go (Some capacity) =
        list_all (λ h. nat_le (weight_in h.value.part held) (share config capacity + 524288)) held

-- the tick of a moment: ticks have 2^30 nanoseconds, and are counted from the moment of creation rounded down to a multiple of 4096
abbrev pub tick_since : ℕ → ℕ → ℕ
tick_since made moment = (moment - rounded made) / 1073741824

-- there is a moment, and it is in an earlier tick
abbrev pub is_of_earlier_tick : ℕ → ℕ → Option ℕ → Bool
is_of_earlier_tick made now None = false
is_of_earlier_tick made now (Some moment) = nat_lt (tick_since made moment) (tick_since made now)

-- a run of all parts may leave it: it is not covered, not at or past its acceptance plus the live time, not 300 milliseconds or more past
-- its last use plus the idle time, and has no own deadline in an earlier tick
abbrev pub is_timely : Config → ℕ → ℕ → HeldValue → Bool
is_timely config made now h =
    not h.covered
    && not (deadline_has_come (option_map (after_ms h.value.accepted_at) config.live_ms) now)
    && not (deadline_has_come (option_map (λ ms. after_ms h.last_use ms + 300000000) config.idle_ms) now)
    && not (is_of_earlier_tick made now h.value.own_deadline)
