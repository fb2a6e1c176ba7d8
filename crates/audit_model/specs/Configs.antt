-- Which configurations are accepted.
use Rattle.std.specs.Prelude.{◌≡◌, ℕ, Bool, true, not, ◌&&◌, ◌||◌, nat_le, Option, Some, None, is_some, IsTrue, if◌then◌else◌}
use Rattle.std.specs.Option.{option_map}
use Rattle.audit_model.specs.History.{Value}
use Rattle.audit_model.specs.Values.{deadline, earlier_deadline, after_ms}
use Rattle.audit_model.specs.declared.config.Config.{Config}

-- a time has 1 to 999,999,999,999 milliseconds
abbrev pub is_time : Option ℕ → Bool
is_time None = true
is_time (Some ms) = nat_le 1 ms && nat_le ms 999999999999

-- 1 to 256 parts, times in range, and no live time together with own deadlines
abbrev pub is_valid : Config → Bool
is_valid config =
    nat_le 1 config.parts && nat_le config.parts 256 && is_time config.live_ms
    && is_time config.idle_ms
    && not (config.own_deadlines && is_some config.live_ms)

-- the own deadline, if the configuration allows own deadlines; otherwise the earlier of live and idle time
abbrev pub deadline_apart : Config → Value → ℕ → Option ℕ
deadline_apart config value last_use =
    if config.own_deadlines then value.own_deadline
    else earlier_deadline (option_map (after_ms value.accepted_at) config.live_ms)
    (option_map (after_ms last_use) config.idle_ms)

-- if there is no idle time together with own deadlines, and no value has an own deadline unless the configuration allows it, the two
-- deadlines agree
abbrev pub DeadlinesAgree : Type 0
DeadlinesAgree =
    (config : Config) (value : Value) (last_use : ℕ)
    → IsTrue (is_valid config) → IsTrue (not (config.own_deadlines && is_some config.idle_ms))
    → IsTrue (config.own_deadlines || not (is_some value.own_deadline))
    → deadline config value last_use ≡ deadline_apart config value last_use
