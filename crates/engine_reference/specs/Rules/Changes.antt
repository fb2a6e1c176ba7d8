-- How a value's own expiration changes.
use Rattle.std.specs.Prelude.{ℕ, nat_eq, Bool, true, false, Option, Some, None, option_map, if◌then◌else◌}
use Rattle.std.specs.Duration.{as_nanos}
use Rattle.engine_reference.specs.declared.rules.expiry.Expiration.{Expiration}
use Rattle.engine_reference.specs.declared.rules.expiry.Expiration.TheVariants.{Keep, Set}

-- what a result says, in nanoseconds: nothing if the expiration stays
abbrev pub change_of : Expiration → Option (Option ℕ)
change_of Keep = None
change_of (Set time) = Some (option_map as_nanos time)

-- the two times, or their absence, are the same
abbrev pub same_time : Option ℕ → Option ℕ → Bool
same_time None None = true
same_time (Some a) (Some b) = nat_eq a b
same_time None (Some b) = false
same_time (Some a) None = false

-- a result that equals the remaining time changes nothing
abbrev pub change_from : Option ℕ → Option ℕ → Option (Option ℕ)
change_from left answer = if same_time left answer then None else Some answer
