-- Sums of what is found and a number.
use Rattle.std.specs.Prelude.{ℕ, ◌+◌, ◌^◌, nat_lt, List, Option, Some, None, if◌then◌else◌}
use Rattle.std.specs.Option.{option_and_then}
use Rattle.audit_model.specs.Grammar.{number_in}

-- the bytes found as a number, and the sum if it is below 2 ^ 64; nothing found counts as 0
abbrev pub sum_of_bytes : Option (List ℕ) → ℕ → Option ℕ
sum_of_bytes None number = Some number
sum_of_bytes (Some bytes) number =
    option_and_then (λ n. if nat_lt (n + number) (2 ^ 64) then Some (n + number) else None)
    (number_in bytes)
