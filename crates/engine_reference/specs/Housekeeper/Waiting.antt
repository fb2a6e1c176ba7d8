-- When maintenance is due.
use Rattle.std.specs.Prelude.{ℕ, ◌+◌, nat_le, min, Bool, ◌||◌}

-- the moment from which a run is due because of the time that has passed since another moment: 300 milliseconds later, or the last moment
abbrev pub due_after : ℕ → ℕ
due_after ran = min (ran + 300000000) 18446744073709551614

-- 64 operations wait, or the moment has come
abbrev pub is_wanted : (waiting due now : ℕ) → Bool
is_wanted waiting due now = nat_le 64 waiting || nat_le due now
