-- What is known of a connection's unread bytes, and of the load that it waits for.
use Rattle.std.specs.Prelude.{ℕ, ◌+◌, Bool, ◌&&◌, ◌||◌, nat_lt, nat_le, nat_eq, List, [], length, if◌then◌else◌, is_some, unwrap_or}
use Rattle.audit_model.specs.Bytewise.{cut_at}
use Rattle.audit_model.specs.Stream.{behind_lines, first_line}
use Rattle.cache_commands.specs.Loads.Standings.{waits_for_load}
use Rattle.cache_commands.specs.declared.loads.standing.Standing.{Standing}

-- a complete line has arrived, which is no longer than a line may be
abbrev pub has_line : List ℕ → Bool
has_line bytes = is_some (cut_at 10 bytes).1 && nat_le (length (cut_at 10 bytes).0) 8192

-- what comes before the first line feed is longer than a line may be
abbrev pub is_long_line : List ℕ → Bool
is_long_line bytes = nat_lt 8192 (length (cut_at 10 bytes).0)

-- the line that is held back
abbrev pub held_line : List ℕ → List ℕ
held_line bytes = unwrap_or (first_line bytes) []

-- no more bytes come after the first line than may come after a `LOAD` that waits
abbrev pub is_near : List ℕ → Bool
is_near bytes = nat_le (length (behind_lines 1 bytes)) 8192

-- a `LOAD` began to wait at most 200 times, and fewer times if it is held back
abbrev pub is_few : Standing → ℕ → Bool
is_few standing times = nat_lt times (if waits_for_load standing then 201 else 200)

-- an output of this length and capacity has room for `ERR abandoned` and a line feed, also after it is taken and the spare one put in its
-- place; an empty one stays
abbrev pub has_room : ℕ → ℕ → ℕ → ℕ → Bool
has_room len capacity spare_len spare_capacity =
    nat_le (len + 14) capacity && (nat_eq len 0 || (nat_eq spare_len 0 && nat_le 14 spare_capacity))
