-- Lines that wait to be written.
use Rattle.std.specs.Prelude.{ℕ, ◌+◌, ◌&&◌, ◌==◌, nat_le, not, min, Bool, false, List, [], ◌++◌, length, if◌then◌else◌}

-- the bytes that wait; how many notes found no room; whether nobody reads any more; whether room was waited for in vain; whether no more
-- will come
pub record Outgoing : Type 0 where
  pub waiting : List ℕ
  pub lost : ℕ
  pub is_closed : Bool
  pub is_stalled : Bool
  pub is_over : Bool

-- nothing waits
abbrev pub no_lines : Outgoing
no_lines = record { waiting = []; lost = 0; is_closed = false; is_stalled = false; is_over = false }

-- at most a mebibyte waits
abbrev pub has_room_for : ℕ → Outgoing → Bool
has_room_for size out = nat_le (length out.waiting + size) 1048576

-- the line is appended to those that wait, or is counted as lost if there is no room for it; once nobody reads, nothing happens
abbrev pub with_line : List ℕ → Outgoing → Outgoing
with_line line out =
    if out.is_closed then out
    else if has_room_for (length line) out then record out { waiting = out.waiting ++ line }
    else record out { lost = min (out.lost + 1) 18446744073709551615 }

-- the line has to wait for room: there is none, and lines are read
abbrev pub waits_for_room : List ℕ → Outgoing → Bool
waits_for_room line out =
    not out.is_closed && (not out.is_stalled && not (has_room_for (length line) out))

-- there is nothing to write or to report, and more will come
abbrev pub is_idle : Outgoing → Bool
is_idle out = length out.waiting == 0 && (out.lost == 0 && not out.is_over)
