-- How an item is kept as one list of bytes: its bytes, then its flags and its deadline if it has any, then its unique with four marks.
use Rattle.std.specs.Prelude.{◌≡◌, ℕ, ◌+◌, ◌-◌, ◌/◌, ◌%◌, ◌^◌, ◌<◌, ◌≤◌, Bool, true, not, ◌||◌, ◌==◌, nat_le, List, [], ◌++◌, length, take, drop, Option, Some, None, is_some, if◌then◌else◌}
use Rattle.std.specs.Int.{w32, w64, from_le_bytes, to_le_bytes}
use Rattle.std.specs.Option.{unwrap_or}
use Rattle.memcache_model.specs.Items.{Item}

-- all but the last so many bytes, and those
abbrev pub before_last : ℕ → List ℕ → List ℕ
before_last count bytes = take (length bytes - count) bytes

abbrev pub last_of : ℕ → List ℕ → List ℕ
last_of count bytes = drop (length bytes - count) bytes

-- ---- reading

-- the number that the last eight bytes write
abbrev pub end_word : List ℕ → ℕ
end_word bytes = from_le_bytes w64 (last_of 8 bytes)

-- its marks: the item is leased, is stale, has a deadline, and has room for flags and a deadline
abbrev pub marks_leased : (word : ℕ) → Bool
marks_leased word = nat_le 8 (word % 16)

abbrev pub marks_stale : (word : ℕ) → Bool
marks_stale word = nat_le 4 (word % 8)

abbrev pub marks_timed : (word : ℕ) → Bool
marks_timed word = nat_le 2 (word % 4)

abbrev pub marks_room : (word : ℕ) → Bool
marks_room word = nat_le 1 (word % 2)

-- how many bytes flags and deadline take
abbrev pub room_size : Bool → ℕ
room_size roomy = if roomy then 12 else 0

-- the flags behind an item's bytes, and the deadline behind those
abbrev pub kept_flags : (roomy : Bool) → List ℕ → ℕ
kept_flags roomy front = if roomy then from_le_bytes w32 (last_of 4 (before_last 8 front)) else 0

abbrev pub kept_deadline : (timed : Bool) → List ℕ → Option ℕ
kept_deadline timed front = if timed then Some (end_word front) else None

-- the item by what stands before the word, the unique and the marks
abbrev pub item_in : List ℕ → (unique : ℕ) → (leased stale timed roomy : Bool) → Item
item_in front unique leased stale timed roomy = record {
  bytes = before_last (room_size roomy) front;
  flags = kept_flags roomy front;
  unique = unique;
  deadline = kept_deadline timed front;
  stale = stale;
  leased = leased;
}

-- the same by the word
abbrev pub item_by : List ℕ → (word : ℕ) → Item
item_by front word = item_in front (word / 16) (marks_leased word) (marks_stale word) (marks_timed word)
    (marks_room word)

-- the item in bytes
abbrev pub unpacked : List ℕ → Item
unpacked packed = item_by (before_last 8 packed) (end_word packed)

-- the bytes have what the marks say
pub record IsPacked (packed : List ℕ) : Type 0 where
  pub word : 8 ≤ length packed
  pub room : room_size (marks_room (end_word packed)) ≤ length packed - 8
  pub roomy : marks_timed (end_word packed) ≡ true → marks_room (end_word packed) ≡ true

-- ---- writing

-- flags and deadline take room, if there are any
abbrev pub takes_room : (flags : ℕ) → Option ℕ → Bool
takes_room flags deadline = not (flags == 0) || is_some deadline

-- four marks as a number
abbrev pub marks_of : (leased stale timed roomy : Bool) → ℕ
marks_of leased stale timed roomy = (if leased then 8 else 0) + (if stale then 4 else 0)
    + (if timed then 2 else 0) + (if roomy then 1 else 0)

-- flags and deadline
abbrev pub room_with : (flags : ℕ) → Option ℕ → List ℕ
room_with flags deadline =
    if takes_room flags deadline then
    to_le_bytes w32 flags ++ to_le_bytes w64 (unwrap_or deadline 0) else []

-- flags have 32 bits, a deadline 64
abbrev pub IsInRange : (flags : ℕ) → Option ℕ → Type 0
IsInRange flags deadline = (flags < 2 ^ 32) × (unwrap_or deadline 0 < 2 ^ 64)
