-- What was packed is unpacked again.
use Rattle.std.proofs.Common.{inl, inr, ◌≡◌, ℕ, ◌+◌, ◌-◌, ◌*◌, ◌/◌, ◌%◌, ◌^◌, ◌<◌, ◌≤◌, Bool, true, false, List, [], ◌++◌, length, take, drop, Option, Some, None, refl, sym, ap, ◌∙◌, subst, arith, length-append}
use Rattle.std.specs.Prelude.{◌⊎◌, if◌then◌else◌, is_some, nat_le}
use Rattle.std.specs.Option.{unwrap_or}
use Rattle.std.specs.Int.{w32, w64, from_le_bytes, to_le_bytes}
use Rattle.std.proofs.Math.Seq.{take-append_seam, drop-append_seam}
use Rattle.std.proofs.lemmas.List.{append_assoc, length-take}
use Rattle.std.proofs.lemmas.Nat.{from_le_bytes-to_le_bytes_4, from_le_bytes-to_le_bytes_8}
use Rattle.std.proofs.lemmas.Bool.Decides.{nat_tests}
use Rattle.std.proofs.lemmas.Bool.{cases_Bool}
use Rattle.memcache_service.specs.Packing.{before_last, last_of, end_word, marks_leased, marks_stale, marks_timed, marks_room, room_size, kept_flags, item_in, item_by, unpacked, IsPacked, takes_room, marks_of, room_with}

-- ---- lists

front-seam : (xs t : List ℕ) (n : ℕ) → length t ≡ n → before_last n (xs ++ t) ≡ xs
front-seam xs t n is =
    let there : length (xs ++ t) - n ≡ length xs = omega (arith, length-append xs t, is) in
    ap (λ k. take k (xs ++ t)) there ∙ take-append_seam xs t

last-seam : (xs t : List ℕ) (n : ℕ) → length t ≡ n → last_of n (xs ++ t) ≡ t
last-seam xs t n is =
    let there : length (xs ++ t) - n ≡ length xs = omega (arith, length-append xs t, is) in
    ap (λ k. drop k (xs ++ t)) there ∙ drop-append_seam xs t

word-seam : (xs : List ℕ) (word : ℕ) → word < 2 ^ 64 → end_word (xs ++ to_le_bytes w64 word) ≡ word
word-seam xs word small =
    ap (from_le_bytes w64) (last-seam xs (to_le_bytes w64 word) 8 refl) ∙ from_le_bytes-to_le_bytes_8 word small

-- ---- the word

-- a mark is at most its number
mark-is : (mark : ℕ) (set : Bool) → ((set ≡ true) × ((if set then mark else 0) ≡ mark)) ⊎ ((set ≡ false) × ((if set then mark else 0) ≡ 0))
mark-is mark true = inl (refl, refl)
mark-is mark false = inr (refl, refl)

marks-small : (leased stale timed roomy : Bool) → marks_of leased stale timed roomy < 16
marks-small leased stale timed roomy = omega (arith, mark-is 8 leased, mark-is 4 stale, mark-is 2 timed, mark-is 1 roomy)

leased-back : (unique : ℕ) (leased stale timed roomy : Bool) → marks_leased (unique * 16 + marks_of leased stale timed roomy) ≡ leased
leased-back unique true stale timed roomy = grind (arith, nat_tests, mark-is 4 stale, mark-is 2 timed, mark-is 1 roomy)
leased-back unique false stale timed roomy = grind (arith, nat_tests, mark-is 4 stale, mark-is 2 timed, mark-is 1 roomy)

stale-back : (unique : ℕ) (leased stale timed roomy : Bool) → marks_stale (unique * 16 + marks_of leased stale timed roomy) ≡ stale
stale-back unique leased true timed roomy = grind (arith, nat_tests, mark-is 8 leased, mark-is 2 timed, mark-is 1 roomy)
stale-back unique leased false timed roomy = grind (arith, nat_tests, mark-is 8 leased, mark-is 2 timed, mark-is 1 roomy)

timed-back : (unique : ℕ) (leased stale timed roomy : Bool) → marks_timed (unique * 16 + marks_of leased stale timed roomy) ≡ timed
timed-back unique leased stale true roomy = grind (arith, nat_tests, mark-is 8 leased, mark-is 4 stale, mark-is 1 roomy)
timed-back unique leased stale false roomy = grind (arith, nat_tests, mark-is 8 leased, mark-is 4 stale, mark-is 1 roomy)

roomy-back : (unique : ℕ) (leased stale timed roomy : Bool) → marks_room (unique * 16 + marks_of leased stale timed roomy) ≡ roomy
roomy-back unique leased stale timed true = grind (arith, nat_tests, mark-is 8 leased, mark-is 4 stale, mark-is 2 timed)
roomy-back unique leased stale timed false = grind (arith, nat_tests, mark-is 8 leased, mark-is 4 stale, mark-is 2 timed)

unique-back : (unique : ℕ) (leased stale timed roomy : Bool) → (unique * 16 + marks_of leased stale timed roomy) / 16 ≡ unique
unique-back unique leased stale timed roomy = omega (arith, marks-small leased stale timed roomy)

-- ---- an item

-- bytes with room behind them, and none
room-back : (bytes : List ℕ) (flags unique at : ℕ) (leased stale timed : Bool) → flags < 2 ^ 32 → at < 2 ^ 64
    → item_in (bytes ++ (to_le_bytes w32 flags ++ to_le_bytes w64 at)) unique leased stale timed true
    ≡ record { bytes = bytes; flags = flags; unique = unique; deadline = (if timed then Some at else None); stale = stale; leased = leased }
room-back bytes flags unique at leased stale timed few early =
    let room = to_le_bytes w32 flags ++ to_le_bytes w64 at in
    let apart = sym (append_assoc bytes (to_le_bytes w32 flags) (to_le_bytes w64 at)) in
    let is_bytes = front-seam bytes room 12 refl in
    let front : before_last 8 (bytes ++ room) ≡ bytes ++ to_le_bytes w32 flags = ap (before_last 8) apart ∙ front-seam (bytes ++ to_le_bytes w32 flags) (to_le_bytes w64 at) 8 refl in
    let is_flags : kept_flags true (bytes ++ room) ≡ flags = ap (λ f. from_le_bytes w32 (last_of 4 f)) front ∙ ap (from_le_bytes w32) (last-seam bytes (to_le_bytes w32 flags) 4 refl) ∙ from_le_bytes-to_le_bytes_4 flags few in
    let is_at : end_word (bytes ++ room) ≡ at = ap end_word apart ∙ word-seam (bytes ++ to_le_bytes w32 flags) at early in
    rw (is_bytes, is_flags, is_at) refl

bare-back : (bytes : List ℕ) (unique : ℕ) (leased stale : Bool)
    → item_in (bytes ++ []) unique leased stale false false
    ≡ record { bytes = bytes; flags = 0; unique = unique; deadline = None; stale = stale; leased = leased }
bare-back bytes unique leased stale =
    let all = front-seam bytes [] 0 refl in
    rw all refl

-- by what stands behind the bytes
room-with-back : (bytes : List ℕ) (flags unique : ℕ) (deadline : Option ℕ) (leased stale roomy : Bool) → flags < 2 ^ 32
    → unwrap_or deadline 0 < 2 ^ 64 → takes_room flags deadline ≡ roomy
    → item_in (bytes ++ room_with flags deadline) unique leased stale (is_some deadline) roomy
    ≡ record { bytes = bytes; flags = flags; unique = unique; deadline = deadline; stale = stale; leased = leased }
room-with-back bytes flags unique (Some at) leased stale true few early takes =
    rw takes (room-back bytes flags unique at leased stale true few early)
room-with-back bytes flags unique (Some at) leased stale false few early takes = grind (arith, nat_tests, takes)
room-with-back bytes flags unique None leased stale true few early takes =
    rw takes (room-back bytes flags unique 0 leased stale false few (omega arith))
room-with-back bytes flags unique None leased stale false few early takes =
    let none : flags ≡ 0 = grind (arith, nat_tests, takes) in
    rw (takes, none) (bare-back bytes unique leased stale)

-- the word behind it
word-small : (unique : ℕ) (leased stale timed roomy : Bool) → unique < 2 ^ 60 → unique * 16 + marks_of leased stale timed roomy < 2 ^ 64
word-small unique leased stale timed roomy below = omega (arith, below, marks-small leased stale timed roomy)

item-by-back : (front : List ℕ) (unique : ℕ) (leased stale timed roomy : Bool)
    → item_by front (unique * 16 + marks_of leased stale timed roomy) ≡ item_in front unique leased stale timed roomy
item-by-back front unique leased stale timed roomy =
    rw (unique-back unique leased stale timed roomy, leased-back unique leased stale timed roomy, stale-back unique leased stale timed roomy, timed-back unique leased stale timed roomy, roomy-back unique leased stale timed roomy) refl

unpacked-seam : (front : List ℕ) (word : ℕ) → word < 2 ^ 64 → unpacked (front ++ to_le_bytes w64 word) ≡ item_by front word
unpacked-seam front word small =
    rw (front-seam front (to_le_bytes w64 word) 8 refl, word-seam front word small) refl

-- what is packed is unpacked
pub packed-back : (bytes : List ℕ) (flags unique : ℕ) (deadline : Option ℕ) (leased stale : Bool) → flags < 2 ^ 32 → unique < 2 ^ 60
    → unwrap_or deadline 0 < 2 ^ 64
    → unpacked (bytes ++ (room_with flags deadline ++ to_le_bytes w64 (unique * 16 + marks_of leased stale (is_some deadline) (takes_room flags deadline))))
    ≡ record { bytes = bytes; flags = flags; unique = unique; deadline = deadline; stale = stale; leased = leased }
packed-back bytes flags unique deadline leased stale few below early =
    let word = unique * 16 + marks_of leased stale (is_some deadline) (takes_room flags deadline) in
    let apart = sym (append_assoc bytes (room_with flags deadline) (to_le_bytes w64 word)) in
    let small = word-small unique leased stale (is_some deadline) (takes_room flags deadline) below in
    ap unpacked apart ∙ unpacked-seam (bytes ++ room_with flags deadline) word small
    ∙ item-by-back (bytes ++ room_with flags deadline) unique leased stale (is_some deadline) (takes_room flags deadline)
    ∙ room-with-back bytes flags unique deadline leased stale (takes_room flags deadline) few early refl

-- bytes before a word are packed, if there is what its marks say
packed-seam : (front : List ℕ) (word : ℕ) → word < 2 ^ 64 → room_size (marks_room word) ≤ length front → (marks_timed word ≡ true → marks_room word ≡ true)
    → IsPacked (front ++ to_le_bytes w64 word)
packed-seam front word small room roomy =
    let long : length (front ++ to_le_bytes w64 word) ≡ length front + 8 = length-append front (to_le_bytes w64 word) in
    let is = word-seam front word small in
    record {
      word = omega (arith, long);
      room = rw is (omega (arith, long, room));
      roomy = rw is roomy;
    }

-- there is as much room as is marked
room-there : (flags : ℕ) (deadline : Option ℕ) → room_size (takes_room flags deadline) ≤ length (room_with flags deadline)
room-there flags deadline = elim (cases_Bool (takes_room flags deadline)) [
  | inl is ↦ rw is (omega arith)
  | inr is ↦ rw is (omega arith)
]

timed-room : (flags : ℕ) (deadline : Option ℕ) → is_some deadline ≡ true → takes_room flags deadline ≡ true
timed-room flags (Some at) is = grind (arith, nat_tests)
timed-room flags None is = grind (arith, is)

pub packed-is : (bytes : List ℕ) (flags unique : ℕ) (deadline : Option ℕ) (leased stale : Bool) → unique < 2 ^ 60
    → IsPacked (bytes ++ (room_with flags deadline ++ to_le_bytes w64 (unique * 16 + marks_of leased stale (is_some deadline) (takes_room flags deadline))))
packed-is bytes flags unique deadline leased stale below =
    let timed = is_some deadline in
    let roomy = takes_room flags deadline in
    let word = unique * 16 + marks_of leased stale timed roomy in
    let apart = append_assoc bytes (room_with flags deadline) (to_le_bytes w64 word) in
    let there : room_size (marks_room word) ≤ length (bytes ++ room_with flags deadline) =
    rw (roomy-back unique leased stale timed roomy) (omega (arith, room-there flags deadline, length-append bytes (room_with flags deadline))) in
    let marked : marks_timed word ≡ true → marks_room word ≡ true =
    rw (roomy-back unique leased stale timed roomy, timed-back unique leased stale timed roomy) (timed-room flags deadline) in
    subst IsPacked apart (packed-seam (bytes ++ room_with flags deadline) word (word-small unique leased stale timed roomy below) there marked)

-- ---- another unique

same-leased : (unique word : ℕ) → marks_leased (unique * 16 + word % 16) ≡ marks_leased word
same-leased unique word =
    let same : (unique * 16 + word % 16) % 16 ≡ word % 16 = omega arith in ap (nat_le 8) same

same-stale : (unique word : ℕ) → marks_stale (unique * 16 + word % 16) ≡ marks_stale word
same-stale unique word =
    let same : (unique * 16 + word % 16) % 8 ≡ word % 8 = omega arith in ap (nat_le 4) same

same-timed : (unique word : ℕ) → marks_timed (unique * 16 + word % 16) ≡ marks_timed word
same-timed unique word =
    let same : (unique * 16 + word % 16) % 4 ≡ word % 4 = omega arith in ap (nat_le 2) same

same-roomy : (unique word : ℕ) → marks_room (unique * 16 + word % 16) ≡ marks_room word
same-roomy unique word =
    let same : (unique * 16 + word % 16) % 2 ≡ word % 2 = omega arith in ap (nat_le 1) same

unique-small : (unique word : ℕ) → unique < 2 ^ 60 → unique * 16 + word % 16 < 2 ^ 64
unique-small unique word below = omega (arith, below)

pub unique-back-in : (packed : List ℕ) (unique : ℕ) → unique < 2 ^ 60
    → unpacked (before_last 8 packed ++ to_le_bytes w64 (unique * 16 + end_word packed % 16)) ≡ record (unpacked packed) { unique = unique }
unique-back-in packed unique below =
    let word = end_word packed in
    let another : (unique * 16 + word % 16) / 16 ≡ unique = omega arith in
    unpacked-seam (before_last 8 packed) (unique * 16 + word % 16) (unique-small unique word below)
    ∙ rw (another, same-leased unique word, same-stale unique word, same-timed unique word, same-roomy unique word) refl

pub unique-is : (packed : List ℕ) (unique : ℕ) → IsPacked packed → unique < 2 ^ 60
    → IsPacked (before_last 8 packed ++ to_le_bytes w64 (unique * 16 + end_word packed % 16))
unique-is packed unique is below =
    let word = end_word packed in
    let long : length (before_last 8 packed) ≡ length packed - 8 = omega (arith, length-take (length packed - 8) packed) in
    let there : room_size (marks_room (unique * 16 + word % 16)) ≤ length (before_last 8 packed) = rw (same-roomy unique word, long) is.room in
    let marked : marks_timed (unique * 16 + word % 16) ≡ true → marks_room (unique * 16 + word % 16) ≡ true = rw (same-roomy unique word, same-timed unique word) is.roomy in
    packed-seam (before_last 8 packed) (unique * 16 + word % 16) (unique-small unique word below) there marked

-- ---- room

-- flags and a deadline behind other bytes
pub room-taken : (before : List ℕ) (flags : ℕ) (deadline : Option ℕ) → takes_room flags deadline ≡ true
    → before ++ to_le_bytes w32 flags ++ to_le_bytes w64 (unwrap_or deadline 0) ≡ before ++ room_with flags deadline
room-taken before flags deadline takes =
    rw takes (append_assoc before (to_le_bytes w32 flags) (to_le_bytes w64 (unwrap_or deadline 0)))
