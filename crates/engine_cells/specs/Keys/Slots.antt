-- How places are stored in memory: a table of slots, in which a place is looked for from its tag's home on, around the end, up to a vacant
-- slot. No public clause cites this module.
use Rattle.std.specs.Prelude.{◌≡◌, ◌≢◌, ℕ, ◌+◌, ◌-◌, ◌*◌, ◌/◌, ◌%◌, ◌^◌, ◌<◌, ◌≤◌, nat_lt, if◌then◌else◌, List, [], ◌∷◌, length, slice_index_or, slice_set, count_by}
use Rattle.engine_cells.specs.declared.keys.Slot.{Slot}

-- what a vacant slot has in place of a place
abbrev pub nowhere : ℕ
nowhere = 4294967295

abbrev pub vacant_slot : Slot
vacant_slot = record { tag = 0; place = nowhere }

-- the content of a slot
abbrev pub slot_at : List Slot → ℕ → Slot
slot_at slots k = slice_index_or slots k vacant_slot

-- a place is in a slot
abbrev pub HoldsPlace : List Slot → ℕ → Type 0
HoldsPlace slots k = (slot_at slots k).place < nowhere

-- how many slots are taken
abbrev pub taken_in : List Slot → ℕ
taken_in slots = count_by (λ s. nat_lt s.place nowhere) slots

-- the tags with their places
abbrev pub entries_in : List Slot → List (ℕ × ℕ)
entries_in [] = []
entries_in (s ∷ rest) =
    if nat_lt s.place nowhere then (s.tag, s.place) ∷ entries_in rest else entries_in rest

-- how many places this many slots hold at most: two thirds
abbrev pub most_in : ℕ → ℕ
most_in many = many / 3 * 2

-- the slot in which a tag is looked for first, of this many
unfoldable pub home_of : ℕ → ℕ → ℕ
home_of tag many = tag % 2 ^ 32 * many / 2 ^ 32

-- the slot to which this many steps lead
abbrev pub steps_on : ℕ → ℕ → ℕ → ℕ
steps_on many from steps =
    if nat_lt steps (many - from) then from + steps else steps - (many - from)

-- how many steps lead from one slot to another
abbrev pub steps_to : ℕ → ℕ → ℕ → ℕ
steps_to many from to = if nat_lt to from then many - from + to else to - from

-- a slot is on the way from a tag's home to another, or is that one
abbrev pub IsOnWay : ℕ → ℕ → ℕ → ℕ → Type 0
IsOnWay many tag to at = steps_to many (home_of tag many) at ≤ steps_to many (home_of tag many) to

-- a place is under a tag
abbrev pub Has : List Slot → ℕ → ℕ → Type 0
Has slots tag place =
    (k : ℕ) × (slot_at slots k ≡ record { tag = tag; place = place }) × (place < nowhere)

-- the same places are under the same tags
pub record HasAll (old new : List Slot) : Type 0 where
  pub others : (t p : ℕ) → Has old t p → Has new t p
  pub only : (t p : ℕ) → Has new t p → Has old t p

-- of this many slots, each that is on a place's way is taken, and no place is in two
pub record AreFoundIn (many : ℕ) (slots : List Slot) : Type 0 where
  pub reached : (k at : ℕ) → HoldsPlace slots k → at < many → IsOnWay many (slot_at slots k).tag k at
      → HoldsPlace slots at
  pub once : (k at : ℕ) → HoldsPlace slots k → slot_at slots at ≡ slot_at slots k → at ≡ k

-- each place is found from its tag's home on
abbrev pub AreFound : List Slot → Type 0
AreFound slots = AreFoundIn (length slots) slots

-- a slot is the first vacant one from a tag's home on
pub record IsFirstVacant (slots : List Slot) (tag result : ℕ) : Type 0 where
  pub within : result < length slots
  pub vacant : nowhere ≤ (slot_at slots result).place
  pub before : (at : ℕ) → at < length slots → steps_to (length slots) (home_of tag (length slots))
      at < steps_to (length slots) (home_of tag (length slots)) result → HoldsPlace slots at

-- a place was put into a slot that was vacant
pub record Adds (old new : List Slot) (tag place : ℕ) : Type 0 where
  pub at : ℕ
  pub within : at < length old
  pub was : nowhere ≤ (slot_at old at).place
  pub is : new ≡ slice_set old at (record { tag = tag; place = place })

-- the place of a slot has to go: the others are separate from one slot, which may be another
pub record IsHoled (old new : List Slot) (from hole : ℕ) : Type 0 where
  pub long : length new ≡ length old
  pub within : hole < length old
  pub full : HoldsPlace new hole
  pub count : taken_in new ≡ taken_in old
  pub others : (k : ℕ) → HoldsPlace old k → k ≢ from → (j : ℕ) × (j ≢ hole)
      × (slot_at new j ≡ slot_at old k)
  pub only : (j : ℕ) → j ≢ hole → HoldsPlace new j → (k : ℕ) × (k ≢ from)
      × (slot_at old k ≡ slot_at new j)
  pub once : (k j : ℕ) → k ≢ hole → j ≢ hole → HoldsPlace new k → slot_at new j ≡ slot_at new k → j ≡ k
  pub reached : (k at : ℕ) → k ≢ hole → HoldsPlace new k → at < length old
      → IsOnWay (length old) (slot_at new k).tag k at → HoldsPlace new at

-- a slot is on no other place's way
abbrev pub LeavesOut : List Slot → ℕ → Type 0
LeavesOut slots hole =
    (k : ℕ) → k ≢ hole → HoldsPlace slots k → IsOnWay (length slots) (slot_at slots k).tag k hole → ⊥

-- the place of a slot was removed, and the others may be in other slots
pub record Loses (old new : List Slot) (from : ℕ) : Type 0 where
  pub long : length new ≡ length old
  pub count : taken_in new + 1 ≡ taken_in old
  pub others : (k : ℕ) → HoldsPlace old k → k ≢ from → (j : ℕ) × (slot_at new j ≡ slot_at old k)
  pub only : (j : ℕ) → HoldsPlace new j → (k : ℕ) × (k ≢ from) × (slot_at old k ≡ slot_at new j)
