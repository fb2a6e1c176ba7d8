-- A queue of indices as its callers see it, and the array of places behind it.
use Rattle.std.specs.Prelude.{◌≡◌, ◌≢◌, ℕ, ◌+◌, ◌-◌, ◌<◌, ◌≤◌, ◌^◌, ◌/◌, ◌||◌, eqb, nat_lt, Bool, false, List, [], ◌∷◌, ◌++◌, length, max, min, slice_index_or, if◌then◌else◌}
use Rattle.policy_queue.specs.declared.index_queue.Cursors.{Cursors}

-- the indices front to back, how many more need no allocation, and below what bound they then are
pub record Indices : Type 0 where
  pub indices : List ℕ
  pub room : ℕ
  pub bound : ℕ

-- the list has this index
abbrev pub has_index : ℕ → List ℕ → Bool
has_index index [] = false
has_index index (i ∷ rest) = eqb i index || has_index index rest

-- a list does not have this index
abbrev pub Lacks : ℕ → List ℕ → Type 0
Lacks index [] = Unit {0}
Lacks index (i ∷ rest) = (i ≢ index) × Lacks index rest

-- the indices differ from one another
abbrev pub IndicesDiffer : List ℕ → Type 0
IndicesDiffer [] = Unit {0}
IndicesDiffer (i ∷ rest) = Lacks i rest × IndicesDiffer rest

-- the list without this index
abbrev pub without_index : ℕ → List ℕ → List ℕ
without_index index [] = []
without_index index (i ∷ rest) = if eqb i index then rest else i ∷ without_index index rest

-- the list from this index on
abbrev pub from_index : ℕ → List ℕ → List ℕ
from_index index [] = []
from_index index (i ∷ rest) = if eqb i index then i ∷ rest else from_index index rest

-- the list with this index, which it has, after all others
abbrev pub index_moved_to_back : ℕ → List ℕ → List ℕ
index_moved_to_back index indices = without_index index indices ++ index ∷ []

-- nothing changed, except that there may be more room, and for higher indices
pub record OnlyGainsPlaces (old new : Indices) : Type 0 where
  pub same : new.indices ≡ old.indices
  pub room : old.room ≤ new.room
  pub bound : old.bound ≤ new.bound

-- what an empty place has in place of an index, and what the seat of an index that is not there has
abbrev pub vacant : ℕ
vacant = 4294967295

-- the indices in the places, front to back
abbrev pub order : List ℕ → List ℕ
order [] = []
order (p ∷ rest) = if eqb p vacant then order rest else p ∷ order rest

-- each index has its place as its seat, and each seat that is taken names the place of its index
pub record AreSeated (places seats : List ℕ) : Type 0 where
  pub placed : (k : ℕ) → slice_index_or places k vacant ≢ vacant
      → slice_index_or seats (slice_index_or places k vacant) vacant ≡ k
  pub seated : (index : ℕ) → slice_index_or seats index vacant ≢ vacant
      → slice_index_or places (slice_index_or seats index vacant) vacant ≡ index

-- there are indices in the place `front`, with none before it, and in the last place
pub record Ends (places : List ℕ) (front : ℕ) : Type 0 where
  pub before : (j : ℕ) → j < front → slice_index_or places j vacant ≡ vacant
  pub first : 0 < length places → (front < length places)
      × (slice_index_or places front vacant ≢ vacant)
  pub last : 0 < length places → slice_index_or places (length places - 1) vacant ≢ vacant
  pub none : length places ≡ 0 → front ≡ 0

-- the same, but place k was emptied
pub record EndsBut (places : List ℕ) (front k : ℕ) : Type 0 where
  pub before : (j : ℕ) → j < front → slice_index_or places j vacant ≡ vacant
  pub behind : front ≤ k
  pub within : k < length places
  pub empty : slice_index_or places k vacant ≡ vacant
  pub first : k ≢ front → slice_index_or places front vacant ≢ vacant
  pub last : k + 1 ≢ length places → slice_index_or places (length places - 1) vacant ≢ vacant

-- the places from one up to another are empty
abbrev pub AreEmpty : List ℕ → ℕ → ℕ → Type 0
AreEmpty places from to = (k : ℕ) → from ≤ k → k < to → slice_index_or places k vacant ≡ vacant

-- the places that compacting has emptied, which do not reach the last one
pub record IsGap (places : List ℕ) (carried unread : ℕ) : Type 0 where
  pub empty : AreEmpty places carried unread
  pub ordered : carried ≤ unread
  pub within : 0 < unread → unread < length places

-- indices are in their places, from the front to the last one; each place and each index is a 32-bit number
pub record AreArranged (places seats : List ℕ) (cursors : Cursors) : Type 0 where
  pub seated : AreSeated places seats
  pub ends : Ends places cursors.front
  pub gap : IsGap places cursors.carried cursors.unread
  pub fits : length places ≤ 2 ^ 32 - 1
  pub few : length seats ≤ 2 ^ 32 - 1

-- the index is in place k
pub record IsSeatedAt (places seats : List ℕ) (index k : ℕ) : Type 0 where
  pub place : slice_index_or places k vacant ≡ index
  pub seat : slice_index_or seats index vacant ≡ k
  pub named : index ≢ vacant

-- empty places after the last index were given up
pub record Trims (old new : List ℕ) : Type 0 where
  pub order : order new ≡ order old
  pub places : (k : ℕ) → slice_index_or new k vacant ≡ slice_index_or old k vacant

-- this many places are left: compacting is done if all of them were moved
pub record IsCutShort (len : ℕ) (old new : Cursors) : Type 0 where
  pub done : len ≤ old.unread → (new.carried ≡ 0) × (new.unread ≡ 0)
  pub more : old.unread < len → (new.carried ≡ old.carried) × (new.unread ≡ old.unread)

-- the indices in the places from `from` up to `end` moved to those from `to` up to `next`
pub record Carries (old new seats : List ℕ) (to from end next : ℕ) : Type 0 where
  pub same : order new ≡ order old
  pub seated : AreSeated new seats
  pub low : to ≤ next
  pub high : next + from ≤ to + end
  pub before : (k : ℕ) → k < to → slice_index_or new k vacant ≡ slice_index_or old k vacant
  pub taken : (k : ℕ) → to ≤ k → k < next → slice_index_or new k vacant ≢ vacant
  pub gap : AreEmpty new next end
  pub behind : (k : ℕ) → end ≤ k → slice_index_or new k vacant ≡ slice_index_or old k vacant
  pub moved : (k : ℕ) → from ≤ k → k < end → slice_index_or old k vacant ≢ vacant → to < next

-- for how many indices this many places are enough
abbrev pub indices_for : ℕ → ℕ
indices_for capacity = if nat_lt capacity (2 ^ 32 - 1) then capacity / 2 else 2 ^ 32 - 2

-- the array of a queue, with places enough
pub record IsIndexed (places : List ℕ) (capacity : ℕ) (seats : List ℕ) (len closes_at : ℕ)
    (cursors : Cursors) : Type 0 where
  pub arranged : AreArranged places seats cursors
  pub counted : len ≡ length (order places)
  pub enough : len ≤ indices_for capacity
  pub free : length places < max (min capacity (2 ^ 32 - 1)) 1
  pub early : closes_at ≤ min capacity (2 ^ 32 - 1) - 1
