-- What a lent cache shows as a shelf.
use Rattle.std.specs.Prelude.{◌≡◌, ℕ, zero, suc, ◌+◌, ◌*◌, ◌/◌, List, unwrap_or}
use Rattle.front_parts.specs.Places.Calls.{LooksUpIn, Ways, visible_in}
use Rattle.front_reference.specs.Fronts.{Front}
use Rattle.front_reference.specs.Wholes.{without_told}
use Rattle.memcache_model.specs.Items.{Item}
use Rattle.memcache_service.specs.Shelves.{Shelved}

-- what is visible at a moment of milliseconds, the moment of the last call, rounded up to one, and the capacity
abbrev pub shelved_by : {P S R : Type 0} → Ways (List ℕ) Item P S R → Front (List ℕ) Item P S R
    → Shelved
shelved_by ways cache = record {
  items = λ moment key. visible_in ways cache (moment * 1000000) key;
  latest = (cache.moment + 999999) / 1000000;
  capacity = unwrap_or cache.capacity 0;
}

-- a key was looked up at a moment of milliseconds, which the policy notes: a use of its record, or a miss
abbrev pub looks_up_by : {P S R : Type 0} → Ways (List ℕ) Item P S R → (moment : ℕ) → List ℕ
    → (old new : Front (List ℕ) Item P S R) → Type 0
looks_up_by ways moment key old new =
    LooksUpIn ways key (record { now = moment * 1000000; step = old.step }) old new

-- the cache when so many notices were taken
abbrev pub told_times : {P S R : Type 0} → ℕ → Front (List ℕ) Item P S R → Front (List ℕ) Item P S R
told_times zero f = f
told_times (suc count) f =
    let last = told_times count f in record last { parts = without_told last.parts }

-- notices were taken, and nothing else changed
abbrev pub AreTold : {P S R : Type 0} → (old new : Front (List ℕ) Item P S R) → Type 0
AreTold old new = (count : ℕ) × (new ≡ told_times count old)
