-- What a shelf keeps of its cache, so that it can bound what its items weigh.
use Rattle.std.specs.Prelude.{◌≡◌, ℕ, true, List, Some, is_some, slice_get}
use Rattle.engine_reference.specs.Soundness.{Each}
use Rattle.engine_reference.specs.State.{State}
use Rattle.front_reference.specs.Fronts.{Front}
use Rattle.memcache_model.specs.Items.{Item}
use Rattle.memcache_cache.specs.Rules.{item_weight}

module _ {P S R : Type 0} where
  -- it has one part and a capacity, and each record has the weight of its item
  pub record IsItemCache (f : Front (List ℕ) Item P S R) : Type 0 where
    pub single : f.bits ≡ 0
    pub capped : is_some f.capacity ≡ true
    pub weighed : (place : ℕ) (s : State (List ℕ) Item P S R) → slice_get f.parts place ≡ Some s
        → Each (λ r. r.entry.weight ≡ item_weight r.entry.key r.entry.value) s.records
