-- Which records are admitted if the weight would exceed the capacity, and which are evicted for them.
use Rattle.std.specs.Prelude.{ℕ, ◌+◌, ◌-◌, ◌*◌, ◌/◌, ◌==◌, nat_lt, nat_le, min, max, Bool, false, ◌&&◌, if◌then◌else◌, List, [], ◌∷◌, Option, Some, None, sum_by}
use Rattle.policy_base.specs.Counts.{Sketch, frequency_of}
use Rattle.engine_reference.specs.declared.rules.settings.EvictionPolicy.{EvictionPolicy}
use Rattle.engine_reference.specs.declared.rules.settings.EvictionPolicy.TheVariants.{TinyLfu, Lru}
use Rattle.engine_reference.specs.declared.data.Record.{Record}
use Rattle.engine_reference.specs.declared.data.Upsert.{Upsert}
use Rattle.engine_reference.specs.Records.{admitted_weight, settled_in, weight_at}
use Rattle.engine_reference.specs.State.{State}

-- a capacity is set, and a weight is above it
abbrev pub is_above : Option ℕ → ℕ → Bool
is_above None weight = false
is_above (Some capacity) weight = nat_lt capacity weight

abbrev pub with_first : {X : Type 0} → X → Option (List X) → Option (List X)
with_first x None = None
with_first x (Some xs) = Some (x ∷ xs)

-- the number of hashes for which the sketch's table is made: the capacity, or, if something is held, how many records of the average weight
-- fit
abbrev pub sketch_room : ℕ → ℕ → ℕ → ℕ
sketch_room capacity number weight =
    let wanted = if weight == 0 then capacity else capacity * number / weight in
    min (max wanted 128) 4294967295

-- at least half the capacity is held, and there is no table yet
abbrev pub wants_table : Option ℕ → Sketch → ℕ → Bool
wants_table None sketch weight = false
wants_table (Some capacity) sketch weight =
    nat_lt 0 capacity && (sketch.words == 0) && nat_le (capacity / 2) weight

-- the verdict on a write of a record that is not admitted
pub data Verdict (K V : Type 0) : Type 0 where
  admit : Verdict K V
  -- it is admitted, and these are evicted for it, in this order
  displace : List (Record K V) → Verdict K V
  refuse : Verdict K V

module _ {K V : Type 0} where
  -- the shortest front of records whose total weight reaches a weight
  abbrev pub shortest_front : ℕ → List (Record K V) → Option (List (Record K V))
  shortest_front weight [] = if weight == 0 then Some [] else None
  shortest_front weight (r ∷ rs) =
      if weight == 0 then Some [] else with_first r (shortest_front (weight - weight_at r) rs)

  -- how often these were requested, in total
  abbrev pub frequencies : Sketch → List (Record K V) → ℕ
  frequencies sketch rs = sum_by (λ r. frequency_of sketch r.hash) rs

  -- the newcomer is admitted exactly if there are victims and it was requested more often than all of them together
  abbrev pub contest : Sketch → ℕ → Option (List (Record K V)) → Verdict K V
  contest sketch hash None = refuse
  contest sketch hash (Some victims) =
      if nat_lt (frequencies sketch victims) (frequency_of sketch hash) then displace victims
      else refuse

  abbrev pub verdict_of_full : EvictionPolicy → Sketch → Upsert → List (Record K V) → Verdict K V
  verdict_of_full Lru sketch u settled = admit
  verdict_of_full TinyLfu sketch u settled = contest sketch u.hash (shortest_front u.weight settled)

module _ {K V P S R : Type 0} where
  -- if there is room, or no capacity, it is admitted; otherwise a record that alone is heavier than the capacity is refused, and the policy
  -- decides about the rest
  abbrev pub verdict : State K V P S R → Upsert → Verdict K V
  verdict s u =
      if is_above s.settings.capacity (admitted_weight s.records + u.weight)
      then (if is_above s.settings.capacity u.weight then refuse
      else verdict_of_full s.settings.policy s.sketch u (settled_in s.records s.access))
      else admit
