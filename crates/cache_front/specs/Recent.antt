-- Exact recency: the keys of a part of a plain LRU namespace, the most recently used first.
use Rattle.std.specs.Prelude.{◌≡◌, ℕ, suc, ◌≤◌, Bool, true, false, List, [], ◌∷◌, take, reverse, Option, option_map, Some, None, slice_get}
use Rattle.std.specs.List.{filter_map}
use Rattle.audit_model.specs.Bytewise.{same}
use Rattle.audit_model.specs.declared.config.Weight.TheVariants.{One}
use Rattle.audit_model.specs.declared.config.Config.{Config}
use Rattle.cache_commands.specs.Recency.{IsPlainLru, AreKeysOf}
use Rattle.engine_reference.specs.declared.rules.settings.EvictionPolicy.TheVariants.{Lru}
use Rattle.engine_reference.specs.declared.data.Record.{Record}
use Rattle.engine_reference.specs.declared.data.Registered.{Registered}
use Rattle.engine_reference.specs.declared.data.Read.{Read}
use Rattle.engine_reference.specs.declared.data.Write.{Write}
use Rattle.engine_reference.specs.Records.{record_at, held_entries}
use Rattle.engine_reference.specs.Runs.{after_read, after_write}
use Rattle.engine_reference.specs.Soundness.{Each}
use Rattle.engine_reference.specs.State.{State}
use Rattle.engine_reference.specs.Telling.{AreApart}
use Rattle.engine_reference.specs.Visible.{is_covered}
use Rattle.engine_reference.specs.RunLaws.Points.{IsInOrder}
use Rattle.cache_front.specs.Parts.{Part, Stored, service_answers, items_of}

module _ {K V P S R : Type 0} where
  -- what waits, applied in order and without the rest of a run
  abbrev pub with_reads : List Read → State K V P S R → State K V P S R
  with_reads [] s = s
  with_reads (r ∷ rest) s = with_reads rest (after_read r (record s { reads = rest }))

  abbrev pub with_writes : List Write → State K V P S R → State K V P S R
  with_writes [] s = s
  with_writes (w ∷ rest) s = with_writes rest (after_write w (record s { writes = rest }))

  abbrev pub applied : State K V P S R → State K V P S R
  applied s = with_writes s.writes (with_reads s.reads s)

module _ {K V : Type 0} where
  abbrev pub key_numbered : List (Record K V) → ℕ → Option K
  key_numbered rs n = option_map (λ r. r.entry.key) (record_at rs n)

  -- the keys of a list of numbers, in its order
  abbrev pub keys_numbered : List (Record K V) → List ℕ → List K
  keys_numbered rs ns = filter_map (λ n. key_numbered rs n) ns

module _ {K V P S R : Type 0} where
  -- the keys of the access list, the most recently used first
  abbrev pub keys_used : State K V P S R → List K
  keys_used s = reverse (keys_numbered s.records s.access)

-- a value that is held weighs one, and has no deadline of its own
abbrev pub IsLasting : Record (List ℕ) Stored → Type 0
IsLasting r = r.is_held ≡ true → (r.entry.weight ≡ 1) × (r.entry.expires ≡ None)

module _ {S : Type 0} where
  -- nothing covers it
  abbrev pub IsUncovered : Part S → Record (List ℕ) Stored → Type 0
  IsUncovered s r = r.is_held ≡ true → is_covered service_answers s r.entry ≡ false

  -- a part of a plain LRU namespace of `suc n` values
  pub record IsPlain (n : ℕ) (s : Part S) : Type 0 where
    pub capacity : s.settings.capacity ≡ Some (suc n)
    pub policy : s.settings.policy ≡ Lru
    pub tells : s.settings.tells ≡ true
    pub live : s.settings.live ≡ None
    pub idle : s.settings.idle ≡ None
    pub rules : s.rules ≡ One
    pub in_order : IsInOrder s
    pub sent : s.unsent ≡ []
    pub apart : AreApart same (held_entries s.records)
    pub lasting : Each IsLasting s.records

  -- its order of use: these are the keys, except for those that a run will remove. After a run there are no others
  pub record IsRecent (n : ℕ) (s : Part S) (settled : Bool) (keys : List (List ℕ)) : Type 0 where
    pub cut : take (suc n) keys ≡ take (suc n) (keys_used (applied s))
    pub whole : settled ≡ true → (s.reads ≡ []) × (s.writes ≡ []) × (keys ≡ keys_used s)
    pub uncovered : Each (IsUncovered s) s.records

  -- nothing covers what is written at this step
  pub record IsFresh (step : ℕ) (s : Part S) : Type 0 where
    pub cleared : s.cleared ≤ step
    pub predicates : (place : ℕ) (p : Registered (List ℕ)) → slice_get s.predicates place ≡ Some p
        → p.step ≤ step

-- ---- all parts

module _ {S : Type 0} where
  -- the order of use that a store of these parts knows: after a run of all they have exactly these keys; and under plain LRU its one part
  -- has them in their order of use
  pub record IsRecentOver (config : Config) (parts : List (Part S)) (settled : Bool)
      (keys : List (List ℕ)) : Type 0 where
    pub held : settled ≡ true → AreKeysOf (items_of 0 parts) keys
    pub recent : (n part : ℕ) (s : Part S) → IsPlainLru config n → slice_get parts part ≡ Some s
        → IsRecent n s settled keys

  -- the clause of a call: from these parts to those, with the keys in another order
  abbrev pub MovesRecency : Config → List (Part S) → List (Part S) → (List (List ℕ) → List (List ℕ))
      → Type 0
  MovesRecency config parts news moved =
      (n : ℕ) (keys : List (List ℕ)) → IsPlainLru config n → IsRecentOver config parts true keys
      → IsRecentOver config news false (moved keys)
