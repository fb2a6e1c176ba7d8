-- What a store over a front keeps.
use Rattle.std.specs.Prelude.{◌≡◌, ℕ, ◌+◌, ◌≤◌, Bool, List, [], ◌∷◌, ◌++◌, length}
use Rattle.rand_core.specs.Stream.{Stream}
use Rattle.audit_model.specs.declared.config.Config.{Config}
use Rattle.audit_model.specs.declared.config.Weight.{Weight}
use Rattle.audit_model.specs.declared.transcript.Note.{Note}
use Rattle.engine_reference.specs.Rules.Hashing.{hash_of_key}
use Rattle.front_reference.specs.Fronts.{Front}
use Rattle.cache_front.specs.Parts.{Stored, items_of}
use Rattle.cache_front.specs.View.{IsWhole, StoreOfParts, all_drained, over_front, waiting}

-- the hash of the bytes of a key
abbrev pub hash_by : {H S : Type 0} → (H → ℕ) → (H → List ℕ → H) → (S → H) → S → List ℕ → ℕ
hash_by finish write build_hasher hasher key =
    hash_of_key finish write build_hasher (λ (k : List ℕ). k ∷ []) hasher key

abbrev pub Lent : (S : Type 0) → Type 0
Lent S = Front (List ℕ) Stored (List ℕ) S Weight

module _ {S : Type 0} where
  -- the store of a front's parts, with keys hashed like this
  abbrev pub store_of : (hash : S → List ℕ → ℕ) → Config → (made : ℕ) → (dropped : Bool)
      → List Note → Stream → Front (List ℕ) Stored (List ℕ) S Weight → StoreOfParts S
  store_of hash config made dropped queue stream f =
      over_front config made dropped (hash f.common.hasher) queue stream f

  -- the same when the notices of the front were just taken, after the notes of a queue
  abbrev pub over_drained : (hash : S → List ℕ → ℕ) → Config → (made : ℕ) → (dropped : Bool)
      → List Note → Stream → Lent S → StoreOfParts S
  over_drained hash config made dropped queue stream f =
      over_front config made dropped (hash f.common.hasher)
      (queue ++ waiting f.parts) stream (record f { parts = all_drained f.parts })

  -- it is whole, its values are counted, and the queue has room for a notice of each value
  pub record IsFitStore (a : StoreOfParts S) (count capacity : ℕ) : Type 0 where
    pub whole : IsWhole a
    pub counted : count ≡ length (items_of 0 a.parts)
    pub room : length a.queue + count ≤ capacity
