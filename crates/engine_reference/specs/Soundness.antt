-- What holds in each state that calls and runs lead to: every write of a record is applied or pending.
use Rattle.std.specs.Prelude.{◌≡◌, ◌⊎◌, ℕ, ◌<◌, ◌≤◌, true, false, List, [], ◌∷◌, map, Some, None, is_some}
use Rattle.engine_reference.specs.declared.data.Record.{Record}
use Rattle.engine_reference.specs.declared.data.Unsent.{Unsent}
use Rattle.engine_reference.specs.declared.data.Upsert.{Upsert}
use Rattle.engine_reference.specs.declared.data.Write.{Write}
use Rattle.engine_reference.specs.declared.data.Write.TheVariants.{Put, Removed}
use Rattle.engine_reference.specs.Records.{record_at}
use Rattle.engine_reference.specs.State.{State}

abbrev pub IsIn : {X : Type 0} → X → List X → Type 0
IsIn x [] = ⊥
IsIn x (y ∷ ys) = (y ≡ x) ⊎ IsIn x ys

-- no number twice
abbrev pub AreOnce : List ℕ → Type 0
AreOnce [] = Unit {0}
AreOnce (n ∷ ns) = (IsIn n ns → ⊥) × AreOnce ns

-- the record that a write is of
abbrev pub number_of : Write → ℕ
number_of (Put u) = u.number
number_of (Removed number) = number

-- made and not applied yet, whether sent or not
abbrev pub IsPending : List Unsent → List Write → Write → Type 0
IsPending unsent writes w = IsIn w (map (λ u. u.write) unsent) ⊎ IsIn w writes

module _ {K V : Type 0} where
  abbrev pub Each : (Record K V → Type 0) → List (Record K V) → Type 0
  Each P [] = Unit {0}
  Each P (r ∷ rs) = P r × Each P rs

  -- no number twice
  abbrev pub AreNumbered : List (Record K V) → Type 0
  AreNumbered [] = Unit {0}
  AreNumbered (r ∷ rs) = (record_at rs r.number ≡ None) × AreNumbered rs

  -- the last write of a record, or its removal
  abbrev pub IsLastOf : Write → Record K V → Type 0
  IsLastOf (Put u) r = (u.number ≡ r.number) × (u.write ≡ r.writes)
  IsLastOf (Removed number) r = (number ≡ r.number) × (r.is_held ≡ false)

  -- a write that was made of this record; if it is the last one, the record is held with its weight
  pub record IsWriteOf (u : Upsert) (r : Record K V) : Type 0 where
    pub earlier : u.write ≤ r.writes
    pub last : u.write ≡ r.writes → (r.is_held ≡ true) × (u.weight ≡ r.entry.weight)

  abbrev pub Fits : Write → Record K V → Type 0
  Fits (Put u) r = u.number ≡ r.number → IsWriteOf u r
  Fits (Removed number) r = number ≡ r.number → r.is_held ≡ false

  -- a settled record counts with its weight; of any other record the last write is pending
  pub record IsAccounted (unsent : List Unsent) (writes : List Write) (r : Record K V) : Type 0
    where
      pub applied : r.applied ≤ r.writes
      pub counts : r.applied ≡ r.writes → (r.is_held ≡ true) × (r.counts ≡ Some r.entry.weight)
      pub waits : (r.applied ≡ r.writes → ⊥) → (w : Write) × IsPending unsent writes w × IsLastOf w r
      pub fits : (w : Write) → IsPending unsent writes w → Fits w r

  -- the records and the access list, together with what is pending
  pub record AreSound (unsent : List Unsent) (writes : List Write) (next : ℕ)
      (records : List (Record K V)) (access : List ℕ) : Type 0 where
    pub numbered : AreNumbered records
    pub below : Each (λ r. r.number < next) records
    pub accounted : Each (IsAccounted unsent writes) records
    pub listed : Each (λ r. is_some r.counts ≡ true → IsIn r.number access) records
    pub once : AreOnce access

pub record IsSound {K V P S R : Type 0} (s : State K V P S R) : Type 0 where
  pub records : AreSound s.unsent s.writes s.next_number s.records s.access
  pub named : (w : Write) → IsPending s.unsent s.writes w → number_of w < s.next_number
