-- What a stretch of maintenance reports, and what it leaves.
use Rattle.std.specs.Prelude.{◌≡◌, ◌≢◌, ◌⊎◌, ℕ, Bool, if◌then◌else◌, List, [], ◌∷◌, ◌++◌, map, Option, Some, None, slice_get, remove}
use Rattle.engine_reference.specs.declared.rules.causes.RemovalCause.{RemovalCause}
use Rattle.engine_reference.specs.declared.data.Entry.{Entry}
use Rattle.engine_reference.specs.declared.data.Notice.{Notice}
use Rattle.engine_reference.specs.Records.{held_entries}
use Rattle.engine_reference.specs.State.{State, Answers}
use Rattle.engine_reference.specs.Visible.{notice_of, visible, is_covered}

-- an entry that was removed, and why
pub record Removal (K V : Type 0) : Type 0 where
  pub cause : RemovalCause
  pub entry : Entry K V

module _ {K V : Type 0} where
  abbrev pub notice_of_removal : Removal K V → Notice K V
  notice_of_removal gone = notice_of gone.cause gone.entry

  -- what is reported of removals, if removals are reported
  abbrev pub notices_of : Bool → List (Removal K V) → List (Notice K V)
  notices_of tells removals = if tells then map notice_of_removal removals else []

  abbrev pub removed_entries : List (Removal K V) → List (Entry K V)
  removed_entries removals = map (λ gone. gone.entry) removals

  -- no removal has this cause
  abbrev pub NoneWith : RemovalCause → List (Removal K V) → Type 0
  NoneWith why [] = Unit {0}
  NoneWith why (gone ∷ removals) = (gone.cause ≢ why) × NoneWith why removals

  -- entries are removed, one after another, and the others stay in their order
  abbrev pub TakesAway : List (Entry K V) → List (Entry K V) → List (Entry K V) → Type 0
  TakesAway [] old new = new ≡ old
  TakesAway (e ∷ gone) old new =
      (place : ℕ) × (slice_get old place ≡ Some e) × TakesAway gone (remove old place) new

  -- the entry of a key
  abbrev pub entry_of : (K → K → Bool) → List (Entry K V) → K → Option (Entry K V)
  entry_of eq [] key = None
  entry_of eq (e ∷ es) key = if eq key e.key then Some e else entry_of eq es key

  -- no two entries have keys that compare equal
  abbrev pub AreApart : (K → K → Bool) → List (Entry K V) → Type 0
  AreApart eq [] = Unit {0}
  AreApart eq (e ∷ es) = (entry_of eq es e.key ≡ None) × AreApart eq es

  -- a removal is one of these
  abbrev pub IsAmong : Removal K V → List (Removal K V) → Type 0
  IsAmong gone [] = ⊥
  IsAmong gone (x ∷ xs) = (x ≡ gone) ⊎ IsAmong gone xs

module _ {K V P S R : Type 0} where
  -- each entry that was removed is reported once, in order, if removals are reported, and nothing else is; the other entries stay as they
  -- are
  pub record Tells (old : State K V P S R) (removals : List (Removal K V)) (new : State K V P S R) :
      Type 0 where
    pub notices : new.notices ≡ old.notices ++ notices_of old.settings.tells removals
    pub entries : TakesAway (removed_entries removals) (held_entries old.records)
        (held_entries new.records)

  -- what decides about visibility apart from the entries
  pub record Keeps (old new : State K V P S R) : Type 0 where
    pub settings : new.settings ≡ old.settings
    pub cleared : new.cleared ≡ old.cleared
    pub rules : new.rules ≡ old.rules
    pub unsent : new.unsent ≡ old.unsent
    pub predicates : new.predicates ≡ old.predicates

  -- predicates may be dropped, but only those that cover nothing that is held
  pub record KeepsCover (answers : Answers K V P R) (old new : State K V P S R) : Type 0 where
    pub settings : new.settings ≡ old.settings
    pub cleared : new.cleared ≡ old.cleared
    pub rules : new.rules ≡ old.rules
    pub unsent : new.unsent ≡ old.unsent
    pub covered : (place : ℕ) (e : Entry K V) → slice_get (held_entries new.records) place ≡ Some e
        → is_covered answers new e ≡ is_covered answers old e

  -- a look-up returns what it did before, or finds nothing because what it found was removed
  abbrev pub StaysVisible : (K → K → Bool) → Answers K V P R → List (Removal K V) → State K V P S R
      → State K V P S R → ℕ → K → Type 0
  StaysVisible eq answers removals old new moment key =
      (visible answers eq new moment key ≡ visible answers eq old moment key)
      ⊎ ((visible answers eq new moment key ≡ None) × ((gone : Removal K V) × IsAmong gone removals
      × (visible answers eq old moment key ≡ Some gone.entry)))
