-- Why a removal for weight is right: at a write that was pending, everything that was held weighed more than the capacity.
use Rattle.std.specs.Prelude.{◌≡◌, ◌≢◌, ◌<◌, ◌≤◌, ◌==◌, ℕ, Bool, true, false, if◌then◌else◌, List, [], ◌∷◌, ◌++◌, map, Option, Some}
use Rattle.engine_reference.specs.declared.rules.causes.RemovalCause.TheVariants as cause
use Rattle.engine_reference.specs.declared.data.Entry.{Entry}
use Rattle.engine_reference.specs.declared.data.Record.{Record}
use Rattle.engine_reference.specs.declared.data.Registered.{Registered}
use Rattle.engine_reference.specs.declared.data.Unsent.{Unsent}
use Rattle.engine_reference.specs.declared.data.Upsert.{Upsert}
use Rattle.engine_reference.specs.declared.data.Write.{Write}
use Rattle.engine_reference.specs.declared.data.Write.TheVariants.{Put, Removed}
use Rattle.engine_reference.specs.Admission.{is_above}
use Rattle.engine_reference.specs.Calls.{written, sent, removed_by, removal_told, LooksUp, cleared_by, with_predicate, with_room, without_room, without_notice}
use Rattle.engine_reference.specs.Records.{record_at, without_record, changed_at, admitted_weight}
use Rattle.engine_reference.specs.Runs.{Runs, RunsToEnd}
use Rattle.engine_reference.specs.Soundness.{Each, IsSound, number_of}
use Rattle.engine_reference.specs.State.{State, Answers}
use Rattle.engine_reference.specs.Telling.{Removal, Tells}

-- ---- what is pending, in the order in which it was made

-- the writes of a record rise from the last one that was applied
abbrev pub AreRising : (number applied : ℕ) → List Write → Type 0
AreRising number applied [] = Unit {0}
AreRising number applied (Put u ∷ ws) =
    (u.number ≡ number → applied < u.write)
    × AreRising number (if u.number == number then u.write else applied) ws
AreRising number applied (Removed n ∷ ws) = AreRising number applied ws

-- no write or removal of this record
abbrev pub NoneOf : ℕ → List Write → Type 0
NoneOf number [] = Unit {0}
NoneOf number (w ∷ ws) = (number_of w ≢ number) × NoneOf number ws

-- a weight is at most the one that is kept with the write
abbrev pub IsKeptBy : Write → ℕ → Type 0
IsKeptBy (Put u) weight = weight ≤ u.kept
IsKeptBy (Removed number) weight = Unit {0}

module _ {K V : Type 0} where
  -- the records after a write, if nothing were refused and nothing evicted for it
  abbrev pub with_write : Write → List (Record K V) → List (Record K V)
  with_write (Put u) rs = changed_at u.number (λ r. record r {
    applied = u.write;
    counts = Some u.weight;
  }) rs
  with_write (Removed number) rs = without_record number rs

  -- whichever of the writes was applied last, what counts then is at most what was held when it was made
  abbrev pub AreKept : List Write → List (Record K V) → Type 0
  AreKept [] rs = Unit {0}
  AreKept (w ∷ ws) rs =
      IsKeptBy w (admitted_weight (with_write w rs)) × AreKept ws (with_write w rs)

module _ {K V P S R : Type 0} where
  -- what waits to be applied, if tickets are sent in the order in which they were made
  abbrev pub pending_of : State K V P S R → List Write
  pending_of s = s.writes ++ map (λ u. u.write) s.unsent

  -- a sound state whose tickets were sent in the order in which they were made, with the weight that counts within the capacity
  pub record IsInOrder (s : State K V P S R) : Type 0 where
    pub sound : IsSound s
    pub rising : Each (λ r. AreRising r.number r.applied (pending_of s)) s.records
    pub kept : AreKept (pending_of s) s.records
    pub within : is_above s.settings.capacity (admitted_weight s.records) ≡ false

-- ---- the point of a removal

-- one of the writes in the queue has a kept weight above the capacity, and no write that was made after it, whether sent or not, is of this
-- record
pub record HasPoint (capacity : Option ℕ) (queue unsent : List Write) (number : ℕ) : Type 0 where
  pub before : List Write
  pub peak : Upsert
  pub after : List Write
  pub stands : queue ≡ before ++ Put peak ∷ after
  pub above : is_above capacity peak.kept ≡ true
  pub last : NoneOf number (after ++ unsent)

module _ {K V : Type 0} where
  -- about what is removed for weight
  abbrev pub EachForSize : (Entry K V → Type 0) → List (Removal K V) → Type 0
  EachForSize Q [] = Unit {0}
  EachForSize Q (gone ∷ removals) =
      (gone.cause ≡ cause.Size → Q gone.entry) × EachForSize Q removals

module _ {K V P S R : Type 0} where
  -- the entry was held as the run began, and its point is a write that was in the queue then, made not before the entry's last one
  pub record IsPointed (old : State K V P S R) (e : Entry K V) : Type 0 where
    pub owner : Record K V
    pub there : record_at old.records owner.number ≡ Some owner
    pub held : owner.is_held ≡ true
    pub entry : owner.entry ≡ e
    pub point : HasPoint old.settings.capacity old.writes (map (λ u. u.write) old.unsent)
        owner.number

  pub record RunPoints (old new : State K V P S R) : Type 0 where
    pub removals : List (Removal K V)
    pub tells : Tells old removals new
    pub points : EachForSize (IsPointed old) removals

module _ (K V P S R : Type 0) where
  -- each removal for weight has a capacity and a point
  abbrev pub SizeHasPoint : Type 0
  SizeHasPoint =
      (answers : Answers K V P R) (now : ℕ) (old new : State K V P S R) → IsInOrder old
      → Runs answers now old new → RunPoints old new

  -- an empty cache is in order, calls keep it so if the oldest ticket is sent first, and so does an uncut run that began with all tickets
  -- sent
  pub record CallsStayInOrder : Type 0 where
    pub empty : (s : State K V P S R) → s.records ≡ [] → s.access ≡ [] → s.unsent ≡ []
        → s.writes ≡ [] → IsInOrder s
    pub written : (eq : K → K → Bool) (answers : Answers K V P R) (s : State K V P S R)
        (key : K) (hash : ℕ) (value : V) (now step : ℕ) → IsInOrder s
        → IsInOrder (written answers eq s key hash value now step)
    pub sent : (oldest : Unsent) (rest : List Unsent) (s : State K V P S R)
        → s.unsent ≡ oldest ∷ rest → IsInOrder s → IsInOrder (sent oldest.ticket s)
    pub removed : (eq : K → K → Bool) (key : K) (s : State K V P S R) → IsInOrder s
        → IsInOrder (removed_by eq key s)
    pub removal_told : (answers : Answers K V P R) (e : Entry K V) (now : ℕ) (s : State K V P S R)
        → IsInOrder s → IsInOrder (removal_told answers e now s)
    pub looks_up : (answers : Answers K V P R) (eq : K → K → Bool) (key : K) (hash now : ℕ)
        (old new : State K V P S R) (look : LooksUp answers eq key hash now old new)
        → IsInOrder look.mid → IsInOrder new
    pub cleared : (step : ℕ) (s : State K V P S R) → IsInOrder s → IsInOrder (cleared_by step s)
    pub covered : (p : Registered P) (s : State K V P S R) → IsInOrder s
        → IsInOrder (with_predicate p s)
    pub room : (s : State K V P S R) → IsInOrder s → IsInOrder (with_room s)
    pub released : (s : State K V P S R) → IsInOrder s → IsInOrder (without_room s)
    pub taken : (s : State K V P S R) → IsInOrder s → IsInOrder (without_notice s)

  abbrev pub RunsStayInOrder : Type 0
  RunsStayInOrder =
      (answers : Answers K V P R) (now : ℕ) (old new : State K V P S R) → IsSound old
      → old.unsent ≡ []
      → (old.settings.capacity ≡ Some 0 → old.records ≡ []) → RunsToEnd answers now old new
      → IsInOrder new
