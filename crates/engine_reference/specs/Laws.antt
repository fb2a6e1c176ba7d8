-- Laws of the reference cache.
use Rattle.std.specs.Prelude.{◌-◌, ◌<◌, ◌≤◌, [], length, min, slice_get, ◌≡◌, ◌⊎◌, Bool, ℕ, List, ◌∷◌, Option, Some, None, true, false}
use Rattle.policy_base.specs.Counts.{incremented}
use Rattle.engine_reference.specs.declared.rules.causes.RemovalCause.{RemovalCause}
use Rattle.engine_reference.specs.declared.rules.causes.RemovalCause.TheVariants as cause
use Rattle.engine_reference.specs.declared.data.Entry.{Entry}
use Rattle.engine_reference.specs.declared.data.Record.{Record}
use Rattle.engine_reference.specs.declared.data.Registered.{Registered}
use Rattle.engine_reference.specs.declared.data.Settings.{Settings}
use Rattle.engine_reference.specs.declared.data.Unsent.{Unsent}
use Rattle.engine_reference.specs.declared.data.Upsert.{Upsert}
use Rattle.engine_reference.specs.declared.data.Read.{Read}
use Rattle.engine_reference.specs.declared.data.Read.TheVariants.{Hit, Miss}
use Rattle.engine_reference.specs.declared.data.Write.{Write}
use Rattle.engine_reference.specs.declared.data.Write.TheVariants.{Put}
use Rattle.engine_reference.specs.Calls.{written, sent, removed_by, with_removal_room, with_reserved_removal, removal_told, LooksUp, cleared_by, with_predicate, with_room, without_room, registered, without_notice}
use Rattle.engine_reference.specs.Visible.{visible}
use Rattle.engine_reference.specs.Admission.{is_above, shortest_front}
use Rattle.std.specs.Cmp.{IsEquivalence}
use Rattle.engine_reference.specs.Records.{held_at, admitted_weight, settled_in, held_entries, held_weight, record_at, is_settled}
use Rattle.engine_reference.specs.Soundness.{IsSound}
use Rattle.engine_reference.specs.Runs.{covers_none, RunsToEnd, Step, Runs, running_weight, after_write, left, next_to_evict, is_overtaken}
use Rattle.engine_reference.specs.State.{State, Answers}
use Rattle.engine_reference.specs.Telling.{AreApart, StaysVisible, Removal, Tells, KeepsCover, NoneWith}

-- the hash of a read
abbrev pub hash_of : Read → ℕ
hash_of (Hit number hash) = hash
hash_of (Miss hash) = hash

-- the part of a state that only calls change
pub record Rest (S R : Type 0) : Type 0 where
  pub unsent : List Unsent
  pub cleared : ℕ
  pub next_number : ℕ
  pub next_ticket : ℕ
  pub reserved : ℕ
  pub name : Option (List ℕ)
  pub settings : Settings
  pub hasher : S
  pub rules : R

abbrev pub rest_of : {K V P S R : Type 0} → State K V P S R → Rest S R
rest_of s = record {
  unsent = s.unsent;
  cleared = s.cleared;
  next_number = s.next_number;
  next_ticket = s.next_ticket;
  reserved = s.reserved;
  name = s.name;
  settings = s.settings;
  hasher = s.hasher;
  rules = s.rules;
}

module _ (K V P S R : Type 0) where
  -- a step reports what it removes once; it removes for weight only if a capacity is set and a running weight is above it
  pub record StepTells (answers : Answers K V P R) (old new : State K V P S R) : Type 0 where
    pub removals : List (Removal K V)
    pub tells : Tells old removals new
    pub keeps : KeepsCover answers old new
    pub for_size : NoneWith cause.Size removals
        ⊎ (is_above old.settings.capacity (running_weight old) ≡ true)

  abbrev pub StepsTell : Type 0
  StepsTell =
      (answers : Answers K V P R) (now : ℕ) (old new : State K V P S R) → Step answers now old new
      → StepTells answers old new

  -- the same for a run, or a part of it
  pub record StretchTells (answers : Answers K V P R) (old new : State K V P S R) : Type 0 where
    pub removals : List (Removal K V)
    pub tells : Tells old removals new
    pub keeps : KeepsCover answers old new

  abbrev pub RunsTell : Type 0
  RunsTell =
      (answers : Answers K V P R) (now : ℕ) (old new : State K V P S R) → Runs answers now old new
      → StretchTells answers old new

  pub record TakesNoneForSize (old new : State K V P S R) : Type 0 where
    pub removals : List (Removal K V)
    pub tells : Tells old removals new
    pub none : NoneWith cause.Size removals

  -- without a capacity nothing is reported as `Size`
  abbrev pub NothingTakenForSize : Type 0
  NothingTakenForSize =
      (answers : Answers K V P R) (now : ℕ) (old new : State K V P S R)
      → old.settings.capacity ≡ None → Runs answers now old new → TakesNoneForSize old new

  -- what was visible and was not removed stays visible, and nothing else becomes visible
  pub record RunKeepsVisible (eq : K → K → Bool) (answers : Answers K V P R)
      (old new : State K V P S R) : Type 0 where
    pub removals : List (Removal K V)
    pub tells : Tells old removals new
    pub apart : AreApart eq (held_entries new.records)
    pub stays : (moment : ℕ) (key : K) → StaysVisible eq answers removals old new moment key

  abbrev pub RunsKeepVisible : Type 0
  RunsKeepVisible =
      (eq : K → K → Bool) → IsEquivalence eq
      → (answers : Answers K V P R) (now : ℕ) (old new : State K V P S R)
      → AreApart eq (held_entries old.records) → Runs answers now old new
      → RunKeepsVisible eq answers old new

  -- ---- what the sketch counts

  -- a step changes the counts only if it counts a read or makes the table
  pub data SketchStep (old new : State K V P S R) : Type 0 where
    kept : new.sketch ≡ old.sketch → SketchStep old new
    counted : (r : Read) (rest : List Read) → old.reads ≡ r ∷ rest
        → new.sketch ≡ incremented old.sketch (hash_of r) → SketchStep old new
    made : old.sketch.words ≡ 0 → SketchStep old new

  -- no write, removal, clear or predicate changes them
  pub record CountsAreKept : Type 0 where
    pub steps : (answers : Answers K V P R) (now : ℕ) (old new : State K V P S R)
        → Step answers now old new → SketchStep old new
    pub written : (w : Write) (s : State K V P S R) → (after_write w s).sketch ≡ s.sketch
    pub left : (why : RemovalCause) (number : ℕ) (s : State K V P S R)
        → (left why number s).sketch ≡ s.sketch
    pub removed : (eq : K → K → Bool) (key : K) (s : State K V P S R)
        → (removed_by eq key s).sketch ≡ s.sketch
    pub cleared : (step : ℕ) (s : State K V P S R) → (cleared_by step s).sketch ≡ s.sketch
    pub covered : (p : Registered P) (s : State K V P S R) → (with_predicate p s).sketch ≡ s.sketch
    pub sent : (ticket : ℕ) (s : State K V P S R) → (sent ticket s).sketch ≡ s.sketch

  -- ---- what maintenance does not change

  abbrev pub RunsKeepRest : Type 0
  RunsKeepRest =
      (answers : Answers K V P R) (now : ℕ) (old new : State K V P S R) → Runs answers now old new
      → rest_of new ≡ rest_of old

  -- ---- the name of the cache

  -- no call and no run changes it
  pub record NameIsKept : Type 0 where
    pub runs : (answers : Answers K V P R) (now : ℕ) (old new : State K V P S R)
        → Runs answers now old new → new.name ≡ old.name
    pub written : (eq : K → K → Bool) (answers : Answers K V P R)
        (s : State K V P S R) (key : K) (hash : ℕ) (value : V) (now step : ℕ)
        → (written answers eq s key hash value now step).name ≡ s.name
    pub sent : (ticket : ℕ) (s : State K V P S R) → (sent ticket s).name ≡ s.name
    pub removed : (eq : K → K → Bool) (key : K) (s : State K V P S R)
        → (removed_by eq key s).name ≡ s.name
    pub removal_told : (answers : Answers K V P R) (e : Entry K V) (now : ℕ) (s : State K V P S R)
        → (removal_told answers e now s).name ≡ s.name
    pub looks_up : (answers : Answers K V P R) (eq : K → K → Bool) (key : K) (hash now : ℕ)
        (old new : State K V P S R) → LooksUp answers eq key hash now old new → new.name ≡ old.name
    pub cleared : (step : ℕ) (s : State K V P S R) → (cleared_by step s).name ≡ s.name
    pub covered : (p : Registered P) (s : State K V P S R) → (with_predicate p s).name ≡ s.name
    pub room : (s : State K V P S R) → (with_room s).name ≡ s.name
    pub released : (s : State K V P S R) → (without_room s).name ≡ s.name
    pub taken : (s : State K V P S R) → (without_notice s).name ≡ s.name

  -- ---- calls in two halves

  -- the two halves of a predicate and of a removal equal the whole, and room that is given up is as if it had never been made
  pub record HalvesAreWhole : Type 0 where
    pub predicate : (p : Registered P) (s : State K V P S R)
        → registered p (with_room s) ≡ with_predicate p s
    pub removal : (eq : K → K → Bool) (key : K) (s : State K V P S R) → with_reserved_removal
        (held_at eq s.records key) (with_removal_room (held_at eq s.records key) s)
        ≡ removed_by eq key s
    pub room : (s : State K V P S R) → without_room (with_room s) ≡ s

  -- ---- look-ups and the order of sending

  -- sending a ticket changes no look-up, whichever ticket it is
  abbrev pub SendingKeepsVisible : Type 0
  SendingKeepsVisible =
      (eq : K → K → Bool) (answers : Answers K V P R) (ticket : ℕ) (s : State K V P S R)
      (moment : ℕ) (key : K)
      → visible answers eq (sent ticket s) moment key ≡ visible answers eq s moment key

  -- a clear and a predicate make nothing visible that was not
  pub record CoverShowsNothing : Type 0 where
    pub cleared : (eq : K → K → Bool) (answers : Answers K V P R) (step : ℕ) (s : State K V P S R)
        (moment : ℕ) (key : K)
        → (visible answers eq (cleared_by step s) moment key ≡ visible answers eq s moment key)
        ⊎ (visible answers eq (cleared_by step s) moment key ≡ None)
    pub covered : (eq : K → K → Bool) (answers : Answers K V P R) (p : Registered P)
        (s : State K V P S R) (moment : ℕ) (key : K)
        → (visible answers eq (with_predicate p s) moment key ≡ visible answers eq s moment key)
        ⊎ (visible answers eq (with_predicate p s) moment key ≡ None)

  -- ---- records with an unapplied write

  -- the record with this number is there, and holds what it held
  pub record IsStill (number : ℕ) (r : Record K V) (s : State K V P S R) : Type 0 where
    pub current : Record K V
    pub there : record_at s.records number ≡ Some current
    pub entry : current.entry ≡ r.entry
    pub held : current.is_held ≡ r.is_held

  -- neither writes of other records, nor an older write of its own, nor the excess removes a record that has an unapplied write
  pub record UnappliedStay : Type 0 where
    pub writes : (s : State K V P S R) (u : Upsert) (number : ℕ) (r : Record K V)
        → record_at s.records number ≡ Some r → is_settled r ≡ false
        → (u.number ≡ number → is_overtaken u r ≡ true)
        → IsStill number r (after_write (Put u) s)
    pub excess : (s : State K V P S R) (victim : Record K V) (number : ℕ) (r : Record K V)
        → record_at s.records number ≡ Some r → is_settled r ≡ false → next_to_evict s ≡ Some victim
        → IsStill number r (left cause.Size victim.number s)

  -- ---- counts

  -- a run keeps a sound state sound
  abbrev pub RunsStaySound : Type 0
  RunsStaySound =
      (answers : Answers K V P R) (now : ℕ) (old new : State K V P S R) → IsSound old
      → Runs answers now old new → IsSound new

  -- the counts are those of what is held, which is within the capacity, and no predicate covers any of it
  pub record CountsExactly (answers : Answers K V P R) (s : State K V P S R) : Type 0 where
    pub number : s.number ≡ length (held_entries s.records)
    pub weight : s.weight ≡ min (held_weight s.records) 18446744073709551615
    pub within : (capacity : ℕ) → s.settings.capacity ≡ Some capacity → 0 < capacity
        → held_weight s.records ≤ capacity
    pub uncovered : (place : ℕ) (p : Registered P) → slice_get s.predicates place ≡ Some p
        → covers_none answers s.rules p s.records ≡ true

  -- after an uncut run that began with all tickets sent
  abbrev pub CountsAreExact : Type 0
  CountsAreExact =
      (answers : Answers K V P R) (now : ℕ) (old new : State K V P S R) → IsSound old
      → old.unsent ≡ [] → RunsToEnd answers now old new → CountsExactly answers new

  -- an empty cache is sound, and each call keeps it so
  pub record CallsStaySound : Type 0 where
    pub empty : (s : State K V P S R) → s.records ≡ [] → s.access ≡ [] → s.unsent ≡ []
        → s.writes ≡ [] → IsSound s
    pub written : (eq : K → K → Bool) (answers : Answers K V P R) (s : State K V P S R)
        (key : K) (hash : ℕ) (value : V) (now step : ℕ) → IsSound s
        → IsSound (written answers eq s key hash value now step)
    pub sent : (ticket : ℕ) (s : State K V P S R) → IsSound s → IsSound (sent ticket s)
    pub removed : (eq : K → K → Bool) (key : K) (s : State K V P S R) → IsSound s
        → IsSound (removed_by eq key s)
    pub removal_told : (answers : Answers K V P R) (e : Entry K V) (now : ℕ) (s : State K V P S R)
        → IsSound s → IsSound (removal_told answers e now s)
    pub looks_up : (answers : Answers K V P R) (eq : K → K → Bool) (key : K) (hash now : ℕ)
        (old new : State K V P S R) → IsSound old → LooksUp answers eq key hash now old new
        → IsSound new
    pub cleared : (step : ℕ) (s : State K V P S R) → IsSound s → IsSound (cleared_by step s)
    pub covered : (p : Registered P) (s : State K V P S R) → IsSound s
        → IsSound (with_predicate p s)
    pub room : (s : State K V P S R) → IsSound s → IsSound (with_room s)
    pub released : (s : State K V P S R) → IsSound s → IsSound (without_room s)
    pub taken : (s : State K V P S R) → IsSound s → IsSound (without_notice s)

  -- ---- evictions

  -- the least recently used settled record is evicted, again and again, each time because the weight is above the capacity
  abbrev pub Evictions : State K V P S R → List (Record K V) → State K V P S R → Type 0
  Evictions s [] t = t ≡ s
  Evictions s (r ∷ rs) t =
      (is_above s.settings.capacity (admitted_weight s.records) ≡ true) × (next_to_evict s ≡ Some r)
      × Evictions (left cause.Size r.number s) rs t

  -- what is evicted until the weight is within the capacity is the shortest front of the settled records of the access list that reaches
  -- the excess
  abbrev pub EvictsShortestFront : Type 0
  EvictsShortestFront =
      (s t : State K V P S R) (victims : List (Record K V)) (capacity : ℕ) → IsSound s
      → s.settings.capacity ≡ Some capacity
      → Evictions s victims t → admitted_weight t.records ≤ capacity
      → shortest_front (admitted_weight s.records - capacity) (settled_in s.records s.access)
      ≡ Some victims
