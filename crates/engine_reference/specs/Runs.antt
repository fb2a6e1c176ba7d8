-- What maintenance does: one run is a chain of steps, each of them just.
use Rattle.std.specs.Prelude.{◌≡◌, ℕ, ◌+◌, ◌<◌, ◌^◌, ◌==◌, nat_lt, nat_le, min, Bool, true, false, not, ◌&&◌, ◌||◌, if◌then◌else◌, List, [], ◌∷◌, Option, Some, None, is_some, remove, slice_get, length}
use Rattle.std.specs.Int.{IsNextPowerOfTwo}
use Rattle.policy_base.specs.Counts.{incremented, fresh}
use Rattle.engine_reference.specs.declared.rules.causes.RemovalCause.{RemovalCause}
use Rattle.engine_reference.specs.declared.rules.causes.RemovalCause.TheVariants as cause
use Rattle.engine_reference.specs.declared.data.Record.{Record}
use Rattle.engine_reference.specs.declared.data.Registered.{Registered}
use Rattle.engine_reference.specs.declared.data.Upsert.{Upsert}
use Rattle.engine_reference.specs.declared.data.Read.{Read}
use Rattle.engine_reference.specs.declared.data.Read.TheVariants.{Hit, Miss}
use Rattle.engine_reference.specs.declared.data.Write.{Write}
use Rattle.engine_reference.specs.declared.data.Write.TheVariants.{Put, Removed}
use Rattle.engine_reference.specs.Records.{record_at, without_record, changed_at, without, moved_to_back, admitted_weight, admitted_number, settled_in, admitted_in}
use Rattle.engine_reference.specs.State.{State, Answers}
use Rattle.engine_reference.specs.Times.{has_come, is_reached, end_of, tick_of}
use Rattle.engine_reference.specs.Visible.{is_covered, is_covered_by, told}
use Rattle.engine_reference.specs.Admission.{Verdict, admit, displace, refuse, verdict, is_above, wants_table, sketch_room}

-- the weight of the oldest write, 0 where there is none
abbrev pub oldest_weight : List Write → ℕ
oldest_weight [] = 0
oldest_weight (Put u ∷ ws) = u.weight
oldest_weight (Removed number ∷ ws) = 0

module _ {K V : Type 0} where
  -- the record was written or removed after this write
  abbrev pub is_overtaken : Upsert → Record K V → Bool
  is_overtaken u r = not r.is_held || nat_lt u.write r.writes

  abbrev pub first_of : List (Record K V) → Option (Record K V)
  first_of [] = None
  first_of (r ∷ rs) = Some r

module _ {K V P R : Type 0} (answers : Answers K V P R) where
  -- a predicate covers none of these records that is held
  abbrev pub covers_none : R → Registered P → List (Record K V) → Bool
  covers_none rules p [] = true
  covers_none rules p (r ∷ rs) =
      not (r.is_held && is_covered_by answers rules p r.entry) && covers_none rules p rs

module _ {K V P S R : Type 0} where
  -- a record leaves, with its place in the access list, and is told where it was held
  abbrev pub with_left : RemovalCause → State K V P S R → Option (Record K V) → State K V P S R
  with_left why s None = s
  with_left why s (Some r) = record s {
    records = without_record r.number s.records;
    access = without r.number s.access;
    order = without r.number s.order;
    notices = if r.is_held then told s.settings.tells why r.entry s.notices else s.notices;
  }

  abbrev pub left : RemovalCause → ℕ → State K V P S R → State K V P S R
  left why number s = with_left why s (record_at s.records number)

  -- records leave, one after another
  abbrev pub all_left : RemovalCause → List (Record K V) → State K V P S R → State K V P S R
  all_left why [] s = s
  all_left why (r ∷ rs) s = all_left why rs (left why r.number s)

  -- ---- a read

  abbrev pub after_hit : Option (Record K V) → State K V P S R → State K V P S R
  after_hit None s = s
  after_hit (Some r) s = if is_some r.counts then record s {
    access = moved_to_back r.number s.access;
  } else s

  -- each look-up counts for its hash, and one that found an admitted record moves it to the back of the access list
  abbrev pub after_read : Read → State K V P S R → State K V P S R
  after_read (Hit number hash) s = after_hit (record_at s.records number) (record s {
    sketch = incremented s.sketch hash;
  })
  after_read (Miss hash) s = record s { sketch = incremented s.sketch hash }

  -- ---- a write

  -- the record counts with the write's weight, at the back of the access list
  abbrev pub counting : Upsert → State K V P S R → State K V P S R
  counting u s = record s {
    records = changed_at u.number (λ r. record r {
      applied = u.write;
      counts = Some u.weight;
    }) s.records;
    access = moved_to_back u.number s.access;
    order = moved_to_back u.number s.order;
  }

  -- it stays as it is, not admitted: a later write of it is judged as of a new record
  abbrev pub put_off : Upsert → State K V P S R → State K V P S R
  put_off u s = record s {
    records = changed_at u.number (λ r. record r { applied = u.write }) s.records;
  }

  abbrev pub judged : Upsert → Record K V → State K V P S R → Verdict K V → State K V P S R
  judged u r s admit = counting u s
  judged u r s (displace victims) = counting u (all_left cause.Size victims s)
  judged u r s refuse = if is_overtaken u r then put_off u s else left cause.Size u.number s

  -- a write of a record that is no longer there, or not later than what was applied, changes nothing
  abbrev pub after_put : Upsert → Option (Record K V) → State K V P S R → State K V P S R
  after_put u None s = s
  after_put u (Some r) s =
      if nat_lt r.applied u.write
      then (if is_some r.counts then counting u s else judged u r s (verdict s u)) else s

  -- the record of a removed key goes; it was told when the key was removed
  abbrev pub after_removal : Option (Record K V) → State K V P S R → State K V P S R
  after_removal None s = s
  after_removal (Some r) s = if r.is_held then s else record s {
    records = without_record r.number s.records;
    access = without r.number s.access;
    order = without r.number s.order;
  }

  abbrev pub after_write : Write → State K V P S R → State K V P S R
  after_write (Put u) s = after_put u (record_at s.records u.number) s
  after_write (Removed number) s = after_removal (record_at s.records number) s

  -- ---- all that is pending

  -- all reads are counted, the oldest first
  abbrev pub all_counted : List Read → State K V P S R → State K V P S R
  all_counted [] s = s
  all_counted (r ∷ rest) s = all_counted rest (after_read r (record s { reads = rest }))

  -- all writes are applied, the oldest first
  abbrev pub all_written : List Write → State K V P S R → State K V P S R
  all_written [] s = s
  all_written (w ∷ rest) s = all_written rest (after_write w (record s { writes = rest }))

  abbrev pub written_through : State K V P S R → State K V P S R
  written_through s = all_written s.writes s

  -- the reads, and then the writes
  abbrev pub all_applied : State K V P S R → State K V P S R
  all_applied s = written_through (all_counted s.reads s)

  -- ---- what runs go through

  -- the weight of the writes applied in order, with the oldest that is not applied yet
  abbrev pub running_weight : State K V P S R → ℕ
  running_weight s = admitted_weight s.records + oldest_weight s.writes

  -- nothing pending is left to apply
  pub record IsApplied (s : State K V P S R) : Type 0 where
    pub reads : s.reads ≡ []
    pub writes : s.writes ≡ []

  -- the settled record used longest ago
  abbrev pub next_to_evict : State K V P S R → Option (Record K V)
  next_to_evict s = first_of (settled_in s.records s.access)

  -- ---- what a run sees at the fronts of its lists

  -- the first of the write list, where it is held, is neither past its live time nor of a step before the clear
  pub record IsWrittenClean (now : ℕ) (s : State K V P S R) : Type 0 where
    pub live : (r : Record K V) → first_of (admitted_in s.records s.order) ≡ Some r
        → r.is_held ≡ true → is_reached (end_of r.entry.written s.settings.live) now ≡ false
    pub clear : (r : Record K V) → first_of (admitted_in s.records s.order) ≡ Some r
        → r.is_held ≡ true → nat_lt r.entry.step s.cleared ≡ false

  -- the first of the access list, where it is held, is not past its idle time
  abbrev pub IsUsedClean : ℕ → State K V P S R → Type 0
  IsUsedClean now s =
      (r : Record K V) → first_of (admitted_in s.records s.access) ≡ Some r → r.is_held ≡ true
      → is_reached (end_of r.entry.used s.settings.idle) now ≡ false

  -- own expirations are looked at once a tick: in a later one than the last run's
  abbrev pub is_later_tick : State K V P S R → ℕ → Bool
  is_later_tick s now = nat_lt (tick_of s.settings s.ran) (tick_of s.settings now)

  -- in a later tick than the last run's no held record's own expiration was reached
  abbrev pub IsTimerClean : ℕ → State K V P S R → Type 0
  IsTimerClean now s =
      is_later_tick s now ≡ true → (r : Record K V) → record_at s.records r.number ≡ Some r
      → r.is_held ≡ true → is_reached r.entry.expires now ≡ false

  -- nothing is left that a run finds and removes for its time, a clear or a predicate
  pub record FrontsAreClean (now : ℕ) (s : State K V P S R) : Type 0 where
    pub predicates : s.predicates ≡ []
    pub written : IsWrittenClean now s
    pub used : IsUsedClean now s
    pub timer : IsTimerClean now s

module _ {K V P S R : Type 0} (answers : Answers K V P R) where
  -- why a record may leave beside its weight: its deadline has come, or something covers it
  abbrev pub is_due_for : State K V P S R → ℕ → Record K V → RemovalCause → Bool
  is_due_for s now r cause.Expired = has_come s.settings now r.entry
  is_due_for s now r cause.Explicit = is_covered answers s r.entry
  is_due_for s now r cause.Replaced = false
  is_due_for s now r cause.Size = false

  -- one step of a run: first all reads, then all writes, then the rest
  pub data Step (now : ℕ) (old new : State K V P S R) : Type 0 where
    reads : (r : Read) (rest : List Read) → old.reads ≡ r ∷ rest → new ≡ after_read r (record old {
      reads = rest;
    }) → Step now old new
    writes : (w : Write) (rest : List Write) → old.reads ≡ [] → old.writes ≡ w ∷ rest → new ≡ after_write w (record old { writes = rest }) → Step now old new
    -- the table is made where half the capacity is held; without memory it is not
    grows : (words : ℕ) → IsApplied old
        → wants_table old.settings.capacity old.sketch (admitted_weight old.records) ≡ true
        → (capacity : ℕ) → old.settings.capacity ≡ Some capacity
        → IsNextPowerOfTwo
        (min (sketch_room capacity (admitted_number old.records) (admitted_weight old.records))
        (2 ^ 24)) words
        → new ≡ record old {
          sketch = fresh words (sketch_room capacity (admitted_number old.records) (admitted_weight old.records));
        } → Step now old new
    -- a held record leaves that is past its deadline or covered
    leaves : (r : Record K V) (why : RemovalCause) → IsApplied old
        → record_at old.records r.number ≡ Some r → r.is_held ≡ true
        → is_due_for old now r why ≡ true → new ≡ left why r.number old → Step now old new
    -- the weight is above the capacity though nothing else is left to remove, and the settled record used longest ago goes
    evicts : (r : Record K V) → IsApplied old → FrontsAreClean now old
        → is_above old.settings.capacity (admitted_weight old.records) ≡ true
        → next_to_evict old ≡ Some r → new ≡ left cause.Size r.number old → Step now old new
    -- a predicate that covers nothing goes
    ends : (place : ℕ) (p : Registered P) → IsApplied old → slice_get old.predicates place ≡ Some p
        → covers_none answers old.rules p old.records ≡ true
        → new ≡ record old { predicates = remove old.predicates place } → Step now old new

  -- steps one after another, by the states between them
  abbrev pub Steps : ℕ → State K V P S R → List (State K V P S R) → State K V P S R → Type 0
  Steps now old [] new = new ≡ old
  Steps now old (mid ∷ mids) new = Step now old mid × Steps now mid mids new

  -- a run, to its end or cut: all that is pending is applied, and the counts are taken
  pub record Runs (now : ℕ) (old new : State K V P S R) : Type 0 where
    pub stages : List (State K V P S R)
    pub last : State K V P S R
    pub steps : Steps now old stages last
    pub applied : IsApplied last
    -- whether there was no memory for the sketch's table
    pub refused : Bool
    pub after : new ≡ record last {
      number = admitted_number last.records;
      weight = min (admitted_weight last.records) 18446744073709551615;
      ran = now;
      table_refused = refused;
    }

-- ---- what a run to its end leaves

module _ {K V P S R : Type 0} where
  -- half the capacity is held, and the sketch has no table
  abbrev pub lacks_table : State K V P S R → Bool
  lacks_table s = wants_table s.settings.capacity s.sketch (admitted_weight s.records)

  -- no settled record too many, and no predicate
  pub record IsDone (s : State K V P S R) : Type 0 where
    pub within : (capacity : ℕ) → s.settings.capacity ≡ Some capacity → 0 < capacity
        → capacity < admitted_weight s.records → settled_in s.records s.access ≡ []
    pub ended : s.predicates ≡ []

  -- what a run does about times and clears: it looks at the fronts of the write list and of the access list, and at own expirations once a tick
  pub record IsSwept (now : ℕ) (old new : State K V P S R) : Type 0 where
    -- the first of the write list is neither past its live time nor covered by a clear
    pub live : (r : Record K V) → first_of (admitted_in new.records new.order) ≡ Some r
        → is_reached (end_of r.entry.written new.settings.live) now ≡ false
    pub clear : (r : Record K V) → first_of (admitted_in new.records new.order) ≡ Some r
        → nat_lt r.entry.step new.cleared ≡ false
    -- the first of the access list is not past its idle time
    pub idle : (r : Record K V) → first_of (admitted_in new.records new.access) ≡ Some r
        → is_reached (end_of r.entry.used new.settings.idle) now ≡ false
    -- in a later tick than the last run's, every own expiration that was reached was noticed
    pub own : nat_lt (tick_of old.settings old.ran) (tick_of old.settings now) ≡ true
        → (r : Record K V) → record_at new.records r.number ≡ Some r
        → is_reached r.entry.expires now ≡ false

module _ {K V P S R : Type 0} (answers : Answers K V P R) where
  -- an uncut run. Where all tickets were sent as it began it has looked at times and clears
  pub record RunsToEnd (now : ℕ) (old new : State K V P S R) : Type 0 where
    pub runs : Runs answers now old new
    pub done : IsDone new
    pub swept : old.unsent ≡ [] → IsSwept now old new
    -- the sketch's table was refused exactly if it was lacking right after the reads and writes, and is not there now
    pub table : new.table_refused ≡ (lacks_table (all_applied old) && (new.sketch.words == 0))

-- a run comes where 64 writes or 64 reads are pending, or 300 milliseconds after the last one
abbrev pub is_due : {K V P S R : Type 0} → State K V P S R → ℕ → Bool
is_due s now =
    nat_le 64 (length s.writes) || nat_le 64 (length s.reads)
    || is_reached (end_of s.ran (Some 300000000)) now
