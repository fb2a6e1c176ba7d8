-- What an uncut run leaves of times and clears.
use Rattle.std.specs.Prelude.{◌≡◌, ◌+◌, ◌<◌, ◌≤◌, ℕ, Bool, true, false, nat_lt, List, [], ◌∷◌, Option, Some, is_some}
use Rattle.engine_reference.specs.declared.data.Entry.{Entry}
use Rattle.engine_reference.specs.declared.data.Record.{Record}
use Rattle.engine_reference.specs.declared.data.Registered.{Registered}
use Rattle.engine_reference.specs.declared.data.Write.{Write}
use Rattle.engine_reference.specs.declared.data.Write.TheVariants.{Put, Removed}
use Rattle.engine_reference.specs.Calls.{written, sent, removed_by, removal_told, with_read, cleared_by, with_predicate, with_room, without_room, without_notice}
use Rattle.engine_reference.specs.Records.{record_at, moved_to_back}
use Rattle.engine_reference.specs.Runs.{Runs, RunsToEnd, IsSwept}
use Rattle.engine_reference.specs.Soundness.{AreOnce, Each, IsIn, IsSound}
use Rattle.engine_reference.specs.State.{State, Answers}
use Rattle.engine_reference.specs.Times.{end_of, is_reached, tick_of}
use Rattle.engine_reference.specs.RunLaws.Fronts.{NothingIsDue}
use Rattle.engine_reference.specs.RunLaws.Points.{AreRising}

-- ---- the write list: the numbers of records; the one whose write was applied longest ago is first. Records that are gone are passed over

-- the write list after these writes were applied
abbrev pub order_after : List Write → List ℕ → List ℕ
order_after [] ns = ns
order_after (Put u ∷ ws) ns = order_after ws (moved_to_back u.number ns)
order_after (Removed number ∷ ws) ns = order_after ws ns

module _ {K V : Type 0} where
  -- each record of the list is in this relation to each one after it
  abbrev pub InOrderBy : (Record K V → Record K V → Type 0) → List (Record K V) → List ℕ → Type 0
  InOrderBy Rel rs [] = Unit {0}
  InOrderBy Rel rs (n ∷ ns) =
      ((m : ℕ) (y x : Record K V) → IsIn m ns → record_at rs n ≡ Some y → record_at rs m ≡ Some x
      → Rel y x) × InOrderBy Rel rs ns

  -- written no later, by step and by moment
  abbrev pub IsWrittenBefore : Record K V → Record K V → Type 0
  IsWrittenBefore y x = (y.entry.step ≤ x.entry.step) × (y.entry.written ≤ x.entry.written)

  -- used less than 300 milliseconds later
  abbrev pub IsUsedBefore : Record K V → Record K V → Type 0
  IsUsedBefore y x = y.entry.used < x.entry.used + 300000000

module _ {K V P S R : Type 0} where
  -- ---- what is left

  pub record LeavesNoneDue (now : ℕ) (s : State K V P S R) : Type 0 where
    -- none is at or past its write plus the live time
    pub live : (r : Record K V) → record_at s.records r.number ≡ Some r
        → is_reached (end_of r.entry.written s.settings.live) now ≡ false
    -- none is covered by a clear
    pub clear : (r : Record K V) → record_at s.records r.number ≡ Some r
        → nat_lt r.entry.step s.cleared ≡ false
    -- none has an own expiration in an earlier tick
    pub own : (r : Record K V) → record_at s.records r.number ≡ Some r → (expires : ℕ)
        → r.entry.expires ≡ Some expires → tick_of s.settings now ≤ tick_of s.settings expires
    -- none is 300 milliseconds or more past its last use plus the idle time, if none was used that long before one in front of it
    pub idle : InOrderBy IsUsedBefore s.records s.access → (r : Record K V)
        → record_at s.records r.number ≡ Some r → (time : ℕ) → s.settings.idle ≡ Some time
        → now < r.entry.used + time + 300000000

  -- ---- if the writes of a record are applied in the order in which they were made

  pub record IsRising (s : State K V P S R) : Type 0 where
    -- the pending writes of a record rise, each above what was applied of it
    pub rising : Each (λ r. AreRising r.number r.applied s.writes) s.records
    -- the write list has each admitted record, none twice, and none that exists and is not admitted
    pub listed : Each (λ r. is_some r.counts ≡ true → IsIn r.number s.order) s.records
    pub off : Each (λ r. is_some r.counts ≡ false → IsIn r.number s.order → ⊥) s.records
    pub once : AreOnce s.order
    pub below : (n : ℕ) → IsIn n s.order → n < s.next_number

  -- with what is pending applied, the state's own write list is in the order of steps and moments
  abbrev pub IsOrdered : State K V P S R → Type 0
  IsOrdered s = InOrderBy IsWrittenBefore s.records (order_after s.writes s.order)

  -- the state's own write list is in the order of steps and moments, and has each admitted record
  pub record IsLeftInOrder (s : State K V P S R) : Type 0 where
    pub rising : IsRising s
    pub ordered : InOrderBy IsWrittenBefore s.records s.order
    pub listed : Each (λ r. is_some r.counts ≡ true → IsIn r.number s.order) s.records

  -- ---- if moments never fell, and each ticket was sent before the next write or run

  -- the last call came at this moment and step
  pub record IsTimely (moment step : ℕ) (s : State K V P S R) : Type 0 where
    pub sound : IsSound s
    pub sent : s.unsent ≡ []
    pub rising : IsRising s
    -- once everything pending is applied, the write list is in the order of steps and moments, and has every record that is held
    pub ordered : IsOrdered s
    pub listed : Each (λ r. r.is_held ≡ true → IsIn r.number (order_after s.writes s.order))
        s.records
    pub latest : Each (λ r. (r.entry.step ≤ step) × (r.entry.written ≤ moment)) s.records
    -- no own expiration is in an earlier tick than the last run
    pub own : Each (λ r. (expires : ℕ) → r.entry.expires ≡ Some expires
        → tick_of s.settings s.ran ≤ tick_of s.settings expires) s.records
    pub ran : s.ran ≤ moment
    pub range : moment ≤ 9223372036854775807

module _ (K V P S R : Type 0) where
  -- a run leaves the write list in order, whichever tickets wait
  abbrev pub RunsLeaveOrder : Type 0
  RunsLeaveOrder =
      (answers : Answers K V P R) (now : ℕ) (old new : State K V P S R) → IsSound old → IsRising old
      → IsOrdered old → Runs answers now old new → IsLeftInOrder new

  -- an uncut run leaves nothing that is due
  abbrev pub UncutRunsLeaveNoneDue : Type 0
  UncutRunsLeaveNoneDue =
      (answers : Answers K V P R) (moment step now : ℕ) (old new : State K V P S R)
      → IsTimely moment step old → moment ≤ now → now ≤ 9223372036854775807
      → RunsToEnd answers now old new → LeavesNoneDue now new

  -- and keeps this so
  abbrev pub UncutRunsStayTimely : Type 0
  UncutRunsStayTimely =
      (answers : Answers K V P R) (moment step now : ℕ) (old new : State K V P S R)
      → IsTimely moment step old → moment ≤ now → now ≤ 9223372036854775807
      → RunsToEnd answers now old new → IsTimely now step new

  -- a run that leaves nothing due has looked at times and clears
  abbrev pub LookingAtAllSweeps : Type 0
  LookingAtAllSweeps =
      (answers : Answers K V P R) (now : ℕ) (old new : State K V P S R) → IsSound old → old.unsent
      ≡ [] → Runs answers now old new → NothingIsDue answers now new → IsSwept now old new

  -- so it is for an empty cache, and calls keep it, each at a moment and a step not before the last, if its ticket is sent at once
  pub record CallsStayTimely : Type 0 where
    pub empty : (s : State K V P S R) → s.records ≡ [] → s.access ≡ [] → s.order ≡ []
        → s.unsent ≡ [] → s.writes ≡ [] → s.ran ≤ 9223372036854775807 → IsTimely s.ran 0 s
    pub written : (eq : K → K → Bool) (answers : Answers K V P R) (moment step : ℕ)
        (s : State K V P S R) (key : K) (hash : ℕ) (value : V) (now next : ℕ)
        → IsTimely moment step s → moment ≤ now → now ≤ 9223372036854775807 → step ≤ next
        → IsTimely now next (sent s.next_ticket (written answers eq s key hash value now next))
    pub removed : (eq : K → K → Bool) (moment step : ℕ) (s : State K V P S R) (key : K)
        → IsTimely moment step s → IsTimely moment step (sent s.next_ticket (removed_by eq key s))
    pub read : (answers : Answers K V P R) (moment step : ℕ) (s : State K V P S R)
        (found : Option (Record K V)) (hash now : ℕ)
        → IsTimely moment step s → moment ≤ now → now ≤ 9223372036854775807
        → IsTimely now step (with_read answers found hash now s)
    pub removal_told : (answers : Answers K V P R) (moment step : ℕ)
        (s : State K V P S R) (e : Entry K V) (now : ℕ) → IsTimely moment step s
        → IsTimely moment step (removal_told answers e now s)
    pub cleared : (moment step : ℕ) (s : State K V P S R) (next : ℕ) → IsTimely moment step s
        → IsTimely moment step (cleared_by next s)
    pub covered : (moment step : ℕ) (s : State K V P S R) (p : Registered P)
        → IsTimely moment step s → IsTimely moment step (with_predicate p s)
    pub room : (moment step : ℕ) (s : State K V P S R) → IsTimely moment step s
        → IsTimely moment step (with_room s)
    pub released : (moment step : ℕ) (s : State K V P S R) → IsTimely moment step s
        → IsTimely moment step (without_room s)
    pub taken : (moment step : ℕ) (s : State K V P S R) → IsTimely moment step s
        → IsTimely moment step (without_notice s)
