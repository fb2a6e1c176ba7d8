-- What the front's calls keep of a part.
use Rattle.std.specs.Prelude.{◌≡◌, ◌≤◌, ◌<◌, ◌+◌, ℕ, Bool, true, false, Option, Some, Result, List, [], ◌∷◌}
use Rattle.std.specs.Cmp.{IsEquivalence}
use Rattle.engine_reference.specs.declared.data.Entry.{Entry}
use Rattle.engine_reference.specs.declared.data.Record.{Record}
use Rattle.engine_reference.specs.declared.data.Registered.{Registered}
use Rattle.engine_reference.specs.declared.data.Unsent.{Unsent}
use Rattle.engine_reference.specs.Calls.{written, sent, removed_by, removal_told, with_read, cleared_by, with_predicate, without_notice, MaintainsIfDue, IsNew}
use Rattle.engine_reference.specs.Records.{admitted_in}
use Rattle.engine_reference.specs.Runs.{Runs, RunsToEnd, first_of}
use Rattle.engine_reference.specs.Scanning.{NotesLookUp}
use Rattle.engine_reference.specs.Soundness.{Each, IsSound}
use Rattle.engine_reference.specs.State.{State, Answers}
use Rattle.engine_reference.specs.Times.{end_of, is_reached}
use Rattle.engine_reference.specs.RunLaws.Points.{IsInOrder}
use Rattle.engine_reference.specs.RunLaws.Sweeping.{InOrderBy, IsUsedBefore}
use Rattle.front_reference.specs.declared.data.Computed.{Computed}
use Rattle.front_reference.specs.declared.data.Made.{Made}
use Rattle.front_reference.specs.declared.data.Op.{Op}
use Rattle.front_reference.specs.Closeness.{IsClose}
use Rattle.front_reference.specs.Keeping.{Common, IsKept}
use Rattle.front_reference.specs.Parts.{Inserts, TakesOut, Operates, Acts, Coalesces, Computes}

module _ (K V P S R : Type 0) where
  -- calls come at moments and steps that do not fall, and keys belong to the part
  pub record CallsKeep : Type 0 where
    -- time may pass
    pub later : (common : Common S R) (limit : ℕ) (eq : K → K → Bool) (belongs : K → Bool)
        (moment step now next : ℕ) (s : State K V P S R)
        → moment ≤ now → step ≤ next → IsKept limit eq common belongs moment step s
        → IsKept limit eq common belongs now next s
    pub maintained : (common : Common S R) (eq : K → K → Bool) → IsEquivalence eq
        → (belongs : K → Bool) (answers : Answers K V P R) (now step : ℕ)
        (old new : State K V P S R)
        → MaintainsIfDue answers now old new → IsKept 64 eq common belongs now step old
        → IsKept 63 eq common belongs now step new
    pub inserted : (common : Common S R) (eq : K → K → Bool) → IsEquivalence eq
        → (belongs : K → Bool) (answers : Answers K V P R) (moment step now next : ℕ)
        (old new : State K V P S R) (key : K) (hash : ℕ) (value : V)
        → moment ≤ now → step ≤ next → belongs key ≡ true → Inserts answers eq key
        hash value now next old new → IsKept 63 eq common belongs moment step old
        → IsKept 63 eq common belongs now next new
    pub taken_out : (common : Common S R) (eq : K → K → Bool) → IsEquivalence eq
        → (belongs : K → Bool) (answers : Answers K V P R) (moment step now next : ℕ)
        (old new : State K V P S R) (key : K)
        → moment ≤ now → step ≤ next → TakesOut answers eq key now old new → IsKept 63 eq common
        belongs moment step old → IsKept 63 eq common belongs now next new
    -- a look-up with its read, whether what it finds is passed over or not
    pub looked_up : (common : Common S R) (eq : K → K → Bool) → IsEquivalence eq
        → (belongs : K → Bool) (answers : Answers K V P R) (moment step now next : ℕ)
        (old new : State K V P S R) (key : K) (hash : ℕ) (ignored : Bool)
        → moment ≤ now → step ≤ next → NotesLookUp answers eq key hash now ignored old new → IsKept
        63 eq common belongs moment step old → IsKept 63 eq common belongs now next new
    pub operated : (common : Common S R) (eq : K → K → Bool) → IsEquivalence eq
        → (belongs : K → Bool) (answers : Answers K V P R) (moment step now next : ℕ)
        (old new : State K V P S R) (key : K) (hash : ℕ) (does : Op V)
        → moment ≤ now → step ≤ next → belongs key ≡ true → Operates answers eq key
        hash now next does old new → IsKept 63 eq common belongs moment step old
        → IsKept 63 eq common belongs now next new
    pub acted : (common : Common S R) (eq : K → K → Bool) → IsEquivalence eq
        → (belongs : K → Bool) (answers : Answers K V P R) (moment step now next : ℕ)
        (old new : State K V P S R) (key : K) (hash : ℕ) (ignored : Bool) (does : Op V)
        → moment ≤ now → step ≤ next → belongs key ≡ true → Acts answers eq key hash
        now next ignored does old new → IsKept 63 eq common belongs moment step old
        → IsKept 63 eq common belongs now next new
    -- a run that was requested
    pub ran : (common : Common S R) (eq : K → K → Bool) → IsEquivalence eq → (belongs : K → Bool)
        (answers : Answers K V P R) (moment step now next : ℕ) (old new : State K V P S R)
        → moment ≤ now → step ≤ next → RunsToEnd answers now old new → IsKept 63 eq common belongs
        moment step old → IsKept 63 eq common belongs now next new
    -- clears, predicates, room that is made or given up, notices; and it holds for a part that was just created
    pub cleared : (common : Common S R) (limit : ℕ) (eq : K → K → Bool) (belongs : K → Bool)
        (moment step at : ℕ) (s : State K V P S R) → IsKept limit eq common belongs moment step s
        → IsKept limit eq common belongs moment step (cleared_by at s)
    pub covered : (common : Common S R) (limit : ℕ) (eq : K → K → Bool) (belongs : K → Bool)
        (moment step : ℕ) (p : Registered P) (s : State K V P S R) → IsKept limit eq common belongs
        moment step s → IsKept limit eq common belongs moment step (with_predicate p s)
    pub reserved : (common : Common S R) (limit : ℕ) (eq : K → K → Bool) (belongs : K → Bool) (moment step number : ℕ) (s : State K V P S R) → IsKept limit eq common belongs moment step s → IsKept limit eq common belongs moment step (record s { reserved = number })
    pub taken : (common : Common S R) (limit : ℕ) (eq : K → K → Bool) (belongs : K → Bool)
        (moment step : ℕ) (s : State K V P S R) → IsKept limit eq common belongs moment step s
        → IsKept limit eq common belongs moment step (without_notice s)
    pub empty : (common : Common S R) (eq : K → K → Bool) (belongs : K → Bool)
        (name : Option (List ℕ)) (s : State K V P S R) → IsNew name common.settings common.hasher
        common.rules s → IsKept 63 eq common belongs common.settings.made 0 s

  -- single calls and runs keep a part close if moments do not fall; a read comes less than 300 milliseconds after the last run, since
  -- otherwise a run is due
  pub record CallsStayClose : Type 0 where
    pub empty : (s : State K V P S R) → s.records ≡ [] → s.access ≡ [] → IsClose false s.ran s
    pub later : (late : Bool) (moment now : ℕ) (s : State K V P S R) → moment ≤ now
        → IsClose late moment s → IsClose late now s
    pub written : (eq : K → K → Bool) (answers : Answers K V P R) (moment now step : ℕ)
        (s : State K V P S R) (key : K) (hash : ℕ) (value : V)
        → IsSound s → moment ≤ now → IsClose false moment s
        → IsClose true now (written answers eq s key hash value now step)
    pub sent : (oldest : Unsent) (rest : List Unsent) (late : Bool) (moment : ℕ)
        (s : State K V P S R) → s.unsent ≡ oldest ∷ rest → IsClose late moment s
        → IsClose late moment (sent oldest.ticket s)
    pub removed : (eq : K → K → Bool) (key : K) (moment : ℕ) (s : State K V P S R) → IsSound s
        → IsClose false moment s → IsClose false moment (removed_by eq key s)
    pub removal_told : (answers : Answers K V P R) (e : Entry K V) (now : ℕ)
        (late : Bool) (moment : ℕ) (s : State K V P S R) → IsClose late moment s
        → IsClose late moment (removal_told answers e now s)
    pub read : (answers : Answers K V P R) (found : Option (Record K V)) (hash moment now : ℕ)
        (s : State K V P S R)
        → IsSound s → moment ≤ now → now < s.ran + 300000000 → IsClose false moment s
        → IsClose false now (with_read answers found hash now s)
    pub cleared : (at : ℕ) (late : Bool) (moment : ℕ) (s : State K V P S R) → IsClose late moment s
        → IsClose late moment (cleared_by at s)
    pub covered : (p : Registered P) (late : Bool) (moment : ℕ) (s : State K V P S R)
        → IsClose late moment s → IsClose late moment (with_predicate p s)
    pub reserved : (number : ℕ) (late : Bool) (moment : ℕ) (s : State K V P S R) → IsClose late moment s → IsClose late moment (record s { reserved = number })
    pub taken : (late : Bool) (moment : ℕ) (s : State K V P S R) → IsClose late moment s
        → IsClose late moment (without_notice s)
    -- a run, to its end or cut short, that began with all tickets sent
    pub run : (answers : Answers K V P R) (late : Bool) (moment now : ℕ) (old new : State K V P S R)
        → IsInOrder old → old.unsent ≡ [] → moment ≤ now → Runs answers now old new
        → IsClose late moment old → IsClose false now new
    -- maintenance if it is due, after which less than 300 milliseconds have passed since the last run
    pub maintained : (answers : Answers K V P R) (late : Bool) (now : ℕ) (old new : State K V P S R)
        → IsInOrder old → old.unsent ≡ [] → MaintainsIfDue answers now old new
        → IsClose late now old → IsClose false now new × (now < new.ran + 300000000)

  pub record RunsLeaveNoneIdle : Type 0 where
    -- after a run no record was used 300 milliseconds or more before one in front of it on the access list
    pub ordered : (common : Common S R) (limit : ℕ) (eq : K → K → Bool) (belongs : K → Bool)
        (answers : Answers K V P R) (moment step now : ℕ) (old new : State K V P S R)
        → moment ≤ now → Runs answers now old new → IsKept limit eq common belongs moment step old
        → InOrderBy IsUsedBefore new.records new.access
    -- none is 300 milliseconds or more past its last use plus the idle time, if the first of the access list is not past that
    pub idle : (common : Common S R) (limit : ℕ) (eq : K → K → Bool) (belongs : K → Bool)
        (answers : Answers K V P R) (moment step now : ℕ) (old new : State K V P S R)
        → moment ≤ now → Runs answers now old new
        → ((r : Record K V) → first_of (admitted_in new.records new.access) ≡ Some r
        → is_reached (end_of r.entry.used new.settings.idle) now ≡ false)
        → IsKept limit eq common belongs moment step old → (time : ℕ) → common.settings.idle
        ≡ Some time → Each (λ r. now < r.entry.used + time + 300000000) new.records
    -- as an uncut run leaves it
    pub whole : (common : Common S R) (limit : ℕ) (eq : K → K → Bool) (belongs : K → Bool)
        (answers : Answers K V P R) (moment step now : ℕ) (old new : State K V P S R)
        → moment ≤ now → RunsToEnd answers now old new
        → IsKept limit eq common belongs moment step old
        → (time : ℕ) → common.settings.idle ≡ Some time
        → Each (λ r. now < r.entry.used + time + 300000000) new.records

module _ (K V P S R F : Type 0) where
  -- a coalesced call keeps its part, whatever its closures return
  abbrev pub CoalescesKeep : Type 0
  CoalescesKeep =
      (common : Common S R) (eq : K → K → Bool) → IsEquivalence eq
      → (belongs : K → Bool) (answers : Answers K V P R) (moment step now next : ℕ)
      (old new : State K V P S R) (key : K) (hash : ℕ) (end : Made V F) (is_fresh : Bool)
      → moment ≤ now → step ≤ next → belongs key ≡ true → Coalesces answers eq key hash now next
      (λ value ignored. Unit {0}) (λ made. Unit {0}) old new end is_fresh
      → IsKept 63 eq common belongs moment step old → IsKept 63 eq common belongs now next new

module _ (K V P S R E : Type 0) where
  -- and so does a compute call
  abbrev pub ComputesKeep : Type 0
  ComputesKeep =
      (common : Common S R) (eq : K → K → Bool) → IsEquivalence eq
      → (belongs : K → Bool) (answers : Answers K V P R) (moment step now next : ℕ)
      (old new : State K V P S R) (key : K) (hash : ℕ) (answer : Result (Computed V) E)
      → moment ≤ now → step ≤ next → belongs key ≡ true
      → Computes answers eq key hash now next (λ seen decided. Unit {0}) old new answer
      → IsKept 63 eq common belongs moment step old → IsKept 63 eq common belongs now next new
