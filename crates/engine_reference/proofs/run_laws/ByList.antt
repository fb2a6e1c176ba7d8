-- What laws on times and clears say of any write list, which `Rises` has of the state's own.
use Rattle.std.specs.Prelude.{◌≡◌, ◌≤◌, ℕ, Bool, true, false, nat_lt, List, [], Option, Some}
use Rattle.engine_reference.specs.declared.data.Entry.{Entry}
use Rattle.engine_reference.specs.declared.data.Record.{Record}
use Rattle.engine_reference.specs.declared.data.Registered.{Registered}
use Rattle.engine_reference.specs.Calls.{written, sent, removed_by, removal_told, with_read, cleared_by, with_predicate, with_room, without_room, without_notice}
use Rattle.engine_reference.specs.Records.{record_at, admitted_in}
use Rattle.engine_reference.specs.Runs.{Runs, first_of}
use Rattle.engine_reference.specs.Soundness.{Each, IsIn, IsSound}
use Rattle.engine_reference.specs.State.{State, Answers}
use Rattle.engine_reference.specs.Times.{end_of, is_reached, tick_of}
use Rattle.engine_reference.specs.RunLaws.Sweeping.{order_after, InOrderBy, IsWrittenBefore, LeavesNoneDue}

module _ {K V P S R : Type 0} where
  pub record IsSweptBy (now : ℕ) (order : List ℕ) (old new : State K V P S R) : Type 0 where
    -- the first of the write list is neither past its live time nor covered by a clear
    pub live : (r : Record K V) → first_of (admitted_in new.records order) ≡ Some r → is_reached (end_of r.entry.written new.settings.live) now ≡ false
    pub clear : (r : Record K V) → first_of (admitted_in new.records order) ≡ Some r → nat_lt r.entry.step new.cleared ≡ false
    -- the first of the access list is not past its idle time
    pub idle : (r : Record K V) → first_of (admitted_in new.records new.access) ≡ Some r → is_reached (end_of r.entry.used new.settings.idle) now ≡ false
    -- in a later tick than the last run's, every own expiration that was reached was noticed
    pub own : nat_lt (tick_of old.settings old.ran) (tick_of old.settings now) ≡ true → (r : Record K V) → record_at new.records r.number ≡ Some r → is_reached r.entry.expires now ≡ false

  -- the last call came at this moment and step, and this is the write list
  pub record IsTimelyBy (moment step : ℕ) (order : List ℕ) (s : State K V P S R) : Type 0 where
    pub sound : IsSound s
    pub sent : s.unsent ≡ []
    -- once all that is pending is applied, the write list goes by steps and moments, and has every record that is held
    pub ordered : InOrderBy IsWrittenBefore s.records (order_after s.writes order)
    pub listed : Each (λ r. r.is_held ≡ true → IsIn r.number (order_after s.writes order)) s.records
    pub latest : Each (λ r. (r.entry.step ≤ step) × (r.entry.written ≤ moment)) s.records
    -- no own expiration lies in an earlier tick than the last run
    pub own : Each (λ r. (expires : ℕ) → r.entry.expires ≡ Some expires → tick_of s.settings s.ran ≤ tick_of s.settings expires) s.records
    pub ran : s.ran ≤ moment
    pub range : moment ≤ 9223372036854775807

module _ (K V P S R : Type 0) where
  -- an uncut run leaves none that is due
  abbrev pub SweptRunsLeaveNoneDueBy : Type 0
  SweptRunsLeaveNoneDueBy =
      (answers : Answers K V P R) (moment step now : ℕ) (order : List ℕ) (old new : State K V P S R) → IsTimelyBy moment step order old → moment ≤ now → now ≤ 9223372036854775807
      → Runs answers now old new → IsSweptBy now (order_after old.writes order) old new → LeavesNoneDue now new

  -- and keeps it so
  abbrev pub SweptRunsStayTimelyBy : Type 0
  SweptRunsStayTimelyBy =
      (answers : Answers K V P R) (moment step now : ℕ) (order : List ℕ) (old new : State K V P S R) → IsTimelyBy moment step order old → moment ≤ now → now ≤ 9223372036854775807
      → Runs answers now old new → IsSweptBy now (order_after old.writes order) old new → IsTimelyBy now step (order_after old.writes order) new

  -- as an empty cache is, and calls keep it, each at a moment and a step not before the last, with its ticket sent at once
  pub record CallsStayTimelyBy : Type 0 where
    pub empty : (s : State K V P S R) → s.records ≡ [] → s.access ≡ [] → s.unsent ≡ [] → s.writes ≡ [] → s.ran ≤ 9223372036854775807 → IsTimelyBy s.ran 0 [] s
    pub written : (eq : K → K → Bool) (answers : Answers K V P R) (moment step : ℕ) (order : List ℕ) (s : State K V P S R) (key : K) (hash : ℕ) (value : V) (now next : ℕ)
        → IsTimelyBy moment step order s → moment ≤ now → now ≤ 9223372036854775807 → step ≤ next → IsTimelyBy now next order (sent s.next_ticket (written answers eq s key hash value now next))
    pub removed : (eq : K → K → Bool) (moment step : ℕ) (order : List ℕ) (s : State K V P S R) (key : K) → IsTimelyBy moment step order s → IsTimelyBy moment step order (sent s.next_ticket (removed_by eq key s))
    pub read : (answers : Answers K V P R) (moment step : ℕ) (order : List ℕ) (s : State K V P S R) (found : Option (Record K V)) (hash now : ℕ)
        → IsTimelyBy moment step order s → moment ≤ now → now ≤ 9223372036854775807 → IsTimelyBy now step order (with_read answers found hash now s)
    pub removal_told : (answers : Answers K V P R) (moment step : ℕ) (order : List ℕ) (s : State K V P S R) (e : Entry K V) (now : ℕ) → IsTimelyBy moment step order s → IsTimelyBy moment step order (removal_told answers e now s)
    pub cleared : (moment step : ℕ) (order : List ℕ) (s : State K V P S R) (next : ℕ) → IsTimelyBy moment step order s → IsTimelyBy moment step order (cleared_by next s)
    pub covered : (moment step : ℕ) (order : List ℕ) (s : State K V P S R) (p : Registered P) → IsTimelyBy moment step order s → IsTimelyBy moment step order (with_predicate p s)
    pub room : (moment step : ℕ) (order : List ℕ) (s : State K V P S R) → IsTimelyBy moment step order s → IsTimelyBy moment step order (with_room s)
    pub released : (moment step : ℕ) (order : List ℕ) (s : State K V P S R) → IsTimelyBy moment step order s → IsTimelyBy moment step order (without_room s)
    pub taken : (moment step : ℕ) (order : List ℕ) (s : State K V P S R) → IsTimelyBy moment step order s → IsTimelyBy moment step order (without_notice s)
