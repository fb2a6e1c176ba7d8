-- The state of the reference cache, composed of its records with their lists and of what is kept apart from them.
use Rattle.std.specs.Prelude.{◌≡◌, ℕ, ◌+◌, ◌-◌, nat_le, Bool, if◌then◌else◌, List, [], ◌∷◌, ◌++◌, map, drop, length, option_map}
use Rattle.engine_reference.specs.declared.rules.causes.RemovalCause.{RemovalCause}
use Rattle.engine_reference.specs.declared.data.Entry.{Entry}
use Rattle.engine_reference.specs.declared.data.Read.{Read}
use Rattle.engine_reference.specs.declared.data.Record.{Record}
use Rattle.engine_reference.specs.declared.data.Unsent.{Unsent}
use Rattle.engine_reference.specs.declared.data.Write.{Write}
use Rattle.engine_reference.specs.Calls.{sent, unsent_at, is_full, without_notice}
use Rattle.engine_reference.specs.Runs.{is_due}
use Rattle.engine_reference.specs.State.{State, Answers}
use Rattle.engine_reference.specs.Visible.{is_covered, notice_of, told}
use Rattle.engine_pending.specs.declared.tickets.Ticketed.{Ticketed}
use Rattle.engine_pending.specs.Pending.{Pending, ticketed_at, with_queued_write, ticket_sent, told_if, notice_taken, stands_over, is_run_due}

-- a write under its ticket, as the state has it
abbrev pub unsent_of : {W : Type 0} → (W → Write) → Ticketed W → Unsent
unsent_of write_of u = record { ticket = u.ticket; write = write_of u.write }

module _ {K V O W P S R : Type 0} (read_of : O → Read) (write_of : W → Write) where
  abbrev pub whole : (records : List (Record K V)) (access order : List ℕ) (next_number : ℕ)
      → Pending K V O W P S R → State K V P S R
  whole records access order next_number p = record {
    records = records;
    access = access;
    order = order;
    cleared = p.cleared;
    predicates = p.predicates;
    unsent = map (unsent_of write_of) p.unsent;
    reads = map read_of p.reads;
    writes = map write_of p.writes;
    notices = p.notices;
    sketch = p.sketch;
    number = p.number;
    weight = p.weight;
    ran = p.ran;
    table_refused = p.table_refused;
    next_number = next_number;
    next_ticket = p.next_ticket;
    reserved = p.reserved;
    name = p.name;
    settings = p.settings;
    hasher = p.hasher;
    rules = p.rules;
  }

module _ (K V O W P S R : Type 0) where
  -- what is said of the pending part is said of the state
  pub record AgreesWithState (read_of : O → Read) (write_of : W → Write)
      (records : List (Record K V)) (access order : List ℕ) (next : ℕ) : Type 0 where
    pub unsent : (ticket : ℕ) (p : Pending K V O W P S R)
        → unsent_at (whole read_of write_of records access order next p).unsent ticket
        ≡ option_map write_of (ticketed_at p.unsent ticket)
    pub sent : (ticket : ℕ) (p : Pending K V O W P S R)
        → whole read_of write_of records access order next (ticket_sent ticket p)
        ≡ sent ticket (whole read_of write_of records access order next p)
    pub full : (p : Pending K V O W P S R) → is_full
        (whole read_of write_of records access order next p) ≡ nat_le 128 (length p.writes)
    pub added : (at_once : Bool) (w : W) (p : Pending K V O W P S R)
        → whole read_of write_of records access order next (with_queued_write at_once w p)
        ≡ (let s = whole read_of write_of records access order next p in
        record s {
          unsent = if at_once then s.unsent
              else s.unsent ++ (record { ticket = s.next_ticket; write = write_of w }) ∷ [];
          writes = if at_once then s.writes ++ write_of w ∷ [] else s.writes;
          next_ticket = s.next_ticket + 1;
          reserved = s.reserved - 1;
        })
    pub read : (o : O) (p : Pending K V O W P S R) → whole read_of write_of records access order next (record p { reads = p.reads ++ o ∷ [] })
        ≡ (let s = whole read_of write_of records access order next p in record s { reads = s.reads ++ read_of o ∷ [] })
    pub counted : (p : Pending K V O W P S R) → whole read_of write_of records access order next (record p { reads = drop 1 p.reads })
        ≡ (let s = whole read_of write_of records access order next p in record s { reads = drop 1 s.reads })
    pub applied : (p : Pending K V O W P S R) → whole read_of write_of records access order next (record p { writes = drop 1 p.writes })
        ≡ (let s = whole read_of write_of records access order next p in record s { writes = drop 1 s.writes })
    pub told : (is_told : Bool) (why : RemovalCause) (e : Entry K V) (p : Pending K V O W P S R)
        → whole read_of write_of records access order next (told_if is_told (notice_of why e) p)
        ≡ (let s = whole read_of write_of records access order next p in record s { notices = told is_told why e s.notices })
    pub taken : (p : Pending K V O W P S R) → whole read_of write_of records access order next
        (notice_taken p) ≡ without_notice (whole read_of write_of records access order next p)
    pub covered : (answers : Answers K V P R) (e : Entry K V) (p : Pending K V O W P S R)
        → stands_over answers.covers p e.step e.key e.value
        ≡ is_covered answers (whole read_of write_of records access order next p) e
    pub due : (now : ℕ) (p : Pending K V O W P S R)
        → is_run_due p now ≡ is_due (whole read_of write_of records access order next p) now

  -- whatever is kept of reads and writes, and whichever records and lists there are
  abbrev pub PendingAgrees : Type 0
  PendingAgrees =
      (read_of : O → Read) (write_of : W → Write)
      (records : List (Record K V)) (access order : List ℕ) (next : ℕ)
      → AgreesWithState read_of write_of records access order next
