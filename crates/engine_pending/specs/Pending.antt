-- Everything that a contract sees of a cache of one part apart from its records and their lists: the fields of the reference cache's state
-- that are not about records. `O` is what is kept of a read, and `W` of a write: what the reference cache has of it, and the place of its
-- record.
use Rattle.std.specs.Prelude.{◌≡◌, ℕ, ◌+◌, ◌-◌, ◌≤◌, ◌==◌, nat_le, nat_lt, min, Bool, true, false, ◌&&◌, ◌||◌, if◌then◌else◌, List, [], ◌∷◌, ◌++◌, drop, length, Option, Some, None}
use Rattle.std.specs.List.{list_any}
use Rattle.policy_base.specs.Counts.{Sketch}
use Rattle.engine_reference.specs.declared.data.Notice.{Notice}
use Rattle.engine_reference.specs.declared.data.Registered.{Registered}
use Rattle.engine_reference.specs.declared.data.Settings.{Settings}
use Rattle.engine_reference.specs.Times.{end_of, is_reached}
use Rattle.engine_pending.specs.declared.tickets.Ticketed.{Ticketed}

pub record Pending (K V O W P S R : Type 0) : Type 0 where
  pub cleared : ℕ
  pub predicates : List (Registered P)
  pub unsent : List (Ticketed W)
  pub reads : List O
  pub writes : List W
  pub notices : List (Notice K V)
  -- how many more notices need no allocation
  pub notice_room : ℕ
  pub sketch : Sketch
  pub number : ℕ
  pub weight : ℕ
  pub ran : ℕ
  pub table_refused : Bool
  pub next_ticket : ℕ
  pub reserved : ℕ
  pub name : Option (List ℕ)
  pub settings : Settings
  pub hasher : S
  pub rules : R

-- the write of a ticket
abbrev pub ticketed_at : {W : Type 0} → List (Ticketed W) → ℕ → Option W
ticketed_at [] ticket = None
ticketed_at (u ∷ us) ticket = if u.ticket == ticket then Some u.write else ticketed_at us ticket

-- the others
abbrev pub without_ticketed : {W : Type 0} → ℕ → List (Ticketed W) → List (Ticketed W)
without_ticketed ticket [] = []
without_ticketed ticket (u ∷ us) = if u.ticket == ticket then us else u ∷ without_ticketed ticket us

-- nothing was asked of it yet
pub record IsUntouched {K V O W P S R : Type 0} (name : Option (List ℕ)) (settings : Settings)
    (hasher : S) (rules : R) (s : Pending K V O W P S R) : Type 0 where
  pub cleared : s.cleared ≡ 0
  pub predicates : s.predicates ≡ []
  pub unsent : s.unsent ≡ []
  pub reads : s.reads ≡ []
  pub writes : s.writes ≡ []
  pub notices : s.notices ≡ []
  pub table : s.sketch.words ≡ 0
  pub number : s.number ≡ 0
  pub weight : s.weight ≡ 0
  pub ran : s.ran ≡ settings.made
  pub table_refused : s.table_refused ≡ false
  pub next_ticket : s.next_ticket ≡ 0
  pub reserved : s.reserved ≡ 0
  pub name_is : s.name ≡ name
  pub settings_are : s.settings ≡ settings
  pub hasher_is : s.hasher ≡ hasher
  pub rules_are : s.rules ≡ rules

module _ {K V O W P S R : Type 0} where
  -- a write, in the room that was made for it, goes into the queue at once, or waits under the next ticket
  abbrev pub with_queued_write : Bool → W → Pending K V O W P S R → Pending K V O W P S R
  with_queued_write at_once w s = record s {
    unsent = if at_once then s.unsent
        else s.unsent ++ (record { ticket = s.next_ticket; write = w }) ∷ [];
    writes = if at_once then s.writes ++ w ∷ [] else s.writes;
    next_ticket = s.next_ticket + 1;
    reserved = s.reserved - 1;
  }

  abbrev pub with_sent_of : ℕ → Option W → Pending K V O W P S R → Pending K V O W P S R
  with_sent_of ticket None s = s
  with_sent_of ticket (Some w) s = record s {
    unsent = without_ticketed ticket s.unsent;
    writes = s.writes ++ w ∷ [];
  }

  -- the write of a ticket goes into the queue
  abbrev pub ticket_sent : ℕ → Pending K V O W P S R → Pending K V O W P S R
  ticket_sent ticket s = with_sent_of ticket (ticketed_at s.unsent ticket) s

  -- what left is reported, if it has to be
  abbrev pub told_if : Bool → Notice K V → Pending K V O W P S R → Pending K V O W P S R
  told_if is_told notice s = if is_told then record s {
    notices = s.notices ++ notice ∷ [];
    notice_room = s.notice_room - 1;
  } else s

  -- the oldest notice is taken, and its place is free
  abbrev pub notice_taken : Pending K V O W P S R → Pending K V O W P S R
  notice_taken s = record s {
    notices = drop 1 s.notices;
    notice_room = s.notice_room + min 1 (length s.notices);
  }

  -- a clear of a later step than the write, or a predicate that was registered at a later step, covers the value
  abbrev pub stands_over : (R → P → K → V → Bool) → Pending K V O W P S R → ℕ → K → V → Bool
  stands_over covers s step key value =
      nat_lt step s.cleared || list_any
      (λ p. nat_lt step p.step && covers s.rules p.predicate key value) s.predicates

  -- 64 writes or 64 reads wait, or the last run is 300 milliseconds old
  abbrev pub is_run_due : Pending K V O W P S R → ℕ → Bool
  is_run_due s now =
      nat_le 64 (length s.writes) || nat_le 64 (length s.reads)
      || is_reached (end_of s.ran (Some 300000000)) now

  -- there is room for this many more writes or predicates, and, where removals are told, for a notice of each record that is or may come
  pub record MakesRoom (by records : ℕ) (old new : Pending K V O W P S R) : Type 0 where
    pub room : ℕ
    pub enough : old.settings.tells ≡ true → records + old.reserved + by ≤ room
    pub made : new ≡ record old { reserved = old.reserved + by; notice_room = room }
