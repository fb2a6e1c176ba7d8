-- What the calls of a cache do.
use Rattle.std.specs.Prelude.{◌≡◌, ℕ, ◌+◌, ◌-◌, ◌==◌, nat_le, max, Bool, true, false, MatchBool, if◌then◌else◌, List, [], ◌∷◌, ◌++◌, drop, Option, Some, None, length}
use Rattle.engine_reference.specs.declared.data.Settings.{Settings}
use Rattle.engine_reference.specs.declared.data.Entry.{Entry}
use Rattle.engine_reference.specs.declared.data.Record.{Record}
use Rattle.engine_reference.specs.declared.data.Registered.{Registered}
use Rattle.engine_reference.specs.declared.data.Unsent.{Unsent}
use Rattle.engine_reference.specs.declared.data.Read.TheVariants.{Hit, Miss}
use Rattle.engine_reference.specs.declared.data.Write.{Write}
use Rattle.engine_reference.specs.declared.data.Write.TheVariants.{Put, Removed}
use Rattle.engine_reference.specs.Records.{held_at, changed_at, held_weight}
use Rattle.engine_reference.specs.State.{State, Answers}
use Rattle.engine_reference.specs.Times.{own_expiration, changed_expiration, time_left}
use Rattle.engine_reference.specs.Visible.{cause_of_write, cause_of_removal, told, visible_record}
use Rattle.engine_reference.specs.Runs.{RunsToEnd, is_due}

-- the write of a ticket that was not sent
abbrev pub unsent_at : List Unsent → ℕ → Option Write
unsent_at [] ticket = None
unsent_at (u ∷ us) ticket = if u.ticket == ticket then Some u.write else unsent_at us ticket

abbrev pub without_ticket : ℕ → List Unsent → List Unsent
without_ticket ticket [] = []
without_ticket ticket (u ∷ us) = if u.ticket == ticket then us else u ∷ without_ticket ticket us

-- how much room a removal needs: for its own write, and for its notice if removals are reported
abbrev pub removal_rooms : Settings → ℕ
removal_rooms settings = if settings.tells then 2 else 1

module _ {K V P S R : Type 0} where
  -- ---- sending

  -- the queue of writes holds 128
  abbrev pub is_full : State K V P S R → Bool
  is_full s = nat_le 128 (length s.writes)

  abbrev pub with_sent : ℕ → Option Write → State K V P S R → State K V P S R
  with_sent ticket None s = s
  with_sent ticket (Some w) s = record s {
    unsent = without_ticket ticket s.unsent;
    writes = s.writes ++ w ∷ [];
  }

  -- the write of a ticket goes into the queue
  abbrev pub sent : ℕ → State K V P S R → State K V P S R
  sent ticket s = with_sent ticket (unsent_at s.unsent ticket) s

  -- ---- removal by key

  abbrev pub with_removed : Option (Record K V) → State K V P S R → State K V P S R
  with_removed None s = s
  with_removed (Some r) s = record s {
    records = changed_at r.number (λ x. record x {
      is_held = false;
      writes = x.writes + 1;
    }) s.records;
    unsent = s.unsent ++ (record { ticket = s.next_ticket; write = Removed r.number }) ∷ [];
    next_ticket = s.next_ticket + 1;
    reserved = if s.settings.tells then s.reserved + 1 else s.reserved;
  }

  -- the key's record is no longer held, whether its deadline has come or not, and its removal waits to be sent. If removals are reported,
  -- there is then room to report it
  abbrev pub removed_by : (K → K → Bool) → K → State K V P S R → State K V P S R
  removed_by eq key s = with_removed (held_at eq s.records key) s

  -- the first half makes room for the removal of the key, if it is held
  abbrev pub with_removal_room : Option (Record K V) → State K V P S R → State K V P S R
  with_removal_room None s = s
  with_removal_room (Some r) s = record s { reserved = s.reserved + removal_rooms s.settings }

  -- the second half removes it in that room
  abbrev pub with_reserved_removal : Option (Record K V) → State K V P S R → State K V P S R
  with_reserved_removal None s = s
  with_reserved_removal (Some r) s = with_removed (Some r) (record s {
    reserved = s.reserved - removal_rooms s.settings;
  })

  -- ---- clears, predicates, room, notices

  -- every entry of an earlier step is covered
  abbrev pub cleared_by : ℕ → State K V P S R → State K V P S R
  cleared_by step s = record s { cleared = max s.cleared step }

  abbrev pub with_predicate : Registered P → State K V P S R → State K V P S R
  with_predicate p s = record s { predicates = s.predicates ++ p ∷ [] }

  abbrev pub with_room : State K V P S R → State K V P S R
  with_room s = record s { reserved = s.reserved + 1 }

  -- the room for one write is given up
  abbrev pub without_room : State K V P S R → State K V P S R
  without_room s = record s { reserved = s.reserved - 1 }

  -- a predicate takes the room that was made for it
  abbrev pub registered : Registered P → State K V P S R → State K V P S R
  registered p s = with_predicate p (without_room s)

  abbrev pub without_notice : State K V P S R → State K V P S R
  without_notice s = record s { notices = drop 1 s.notices }

module _ {K V P S R : Type 0} (answers : Answers K V P R) where
  -- ---- writing

  -- the entry of a new key
  abbrev pub first_entry : State K V P S R → K → V → ℕ → ℕ → Entry K V
  first_entry s key value now step = record {
    key = key;
    value = value;
    step = step;
    written = now;
    used = now;
    expires = own_expiration now (answers.created s.rules key value now);
    weight = answers.weight_of s.rules key value;
  }

  -- the entry after it was overwritten, with its expiration as it was: the write counts as its write and as its use. It has the new key,
  -- which compares equal; the old one is reported
  abbrev pub written_over : State K V P S R → Entry K V → K → V → ℕ → ℕ → Entry K V
  written_over s e key value now step = record e {
    key = key;
    value = value;
    step = step;
    written = now;
    used = now;
    weight = answers.weight_of s.rules key value;
  }

  -- and how the rules change its expiration
  abbrev pub next_entry : State K V P S R → Entry K V → K → V → ℕ → ℕ → Entry K V
  next_entry s e key value now step =
      let w = written_over s e key value now step in
      record w {
        expires = changed_expiration now (answers.updated s.rules key value now (time_left s.settings now w)) e.expires;
      }

  -- a write of this record, with the weight of everything that is held, waits to be sent
  abbrev pub with_put : (number write weight hash : ℕ) → State K V P S R → State K V P S R
  with_put number write weight hash s = record s {
    unsent = s.unsent ++ (record {
      ticket = s.next_ticket;
      write = Put (record { number = number; write = write; weight = weight; hash = hash; kept = held_weight s.records });
    }) ∷ [];
    next_ticket = s.next_ticket + 1;
    reserved = s.reserved - 1;
  }

  abbrev pub with_written : Option (Record K V) → State K V P S R → K → ℕ → V → ℕ → ℕ
      → State K V P S R
  with_written None s key hash value now step =
      let e = first_entry s key value now step in
      with_put s.next_number 1 e.weight hash (record s {
        records = s.records ++ (record {
          number = s.next_number;
          hash = hash;
          entry = e;
          is_held = true;
          writes = 1;
          applied = 0;
          counts = None;
        }) ∷ [];
        next_number = s.next_number + 1;
      })
  with_written (Some r) s key hash value now step =
      let e = next_entry s r.entry key value now step in
      with_put r.number (r.writes + 1) e.weight hash (record s {
        records = changed_at r.number (λ x. record x {
          entry = e;
          writes = x.writes + 1;
        }) s.records;
        notices = told s.settings.tells (cause_of_write answers s now r.entry) r.entry s.notices;
      })

  -- a value is written under its key, and what it replaces is reported. It is visible at once, and its write waits to be sent
  abbrev pub written : (K → K → Bool) → State K V P S R → K → ℕ → V → ℕ → ℕ → State K V P S R
  written eq s key hash value now step =
      with_written (held_at eq s.records key) s key hash value now step

  -- ---- looking up

  -- a look-up that found a record uses it
  abbrev pub used_entry : State K V P S R → ℕ → Entry K V → Entry K V
  used_entry s now e = record e {
    used = now;
    expires = changed_expiration now
        (answers.found s.rules e.key e.value now (time_left s.settings now e) e.written) e.expires;
  }

  -- the read waits to be counted
  abbrev pub with_read : Option (Record K V) → ℕ → ℕ → State K V P S R → State K V P S R
  with_read None hash now s = record s { reads = s.reads ++ Miss hash ∷ [] }
  with_read (Some r) hash now s = record s {
    records = changed_at r.number (λ x. record x { entry = used_entry s now x.entry }) s.records;
    reads = s.reads ++ Hit r.number hash ∷ [];
  }

  -- maintenance runs if it is due, and is not cut short
  abbrev pub MaintainsIfDue : ℕ → State K V P S R → State K V P S R → Type 0
  MaintainsIfDue now old new =
      MatchBool (is_due old now) (RunsToEnd answers now old new) (new ≡ old)

  -- a look-up with its read: the result is what is visible as it begins, then maintenance runs if it is due, then the read is noted
  pub record LooksUp (eq : K → K → Bool) (key : K) (hash now : ℕ) (old new : State K V P S R) :
      Type 0 where
    pub mid : State K V P S R
    pub maintains : MaintainsIfDue now old mid
    pub reads : new ≡ with_read (visible_record answers eq old now key) hash now mid

  -- ---- what a removal by key reports

  -- the entry that was removed is reported, in the room that its removal made
  abbrev pub removal_told : Entry K V → ℕ → State K V P S R → State K V P S R
  removal_told e now s = record s {
    notices = told s.settings.tells (cause_of_removal answers s now e) e s.notices;
    reserved = if s.settings.tells then s.reserved - 1 else s.reserved;
  }

  -- a record is no longer held, and its removal is sent and reported
  abbrev pub taken_out : Record K V → ℕ → State K V P S R → State K V P S R
  taken_out r now s =
      removal_told r.entry now (sent s.next_ticket (with_removed (Some r) s))

-- ---- creating

-- a cache that was just created
pub record IsNew {K V P S R : Type 0} (name : Option (List ℕ)) (settings : Settings) (hasher : S)
    (rules : R) (s : State K V P S R) : Type 0 where
  pub records : s.records ≡ []
  pub access : s.access ≡ []
  pub order : s.order ≡ []
  pub cleared : s.cleared ≡ 0
  pub predicates : s.predicates ≡ []
  pub unsent : s.unsent ≡ []
  pub reads : s.reads ≡ []
  pub writes : s.writes ≡ []
  pub notices : s.notices ≡ []
  pub table : s.sketch.words ≡ 0
  pub number : s.number ≡ 0
  pub weight : s.weight ≡ 0
  pub ran : s.ran ≡ settings.made
  pub table_refused : s.table_refused ≡ false
  pub next_number : s.next_number ≡ 0
  pub next_ticket : s.next_ticket ≡ 0
  pub reserved : s.reserved ≡ 0
  pub name_is : s.name ≡ name
  pub settings_are : s.settings ≡ settings
  pub hasher_is : s.hasher ≡ hasher
  pub rules_are : s.rules ≡ rules
