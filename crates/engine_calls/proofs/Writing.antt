-- What a write makes of the tables is what the reference cache says.
use Rattle.std.proofs.Common.{◌≡◌, refl, ap, sym, ◌∙◌, ℕ, ◌+◌, ◌-◌, ◌≤◌, ◌<◌, arith, Bool, true, false, cond, List, [], ◌∷◌, ◌++◌, Option, Some, None}
use Rattle.engine_reference.specs.declared.rules.causes.RemovalCause.{RemovalCause}
use Rattle.engine_reference.specs.declared.data.Entry.{Entry}
use Rattle.engine_reference.specs.declared.data.Notice.{Notice}
use Rattle.engine_reference.specs.declared.data.Record.{Record}
use Rattle.engine_reference.specs.declared.data.Unsent.{Unsent}
use Rattle.engine_reference.specs.Calls.{with_put, with_removed, with_reserved_removal, with_written, with_sent, unsent_at, next_entry, used_entry, with_read, removal_rooms, removal_told, sent, taken_out}
use Rattle.engine_reference.specs.declared.data.Read.TheVariants.{Hit}
use Rattle.engine_reference.specs.declared.data.Write.TheVariants.{Removed}
use Rattle.engine_reference.specs.declared.data.Settings.{Settings}
use Rattle.engine_reference.specs.Records.{record_at, changed_at, held_weight}
use Rattle.engine_reference.specs.State.{State, Answers}
use Rattle.engine_reference.specs.Visible.{told, cause_of_removal, cause_of_write}
use Rattle.engine_cells.specs.Writing.{put_for, with_put_for}
use Rattle.std.proofs.lemmas.Bool.{eq-eqb}
use Rattle.std.proofs.lemmas.Option.{same_Some}
use Rattle.engine_cells.specs.Kept.{Kept, kept_at}
use Rattle.engine_calls.specs.Removing.{reported_parts}
use Rattle.engine_calls.specs.Sending.{sent_if}
use Rattle.engine_calls.proofs.Finding.{changed-alike, changed-none, kept-changed, kept-number}

module _ {K V : Type 0} where
  abbrev pub next_record : Entry K V → Record K V → Record K V
  next_record e r = record r { entry = e; writes = r.writes + 1 }

  abbrev pub used-as : ℕ → Option ℕ → Record K V → Record K V
  used-as moment expires x = record x { entry = record x.entry { used = moment; expires = expires } }

  -- where nothing is told, the cause does not matter
  told_alike : (tells : Bool) (why other : RemovalCause) (e : Entry K V) (ns : List (Notice K V)) → (tells ≡ true → why ≡ other) → told tells why e ns ≡ told tells other e ns
  told_alike true why other e ns h = ap (λ w. told true w e ns) (h refl)
  told_alike false why other e ns h = refl

-- what is left of the room of a removal
room-left : (tells : Bool) (n : ℕ) → cond tells 2 1 ≤ n → n - 1 ≡ cond tells (n - cond tells 2 1 + 1) (n - cond tells 2 1)
room-left true n le = omega (arith, le)
room-left false n le = refl

module _ {K V : Type 0} where
  -- what is reported of a removal, if it is
  pub reported-is : (settings : Settings) (r : Record K V) (key : K) (value : V) → ◌≡◌ {A = Option (K × V)} (Some (key, value)) (reported_parts settings r) → (settings.tells ≡ true) × (key ≡ r.entry.key) × (value ≡ r.entry.value)
  reported-is settings r key value h = go settings.tells refl h
    where
      go : (b : Bool) → settings.tells ≡ b → ◌≡◌ {A = Option (K × V)} (Some (key, value)) (cond b (Some (r.entry.key, r.entry.value)) None) → (settings.tells ≡ true) × (key ≡ r.entry.key) × (value ≡ r.entry.value)
      go true e h = let same = same_Some _ _ h in (e, ap (λ p. p.0) same, ap (λ p. p.1) same)
      go false e h = absurd (cc)

  pub reported-none : (settings : Settings) (r : Record K V) → ◌≡◌ {A = Option (K × V)} None (reported_parts settings r) → settings.tells ≡ false
  reported-none settings r h = go settings.tells refl h
    where
      go : (b : Bool) → settings.tells ≡ b → ◌≡◌ {A = Option (K × V)} None (cond b (Some (r.entry.key, r.entry.value)) None) → settings.tells ≡ false
      go true e h = absurd (cc)
      go false e h = e

module _ {K V P S R : Type 0} where
  -- as the tables write over the record in a place
  abbrev pub over : State K V P S R → Entry K V → RemovalCause → Record K V → State K V P S R
  over s e why r = with_put_for false (next_record e r) (record s { records = changed_at r.number (next_record e) s.records; notices = told s.settings.tells why r.entry s.notices })

  -- a write that goes into the queue at once is the one that was made and sent
  single-sent : (u : Unsent) (s : State K V P S R) → with_sent u.ticket (unsent_at (u ∷ []) u.ticket) (record s { unsent = u ∷ [] }) ≡ record s { unsent = []; writes = s.writes ++ u.write ∷ [] }
  single-sent u s =
      let same = eq-eqb u.ticket u.ticket refl in
      ap (λ b. with_sent u.ticket (cond b (Some u.write) None) (record s { unsent = u ∷ [] })) same
      ∙ ap (λ b. record s { unsent = cond b [] (u ∷ []); writes = s.writes ++ u.write ∷ [] }) same

  pub put-sent : (at_once : Bool) (r : Record K V) (s : State K V P S R) → (at_once ≡ true → s.unsent ≡ []) → with_put_for at_once r s ≡ sent_if at_once s.next_ticket (with_put_for false r s)
  put-sent true r s h =
      let u : Unsent = record { ticket = s.next_ticket; write = put_for r (held_weight s.records) } in
      let t : State K V P S R = record s { next_ticket = s.next_ticket + 1; reserved = s.reserved - 1 } in
      ap (λ us. record t { unsent = us; writes = s.writes ++ u.write ∷ [] }) (h refl)
      ∙ sym (single-sent u t)
      ∙ ap (λ us. with_sent s.next_ticket (unsent_at (us ++ u ∷ []) s.next_ticket) (record t { unsent = us ++ u ∷ [] })) (sym (h refl))
  put-sent false r s h = refl

  -- ---- removals

  -- as the tables mark the record in a place as removed
  abbrev pub marked : Bool → Record K V → State K V P S R → State K V P S R
  marked at_once r s = record s {
    records = changed_at r.number (λ x. record x { is_held = false; writes = x.writes + 1 }) s.records;
    unsent = cond at_once s.unsent (s.unsent ++ (record { ticket = s.next_ticket; write = Removed r.number }) ∷ []);
    writes = cond at_once (s.writes ++ Removed r.number ∷ []) s.writes;
    next_ticket = s.next_ticket + 1;
    reserved = s.reserved - 1;
  }

  pub removal-sent : (at_once : Bool) (r : Record K V) (s : State K V P S R) → (at_once ≡ true → s.unsent ≡ []) → marked at_once r s ≡ sent_if at_once s.next_ticket (marked false r s)
  removal-sent true r s h =
      let u : Unsent = record { ticket = s.next_ticket; write = Removed r.number } in
      let t : State K V P S R = record s { records = changed_at r.number (λ x. record x { is_held = false; writes = x.writes + 1 }) s.records; next_ticket = s.next_ticket + 1; reserved = s.reserved - 1 } in
      ap (λ us. record t { unsent = us; writes = s.writes ++ u.write ∷ [] }) (h refl)
      ∙ sym (single-sent u t)
      ∙ ap (λ us. with_sent s.next_ticket (unsent_at (us ++ u ∷ []) s.next_ticket) (record t { unsent = us ++ u ∷ [] })) (sym (h refl))
  removal-sent false r s h = refl

  -- in the room that was made for it
  pub removal-reserved : (at_once : Bool) (r : Record K V) (s : State K V P S R) → (at_once ≡ true → s.unsent ≡ []) → removal_rooms s.settings ≤ s.reserved
      → marked at_once r s ≡ sent_if at_once s.next_ticket (with_reserved_removal (Some r) s)
  removal-reserved at_once r s h le =
      removal-sent at_once r s h
      ∙ ap (λ n. sent_if at_once s.next_ticket (record (marked false r s) { reserved = n })) (room-left s.settings.tells s.reserved le)

  sent-settings : (ticket : ℕ) (o : Option _) (s : State K V P S R) → (with_sent ticket o s).settings ≡ s.settings
  sent-settings ticket None s = refl
  sent-settings ticket (Some w) s = refl

  sent-reserved : (ticket : ℕ) (o : Option _) (s : State K V P S R) → (with_sent ticket o s).reserved ≡ s.reserved
  sent-reserved ticket None s = refl
  sent-reserved ticket (Some w) s = refl

  -- there is room left for the report
  pub report-room : (r : Record K V) (s : State K V P S R) → s.settings.tells ≡ true → removal_rooms s.settings ≤ s.reserved → 0 < (sent s.next_ticket (with_reserved_removal (Some r) s)).reserved
  report-room r s tells le =
      let o = unsent_at (with_reserved_removal (Some r) s).unsent s.next_ticket in
      let e = sent-reserved s.next_ticket o (with_reserved_removal (Some r) s) in
      let is = ap (λ b. cond b (s.reserved - cond b 2 1 + 1) (s.reserved - cond b 2 1)) tells in
      omega (arith, e, is)

  pub removal-settings : (r : Record K V) (s : State K V P S R) → (sent s.next_ticket (with_reserved_removal (Some r) s)).settings ≡ s.settings
  removal-settings r s = sent-settings s.next_ticket (unsent_at (with_reserved_removal (Some r) s).unsent s.next_ticket) (with_reserved_removal (Some r) s)

  -- in room that was made right before
  pub removal-freed : (r : Record K V) (s : State K V P S R) → with_reserved_removal (Some r) (record s { reserved = s.reserved + removal_rooms s.settings }) ≡ with_removed (Some r) s
  removal-freed r s = let same : s.reserved + removal_rooms s.settings - removal_rooms s.settings ≡ s.reserved = omega arith in ap (λ n. with_removed (Some r) (record s { reserved = n })) same

module _ {K V P S R : Type 0} (answers : Answers K V P R) where
  -- where nothing is reported
  pub untold : (e : Entry K V) (now : ℕ) (s : State K V P S R) → s.settings.tells ≡ false → s ≡ removal_told answers e now s
  untold e now s h = sym (ap (λ b. record s { notices = told b (cause_of_removal answers s now e) e s.notices; reserved = cond b (s.reserved - 1) s.reserved }) h)

module _ {K V P S R : Type 0} (answers : Answers K V P R) where
  abbrev over_with : State K V P S R → Record K V → Entry K V → RemovalCause → State K V P S R
  over_with s r e why = with_put answers r.number (r.writes + 1) e.weight r.hash (record s { records = changed_at r.number (next_record e) s.records; notices = told s.settings.tells why r.entry s.notices })

  pub over-written : (s : State K V P S R) (key : K) (value : V) (now step : ℕ) (e : Entry K V) (why : RemovalCause) (r : Record K V)
      → e ≡ next_entry answers s r.entry key value now step → (s.settings.tells ≡ true → why ≡ cause_of_write answers s now r.entry)
      → over s e why r ≡ with_written answers (Some r) s key r.hash value now step
  over-written s key value now step e why r ee ew =
      ap (λ x. over_with s r x why) ee
      ∙ ap (λ ns. with_put answers r.number (r.writes + 1) (next_entry answers s r.entry key value now step).weight r.hash (record s { records = changed_at r.number (next_record (next_entry answers s r.entry key value now step)) s.records; notices = ns })) (told_alike s.settings.tells why (cause_of_write answers s now r.entry) r.entry s.notices ew)

  abbrev pub used : State K V P S R → ℕ → Record K V → Record K V
  used s now r = record r { entry = used_entry answers s now r.entry }

  -- a use of the record in a place, and its read
  pub used-read : (s : State K V P S R) (r : Record K V) (hash now : ℕ) (expires : Option ℕ) → record_at s.records r.number ≡ Some r → expires ≡ (used_entry answers s now r.entry).expires
      → record s { records = changed_at r.number (used-as now expires) s.records; reads = s.reads ++ Hit r.number hash ∷ [] } ≡ with_read answers (Some r) hash now s
  used-read s r hash now expires there e =
      ap (λ rs. record s { records = rs; reads = s.reads ++ Hit r.number hash ∷ [] })
      (changed-alike r.number (used-as now expires) (used s now) s.records r there (ap (λ x. used-as now x r) e))

  -- the read of a record that is gone
  pub gone-read : (s : State K V P S R) (r : Record K V) (number hash now : ℕ) → r.number ≡ number → record_at s.records number ≡ None
      → record s { reads = s.reads ++ Hit number hash ∷ [] } ≡ with_read answers (Some r) hash now s
  gone-read s r number hash now same none =
      ap (λ rs. record s { records = rs; reads = s.reads ++ Hit number hash ∷ [] }) (sym (changed-none number (used s now) s.records none))
      ∙ ap (λ n. record s { records = changed_at n (used s now) s.records; reads = s.reads ++ Hit n hash ∷ [] }) (sym same)

  -- a look-up uses the record in a place, and its read waits
  pub used-in : (old mid new : Kept K V P S R) (place hash now moment : ℕ) (expires : Option ℕ) (r : Record K V) → kept_at old place ≡ Some r → moment ≡ now → expires ≡ (used_entry answers old.state now r.entry).expires
      → (x : Record K V) × (kept_at old place ≡ Some x) × (mid ≡ record old { state = record old.state { records = changed_at x.number (used-as moment expires) old.state.records } })
      → (x : Record K V) × (kept_at mid place ≡ Some x) × (new ≡ record mid { state = record mid.state { reads = mid.state.reads ++ Hit x.number hash ∷ [] } })
      → new.state ≡ with_read answers (Some r) hash now old.state
  used-in old mid new place hash now moment expires r there em ee u p =
      let s = old.state in
      let same : u.0 ≡ r = same_Some _ _ (sym u.1 ∙ there) in
      let mids : mid ≡ record old { state = record s { records = changed_at r.number (used-as moment expires) s.records } } =
      u.2 ∙ ap (λ (x : Record K V). record old { state = record s { records = changed_at x.number (used-as moment expires) s.records } }) same in
      let is : p.0 ≡ used-as moment expires r = same_Some _ _ (sym p.1 ∙ ap (λ (t : Kept K V P S R). kept_at t place) mids ∙ kept-changed old place r (used-as moment expires) (λ x. refl) there) in
      ap (λ (t : Kept K V P S R). t.state) p.2
      ∙ ap (λ (t : Kept K V P S R). record t.state { reads = t.state.reads ++ Hit (p.0).number hash ∷ [] }) mids
      ∙ ap (λ (x : Record K V). record s { records = changed_at r.number (used-as moment expires) s.records; reads = s.reads ++ Hit x.number hash ∷ [] }) is
      ∙ ap (λ (m : ℕ). record s { records = changed_at r.number (used-as m expires) s.records; reads = s.reads ++ Hit r.number hash ∷ [] }) em
      ∙ used-read s r hash now expires (kept-number old place r there) ee

  -- a read of the record of a number, whichever it was
  pub read-alike : (s : State K V P S R) (r x : Record K V) (hash now : ℕ) → x.number ≡ r.number → with_read answers (Some x) hash now s ≡ with_read answers (Some r) hash now s
  read-alike s r x hash now same = ap (λ n. record s { records = changed_at n (used s now) s.records; reads = s.reads ++ Hit n hash ∷ [] }) same
