-- What a run of one part comes to in a call that accepts nothing, and what such calls do: a look-up, a removal that finds nothing, a clear, a predicate.
use Rattle.std.proofs.Common.{◌≡◌, ℕ, suc, true, false, not, List, [], ◌++◌, map, Option, Some, None, slice_get, sym, ap, ◌∙◌, subst, refl, arith, inl, inr, ◌⊎◌, append-nil, ◌+◌, Bool, cond, true≢false, ◌&&◌, ◌||◌, ◌∷◌, option_map, zero, ◌==◌, if◌then◌else◌, slice_set, ⊎_elim}
use Rattle.std.proofs.Math.Bool.{and_comm, or-false}
use Rattle.std.specs.List.{list_all}
use Rattle.std.proofs.lemmas.Option.{none-some}
use Rattle.audit_model.specs.Bytewise.{same}
use Rattle.audit_model.specs.Changes.{held_after, left_held}
use Rattle.audit_model.specs.Commands.{Deed, Nothing, Covering, covers_key}
use Rattle.audit_model.specs.Notes.{are_true_notes, candidates_of, is_succeeded, is_told_first}
use Rattle.audit_model.specs.Situation.{HeldValue, candidate_at, is_dead_at, is_live_at}
use Rattle.audit_model.specs.View.{Candidate}
use Rattle.audit_model.specs.declared.config.Config.{Config}
use Rattle.audit_model.specs.declared.transcript.Note.{Note}
use Rattle.engine_reference.specs.Records.{held_entries, record_at, held_at, changed_at}
use Rattle.engine_reference.specs.Telling.{entry_of, AreApart}
use Rattle.engine_reference.specs.RunLaws.Points.{HasPoint, IsInOrder}
use Rattle.engine_reference.specs.RunLaws.Just.{IsJust, ComesFrom}
use Rattle.cache_commands.specs.Held.{value_at, plain, Corresponds, is_absent}
use Rattle.cache_commands.proofs.Held.{left, value_at-map, apart-map, key_from_some, absent_from_none}
use Rattle.cache_front.specs.Parts.{Part, service_answers, AreMarked, Stands, note_from, as_held_value, as_value, items_of, drained}
use Rattle.cache_front.proofs.parts.Accepting.{all-untold}
use Rattle.cache_front.proofs.parts.Joining.{Knows, fits_held, dead_from, none_deleted, Ran, Maintained, ran_from}
use Rattle.cache_front.proofs.parts.Writing.{Judges, judged, no_point, Kept, notes_of, told_truly, Rec, same_laws, found-at, unlike_other, all_units}
use Rattle.cache_front.proofs.parts.Items.{AreOf, of-removals, left-elsewhere, in_part, marks_elsewhere, decides, parted-at, replaced-there, AreParted, value_at-part, apart-of, corresponds_from, away, parted-with, value_at-elsewhere, corresponds-run, ArePlaced, candidates_placed, marks_everywhere}
use Rattle.engine_reference.specs.Calls.{with_read, used_entry}
use Rattle.engine_reference.specs.Soundness.{IsSound}
use Rattle.engine_reference.specs.Times.{has_come}
use Rattle.engine_reference.specs.Visible.{is_covered, is_visible, passing, visible_record}
use Rattle.engine_reference.proofs.Accounts.{each-map}
use Rattle.engine_reference.proofs.SoundCalls.{held_at-only, held_at-each}
use Rattle.engine_reference.proofs.HeldRecords.{record_at-number}
use Rattle.engine_reference.proofs.run_laws.Fronting.{each-at}
use Rattle.engine_reference.proofs.run_laws.Shown.{entry-held, to-records, from-records, unmatched-changed, held_at-match, read-apart as kept_apart}
use Rattle.cache_commands.specs.Promises.{Done, using, deleting, covering}
use Rattle.cache_commands.proofs.Steps.{none_succeeded, after_plain, corresponds-as, right_to_tell_none}
use Rattle.cache_commands.proofs.SameKeys.{equal_from_same}
use Rattle.std.proofs.lemmas.Bool.{and_parts, and_left, cases_Bool, false_from_ne_true}
use Rattle.cache_commands.specs.Handing.{TellsNone}

-- a key is used, or one is deleted
abbrev pub quiet : Option (List ℕ) → Option (List ℕ) → Deed
quiet uses deletes = record { uses = uses; value = None; deletes = deletes; covers = Nothing; syncs = false }

module _ {S : Type 0} (config : Config) (part_of : List ℕ → ℕ) (made now part : ℕ) (s mid : Part S) (parts : List (Part S)) (held : List HeldValue) (k : Knows config part_of made now part s parts held) (stands : Stands parts held)
    (count : (q : List ℕ) → (x : Part S) × (slice_get parts (part_of q) ≡ Some x)) (apart : AreApart same (held_entries s.records)) (r : Ran now s mid) (uses deletes : Option (List ℕ)) where
  abbrev deed : Deed
  deed = quiet uses deletes

  abbrev all_told : List Note
  all_told = notes_of r.removals

  abbrev before : List Candidate
  before = map (candidate_at config now) held

  abbrev those_left : List HeldValue
  those_left = left_held held deed all_told

  abbrev left_by : HeldValue → HeldValue
  left_by h = held_after config now held deed all_told (map (λ (h : HeldValue). h.value) those_left) h

  -- its notes are true, where no value is told first
  pub right : ((q : List ℕ) (e : Kept) → entry_of same (held_entries s.records) q ≡ Some e → (h : HeldValue) → value_at held q ≡ Some h → is_told_first deed (candidate_at config now h) ≡ false)
      → list_all (λ c. not (is_succeeded deed c)) before ≡ true → are_true_notes config before deed (candidates_of config before deed) all_told ≡ true
  right later none =
      ap (are_true_notes config before deed (before ++ [])) (sym (append-nil all_told))
      ∙ told_truly (Judges config deed before now s) config deed before (IsJust service_answers now s) (λ why x y j h. judged config deed before now s why x y j h)
      r.removals [] (before ++ []) (held_entries s.records) (held_entries mid.records) apart
      (fits_held config part_of made now part s parts held k stands.same (stands.marked part s k.there) deed [] later) r.just r.takes
      (all-untold (λ c. not (is_succeeded deed c)) all_told (before ++ []) (ap (list_all (λ c. not (is_succeeded deed c))) (append-nil before) ∙ none))

  of : AreOf part_of part all_told
  of = of-removals part_of part r.removals (held_entries s.records) (held_entries mid.records) apart (λ q x h. (parted-at part_of 0 part parts s k.parted k.there).1 q x h ∙ omega arith) r.takes

  -- the marks of the part, right after the run
  pub marked_mid : AreMarked mid (map left_by those_left)
  marked_mid = by_run r.left
    where
      by_run : ((mid ≡ s) × (r.removals ≡ [])) ⊎ (mid.writes ≡ []) → AreMarked mid (map left_by those_left)
      by_run (inr nothing) = λ owner at held_now p h found. absurd (no_point mid.settings.capacity (map (λ u. u.write) mid.unsent) owner.number (subst (λ ws. HasPoint mid.settings.capacity ws (map (λ u. u.write) mid.unsent) owner.number) nothing p))
      by_run (inl (is, gone)) =
          subst (λ y. AreMarked y (map left_by those_left)) (sym is)
          (marks_elsewhere config part_of now parts held k.parted stands.same deed all_told (suc part) part s those_left (map (λ (h : HeldValue). h.value) those_left) refl (subst (λ rs. AreOf part_of (suc part) (notes_of rs)) (sym gone) tt)
          (λ e. omega (arith, e)) k.there (in_part config part_of now parts held k.parted stands.same count) (candidates_placed config part_of now parts held k.parted stands.same count)
          (λ q at. ap (λ rs. value_at (left (notes_of rs) (held ++ [])) q) gone ∙ ap (λ ys. value_at ys q) (append-nil held))
          (stands.marked part s k.there))

  -- the marks of all parts, from those of the part
  pub marked_all : (t : Part S) → AreMarked t (map left_by those_left) → (j : ℕ) (x : Part S) → slice_get (slice_set parts part t) j ≡ Some x → AreMarked x (map left_by those_left)
  marked_all t here =
      marks_everywhere config part_of now parts held k.parted stands.same deed all_told part s t those_left (map (λ (h : HeldValue). h.value) those_left) refl of k.there count (candidates_placed config part_of now parts held k.parted stands.same count)
      (λ q other. ap (λ ys. value_at (left all_told ys) q) (append-nil held) ∙ left-elsewhere part_of part all_told held q stands.same.apart of other) stands.marked here

-- ---- what a look-up does: what a read changes

abbrev pub used_if : ℕ → Bool → Kept → Kept
used_if now b x = cond b (record x { used = now }) x

changed-back : (m n : ℕ) (f : Rec → Rec) (rs : List Rec) (o : Rec) → ((x : Rec) → (f x).number ≡ x.number) → ((x : Rec) → (f x).is_held ≡ x.is_held) → ((x : Rec) → (f x).entry.key ≡ x.entry.key) → record_at (changed_at m f rs) n ≡ Some o
    → (y : Rec) × (record_at rs n ≡ Some y) × (y.is_held ≡ o.is_held) × (y.entry.key ≡ o.entry.key)
changed-back m n f [] o number held key h = absurd (none-some o h)
changed-back m n f (x ∷ rs) o number held key h = go (x.number == m) h (λ k. changed-back m n f rs o number held key k)
  where
    first : (y : Rec) → y.is_held ≡ x.is_held → y.entry.key ≡ x.entry.key → (c : Bool) → cond c (Some y) (record_at rs n) ≡ Some o → (z : Rec) × (cond c (Some x) (record_at rs n) ≡ Some z) × (z.is_held ≡ o.is_held) × (z.entry.key ≡ o.entry.key)
    first y a b true e = let is : y ≡ o = cc in (x, refl, sym a ∙ ap (λ (z : Rec). z.is_held) is, sym b ∙ ap (λ (z : Rec). z.entry.key) is)
    first y a b false e = (o, e, refl, refl)

    further : (c : Bool) → cond c (Some x) (record_at (changed_at m f rs) n) ≡ Some o → (record_at (changed_at m f rs) n ≡ Some o → (y : Rec) × (record_at rs n ≡ Some y) × (y.is_held ≡ o.is_held) × (y.entry.key ≡ o.entry.key))
        → (y : Rec) × (cond c (Some x) (record_at rs n) ≡ Some y) × (y.is_held ≡ o.is_held) × (y.entry.key ≡ o.entry.key)
    further true e later = (o, e, refl, refl)
    further false e later = later e

    go : (b : Bool) → record_at (cond b (f x ∷ rs) (x ∷ changed_at m f rs)) n ≡ Some o → (record_at (changed_at m f rs) n ≡ Some o → (y : Rec) × (record_at rs n ≡ Some y) × (y.is_held ≡ o.is_held) × (y.entry.key ≡ o.entry.key))
        → (y : Rec) × (record_at (x ∷ rs) n ≡ Some y) × (y.is_held ≡ o.is_held) × (y.entry.key ≡ o.entry.key)
    go true e later = first (f x) (held x) (key x) (x.number == n) (ap (λ k. cond (k == n) (Some (f x)) (record_at rs n)) (sym (number x)) ∙ e)
    go false e later = further (x.number == n) e later

no_entry : (f : Rec → Rec) (m : ℕ) (key : List ℕ) (rs : List Rec) → ((x : Rec) → (f x).is_held ≡ x.is_held) → ((x : Rec) → (f x).entry.key ≡ x.entry.key) → held_at same rs key ≡ None → held_at same (changed_at m f rs) key ≡ None
no_entry f m key [] held keys h = refl
no_entry f m key (x ∷ rs) held keys h = grind (arith, no_entry f m key rs held keys, none-some x)

module _ {S : Type 0} (now : ℕ) (key : List ℕ) (hash : ℕ) (s mid : Part S) (order : IsInOrder s) (sound : IsSound mid) (apart_s : AreApart same (held_entries s.records)) (r : Ran now s mid) where
  abbrev pub read : Part S
  read = with_read service_answers (visible_record service_answers same s now key) hash now mid

  abbrev pub sees : List ℕ → Kept → Bool
  sees q x = same q key && is_visible service_answers s now x

  -- what stays was there
  pub was_there : (q : List ℕ) (x : Kept) → entry_of same (held_entries mid.records) q ≡ Some x → entry_of same (held_entries s.records) q ≡ Some x
  was_there q x h = elim (r.looks q) [ inl e ↦ sym e ∙ h | inr gone ↦ absurd (none-some x (sym gone.0 ∙ h)) ]

  pub read-found : (o : Option Rec) → held_at same s.records key ≡ o → (q : List ℕ)
      → entry_of same (held_entries (with_read service_answers (passing (λ r. is_visible service_answers s now r.entry) o) hash now mid).records) q ≡ option_map (λ x. used_if now (sees q x) x) (entry_of same (held_entries mid.records) q)
  read-found None none q = grind (arith, Kept, none-some, Rec, entry-held same s.records key, equal_from_same q key, was_there q)
  read-found (Some rec) some q = by_sight (is_visible service_answers s now rec.entry) refl
    where
      entry_s : entry_of same (held_entries s.records) key ≡ Some rec.entry
      entry_s = entry-held same s.records key ∙ ap (option_map (λ (y : Rec). y.entry)) some

      is_rec : (x : Kept) → same q key ≡ true → entry_of same (held_entries mid.records) q ≡ Some x → rec.entry ≡ x
      is_rec x f e = let both : Some rec.entry ≡ Some x = sym entry_s ∙ ap (entry_of same (held_entries s.records)) (sym (equal_from_same q key f)) ∙ was_there q x e in cc

      f : Rec → Rec
      f x = record x { entry = used_entry service_answers mid now x.entry }

      changed : List Rec
      changed = changed_at rec.number f mid.records

      there : record_at s.records rec.number ≡ Some rec
      there = held_at-only same s.records key rec order.sound.records.numbered some

      -- in the changed records
      seen : is_visible service_answers s now rec.entry ≡ true → entry_of same (held_entries changed) q ≡ option_map (λ x. used_if now (sees q x) x) (entry_of same (held_entries mid.records) q)
      seen v = entry-held same changed q ∙ ⊎_elim matched unmatched (cases_Bool (same q key)) ∙ ap (option_map (λ x. used_if now (sees q x) x)) (sym (entry-held same mid.records q))
        where
          unmatched : same q key ≡ false → option_map (λ (y : Rec). y.entry) (held_at same changed q) ≡ option_map (λ x. used_if now (sees q x) x) (option_map (λ (y : Rec). y.entry) (held_at same mid.records q))
          unmatched g =
              ap (option_map (λ (y : Rec). y.entry)) (unmatched-changed same rec.number f q mid.records
              (each-map (ComesFrom s.records) (λ (y : Rec). y.number ≡ rec.number → (same q y.entry.key ≡ false) × (same q (f y).entry.key ≡ false))
              (λ y from at.
              let both : Some from.owner ≡ Some rec = sym from.there ∙ ap (record_at s.records) (from.number ∙ at) ∙ there in
              let own : from.owner ≡ rec = cc in
              let rec_key : rec.entry.key ≡ key = sym (equal_from_same key rec.entry.key (held_at-match same s.records key rec some)) in
              let y_key : y.entry.key ≡ key = ap (λ (x : Kept). x.key) (sym from.entry ∙ ap (λ (z : Rec). z.entry) own) ∙ rec_key in
              (ap (same q) y_key ∙ g, ap (same q) y_key ∙ g)) mid.records r.comes))
              ∙ plain_map (held_at same mid.records q)
            where
              plain_map : (o : Option Rec) → option_map (λ (y : Rec). y.entry) o ≡ option_map (λ x. used_if now (sees q x) x) (option_map (λ (y : Rec). y.entry) o)
              plain_map None = refl
              plain_map (Some y) = ap (λ b. Some (used_if now (b && is_visible service_answers s now y.entry) y.entry)) (sym g)

          matched : same q key ≡ true → option_map (λ (y : Rec). y.entry) (held_at same changed q) ≡ option_map (λ x. used_if now (sees q x) x) (option_map (λ (y : Rec). y.entry) (held_at same mid.records q))
          matched g = by_record (held_at same mid.records q) refl
            where
              by_record : (o : Option Rec) → held_at same mid.records q ≡ o → option_map (λ (y : Rec). y.entry) (held_at same changed q) ≡ option_map (λ x. used_if now (sees q x) x) (option_map (λ (y : Rec). y.entry) o)
              by_record None e = ap (option_map (λ (y : Rec). y.entry)) (no_entry f rec.number q mid.records (λ x. refl) (λ x. refl) e)
              by_record (Some y) e =
                  let in_mid : entry_of same (held_entries mid.records) q ≡ Some y.entry = entry-held same mid.records q ∙ ap (option_map (λ (z : Rec). z.entry)) e in
                  let is : rec.entry ≡ y.entry = is_rec y.entry g in_mid in
                  let at_y = held_at-only same mid.records q y sound.records.numbered e in
                  let from = each-at (ComesFrom s.records) mid.records y.number y r.comes at_y in
                  let number : y.number ≡ rec.number = by_number from (decides from.owner.number rec.number) is in
                  let visible : sees q y.entry ≡ true = ap (λ b. b && is_visible service_answers s now y.entry) g ∙ ap (is_visible service_answers s now) (sym is) ∙ v in
                  ap (option_map (λ (z : Rec). z.entry)) (ap (λ n. held_at same (changed_at n f mid.records) q) (sym number) ∙ found-at q f mid.records y sound.records.numbered e y_held (held_at-match same mid.records q y e))
                  ∙ ap (λ b. Some (used_if now b y.entry)) (sym visible)
                where
                  y_held : y.is_held ≡ true
                  y_held = (held_at-each (λ (z : Rec). Unit {0}) same mid.records q y (all_units mid.records) e).1

                  by_number : (from : ComesFrom s.records y) → Dec (from.owner.number ≡ rec.number) → rec.entry ≡ y.entry → y.number ≡ rec.number
                  by_number from (yes at) is = sym from.number ∙ at
                  by_number from (no other) is =
                      let unlike = unlike_other key s.records rec from.owner (to-records same s.records apart_s) order.sound.records.numbered some from.there (from.held ∙ y_held) other in
                      absurd (true≢false (sym (ap (λ (x : Kept). same key x.key) (from.entry ∙ sym is) ∙ held_at-match same s.records key rec some) ∙ unlike))

      by_sight : (v : Bool) → is_visible service_answers s now rec.entry ≡ v
          → entry_of same (held_entries (with_read service_answers (if v then Some rec else None) hash now mid).records) q ≡ option_map (λ x. used_if now (sees q x) x) (entry_of same (held_entries mid.records) q)
      by_sight true v = seen v
      by_sight false v = unseen (entry_of same (held_entries mid.records) q) refl
        where
          unseen : (o : Option Kept) → entry_of same (held_entries mid.records) q ≡ o → o ≡ option_map (λ x. used_if now (sees q x) x) o
          unseen None e = refl
          unseen (Some x) e = elim (cases_Bool (same q key)) [
            | inl g ↦ ap (λ b. Some (used_if now b x)) (sym (ap (λ b. b && is_visible service_answers s now x) g ∙ ap (is_visible service_answers s now) (sym (is_rec x g e)) ∙ v))
            | inr g ↦ ap (λ b. Some (used_if now (b && is_visible service_answers s now x) x)) (sym g)
          ]

  -- ---- what stays the same

  pub read-cover : (o : Option Rec) (x : Kept) → is_covered service_answers (with_read service_answers o hash now mid) x ≡ is_covered service_answers mid x
  read-cover None x = refl
  read-cover (Some rec) x = refl

  pub read-marked : (o : Option Rec) (xs : List HeldValue) → AreMarked mid xs → AreMarked (drained (with_read service_answers o hash now mid)) xs
  read-marked None xs m owner at held p h found = m owner at held p h found
  read-marked (Some rec) xs m owner at held p h found = grind (arith, changed-back rec.number owner.number, Rec, record_at-number mid.records owner.number)

  pub read-apart : AreApart same (held_entries mid.records) → AreApart same (held_entries read.records)
  read-apart a = from-records same read.records (kept_apart same same_laws service_answers mid (visible_record service_answers same s now key) hash now (to-records same mid.records a))

  used-value : (part : ℕ) (b : Bool) (x : Kept) → as_value part (used_if now b x) ≡ as_value part x
  used-value part true x = refl
  used-value part false x = refl

  used-cover : (b : Bool) (x : Kept) → is_covered service_answers mid (used_if now b x) ≡ is_covered service_answers mid x
  used-cover true x = refl
  used-cover false x = refl

  used-moment : (b : Bool) (x : Kept) → (used_if now b x).used ≡ cond b now x.used
  used-moment true x = refl
  used-moment false x = refl

  module _ (config : Config) (part_of : List ℕ → ℕ) (made part : ℕ) (parts : List (Part S)) (held : List HeldValue) (k : Knows config part_of made now part s parts held) (stands : Stands parts held)
      (count : (q : List ℕ) → (x : Part S) × (slice_get parts (part_of q) ≡ Some x)) (taken : s.notices ≡ []) (at_key : part_of key ≡ part) where
    abbrev pub told : List Note
    told = notes_of r.removals

    abbrev pub f : HeldValue → HeldValue
    f h = held_after config now held (using key) told (map (λ (h : HeldValue). h.value) (left_held held (using key) told)) h

    abbrev pub parts_mid : List (Part S)
    parts_mid = slice_set parts part mid

    abbrev pub parts_new : List (Part S)
    parts_new = slice_set parts part (drained read)

    zero_plus : 0 + part ≡ part
    zero_plus = omega arith

    placed_s : (AreApart same (held_entries s.records)) × ((q : List ℕ) (x : Kept) → entry_of same (held_entries s.records) q ≡ Some x → part_of q ≡ 0 + part)
    placed_s = parted-at part_of 0 part parts s k.parted k.there

    placed_mid : (q : List ℕ) (x : Kept) → entry_of same (held_entries mid.records) q ≡ Some x → part_of q ≡ 0 + part
    placed_mid q x h = placed_s.1 q x (was_there q x h)

    apart_mid : AreApart same (held_entries mid.records)
    apart_mid = away r.removals (held_entries s.records) (held_entries mid.records) apart_s r.takes

    parted_mid : AreParted part_of 0 parts_mid
    parted_mid = parted-with part_of 0 part mid parts k.parted apart_mid placed_mid

    found_read : (q : List ℕ) → entry_of same (held_entries read.records) q ≡ option_map (λ x. used_if now (sees q x) x) (entry_of same (held_entries mid.records) q)
    found_read q = read-found (held_at same s.records key) refl q

    parted_new : AreParted part_of 0 parts_new
    parted_new = parted-with part_of 0 part (drained read) parts k.parted (read-apart apart_mid) (λ q x h. go q x (entry_of same (held_entries mid.records) q) refl (sym (found_read q) ∙ h))
      where
        go : (q : List ℕ) (x : Kept) (o : Option Kept) → entry_of same (held_entries mid.records) q ≡ o → option_map (λ x. used_if now (sees q x) x) o ≡ Some x → part_of q ≡ 0 + part
        go q x None e h = absurd (none-some x h)
        go q x (Some y) e h = placed_mid q y e

    pub corresponds_mid : Corresponds (items_of 0 parts_mid) (left_held held (using key) told)
    corresponds_mid = subst (λ xs. Corresponds (items_of 0 parts_mid) (left told xs)) (sym (append-nil held)) (corresponds-run part_of part s mid parts held r.removals k.parted k.there r.takes r.cover stands.same)

    abbrev xs : List HeldValue
    xs = left_held held (using key) told

    -- a value is used exactly where the part's entry is
    used-alike : (q : List ℕ) (x : Kept) (h : HeldValue) → entry_of same (held_entries mid.records) q ≡ Some x → value_at xs q ≡ Some h → plain h ≡ as_held_value (0 + part) mid x → (same key h.value.key && is_live_at config now h) ≡ sees q x
    used-alike q x h in_mid found is =
        let in_s = was_there q x in_mid in
        let is_s : plain h ≡ as_held_value part s x = is ∙ ap (λ m. as_held_value m mid x) zero_plus ∙ ap (λ b. record (as_held_value part s x) { covered = b }) (r.cover q x in_mid) in
        let dead = dead_from config part_of made now part s parts held k stands.same (stands.marked part s k.there) q x h in_s is_s in
        ap (λ y. same key y && is_live_at config now h) (key_from_some q xs h found) ∙ ap (λ b. b && is_live_at config now h) (same_laws.symm key q)
        ∙ ap (λ b. same q key && b)
        (ap (λ b. not b && not (is_dead_at config now h)) (ap (λ (g : HeldValue). g.covered) is_s)
        ∙ ap (λ b. not (is_covered service_answers s x) && not b) (sym dead)
        ∙ and_comm (not (is_covered service_answers s x)) (not (has_come s.settings now x)))

    after-is : (q : List ℕ) (x : Kept) (h : HeldValue) → entry_of same (held_entries mid.records) q ≡ Some x → value_at xs q ≡ Some h → plain h ≡ as_held_value (0 + part) mid x → plain (f h) ≡ as_held_value (0 + part) (drained read) (used_if now (sees q x) x)
    after-is q x h in_mid found is = grind (arith, used-alike q x, or-false, used-value (0 + part), used-moment, used-cover, read-cover (visible_record service_answers same s now key))

    pub corresponds_read : Corresponds (items_of 0 parts_new) (map f xs)
    corresponds_read =
        corresponds_from (items_of 0 parts_new) (map f xs) (apart-of part_of 0 parts_new parted_new) (apart-map f xs (λ h. refl) ∙ corresponds_mid.apart)
        (λ q. ap (option_map plain) (value_at-map f xs q (λ h. refl)) ∙ by_part q (decides (part_of q) (0 + part)))
      where
        by_part : (q : List ℕ) → Dec (part_of q ≡ 0 + part) → option_map plain (option_map f (value_at xs q)) ≡ value_at (items_of 0 parts_new) q
        by_part q (yes here) =
            go (value_at xs q) refl (entry_of same (held_entries mid.records) q) refl
            ∙ ap (option_map (as_held_value (0 + part) (drained read))) (sym (found_read q))
            ∙ sym (value_at-part part_of 0 part parts_new (drained read) q parted_new (replaced-there part (drained read) s parts k.there) here)
          where
            found : option_map plain (value_at xs q) ≡ option_map (as_held_value (0 + part) mid) (entry_of same (held_entries mid.records) q)
            found = corresponds_mid.found q ∙ value_at-part part_of 0 part parts_mid mid q parted_mid (replaced-there part mid s parts k.there) here

            go : (o : Option HeldValue) → value_at xs q ≡ o → (p : Option Kept) → entry_of same (held_entries mid.records) q ≡ p
                → option_map plain (option_map f o) ≡ option_map (as_held_value (0 + part) (drained read)) (option_map (λ x. used_if now (sees q x) x) p)
            go None e None g = refl
            go None e (Some x) g = absurd (none-some (as_held_value (0 + part) mid x) (sym (ap (option_map plain) e) ∙ found ∙ ap (option_map (as_held_value (0 + part) mid)) g))
            go (Some h) e None g = absurd (none-some (plain h) (sym (ap (option_map (as_held_value (0 + part) mid)) g) ∙ sym found ∙ ap (option_map plain) e))
            go (Some h) e (Some x) g =
                let both : Some (plain h) ≡ Some (as_held_value (0 + part) mid x) = sym (ap (option_map plain) e) ∙ found ∙ ap (option_map (as_held_value (0 + part) mid)) g in
                let is : plain h ≡ as_held_value (0 + part) mid x = cc in
                ap (λ y. Some y) (after-is q x h g e is)
        by_part q (no other) =
            go (value_at xs q) refl
            ∙ corresponds_mid.found q
            ∙ value_at-elsewhere part_of 0 part mid parts q k.parted parted_mid other
            ∙ sym (value_at-elsewhere part_of 0 part (drained read) parts q k.parted parted_new other)
          where
            go : (o : Option HeldValue) → value_at xs q ≡ o → option_map plain (option_map f o) ≡ option_map plain o
            go None e = refl
            go (Some h) e = ap (λ y. Some y) (after_plain config now held (using key) told (map (λ (h : HeldValue). h.value) xs) refl h
                (ap (λ b. cond (b && is_live_at config now h) now h.last_use) (false_from_ne_true (same key h.value.key) (λ g. other (ap part_of (sym (key_from_some q xs h e) ∙ sym (equal_from_same key h.value.key g)) ∙ at_key ∙ sym zero_plus)))))

    -- A LOOK-UP DOES WHAT A STORE PROMISES
    pub look_up_does : Done config now (using key) held (Stands parts_new) (λ notes. notes ≡ map note_from mid.notices)
    look_up_does = record {
      told = told;
      right = right config part_of made now part s mid parts held k stands count apart_s r (Some key) None (λ q e h g found. refl) (none_succeeded config now (Some key) Nothing false held);
      left = record {
        same = corresponds_read;
        marked = marked_all config part_of made now part s mid parts held k stands count apart_s r (Some key) None (drained read)
            (read-marked (visible_record service_answers same s now key) (map f xs) (marked_mid config part_of made now part s mid parts held k stands count apart_s r (Some key) None));
      };
      handed = sym (r.notices ∙ ap (λ ns. map note_from ns ++ told) taken);
    }

-- ---- what a removal of a key does that is not there: nothing, or a run alone

-- a value that is held under another key is not deleted
unlike-absent : (key q : List ℕ) (held : List HeldValue) (h : HeldValue) → is_absent key held ≡ true → value_at held q ≡ Some h → same key h.value.key ≡ false
unlike-absent key q [] h a found = absurd (none-some h found)
unlike-absent key q (x ∷ held) h a found = grind (arith, and_parts (not (same key x.value.key)) (is_absent key held) a, unlike-absent key q held h, true≢false)

module _ {S : Type 0} (config : Config) (part_of : List ℕ → ℕ) (made now : ℕ) (part : ℕ) (s new : Part S) (parts : List (Part S)) (held : List HeldValue)
    (k : Knows config part_of made now part s parts held) (stands : Stands parts held)
    (count : (q : List ℕ) → (x : Part S) × (slice_get parts (part_of q) ≡ Some x))
    (tells : s.settings.tells ≡ true) (taken : s.notices ≡ []) (apart : AreApart same (held_entries s.records))
    (key : List ℕ) (at_key : part_of key ≡ part) (missing : held_at same s.records key ≡ None) (maintained : Maintained now s new) where
  r : Ran now s new
  r = ran_from now s new k.in_order apart tells maintained

  abbrev only_told : List Note
  only_told = notes_of r.removals

  abbrev others : List HeldValue
  others = left_held held (deleting key) only_told

  abbrev left_of : HeldValue → HeldValue
  left_of h = held_after config now held (deleting key) only_told (map (λ (h : HeldValue). h.value) others) h

  abbrev parts_then : List (Part S)
  parts_then = slice_set parts part (drained new)

  plus_zero : 0 + part ≡ part
  plus_zero = omega arith

  absent : is_absent key held ≡ true
  absent = grind (arith, absent_from_none key held, value_at-part part_of 0 part parts s key k.parted k.there (at_key ∙ sym plus_zero), plus_zero, entry-held same s.records key, none-some)

  same_after : Corresponds (items_of 0 parts_then) (map left_of others)
  same_after =
      let run = corresponds-run part_of part s (drained new) parts held r.removals k.parted k.there r.takes r.cover stands.same in
      grind (arith, corresponds-as left_of (items_of 0 parts_then) others (λ h. refl), after_plain config now held (deleting key) only_told (map (λ (h : HeldValue). h.value) others) refl, left only_told, append-nil held, run)

  -- A REMOVAL OF A KEY THAT IS NOT THERE DOES WHAT A STORE PROMISES
  pub miss_does : Done config now (deleting key) held (Stands parts_then) (λ notes. notes ≡ map note_from new.notices)
  miss_does = record {
    told = only_told;
    right = right config part_of made now part s new parts held k stands count apart r None (Some key) (λ q e h g found. and_left (same key g.value.key) true (unlike-absent key q held g absent found)) (none_deleted config now key held absent);
    left = record {
      same = same_after;
      marked = marked_all config part_of made now part s new parts held k stands count apart r None (Some key) (drained new) (marked_mid config part_of made now part s new parts held k stands count apart r None (Some key));
    };
    handed = sym (r.notices ∙ ap (λ ns. map note_from ns ++ only_told) taken);
  }

-- ---- what a clear and a predicate do

module _ {S : Type 0} (which : Covering) where
  -- the part covers these keys too, and is else as it was
  pub record CoversToo (s t : Part S) : Type 0 where
    pub records : t.records ≡ s.records
    pub writes : t.writes ≡ s.writes
    pub unsent : t.unsent ≡ s.unsent
    pub settings : t.settings ≡ s.settings
    pub covers : (q : List ℕ) (e : Kept) → entry_of same (held_entries s.records) q ≡ Some e → is_covered service_answers t e ≡ (is_covered service_answers s e || covers_key e.key which)

  pub data AllCover : List (Part S) → List (Part S) → Type 0 where
    none : AllCover [] []
    next : {parts news : List (Part S)} (s t : Part S) → CoversToo s t → AllCover parts news → AllCover (s ∷ parts) (t ∷ news)

  parted_cover : (part_of : List ℕ → ℕ) (first : ℕ) (parts news : List (Part S)) → AllCover parts news → AreParted part_of first parts → AreParted part_of first news
  parted_cover part_of first all news none p = tt
  parted_cover part_of first all news (next {parts = parts} {news = after} s t h later) p = grind (arith, ArePlaced part_of first, parted_cover part_of (suc first) parts after later p.2)

  there : (parts news : List (Part S)) (k : ℕ) (s : Part S) → AllCover parts news → slice_get parts k ≡ Some s → (t : Part S) × (slice_get news k ≡ Some t) × CoversToo s t
  there all news k s none e = absurd (none-some s e)
  there all news zero s (next x t h later) e = let is : x ≡ s = cc in (t, refl, subst (λ y. CoversToo y t) is h)
  there all news (suc k) s (next {parts = parts} {news = after} x t h later) e = there parts after k s later e

  back : (parts news : List (Part S)) (k : ℕ) (t : Part S) → AllCover parts news → slice_get news k ≡ Some t → (s : Part S) × (slice_get parts k ≡ Some s) × CoversToo s t
  back all news k t none e = absurd (none-some t e)
  back all news zero t (next s x h later) e = let is : x ≡ t = cc in (s, refl, subst (λ y. CoversToo s y) is h)
  back all news (suc k) t (next {parts = parts} {news = after} s x h later) e = back parts after k t later e

  -- A CLEAR OR A PREDICATE DOES WHAT A STORE PROMISES
  pub cover_does : (config : Config) (part_of : List ℕ → ℕ) (now : ℕ) (parts news : List (Part S)) (held : List HeldValue) (old new : List Note) → AllCover parts news → AreParted part_of 0 parts → Stands parts held
      → ((q : List ℕ) → (x : Part S) × (slice_get parts (part_of q) ≡ Some x)) → new ≡ old → Done config now (covering which) held (Stands news) (TellsNone old new)
  cover_does config part_of now parts news held old new all p stands count same_notes = record {
    told = [];
    right = right_to_tell_none config now None which false held;
    left = record {
      same = subst (λ xs. Corresponds (items_of 0 news) (map f xs)) (sym (append-nil held))
          (corresponds_from (items_of 0 news) (map f held) (apart-of part_of 0 news parted) (apart-map f held (λ h. refl) ∙ stands.same.apart)
          (λ q. ap (option_map plain) (value_at-map f held q (λ h. refl)) ∙ at_key q));
      marked = λ k t here. (let b = back parts news k t all here in
          subst (λ xs. AreMarked t (map f xs)) (sym (append-nil held)) (λ owner at held_now point h found.
          marks_elsewhere config part_of now parts held p stands.same (covering which) [] (suc k) k b.0 held (map (λ (h : HeldValue). h.value) (held ++ [])) refl tt (λ e. omega (arith, e)) b.1
          (in_part config part_of now parts held p stands.same count) (candidates_placed config part_of now parts held p stands.same count)
          (λ q e. refl) (stands.marked k b.0 b.1) owner (ap (λ rs. record_at rs owner.number) (sym b.2.records) ∙ at) held_now
          (subst (λ us. HasPoint b.0.settings.capacity b.0.writes us owner.number) (ap (λ us. map (λ u. u.write) us) b.2.unsent)
          (subst (λ ws. HasPoint b.0.settings.capacity ws (map (λ u. u.write) t.unsent) owner.number) b.2.writes
          (subst (λ z. HasPoint z.capacity t.writes (map (λ u. u.write) t.unsent) owner.number) b.2.settings point))) h found));
    };
    handed = record { none = refl; same = same_notes };
  }
    where
      f : HeldValue → HeldValue
      f h = held_after config now held (covering which) [] (map (λ (h : HeldValue). h.value) (held ++ [])) h

      parted : AreParted part_of 0 news
      parted = parted_cover part_of 0 parts news all p

      at_key : (q : List ℕ) → option_map plain (option_map f (value_at held q)) ≡ value_at (items_of 0 news) q
      at_key q = go (count q)
        where
          zero_plus : 0 + part_of q ≡ part_of q
          zero_plus = omega arith

          go : (x : Part S) × (slice_get parts (part_of q) ≡ Some x) → option_map plain (option_map f (value_at held q)) ≡ value_at (items_of 0 news) q
          go s = by_entry (there parts news (part_of q) s.0 all s.1)
            where
              was : option_map plain (value_at held q) ≡ option_map (as_held_value (0 + part_of q) s.0) (entry_of same (held_entries s.0.records) q)
              was = stands.same.found q ∙ value_at-part part_of 0 (part_of q) parts s.0 q p s.1 (sym zero_plus)

              by_entry : (t : Part S) × (slice_get news (part_of q) ≡ Some t) × CoversToo s.0 t → option_map plain (option_map f (value_at held q)) ≡ value_at (items_of 0 news) q
              by_entry t =
                  both (value_at held q) (entry_of same (held_entries s.0.records) q) refl was
                  ∙ ap (λ rs. option_map (as_held_value (0 + part_of q) t.0) (entry_of same (held_entries rs) q)) (sym t.2.records)
                  ∙ sym (value_at-part part_of 0 (part_of q) news t.0 q parted t.1 (sym zero_plus))
                where
                  both : (o : Option HeldValue) (e : Option Kept) → entry_of same (held_entries s.0.records) q ≡ e → option_map plain o ≡ option_map (as_held_value (0 + part_of q) s.0) e
                      → option_map plain (option_map f o) ≡ option_map (as_held_value (0 + part_of q) t.0) e
                  both None None g h = refl
                  both None (Some x) g h = absurd (none-some (as_held_value (0 + part_of q) s.0 x) h)
                  both (Some y) None g h = absurd (none-some (plain y) (sym h))
                  both (Some y) (Some x) g h =
                      let is : plain y ≡ as_held_value (0 + part_of q) s.0 x = cc in
                      ap (λ z. Some z) (ap (λ (z : HeldValue). record z { covered = z.covered || covers_key z.value.key which }) is ∙ ap (λ b. record (as_held_value (0 + part_of q) s.0 x) { covered = b }) (sym (t.2.covers q x g)))
