-- What a removal by key does.
use Rattle.std.proofs.Common.{◌≡◌, ℕ, ◌+◌, Bool, cond, true, false, true≢false, not, ◌&&◌, ◌||◌, List, [], ◌∷◌, ◌++◌, map, Option, option_map, Some, None, slice_get, refl, sym, ap, ◌∙◌, subst, arith, inl, inr, ◌⊎◌, append-nil, if◌then◌else◌, slice_set}
use Rattle.std.proofs.lemmas.Bool.{and_from, eqb-true, eq-eqb, and_left, or_left, false_from_ne_true, cases_Bool, cond_both}
use Rattle.std.proofs.lemmas.Option.{none-some}
use Rattle.audit_model.specs.Bytewise.{same}
use Rattle.audit_model.specs.Changes.{all_held_after, held_after, left_held}
use Rattle.audit_model.specs.History.{Value}
use Rattle.audit_model.specs.Notes.{are_true_notes, is_true_note, candidates_of, is_succeeded, is_over, tells_size, overfills}
use Rattle.audit_model.specs.Situation.{HeldValue, candidate_at, is_dead_at}
use Rattle.audit_model.specs.Values.{without_key}
use Rattle.audit_model.specs.View.{Candidate}
use Rattle.audit_model.specs.declared.config.Config.{Config}
use Rattle.audit_model.specs.declared.config.Weight.{Weight}
use Rattle.audit_model.specs.declared.transcript.Note.{Note}
use Rattle.engine_reference.specs.declared.rules.causes.RemovalCause.TheVariants as cause
use Rattle.engine_reference.specs.declared.data.Unsent.{Unsent}
use Rattle.engine_reference.specs.declared.data.Write.TheVariants.{Removed}
use Rattle.engine_reference.specs.Calls.{sent, with_removed, removal_told}
use Rattle.engine_reference.specs.Records.{record_at, held_at, held_entries, changed_at}
use Rattle.engine_reference.specs.Soundness.{AreNumbered}
use Rattle.engine_reference.specs.Telling.{entry_of, AreApart}
use Rattle.engine_reference.specs.Times.{has_come}
use Rattle.engine_reference.specs.Visible.{is_covered, cause_of_removal, notice_of, told as tell}
use Rattle.engine_reference.proofs.Accounts.{each-map, only_one}
use Rattle.engine_reference.proofs.SoundCalls.{held_at-only}
use Rattle.engine_reference.specs.RunLaws.Points.{HasPoint, IsInOrder, CallsStayInOrder}
use Rattle.engine_reference.proofs.run_laws.Ordering.{calls_stay_in_order}
use Rattle.engine_reference.proofs.run_laws.Shown.{RecordsApart, entry-held, to-records, from-records, unmatched-changed, held_at-match, removed-apart}
use Rattle.engine_reference.proofs.run_laws.Swept.{sent-one}
use Rattle.cache_commands.specs.Promises.{Done, deleting}
use Rattle.cache_commands.proofs.Steps.{after_plain, corresponds-as}
use Rattle.cache_commands.specs.Held.{value_at, items_without, plain, Corresponds, cause_of_deleted}
use Rattle.cache_commands.proofs.SameKeys.{equal_from_same, same_from_equal, same-flip_false}
use Rattle.cache_commands.proofs.Held.{key_from_some, absent-items_without, apart-items_without, value_at-map, value_at-items_without, left, first_with_key-map, items_without-map, deleted_truly}
use Rattle.engine_reference.specs.RunLaws.Just.{IsJust}
use Rattle.cache_front.specs.Parts.{Stored, Part, service_answers, cause_of, note_from, as_held_value, items_of, AreMarked, Stands, drained}
use Rattle.cache_front.proofs.parts.Accepting.{replaced-twice, all-untold}
use Rattle.cache_front.proofs.parts.Items.{ArePlaced, AreParted, AreOf, of-removals, left-elsewhere, replaced-there, parted-at, corresponds-run, placed_changed, parted_changed, corresponds_changed, marks_everywhere, candidates_placed}
use Rattle.cache_front.proofs.parts.Joining.{Knows, stands_for, dead_from, marked_from, none_deleted, Maintained, Ran, ran_from}
use Rattle.cache_front.proofs.parts.Writing.{Judges, judged, PointsBack, itself, earlier, points_back, no_point, Kept, Fits, notes_of, told_truly, Rec, same_laws, changed-from, unlike_other}

gone-at : (key : List ℕ) (f : Rec → Rec) (rs : List Rec) (r : Rec) → ((x : Rec) → (f x).is_held ≡ false) → RecordsApart same rs → AreNumbered rs → held_at same rs key ≡ Some r → held_at same (changed_at r.number f rs) key ≡ None
gone-at key f [] r out apart numbered h = absurd (none-some r h)
gone-at key f (x ∷ rs) r out apart numbered h = grind (arith, gone-at key f rs r out apart.1 numbered.1, held_at-only same rs key r numbered.1, eqb-true x.number r.number, eq-eqb r.number r.number refl, equal_from_same key x.entry.key, apart.0, out x, none-some r)

module _ {S : Type 0} (key : List ℕ) (now : ℕ) (s : Part S) (rec : Rec) where
  -- the part after the removal of a key's record, told and sent
  abbrev pub removed : Part S
  removed = sent s.next_ticket (removal_told service_answers rec.entry now (with_removed (Some rec) s))

  pub record TookOut (t : Part S) : Type 0 where
    pub writes : t.writes ≡ s.writes ++ Removed rec.number ∷ []
    pub unsent : t.unsent ≡ []
    pub settings : t.settings ≡ s.settings
    pub cover : (x : Kept) → is_covered service_answers t x ≡ is_covered service_answers s x
    pub notices : t.notices ≡ s.notices ++ notice_of (cause_of_removal service_answers s now rec.entry) rec.entry ∷ []
    pub found : (q : List ℕ) → entry_of same (held_entries t.records) q ≡ cond (same q key) None (entry_of same (held_entries s.records) q)
    pub owners : (owner : Rec) → record_at t.records owner.number ≡ Some owner → owner.is_held ≡ true → (same key owner.entry.key ≡ false) × (record_at s.records owner.number ≡ Some owner)
    pub apart : AreApart same (held_entries t.records)
    pub in_order : IsInOrder t

  pub took_out : IsInOrder s → AreApart same (held_entries s.records) → s.settings.tells ≡ true → s.unsent ≡ [] → held_at same s.records key ≡ Some rec → TookOut removed
  took_out order apart tells sent_all some =
      subst (λ t. TookOut t) (sym is) (record {
        writes = refl;
        unsent = refl;
        settings = refl;
        cover = λ x. refl;
        notices = ap (λ b. tell b (cause_of_removal service_answers s now rec.entry) rec.entry s.notices) tells;
        found = λ q. entry-held same records q ∙ by_key q;
        owners = λ owner there held. elim (changed-from rec.number owner.number f s.records rec owner (λ x. refl) numbered at there) [
          | inl k ↦ absurd (true≢false (sym held ∙ ap (λ (y : Rec). y.is_held) k.1))
          | inr k ↦ (unlike_other key s.records rec owner (to-records same s.records apart) numbered some k.1 held k.0, k.1)
        ];
        apart = from-records same records (removed-apart same same_laws s (Some rec) (to-records same s.records apart));
        in_order = subst (λ t. IsInOrder t) is (law.sent u [] before one (law.removal_told service_answers rec.entry now (with_removed (Some rec) s) (subst (λ o. IsInOrder (with_removed o s)) some (law.removed same key s order))));
      })
    where
      f : Rec → Rec
      f x = record x { is_held = false; writes = x.writes + 1 }

      records : List Rec
      records = changed_at rec.number f s.records

      before : Part S
      before = removal_told service_answers rec.entry now (with_removed (Some rec) s)

      u : Unsent
      u = record { ticket = s.next_ticket; write = Removed rec.number }

      one : before.unsent ≡ u ∷ []
      one = ap (λ us. us ++ u ∷ []) sent_all

      is : removed ≡ record before { unsent = []; writes = s.writes ++ Removed rec.number ∷ [] }
      is = sent-one u before one

      law : CallsStayInOrder (List ℕ) Stored (List ℕ) S Weight
      law = calls_stay_in_order (List ℕ) Stored (List ℕ) S Weight

      numbered : AreNumbered s.records
      numbered = order.sound.records.numbered

      at : record_at s.records rec.number ≡ Some rec
      at = held_at-only same s.records key rec numbered some

      by_key : (q : List ℕ) → option_map (λ (y : Rec). y.entry) (held_at same records q) ≡ cond (same q key) None (entry_of same (held_entries s.records) q)
      by_key q = cond_both (same q key) _ _ (λ o. option_map (λ (y : Rec). y.entry) (held_at same records q) ≡ o)
          (λ t. ap (option_map (λ (y : Rec). y.entry)) (ap (held_at same records) (equal_from_same q key t) ∙ gone-at key f s.records rec (λ x. refl) (to-records same s.records apart) numbered some))
          (λ t. ap (option_map (λ (y : Rec). y.entry)) (unmatched-changed same rec.number f q s.records
          (each-map (λ (y : Rec). y.number ≡ rec.number → y ≡ rec) (λ (y : Rec). y.number ≡ rec.number → (same q y.entry.key ≡ false) × (same q (f y).entry.key ≡ false))
          (λ y k number.
          let y_key : y.entry.key ≡ key = ap (λ (z : Rec). z.entry.key) (k number) ∙ sym (equal_from_same key rec.entry.key (held_at-match same s.records key rec some)) in
          (ap (same q) y_key ∙ t, ap (same q) y_key ∙ t)) s.records (only_one rec.number rec s.records numbered at)))
          ∙ sym (entry-held same s.records q))

module _ {S : Type 0} (config : Config) (part_of : List ℕ → ℕ) (made now : ℕ) (part : ℕ) (s : Part S) (parts : List (Part S)) (held : List HeldValue)
    (k : Knows config part_of made now part s parts held) (stands : Stands parts held)
    (count : (q : List ℕ) → (x : Part S) × (slice_get parts (part_of q) ≡ Some x))
    (tells : s.settings.tells ≡ true) (taken : s.notices ≡ [])
    (key : List ℕ) (rec : Rec) (some : held_at same s.records key ≡ Some rec) (t : Part S) (w : TookOut key now s rec t) (new : Part S) (maintained : Maintained now t new) where
  abbrev pub c : Corresponds (items_of 0 parts) held
  c = stands.same

  abbrev pub marked : AreMarked s held
  marked = stands.marked part s k.there

  abbrev pub cand : HeldValue → Candidate
  cand h = candidate_at config now h

  abbrev pub before : List Candidate
  before = map cand held

  zero_plus : 0 + part ≡ part
  zero_plus = omega arith

  entry : entry_of same (held_entries s.records) key ≡ Some rec.entry
  entry = entry-held same s.records key ∙ ap (option_map (λ (y : Rec). y.entry)) some

  at_key : part_of key ≡ part
  at_key = (parted-at part_of 0 part parts s k.parted k.there).1 key rec.entry entry ∙ zero_plus

  pub r : Ran now t new
  r = ran_from now t new w.in_order w.apart (ap (λ x. x.tells) w.settings ∙ tells) maintained

  abbrev pub own_note : Note
  own_note = note_from (notice_of (cause_of_removal service_answers s now rec.entry) rec.entry)

  abbrev pub told : List Note
  told = own_note ∷ notes_of r.removals

  -- the values held when the key's own is gone
  abbrev pub others : List HeldValue
  others = items_without key held

  abbrev pub parts_t : List (Part S)
  parts_t = slice_set parts part t

  placed_t : ArePlaced part_of (0 + part) (held_entries t.records)
  placed_t = placed_changed part_of part s t parts held others key None None k.parted k.there c at_key w.apart w.found w.cover

  parted_t : AreParted part_of 0 parts_t
  parted_t = parted_changed part_of part s t parts held others key None None k.parted k.there c at_key w.apart w.found w.cover

  there_t : slice_get parts_t part ≡ Some t
  there_t = replaced-there part t s parts k.there

  corresponds_removed : Corresponds (items_of 0 parts_t) others
  corresponds_removed = corresponds_changed part_of part s t parts held others key None None k.parted k.there c at_key w.apart w.found w.cover (apart-items_without key held c.apart) (λ q. value_at-items_without key q held c.apart) refl

  -- a point after the removal was there before
  point_before : (owner : Rec) → HasPoint t.settings.capacity t.writes (map (λ u. u.write) t.unsent) owner.number → HasPoint s.settings.capacity s.writes (map (λ u. u.write) s.unsent) owner.number
  point_before owner p =
      let back = points_back t.settings.capacity s.writes (Removed rec.number) owner.number
      (subst (λ us. HasPoint t.settings.capacity (s.writes ++ Removed rec.number ∷ []) us owner.number) (ap (λ us. map (λ u. u.write) us) w.unsent)
      (subst (λ ws. HasPoint t.settings.capacity ws (map (λ u. u.write) t.unsent) owner.number) w.writes p)) in
      grind (arith, back, PointsBack t.settings.capacity s.writes (Removed rec.number) owner.number, itself, earlier)

  fits_removed : Fits (Judges config (deleting key) before now t) (map cand others) (held_entries t.records)
  fits_removed q x there = elim (cases_Bool (same q key)) [
    | inl f ↦ absurd (none-some x (sym (ap (λ b. cond b None (entry_of same (held_entries s.records) q)) f) ∙ sym (w.found q) ∙ there))
    | inr f ↦
        let in_s : entry_of same (held_entries s.records) q ≡ Some x = sym (ap (λ b. cond b None (entry_of same (held_entries s.records) q)) f) ∙ sym (w.found q) ∙ there in
        let st = stands_for config part_of made now part s parts held k c marked q x in_s in
        record {
          candidate = cand st.value;
          there = first_with_key-map cand (λ h. refl) q others ∙ ap (option_map cand) (value_at-items_without key q held c.apart ∙ ap (λ b. cond b None (value_at held q)) f ∙ st.found);
          is = record {
            bytes = ap (λ (h : HeldValue). h.value.bytes) st.is;
            later = and_left (same key st.value.value.key) true (ap (same key) (key_from_some q held st.value st.found) ∙ same-flip_false q key f);
            expired = λ past. sym (dead_from config part_of made now part s parts held k c marked q x st.value in_s st.is) ∙ ap (λ z. has_come z now x) (sym w.settings) ∙ past;
            explicit = λ covered. ap (λ (h : HeldValue). h.covered) st.is ∙ sym (w.cover x) ∙ covered;
            size = λ p. or_left st.value.evictable (overfills config before (deleting key) st.value.value.part)
                (let own = w.owners p.owner p.there p.held in
                marked_from config part_of made now part s parts held k c marked q x st.value in_s st.found (record { owner = p.owner; there = own.1; held = p.held; entry = p.entry; point = point_before p.owner p.point }));
          };
        }
  ]

  st_key : record { value : HeldValue; found : value_at held key ≡ Some value; is : plain value ≡ as_held_value part s rec.entry }
  st_key = let st = stands_for config part_of made now part s parts held k c marked key rec.entry entry in record { value = st.value; found = st.found; is = st.is }

  rec_key : rec.entry.key ≡ key
  rec_key = ap (λ (g : HeldValue). g.value.key) (sym st_key.is) ∙ key_from_some key held st_key.value st_key.found

  causes : (dead : Bool) → cause_of (if dead then cause.Expired else cause.Explicit) ≡ cause_of_deleted dead
  causes dead = grind arith

  note_is : own_note ≡ record { cause = cause_of_deleted (is_dead_at config now st_key.value); key = st_key.value.value.key; value = st_key.value.value.bytes }
  note_is =
      ap (λ x. record { cause = x; key = rec.entry.key; value = rec.entry.value.bytes })
      (causes (has_come s.settings now rec.entry) ∙ ap cause_of_deleted (dead_from config part_of made now part s parts held k c marked key rec.entry st_key.value entry st_key.is))
      ∙ ap (λ (v : Value). record { cause = cause_of_deleted (is_dead_at config now st_key.value); key = v.key; value = v.bytes }) (sym (ap (λ (g : HeldValue). g.value) st_key.is))

  pub right : are_true_notes config before (deleting key) (candidates_of config before (deleting key)) told ≡ true
  right =
      ap (λ cs. are_true_notes config before (deleting key) cs told) (append-nil before)
      ∙ and_from _ _
      (ap (is_true_note config before (deleting key) own_note) (first_with_key-map cand (λ h. refl) rec.entry.key held ∙ ap (λ q. option_map cand (value_at held q)) rec_key ∙ ap (option_map cand) st_key.found)
      ∙ ap (λ (m : Note). is_true_note config before (deleting key) m (Some (cand st_key.value))) note_is
      ∙ deleted_truly config before key st_key.value.value st_key.value.evictable (is_dead_at config now st_key.value) st_key.value.covered (same_from_equal st_key.value.value.key key (key_from_some key held st_key.value st_key.found)))
      (ap (λ cs. are_true_notes config before (deleting key) cs (notes_of r.removals)) (items_without-map cand (λ h. refl) rec.entry.key held ∙ ap (λ q. map cand (items_without q held)) rec_key)
      ∙ ap (are_true_notes config before (deleting key) (map cand others)) (sym (append-nil (notes_of r.removals)))
      ∙ told_truly (Judges config (deleting key) before now t) config (deleting key) before (IsJust service_answers now t) (λ why x y j h. judged config (deleting key) before now t why x y j h)
      r.removals [] (map cand others) (held_entries t.records) (held_entries new.records) w.apart fits_removed r.just r.takes
      (all-untold (λ x. not (is_succeeded (deleting key) x)) (notes_of r.removals) (map cand others) (none_deleted config now key others (absent-items_without key held c.apart))))

  pub handed : told ≡ map note_from new.notices
  handed = sym (r.notices ∙ ap (λ ns. map note_from ns ++ notes_of r.removals) (w.notices ∙ ap (λ ns. ns ++ notice_of (cause_of_removal service_answers s now rec.entry) rec.entry ∷ []) taken))

  abbrev pub parts_new : List (Part S)
  parts_new = slice_set parts part (drained new)

  abbrev xs : List HeldValue
  xs = left_held held (deleting key) told

  xs_are : xs ≡ left (notes_of r.removals) others
  xs_are = ap (λ ys. left (notes_of r.removals) (without_key (λ (g : HeldValue). g.value.key) rec.entry.key ys)) (append-nil held) ∙ ap (λ q. left (notes_of r.removals) (items_without q held)) rec_key

  same_after : Corresponds (items_of 0 parts_new) (all_held_after config now held (deleting key) told)
  same_after =
      corresponds-as (held_after config now held (deleting key) told (map (λ (h : HeldValue). h.value) xs)) (items_of 0 parts_new) xs (λ h. refl)
      (λ q h found. after_plain config now held (deleting key) told (map (λ (h : HeldValue). h.value) xs) refl h refl)
      (subst (λ ys. Corresponds (items_of 0 parts_new) ys) (sym xs_are)
      (subst (λ ps. Corresponds (items_of 0 ps) (left (notes_of r.removals) others)) (replaced-twice part t (drained new) parts)
      (corresponds-run part_of part t (drained new) parts_t others r.removals parted_t there_t r.takes r.cover corresponds_removed)))

  of_told : AreOf part_of part told
  of_told = (ap part_of rec_key ∙ at_key, of-removals part_of part r.removals (held_entries t.records) (held_entries new.records) w.apart (λ q x h. placed_t q x h ∙ zero_plus) r.takes)

  stays_other : (q : List ℕ) → same q key ≡ false → value_at others q ≡ value_at held q
  stays_other q f = value_at-items_without key q held c.apart ∙ ap (λ b. cond b None (value_at held q)) f

  no_size_of : (dead : Bool) (j : ℕ) (vs : List Value) (x : Kept) → tells_size j vs (note_from (notice_of (if dead then cause.Expired else cause.Explicit) x) ∷ []) ≡ false
  no_size_of dead j vs x = grind arith

  marked_here : AreMarked (drained new) (all_held_after config now held (deleting key) told)
  marked_here = by_run r.left
    where
      kept : (over anew evictable : Bool) → anew ≡ false → evictable ≡ true → (over || (not (false || anew) && evictable)) ≡ true
      kept over anew evictable e f = grind (arith, e, f)

      by_run : ((new ≡ t) × (r.removals ≡ [])) ⊎ (new.writes ≡ []) → AreMarked (drained new) (all_held_after config now held (deleting key) told)
      by_run (inr nothing) = λ owner at held_now p h found. absurd (no_point new.settings.capacity (map (λ u. u.write) new.unsent) owner.number (subst (λ ws. HasPoint new.settings.capacity ws (map (λ u. u.write) new.unsent) owner.number) nothing p))
      by_run (inl (is, gone)) = subst (λ y. AreMarked (drained y) (all_held_after config now held (deleting key) told)) (sym is) unrun
        where
          unrun : AreMarked (drained t) (all_held_after config now held (deleting key) told)
          unrun owner at held_now p h found =
              go (value_at xs owner.entry.key) refl (sym (value_at-map (held_after config now held (deleting key) told (map (λ (h : HeldValue). h.value) xs)) xs owner.entry.key (λ g. refl)) ∙ found)
            where
              go : (o : Option HeldValue) → value_at xs owner.entry.key ≡ o → option_map (held_after config now held (deleting key) told (map (λ (h : HeldValue). h.value) xs)) o ≡ Some h → h.evictable ≡ true
              go None there e = absurd (none-some h e)
              go (Some g) there e =
                  let one : held_after config now held (deleting key) told (map (λ (h : HeldValue). h.value) xs) g ≡ h = cc in
                  let own = w.owners owner at held_now in
                  let in_held : value_at held owner.entry.key ≡ Some g =
                  sym (stays_other owner.entry.key (same-flip_false key owner.entry.key own.0)) ∙ sym (ap (λ ys. value_at ys owner.entry.key) (xs_are ∙ ap (λ rs. left (notes_of rs) others) gone)) ∙ there in
                  ap (λ (y : HeldValue). y.evictable) (sym one)
                  ∙ kept (is_over config g.value.part (map (λ (h : HeldValue). h.value) xs)) (tells_size g.value.part (map (λ (x : Candidate). x.value) (candidates_of config before (deleting key))) told) g.evictable
                  (ap (λ rs. tells_size g.value.part (map (λ (x : Candidate). x.value) (candidates_of config before (deleting key))) (own_note ∷ notes_of rs)) gone
                  ∙ no_size_of (has_come s.settings now rec.entry) g.value.part (map (λ (x : Candidate). x.value) (candidates_of config before (deleting key))) rec.entry)
                  (marked owner own.1 held_now (point_before owner p) g in_held)

  -- A REMOVAL BY KEY DOES WHAT A STORE PROMISES
  pub remove_does : Done config now (deleting key) held (Stands parts_new) (λ notes. notes ≡ map note_from new.notices)
  remove_does = record {
    told = told;
    right = right;
    left = record {
      same = same_after;
      marked =
          marks_everywhere config part_of now parts held k.parted c (deleting key) told part s (drained new) xs (map (λ (h : HeldValue). h.value) xs) refl of_told k.there count (candidates_placed config part_of now parts held k.parted c count)
          (λ q other. ap (λ ys. value_at ys q) xs_are ∙ left-elsewhere part_of part (notes_of r.removals) others q (apart-items_without key held c.apart) of_told.1 other ∙ stays_other q
          (false_from_ne_true (same q key) (λ f. other (ap part_of (equal_from_same q key f) ∙ at_key)))) stands.marked marked_here;
    };
    handed = handed;
  }
