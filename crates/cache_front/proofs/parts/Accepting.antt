-- What accepting a value does.
use Rattle.std.proofs.Common.{◌≡◌, ℕ, zero, suc, ◌+◌, Bool, cond, true, false, not, ◌&&◌, ◌||◌, List, [], ◌∷◌, ◌++◌, map, Option, option_map, Some, None, slice_get, refl, sym, ap, ◌∙◌, subst, arith, inl, inr, ◌⊎◌, append-nil, if◌then◌else◌, slice_set}
use Rattle.std.specs.List.{find, list_all}
use Rattle.std.proofs.lemmas.Bool.{and_from, and_parts, not-true, not_from_false, or_from, false_from_ne_true, cond_both}
use Rattle.std.proofs.lemmas.List.Folds.{list_all-append}
use Rattle.std.proofs.lemmas.Option.{none-some, cond_some, same_Some}
use Rattle.audit_model.specs.Bytewise.{same}
use Rattle.audit_model.specs.Changes.{all_held_after, held_after, left_held, newly_held, use_after}
use Rattle.audit_model.specs.Commands.{Deed}
use Rattle.audit_model.specs.History.{Value}
use Rattle.audit_model.specs.Notes.{are_true_notes, is_true_note, candidates_of, newcomer, is_succeeded, is_over, tells_size}
use Rattle.audit_model.specs.Situation.{HeldValue, candidate_at, is_dead_at, is_live_at}
use Rattle.audit_model.specs.Values.{untold, without_key}
use Rattle.audit_model.specs.View.{Candidate}
use Rattle.audit_model.specs.declared.config.Config.{Config}
use Rattle.audit_model.specs.declared.transcript.Note.{Note}
use Rattle.engine_reference.specs.declared.rules.causes.RemovalCause.TheVariants as cause
use Rattle.engine_reference.specs.Records.{held_at, held_entries}
use Rattle.engine_reference.specs.Telling.{entry_of}
use Rattle.engine_reference.specs.Times.{has_come}
use Rattle.engine_reference.specs.Visible.{is_covered, cause_of_write, notice_of}
use Rattle.engine_reference.proofs.run_laws.Shown.{entry-held}
use Rattle.cache_commands.specs.Promises.{Done, accepting}
use Rattle.cache_commands.proofs.Steps.{after_plain, corresponds-as}
use Rattle.cache_commands.specs.Held.{value_at, items_without, is_absent, have_own_keys, plain, Corresponds, cause_of_replaced}
use Rattle.cache_commands.proofs.SameKeys.{same-refl, same_from_equal, equal_from_same, same-flip_false}
use Rattle.cache_commands.proofs.Held.{key_from_some, absent_from_none, items_without-absent, absent-items_without, apart-items_without, all-without_key, value_at-map, value_at-items_without, left, first_with_key-map, items_without-map, replaced_truly}
use Rattle.engine_reference.specs.RunLaws.Just.{IsJust}
use Rattle.cache_front.specs.Parts.{Part, service_answers, cause_of, note_from, as_held_value, items_of, AreMarked, Stands, drained}
use Rattle.cache_front.proofs.parts.Items.{value_at-part, AreOf, of-append, of-removals, left-elsewhere, find-candidates, in_part, owner_part, decides, replaced-other, parted-at, corresponds-run, marks_everywhere}
use Rattle.cache_front.proofs.parts.Joining.{Knows, IsNewValue, just, PointIs, fills, was, point_is, fits_written, corresponds_written, over_written, parted_t, there_t, value_at-just, stands_for, dead_from, first_with_key-append, Maintained, Ran, ran_from}
use Rattle.cache_front.proofs.parts.Writing.{Judges, judged, no_point, Kept, notes_of, told_truly, key_of, Rec, Wrote, replaced_by}
use Rattle.engine_reference.specs.RunLaws.Points.{HasPoint}

-- ---- lists

pub without_key-append : {A : Type 0} (of : A → List ℕ) (key : List ℕ) (xs ys : List A) (x : A) → find (λ y. same key (of y)) xs ≡ Some x → without_key of key (xs ++ ys) ≡ without_key of key xs ++ ys
without_key-append of key [] ys x e = absurd (none-some x e)
without_key-append of key (z ∷ xs) ys x e = grind (arith, without_key-append of key xs ys x)

pub all-untold : (p : Candidate → Bool) (notes : List Note) (cs : List Candidate) → list_all p cs ≡ true → list_all p (untold key_of notes cs) ≡ true
all-untold p [] cs all = all
all-untold p (n ∷ notes) cs all = all-untold p notes (without_key key_of n.key cs) (all-without_key p key_of n.key cs all)

-- what is found among those that are left was there
pub left-sub : (notes : List Note) (xs : List HeldValue) (q : List ℕ) (h : HeldValue) → have_own_keys xs ≡ true → value_at (left notes xs) q ≡ Some h → value_at xs q ≡ Some h
left-sub [] xs q h a e = e
left-sub (n ∷ notes) xs q h a e = grind (arith, value_at-items_without, apart-items_without, none-some, left-sub notes)

-- taken notices are no part of what is held
module _ {S : Type 0} where
  pub replaced-twice : (k : ℕ) (a b : Part S) (parts : List (Part S)) → slice_set (slice_set parts k a) k b ≡ slice_set parts k b
  replaced-twice k a b [] = refl
  replaced-twice zero a b (x ∷ parts) = refl
  replaced-twice (suc k) a b (x ∷ parts) = ap (λ xs. x ∷ xs) (replaced-twice k a b parts)

module _ {S : Type 0} (config : Config) (part_of : List ℕ → ℕ) (made now : ℕ) (part : ℕ) (s : Part S) (parts : List (Part S)) (held : List HeldValue)
    (k : Knows config part_of made now part s parts held) (stands : Stands parts held)
    (count : (q : List ℕ) → (x : Part S) × (slice_get parts (part_of q) ≡ Some x))
    (tells : s.settings.tells ≡ true) (taken : s.notices ≡ [])
    (key : List ℕ) (e : Kept) (t : Part S) (value : Value) (w : Wrote now key e s t) (used : Option (List ℕ)) (used_is : (x : List ℕ) → used ≡ Some x → x ≡ key) where
  abbrev pub c : Corresponds (items_of 0 parts) held
  c = stands.same

  abbrev pub marked : AreMarked s held
  marked = stands.marked part s k.there

  abbrev pub cand : HeldValue → Candidate
  cand h = candidate_at config now h

  abbrev pub before : List Candidate
  before = map cand held

  abbrev pub deed : Deed
  deed = accepting used value

  abbrev pub replaced : List Note
  replaced = map note_from (replaced_by now s (held_at same s.records key))

  module _ (n : IsNewValue config part_of made now part s parts held k c marked key e t value) where
    abbrev pub after_replaced : List HeldValue
    after_replaced = just config part_of made now part s parts held k c marked key e t value w n

    abbrev pub rest : List Candidate
    rest = map cand (items_without key held) ++ newcomer config value ∷ []

    pub none_rewritten : list_all (λ (x : Candidate). not (is_succeeded deed x)) rest ≡ true
    none_rewritten = list_all-append (λ (x : Candidate). not (is_succeeded deed x)) (map cand (items_without key held)) (newcomer config value ∷ []) ∙ and_from _ _ (go (items_without key held) (absent-items_without key held c.apart)) refl
      where
        go : (xs : List HeldValue) → is_absent key xs ≡ true → list_all (λ (x : Candidate). not (is_succeeded deed x)) (map cand xs) ≡ true
        go [] a = refl
        go (x ∷ xs) a =
            let p = and_parts (not (same key x.value.key)) (is_absent key xs) a in
            and_from _ _ (not_from_false _ (or_from (same x.value.key value.key) false (ap (same x.value.key) n.is_key ∙ same-flip_false key x.value.key (not-true _ p.0)) refl)) (go xs p.1)

    -- the older value of the key is told first; then the candidates are those of the values just after the acceptance
    pub record First (o : Option Rec) : Type 0 where
      pub truly : (tail : List Note) → are_true_notes config before deed rest tail ≡ true → are_true_notes config before deed (before ++ newcomer config value ∷ []) (map note_from (replaced_by now s o) ++ tail) ≡ true
      pub leaves : (tail : List Note) → left (map note_from (replaced_by now s o) ++ tail) (held ++ newly_held value ∷ []) ≡ left tail after_replaced
      pub of : AreOf part_of part (map note_from (replaced_by now s o))
      pub no_size : (j : ℕ) (vs : List Value) → tells_size j vs (map note_from (replaced_by now s o)) ≡ false

    pub first : (o : Option Rec) → held_at same s.records key ≡ o → First o
    first None none =
        let no_entry : entry_of same (held_entries s.records) key ≡ None = entry-held same s.records key ∙ ap (option_map (λ (r : Rec). r.entry)) none in
        let zero_plus : 0 + part ≡ part = omega arith in
        let no_item : option_map plain (value_at held key) ≡ None = c.found key ∙ value_at-part part_of 0 part parts s key k.parted k.there (n.at ∙ sym zero_plus) ∙ ap (option_map (as_held_value (0 + part) s)) no_entry in
        let absent : is_absent key held ≡ true = absent_from_none key held (none_of (value_at held key) no_item) in
        let is : items_without key held ≡ held = items_without-absent key held absent in
        record {
          truly = λ tail h. ap (λ xs. are_true_notes config before deed (map cand xs ++ newcomer config value ∷ []) tail) (sym is) ∙ h;
          leaves = λ tail. ap (λ xs. left tail (xs ++ newly_held value ∷ [])) (sym is);
          of = tt;
          no_size = λ j vs. refl;
        }
      where
        none_of : (o : Option HeldValue) → option_map plain o ≡ None → o ≡ None
        none_of None f = refl
        none_of (Some h) f = absurd (none-some (plain h) (sym f))
    first (Some r) some =
        let entry : entry_of same (held_entries s.records) key ≡ Some r.entry = entry-held same s.records key ∙ ap (option_map (λ (r : Rec). r.entry)) some in
        let st = stands_for config part_of made now part s parts held k c marked key r.entry entry in
        let h = st.value in
        let h_key : h.value.key ≡ key = key_from_some key held h st.found in
        let r_key : r.entry.key ≡ key = ap (λ (g : HeldValue). g.value.key) (sym st.is) ∙ h_key in
        let note_is : note_from (notice_of (cause_of_write service_answers s now r.entry) r.entry) ≡ record { cause = cause_of_replaced (is_dead_at config now h) h.covered; key = h.value.key; value = h.value.bytes } =
        ap (λ x. record { cause = x; key = r.entry.key; value = r.entry.value.bytes })
        (causes (has_come s.settings now r.entry) (is_covered service_answers s r.entry)
        ∙ ap (λ b. cause_of_replaced b (is_covered service_answers s r.entry)) (dead_from config part_of made now part s parts held k c marked key r.entry h entry st.is)
        ∙ ap (λ b. cause_of_replaced (is_dead_at config now h) b) (sym (ap (λ (g : HeldValue). g.covered) st.is)))
        ∙ ap (λ (v : Value). record { cause = cause_of_replaced (is_dead_at config now h) h.covered; key = v.key; value = v.bytes }) (sym (ap (λ (g : HeldValue). g.value) st.is)) in
        let found : find (λ (x : Candidate). same r.entry.key x.value.key) before ≡ Some (cand h) = first_with_key-map cand (λ g. refl) r.entry.key held ∙ ap (λ q. option_map cand (value_at held q)) r_key ∙ ap (option_map cand) st.found in
        record {
          truly = λ tail rest_true.
              and_from _ _
              (ap (is_true_note config before deed (note_from (notice_of (cause_of_write service_answers s now r.entry) r.entry))) (first_with_key-append r.entry.key before (newcomer config value ∷ []) (cand h) found)
              ∙ ap (λ (m : Note). is_true_note config before deed m (Some (cand h))) note_is
              ∙ replaced_truly config before value h.value h.evictable (is_dead_at config now h) h.covered used (same_from_equal h.value.key value.key (h_key ∙ sym n.is_key)))
              (ap (λ cs. are_true_notes config before deed cs tail)
              (without_key-append key_of r.entry.key before (newcomer config value ∷ []) (cand h) found
              ∙ ap (λ xs. xs ++ newcomer config value ∷ []) (items_without-map cand (λ g. refl) r.entry.key held ∙ ap (λ q. map cand (items_without q held)) r_key))
              ∙ rest_true);
          leaves = λ tail.
              ap (left tail)
              (without_key-append (λ (g : HeldValue). g.value.key) r.entry.key held (newly_held value ∷ []) h (ap (value_at held) r_key ∙ st.found)
              ∙ ap (λ q. items_without q held ++ newly_held value ∷ []) r_key);
          of = (ap part_of r_key ∙ n.at, tt);
          no_size = λ j vs. no_size_of (has_come s.settings now r.entry) (is_covered service_answers s r.entry) j vs r.entry;
        }
      where
        causes : (dead covered : Bool) → cause_of (if dead then cause.Expired else (if covered then cause.Explicit else cause.Replaced)) ≡ cause_of_replaced dead covered
        causes dead covered = grind arith

        no_size_of : (dead covered : Bool) (j : ℕ) (vs : List Value) (x : Kept) → tells_size j vs (note_from (notice_of (if dead then cause.Expired else (if covered then cause.Explicit else cause.Replaced)) x) ∷ []) ≡ false
        no_size_of dead covered j vs x = grind arith

    module _ (new : Part S) (maintained : Maintained now t new) where
      pub r : Ran now t new
      r = ran_from now t new w.in_order w.apart (ap (λ x. x.tells) w.settings ∙ tells) maintained

      abbrev pub told : List Note
      told = replaced ++ notes_of r.removals

      f : First (held_at same s.records key)
      f = first (held_at same s.records key) refl

      -- THE NOTES ARE TRUE
      pub right : are_true_notes config before deed (candidates_of config before deed) told ≡ true
      right =
          f.truly (notes_of r.removals)
          (ap (are_true_notes config before deed rest) (sym (append-nil (notes_of r.removals)))
          ∙ told_truly (Judges config deed before now t) config deed before (IsJust service_answers now t) (λ why x y j h. judged config deed before now t why x y j h)
          r.removals [] rest (held_entries t.records) (held_entries new.records) w.apart
          (fits_written config part_of made now part s parts held k c marked key e t value w n used) r.just r.takes
          (all-untold (λ (x : Candidate). not (is_succeeded deed x)) (notes_of r.removals) rest none_rewritten))

      -- THE NOTES ARE HANDED ON
      pub handed : told ≡ map note_from new.notices
      handed = grind (arith, notes_of r.removals, replaced_by now s (held_at same s.records key))

      abbrev pub parts_new : List (Part S)
      parts_new = slice_set parts part (drained new)

      -- THE VALUES THAT ARE LEFT
      pub corresponds_left : Corresponds (items_of 0 parts_new) (left_held held deed told)
      corresponds_left =
          subst (λ xs. Corresponds (items_of 0 parts_new) xs) (sym (f.leaves (notes_of r.removals)))
          (subst (λ ps. Corresponds (items_of 0 ps) (left (notes_of r.removals) after_replaced)) (replaced-twice part t (drained new) parts)
          (corresponds-run part_of part t (drained new) (slice_set parts part t) after_replaced r.removals (parted_t config part_of made now part s parts held k c marked key e t value w n)
          (there_t config part_of made now part s parts held k c marked key e t value w n) r.takes r.cover
          (corresponds_written config part_of made now part s parts held k c marked key e t value w n)))

      -- the look-up of the same step uses no value that stays
      pub unused : (notes : List Note) (u : Option (List ℕ)) → ((x : List ℕ) → u ≡ Some x → x ≡ key) → (q : List ℕ) (h : HeldValue) → value_at (left notes after_replaced) q ≡ Some h → use_after config now (accepting u value) h ≡ h.last_use
      unused notes None is q h found = refl
      unused notes (Some x) is q h found = ap (λ y. cond (same y h.value.key && is_live_at config now h) now h.last_use) (is x refl) ∙ cond_both (same key h.value.key && is_live_at config now h) now h.last_use (λ u. u ≡ h.last_use) (λ g. sym (now_is (and_parts _ _ g).0)) (λ _. refl)
        where
          now_is : same key h.value.key ≡ true → h.last_use ≡ now
          now_is g =
              let is_q : q ≡ key = sym (key_from_some q (left notes after_replaced) h found) ∙ sym (equal_from_same key h.value.key g) in
              let there : value_at after_replaced q ≡ Some h = left-sub notes after_replaced q h (corresponds_written config part_of made now part s parts held k c marked key e t value w n).apart found in
              let one : newly_held value ≡ h = same_Some (newly_held value) h
              (sym (ap (λ b. cond b (Some (newly_held value)) (value_at held q)) (ap (λ y. same y key) is_q ∙ same-refl key)) ∙ sym (value_at-just config part_of made now part s parts held k c marked key e t value w n q) ∙ there) in
              ap (λ (y : HeldValue). y.last_use) (sym one) ∙ n.accepted

      pub same_after : Corresponds (items_of 0 parts_new) (all_held_after config now held deed told)
      same_after =
          let xs = left_held held deed told in
          corresponds-as (held_after config now held deed told (map (λ (h : HeldValue). h.value) xs)) (items_of 0 parts_new) xs (λ h. refl)
          (λ q h found. after_plain config now held deed told (map (λ (h : HeldValue). h.value) xs) refl h (unused (notes_of r.removals) used used_is q h (subst (λ ys. value_at ys q ≡ Some h) (f.leaves (notes_of r.removals)) found))) corresponds_left

      run_of_part : AreOf part_of part (notes_of r.removals)
      run_of_part = of-removals part_of part r.removals (held_entries t.records) (held_entries new.records) w.apart
          (λ q x h. (parted-at part_of 0 part (slice_set parts part t) t (parted_t config part_of made now part s parts held k c marked key e t value w n) (there_t config part_of made now part s parts held k c marked key e t value w n)).1 q x h ∙ omega arith)
          r.takes

      pub told_of_part : AreOf part_of part told
      told_of_part = of-append part_of part replaced (notes_of r.removals) f.of run_of_part

      -- ---- marks

      value_part : value.part ≡ part
      value_part = ap (λ (v : Value). v.part) (sym n.is)

      right_found : (q : List ℕ) (v : Value) → find (λ (x : Value). same q x.key) (map (λ (x : Candidate). x.value) (candidates_of config before deed)) ≡ Some v → v.part ≡ part_of q
      right_found = find-candidates cand (λ h. refl) held (newcomer config value ∷ []) part_of (in_part config part_of now parts held k.parted c count) (λ q v found. (let own = cond_some (same q value.key) value v found in
          ap (λ (x : Value). x.part) (sym own.1) ∙ value_part ∙ sym n.at ∙ ap part_of (sym (equal_from_same q value.key own.0 ∙ n.is_key))))

      abbrev parts_t' : List (Part S)
      parts_t' = slice_set parts part t

      count_t : (q : List ℕ) → (x : Part S) × (slice_get parts_t' (part_of q) ≡ Some x)
      count_t q = go (decides (part_of q) part)
        where
          go : Dec (part_of q ≡ part) → (x : Part S) × (slice_get parts_t' (part_of q) ≡ Some x)
          go (yes is) = (t, ap (slice_get parts_t') is ∙ there_t config part_of made now part s parts held k c marked key e t value w n)
          go (no other) = let x = count q in (x.0, replaced-other part (part_of q) t parts other ∙ x.1)

      abbrev leftovers : List HeldValue
      leftovers = left_held held deed told

      abbrev left_values : List Value
      left_values = map (λ (h : HeldValue). h.value) leftovers

      leftovers_are : leftovers ≡ left (notes_of r.removals) after_replaced
      leftovers_are = f.leaves (notes_of r.removals)

      marked_here : AreMarked (drained new) (all_held_after config now held deed told)
      marked_here = by_run r.left
        where
          by_run : ((new ≡ t) × (r.removals ≡ [])) ⊎ (new.writes ≡ []) → AreMarked (drained new) (all_held_after config now held deed told)
          by_run (inr none) = λ owner at is_held p h found. absurd (no_point new.settings.capacity (map (λ u. u.write) new.unsent) owner.number (subst (λ ws. HasPoint new.settings.capacity ws (map (λ u. u.write) new.unsent) owner.number) none p))
          by_run (inl (is, no_removals)) = subst (λ y. AreMarked (drained y) (all_held_after config now held deed told)) (sym is) unrun
            where
              leftovers_just : leftovers ≡ after_replaced
              leftovers_just = leftovers_are ∙ ap (λ rs. left (notes_of rs) after_replaced) no_removals

              unrun : AreMarked (drained t) (all_held_after config now held deed told)
              unrun owner at is_held p h found =
                  go (value_at leftovers owner.entry.key) refl (sym (value_at-map (held_after config now held deed told left_values) leftovers owner.entry.key (λ g. refl)) ∙ found)
                where
                  go : (o : Option HeldValue) → value_at leftovers owner.entry.key ≡ o → option_map (held_after config now held deed told left_values) o ≡ Some h → h.evictable ≡ true
                  go None there is = absurd (none-some h is)
                  go (Some g) there is =
                      let one : held_after config now held deed told left_values g ≡ h = cc in
                      ap (λ (y : HeldValue). y.evictable) (sym one) ∙ by_point (point_is config part_of made now part s parts held k c marked key e t value w n owner at is_held p)
                    where
                      there_just : value_at after_replaced owner.entry.key ≡ Some g
                      there_just = ap (λ xs. value_at xs owner.entry.key) (sym leftovers_just) ∙ there

                      own : (entry_of same (held_entries t.records) owner.entry.key ≡ Some owner.entry) × (part_of owner.entry.key ≡ part)
                      own = owner_part config part_of now parts_t' after_replaced (parted_t config part_of made now part s parts held k c marked key e t value w n) (corresponds_written config part_of made now part s parts held k c marked key e t value w n)
                          part t (there_t config part_of made now part s parts held k c marked key e t value w n) owner at is_held

                      g_part : g.value.part ≡ part
                      g_part = in_part config part_of now parts_t' after_replaced (parted_t config part_of made now part s parts held k c marked key e t value w n) (corresponds_written config part_of made now part s parts held k c marked key e t value w n)
                          count_t owner.entry.key g there_just ∙ own.1

                      no_new : tells_size g.value.part (map (λ (x : Candidate). x.value) (candidates_of config before deed)) told ≡ false
                      no_new =
                          ap (tells_size g.value.part (map (λ (x : Candidate). x.value) (candidates_of config before deed))) (ap (λ rs. replaced ++ notes_of rs) no_removals ∙ append-nil replaced)
                          ∙ f.no_size g.value.part (map (λ (x : Candidate). x.value) (candidates_of config before deed))

                      over_kept : (over anew evictable : Bool) → (over ≡ true) ⊎ ((anew ≡ false) × (evictable ≡ true)) → (over || (not (false || anew) && evictable)) ≡ true
                      over_kept over anew evictable h = grind (arith, h)

                      by_point : PointIs config part_of made now part s parts held k c marked key e t value w n owner → (held_after config now held deed told left_values g).evictable ≡ true
                      by_point (fills a) =
                          over_kept (is_over config g.value.part left_values) (tells_size g.value.part (map (λ (x : Candidate). x.value) (candidates_of config before deed)) told) g.evictable
                          (inl (ap (λ m. is_over config m left_values) g_part ∙ ap (λ xs. is_over config part (map (λ (y : HeldValue). y.value) xs)) leftovers_just
                          ∙ over_written config part_of made now part s parts held k c marked key e t value w n ∙ a))
                      by_point (was other there_s point) =
                          let flip : same owner.entry.key key ≡ false = same-flip_false key owner.entry.key other in
                          let in_held : value_at held owner.entry.key ≡ Some g =
                          ap (λ b. cond b (Some (newly_held value)) (value_at held owner.entry.key)) (sym flip) ∙ sym (value_at-just config part_of made now part s parts held k c marked key e t value w n owner.entry.key) ∙ there_just in
                          over_kept (is_over config g.value.part left_values) (tells_size g.value.part (map (λ (x : Candidate). x.value) (candidates_of config before deed)) told) g.evictable
                          (inr (no_new, marked owner there_s is_held point g in_held))

      stays : (q : List ℕ) → (part_of q ≡ part → ⊥) → value_at leftovers q ≡ value_at held q
      stays q other =
          ap (λ xs. value_at xs q) leftovers_are
          ∙ left-elsewhere part_of part (notes_of r.removals) after_replaced q (corresponds_written config part_of made now part s parts held k c marked key e t value w n).apart run_of_part other
          ∙ value_at-just config part_of made now part s parts held k c marked key e t value w n q
          ∙ ap (λ b. cond b (Some (newly_held value)) (value_at held q)) (false_from_ne_true (same q key) (λ g. other (ap part_of (equal_from_same q key g) ∙ n.at)))

      -- ACCEPTING A VALUE DOES WHAT A STORE PROMISES
      pub accept_does : Done config now deed held (Stands parts_new) (λ notes. notes ≡ map note_from new.notices)
      accept_does = record {
        told = told;
        right = right;
        left = record {
          same = same_after;
          marked = marks_everywhere config part_of now parts held k.parted c deed told part s (drained new) leftovers left_values refl told_of_part k.there count right_found stays stands.marked marked_here;
        };
        handed = handed;
      }
