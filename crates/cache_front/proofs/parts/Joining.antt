-- What maintenance leaves of a part, whether it came or not.
use Rattle.std.proofs.Common.{◌≡◌, ℕ, true, List, [], ◌∷◌, ◌++◌, map, Some, refl, ap, ◌∙◌, inr, ◌⊎◌, append-nil, arith, ◌+◌, ◌<◌, Bool, cond, false, true≢false, ◌||◌, Option, option_map, None, slice_get, sym, subst, is_none, not, slice_set, suc, ◌≤◌, ◌&&◌, inl}
use Rattle.std.proofs.lemmas.Simd.{map-map}
use Rattle.std.proofs.lemmas.List.{map-append}
use Rattle.std.proofs.Math.Bool.{and_comm}
use Rattle.std.proofs.lemmas.Bool.{and_left, or_from, or_left, or_right, and_from, and_parts, ltb-true, false_from_ne_true, cases_Bool}
use Rattle.std.proofs.lemmas.Option.{none-some, same_Some}
use Rattle.std.specs.List.{list_all, find, list_any}
use Rattle.policy_base.specs.Info.{kept_time}
use Rattle.engine_reference.proofs.Accounts.{each-map}
use Rattle.engine_reference.proofs.StayingVisible.{entry_of-there, StaysOrGoes, taken_looks, visible_by_entries}
use Rattle.engine_reference.proofs.TellingSteps.{runs_tell}
use Rattle.engine_reference.proofs.run_laws.Justly.{run_tells_justly}
use Rattle.engine_reference.proofs.run_laws.Rising.{each-own}
use Rattle.engine_reference.specs.Admission.{is_above}
use Rattle.engine_reference.specs.Records.{record_at, held_entries}
use Rattle.engine_reference.specs.RunLaws.Just.{ComesFrom, EachRemoval, IsJust}
use Rattle.engine_reference.specs.RunLaws.Points.{IsInOrder, HasPoint, IsPointed}
use Rattle.engine_reference.specs.Runs.{RunsToEnd}
use Rattle.engine_reference.specs.Soundness.{Each}
use Rattle.engine_reference.specs.Telling.{Removal, TakesAway, removed_entries, entry_of, AreApart, notices_of, notice_of_removal}
use Rattle.engine_reference.specs.Times.{has_come, later, own_expiration}
use Rattle.engine_reference.specs.Visible.{is_covered, is_covered_by, is_visible, visible, passing}
use Rattle.engine_reference.specs.declared.data.Registered.{Registered}
use Rattle.engine_reference.specs.declared.data.Write.TheVariants.{Put}
use Rattle.audit_model.specs.Bytewise.{same}
use Rattle.audit_model.specs.Changes.{newly_held}
use Rattle.audit_model.specs.Commands.{Deed}
use Rattle.audit_model.specs.History.{Value, share}
use Rattle.audit_model.specs.Notes.{is_over, is_told_first, overfills, first_with_key, just_accepted, newcomer, is_succeeded}
use Rattle.audit_model.specs.Situation.{HeldValue, candidate_at, is_dead_at, live_at, is_live_at}
use Rattle.audit_model.specs.Values.{without_key, deadline, deadline_has_come, own_deadline_from, rounded}
use Rattle.audit_model.specs.View.{Candidate}
use Rattle.audit_model.specs.declared.config.Config.{Config}
use Rattle.audit_model.specs.declared.config.Weight.{Weight}
use Rattle.cache_commands.proofs.Held.{key_from_some, absent-items_without, apart-items_without, value_at-items_without, value_at-append, apart-append, first_with_key-map, Stood, stood}
use Rattle.cache_commands.proofs.SameKeys.{equal_from_same, same_from_equal}
use Rattle.cache_commands.proofs.Live.{live_is}
use Rattle.cache_commands.proofs.Weights.{over_is}
use Rattle.cache_commands.specs.Held.{value_at, items_without, is_absent, plain, Corresponds, exceeds, if_live}
use Rattle.cache_commands.specs.Promises.{accepting, deleting}
use Rattle.cache_front.proofs.parts.Items.{ArePlaced, AreParted, value_at-part, apart-of, weight-part, replaced-there, parted-at, parted_changed, corresponds_changed}
use Rattle.cache_front.proofs.parts.Writing.{Kept, notes_of, Judges, dead_is, PointsBack, itself, earlier, points_back, Fits, Fitting, Rec, same_laws, Wrote}
use Rattle.cache_front.specs.Parts.{Stored, Part, service_answers, note_from, part_settings, as_held_value, as_value, items_of, AreMarked, IsBrief, nanos}

notes_are : (removals : List (Removal (List ℕ) Stored)) → map note_from (map notice_of_removal removals) ≡ notes_of removals
notes_are [] = refl
notes_are (gone ∷ removals) = ap (λ ns. note_from (notice_of_removal gone) ∷ ns) (notes_are removals)

each-self : (rs : List Rec) → Each (λ (x : Rec). record_at rs x.number ≡ Some x) rs → Each (ComesFrom rs) rs
each-self rs h = each-map (λ (x : Rec). record_at rs x.number ≡ Some x) (ComesFrom rs) (λ x e. record { owner = x; there = e; number = refl; entry = refl; held = refl }) rs h

module _ {S : Type 0} (now : ℕ) (t new : Part S) where
  -- maintenance did not come, or it ran to its end
  pub data Maintained : Type 0 where
    idle : new ≡ t → Maintained
    ran : RunsToEnd service_answers now t new → Maintained

  -- what it took away and told
  pub record Ran : Type 0 where
    pub removals : List (Removal (List ℕ) Stored)
    pub takes : TakesAway (removed_entries removals) (held_entries t.records) (held_entries new.records)
    pub just : EachRemoval (IsJust service_answers now t) removals
    pub notices : map note_from new.notices ≡ map note_from t.notices ++ notes_of removals
    pub cover : (q : List ℕ) (e : Kept) → entry_of same (held_entries new.records) q ≡ Some e → is_covered service_answers new e ≡ is_covered service_answers t e
    pub comes : Each (ComesFrom t.records) new.records
    pub looks : (q : List ℕ) → StaysOrGoes same removals (held_entries t.records) (held_entries new.records) q
    pub left : ((new ≡ t) × (removals ≡ [])) ⊎ (new.writes ≡ [])

  pub ran_from : IsInOrder t → AreApart same (held_entries t.records) → t.settings.tells ≡ true → Maintained → Ran
  ran_from order apart tells (idle is) = grind (arith, append-nil (map note_from t.notices), each-self t.records (each-own t.records order.sound.records.numbered), each-own t.records order.sound.records.numbered)
  ran_from order apart tells (ran run) =
      let k = run_tells_justly (List ℕ) Stored (List ℕ) S Weight service_answers now t new order run.runs in
      let keeps = (runs_tell (List ℕ) Stored (List ℕ) S Weight service_answers now t new run.runs).keeps in
      record {
        removals = k.removals;
        takes = k.tells.entries;
        just = k.just;
        notices =
            ap (map note_from) (k.tells.notices ∙ ap (λ b. t.notices ++ notices_of b k.removals) tells)
            ∙ map-append note_from t.notices (map notice_of_removal k.removals)
            ∙ ap (λ ns. map note_from t.notices ++ ns) (notes_are k.removals);
        cover = λ q e h. (let place = entry_of-there same (held_entries new.records) q e h in keeps.covered place.0 e place.1);
        comes = k.comes;
        looks = λ q. taken_looks same same_laws k.removals (held_entries t.records) (held_entries new.records) apart k.tells.entries q;
        left = inr (ap (λ (x : Part S). x.writes) run.runs.after ∙ run.runs.applied.writes);
      }

-- Why notes for weight are true, and marks are kept.

-- ---- finding

pub first_with_key-append : (q : List ℕ) (xs ys : List Candidate) (c : Candidate) → first_with_key q xs ≡ Some c → first_with_key q (xs ++ ys) ≡ Some c
first_with_key-append q [] ys c e = absurd (none-some c e)
first_with_key-append q (x ∷ xs) ys c e = grind (arith, first_with_key-append q xs ys c)

pub first_with_key-behind : (q : List ℕ) (xs ys : List Candidate) → first_with_key q xs ≡ None → first_with_key q (xs ++ ys) ≡ first_with_key q ys
first_with_key-behind q [] ys e = refl
first_with_key-behind q (x ∷ xs) ys e = grind (arith, first_with_key-behind q xs ys, none-some x)

pub entry_of-key : (es : List Kept) (q : List ℕ) (e : Kept) → entry_of same es q ≡ Some e → q ≡ e.key
entry_of-key [] q e h = absurd (none-some e h)
entry_of-key (x ∷ es) q e h = grind (arith, entry_of-key es q e, equal_from_same q x.key, Kept)

pub above_is : (capacity : Option ℕ) (weight : ℕ) → is_above capacity weight ≡ exceeds capacity weight
above_is None weight = refl
above_is (Some c) weight = refl

-- a key's own value succeeds a removal, and no other
pub none_deleted : (config : Config) (now : ℕ) (key : List ℕ) (others : List HeldValue) → is_absent key others ≡ true → list_all (λ (x : Candidate). not (is_succeeded (deleting key) x)) (map (candidate_at config now) others) ≡ true
none_deleted config now key [] a = refl
none_deleted config now key (x ∷ others) a = let p = and_parts (not (same key x.value.key)) (is_absent key others) a in and_from _ _ p.0 (none_deleted config now key others p.1)

module _ {S : Type 0} (config : Config) (part_of : List ℕ → ℕ) (made now : ℕ) (part : ℕ) (s : Part S) (parts : List (Part S)) (held : List HeldValue) where
  -- what is known of the part
  pub record Knows : Type 0 where
    pub there : slice_get parts part ≡ Some s
    pub parted : AreParted part_of 0 parts
    pub settings : s.settings ≡ part_settings config made
    pub brief : IsBrief config
    pub early : (q : List ℕ) (e : Kept) → entry_of same (held_entries s.records) q ≡ Some e → (e.written < 9223372036854775808) × (e.used < 9223372036854775808)
    pub in_order : IsInOrder s
    pub sent : s.unsent ≡ []

  module _ (k : Knows) (c : Corresponds (items_of 0 parts) held) (marked : AreMarked s held) where
    abbrev cand : HeldValue → Candidate
    cand h = candidate_at config now h

    placed : ArePlaced part_of part (held_entries s.records)
    placed q e h = (parted-at part_of 0 part parts s k.parted k.there).1 q e h ∙ omega arith

    -- the value held that is an entry
    pub stands_for : (q : List ℕ) (e : Kept) → entry_of same (held_entries s.records) q ≡ Some e → Stood cand (λ h. refl) held q (as_held_value part s e)
    stands_for q e h = grind (arith, stood cand (λ h. refl) (items_of 0 parts) held q (as_held_value part s e) c, value_at-part part_of 0 part parts s q k.parted k.there, placed q e)

    -- it is dead where the entry is past its deadline
    pub dead_from : (q : List ℕ) (e : Kept) (h : HeldValue) → entry_of same (held_entries s.records) q ≡ Some e → plain h ≡ as_held_value part s e → has_come s.settings now e ≡ is_dead_at config now h
    dead_from q e h there is = grind (arith, dead_is)

    -- A REMOVAL FOR WEIGHT OF WHAT WAS HELD IS TRUE: its point is a mark
    pub marked_from : (q : List ℕ) (e : Kept) (h : HeldValue) → entry_of same (held_entries s.records) q ≡ Some e → value_at held q ≡ Some h → IsPointed s e → h.evictable ≡ true
    marked_from q e h there found p = grind (arith, Kept, entry_of-key (held_entries s.records) q e there)

    -- a run that begins from the part as the step found it
    pub fits_held : (deed : Deed) (tail : List Candidate)
        → ((q : List ℕ) (e : Kept) → entry_of same (held_entries s.records) q ≡ Some e → (h : HeldValue) → value_at held q ≡ Some h → is_told_first deed (cand h) ≡ false)
        → Fits (Judges config deed (map cand held) now s) (map cand held ++ tail) (held_entries s.records)
    fits_held deed tail later q e there =
        let st = stands_for q e there in
        record {
          candidate = cand st.value;
          there = first_with_key-append q (map cand held) tail (cand st.value) (first_with_key-map cand (λ h. refl) q held ∙ ap (option_map cand) st.found);
          is = record {
            bytes = ap (λ (h : HeldValue). h.value.bytes) st.is;
            later = later q e there st.value st.found;
            expired = λ past. sym (dead_from q e st.value there st.is) ∙ past;
            explicit = λ covered. ap (λ (h : HeldValue). h.covered) st.is ∙ covered;
            size = λ p. or_left st.value.evictable _ (marked_from q e st.value there st.found p);
          };
        }

    -- ---- a write

    -- the value of a key that is written
    pub record IsNewValue (key : List ℕ) (e : Kept) (t : Part S) (value : Value) : Type 0 where
      pub at : part_of key ≡ part
      pub is_key : value.key ≡ key
      pub is : as_value part e ≡ value
      pub used : e.used ≡ now
      pub accepted : value.accepted_at ≡ now
      pub fresh : is_covered service_answers t e ≡ false
      pub range : now < 9223372036854775808

    module _ (key : List ℕ) (e : Kept) (t : Part S) (value : Value) (w : Wrote now key e s t) (n : IsNewValue key e t value) where
      -- the values held just after the acceptance: the key's other value is gone
      abbrev pub just : List HeldValue
      just = items_without key held ++ newly_held value ∷ []

      abbrev pub parts_t : List (Part S)
      parts_t = slice_set parts part t

      zero_plus : 0 + part ≡ part
      zero_plus = omega arith

      pub parted_t : AreParted part_of 0 parts_t
      parted_t = parted_changed part_of part s t parts held just key (Some e) (Some (newly_held value)) k.parted k.there c n.at w.apart w.found w.cover

      pub there_t : slice_get parts_t part ≡ Some t
      there_t = replaced-there part t s parts k.there

      absent : is_absent value.key (items_without key held) ≡ true
      absent = subst (λ x. is_absent x (items_without key held) ≡ true) (sym n.is_key) (absent-items_without key held c.apart)

      pub value_at-just : (q : List ℕ) → value_at just q ≡ cond (same q key) (Some (newly_held value)) (value_at held q)
      value_at-just q = grind (arith, value_at-append (items_without key held) (newly_held value) q absent, absent, value_at-items_without key q held c.apart)

      new_is : plain (newly_held value) ≡ as_held_value part t e
      new_is = grind arith

      -- the values held just after the acceptance are those of the parts after the write
      pub corresponds_written : Corresponds (items_of 0 parts_t) just
      corresponds_written =
          corresponds_changed part_of part s t parts held just key (Some e) (Some (newly_held value)) k.parted k.there c n.at w.apart w.found w.cover
          (apart-append (items_without key held) (newly_held value) (apart-items_without key held c.apart) absent) value_at-just (ap (λ h. Some h) new_is)

      -- THE KEPT WEIGHT IS THE AUDIT'S: the part is over its share then exactly where what is kept beside the write is above the capacity
      pub over_written : is_over config part (map (λ (h : HeldValue). h.value) just) ≡ is_above t.settings.capacity w.upsert.kept
      over_written =
          let over = over_is config part (items_of 0 parts_t) just (apart-of part_of 0 parts_t parted_t) corresponds_written in
          grind (arith, over, apart-of part_of 0 parts_t parted_t, parted_t, corresponds_written, zero_plus, weight-part 0 part parts_t t there_t, there_t, above_is (option_map (share config) config.capacity) w.upsert.kept)

      values_without : (xs : List HeldValue) → without_key (λ (v : Value). v.key) key (map (λ (x : Candidate). x.value) (map cand xs)) ≡ map (λ (h : HeldValue). h.value) (items_without key xs)
      values_without [] = refl
      values_without (x ∷ xs) = elim (cases_Bool (same key x.value.key)) [
        | inl e ↦ rw e (map-map (λ (x : Candidate). x.value) cand xs)
        | inr e ↦ rw e (ap (λ vs. x.value ∷ vs) (values_without xs))
      ]

      accepted_are : just_accepted (map (λ (x : Candidate). x.value) (map cand held)) (Some value) ≡ map (λ (h : HeldValue). h.value) just
      accepted_are = grind (arith, values_without held, map-append (λ (h : HeldValue). h.value) (items_without key held) (newly_held value ∷ []))

      pub overfills_is : (used : Option (List ℕ)) → overfills config (map cand held) (accepting used value) part ≡ is_above t.settings.capacity w.upsert.kept
      overfills_is used = ap (is_over config part) accepted_are ∙ over_written

      -- A POINT AFTER THE WRITE: the write itself fills its part, or there was one before, of another key's value
      pub data PointIs (owner : Rec) : Type 0 where
        fills : is_above t.settings.capacity w.upsert.kept ≡ true → PointIs owner
        was : same key owner.entry.key ≡ false → record_at s.records owner.number ≡ Some owner → HasPoint s.settings.capacity s.writes (map (λ u. u.write) s.unsent) owner.number → PointIs owner

      pub point_is : (owner : Rec) → record_at t.records owner.number ≡ Some owner → owner.is_held ≡ true → HasPoint t.settings.capacity t.writes (map (λ u. u.write) t.unsent) owner.number → PointIs owner
      point_is owner there held p =
          let back = points_back t.settings.capacity s.writes (Put w.upsert) owner.number
          (subst (λ us. HasPoint t.settings.capacity (s.writes ++ Put w.upsert ∷ []) us owner.number) (ap (λ us. map (λ u. u.write) us) w.unsent)
          (subst (λ ws. HasPoint t.settings.capacity ws (map (λ u. u.write) t.unsent) owner.number) w.writes p)) in
          grind (arith, back, PointsBack t.settings.capacity s.writes (Put w.upsert) owner.number, itself, earlier)

      -- a run that begins after the write
      pub fits_written : (used : Option (List ℕ)) → Fits (Judges config (accepting used value) (map cand held) now t) (map cand (items_without key held) ++ newcomer config value ∷ []) (held_entries t.records)
      fits_written used q x there = elim (cases_Bool (same q key)) [
        | inl f ↦
            let is : e ≡ x = same_Some e x (sym (ap (λ b. cond b (Some e) (entry_of same (held_entries s.records) q)) f) ∙ sym (w.found q) ∙ there) in
            subst (λ y. Fitting (Judges config (accepting used value) (map cand held) now t) (map cand (items_without key held) ++ newcomer config value ∷ []) q y) is (record {
              candidate = newcomer config value;
              there = first_with_key-behind q (map cand (items_without key held)) (newcomer config value ∷ []) (first_none q f)
                  ∙ ap (λ y. cond (same q y) (Some (newcomer config value)) None) n.is_key ∙ ap (λ b. cond b (Some (newcomer config value)) None) f;
              is = record {
                bytes = ap (λ (v : Value). v.bytes) (sym n.is);
                later = refl;
                expired = λ past. dead_new past;
                explicit = λ covered. absurd (true≢false (sym covered ∙ n.fresh));
                size = λ p. ap (overfills config (map cand held) (accepting used value)) (sym (ap (λ (v : Value). v.part) n.is)) ∙ new_size e refl p;
              };
            })
        | inr f ↦
            let in_s : entry_of same (held_entries s.records) q ≡ Some x = sym (ap (λ b. cond b (Some e) (entry_of same (held_entries s.records) q)) f) ∙ sym (w.found q) ∙ there in
            let st = stands_for q x in_s in
            record {
              candidate = cand st.value;
              there = first_with_key-append q (map cand (items_without key held)) (newcomer config value ∷ []) (cand st.value)
                  (first_with_key-map cand (λ h. refl) q (items_without key held) ∙ ap (option_map cand) (value_at-items_without key q held c.apart ∙ ap (λ b. cond b None (value_at held q)) f ∙ st.found));
              is = record {
                bytes = ap (λ (h : HeldValue). h.value.bytes) st.is;
                later = and_left _ (is_none used) (or_from (same st.value.value.key value.key) false (ap (λ y. same y value.key) (key_from_some q held st.value st.found) ∙ ap (same q) n.is_key ∙ f) refl);
                expired = λ past. sym (dead_from q x st.value in_s st.is) ∙ ap (λ z. has_come z now x) (sym w.settings) ∙ past;
                explicit = λ covered. ap (λ (h : HeldValue). h.covered) st.is ∙ sym (w.cover x) ∙ covered;
                size = λ p. old_size x st.value in_s st.found (ap (λ (h : HeldValue). h.value.part) st.is) p;
              };
            }
      ]
        where
          first_none : (q : List ℕ) → same q key ≡ true → first_with_key q (map cand (items_without key held)) ≡ None
          first_none q f = first_with_key-map cand (λ h. refl) q (items_without key held) ∙ ap (option_map cand) (value_at-items_without key q held c.apart ∙ ap (λ b. cond b None (value_at held q)) f)

          dead_new : has_come t.settings now e ≡ true → (newcomer config value).dead ≡ true
          dead_new past =
              let to_now : e.used ≡ value.accepted_at = n.used ∙ sym n.accepted in
              let written : e.written ≡ now = ap (λ (v : Value). v.accepted_at) n.is ∙ n.accepted in
              ap (λ m. deadline_has_come (deadline config value value.accepted_at) m) n.accepted
              ∙ ap (λ u. deadline_has_come (deadline config value u) now) (sym to_now)
              ∙ ap (λ v. deadline_has_come (deadline config v e.used) now) (sym n.is)
              ∙ sym (dead_is config made now part t e k.brief (w.settings ∙ k.settings) (let l = n.range in omega (arith, written, l)) (let l = n.range in let u = n.used in omega (arith, u, l)))
              ∙ past

          new_size : (y : Kept) → y ≡ e → IsPointed t y → overfills config (map cand held) (accepting used value) part ≡ true
          new_size y is p = overfills_is used ∙ by_point (point_is p.owner p.there p.held p.point)
            where
              by_point : PointIs p.owner → is_above t.settings.capacity w.upsert.kept ≡ true
              by_point (fills a) = a
              by_point (was other there h) =
                  let e_key : e.key ≡ key = ap (λ (v : Value). v.key) n.is ∙ n.is_key in
                  absurd (true≢false (sym (same_from_equal key p.owner.entry.key (sym (ap (λ (z : Kept). z.key) (p.entry ∙ is) ∙ e_key))) ∙ other))

          old_size : (y : Kept) (h : HeldValue) → entry_of same (held_entries s.records) q ≡ Some y → value_at held q ≡ Some h → h.value.part ≡ part → IsPointed t y
              → (h.evictable || overfills config (map cand held) (accepting used value) h.value.part) ≡ true
          old_size y h in_s found in_part p = by_point (point_is p.owner p.there p.held p.point)
            where
              by_point : PointIs p.owner → (h.evictable || overfills config (map cand held) (accepting used value) h.value.part) ≡ true
              by_point (fills a) = or_right h.evictable _ (ap (overfills config (map cand held) (accepting used value)) in_part ∙ overfills_is used ∙ a)
              by_point (was other there point) = or_left h.evictable _ (marked_from q y h in_s found (record { owner = p.owner; there = there; held = p.held; entry = p.entry; point = point }))

-- Small facts: own deadlines, what is fresh, what is live, capacity 0.

-- ---- own deadlines are rounded alike

kept_is : (m : ℕ) → m < 18446744073709543424 → kept_time m ≡ rounded m
kept_is m lt = omega arith

later_is : (now d : ℕ) → now + d < 18446744073709543424 → later now d ≡ now + d
later_is now d lt = omega arith

pub own_is : (now : ℕ) (ms : Option ℕ) → now < 9223372036854775808 → ((m : ℕ) → ms ≡ Some m → m ≤ 999999999999) → own_expiration now (option_map nanos ms) ≡ own_deadline_from now ms
own_is now None lt brief = refl
own_is now (Some m) lt brief = grind (arith, later_is now (nanos m), kept_is (now + nanos m))

-- ---- what was just written is not covered

any_none : (test : Registered (List ℕ) → Bool) (ps : List (Registered (List ℕ))) → ((place : ℕ) (p : Registered (List ℕ)) → slice_get ps place ≡ Some p → test p ≡ false) → list_any test ps ≡ false
any_none test [] each = refl
any_none test (p ∷ ps) each = ap (λ b. b || list_any test ps) (each 0 p refl) ∙ any_none test ps (λ place x there. each (suc place) x there)

module _ {S : Type 0} where
  pub fresh_is : (s : Part S) (e : Kept) → s.cleared ≤ e.step → ((place : ℕ) (p : Registered (List ℕ)) → slice_get s.predicates place ≡ Some p → p.step ≤ e.step) → is_covered service_answers s e ≡ false
  fresh_is s e cleared predicates = grind (arith, any_none (λ p. is_covered_by service_answers s.rules p e) s.predicates, false_from_ne_true, ltb-true)

  -- ---- what a look-up answers is the live value

  pub live_value_is : (config : Config) (part_of : List ℕ → ℕ) (made now part : ℕ) (s : Part S) (parts : List (Part S)) (held : List HeldValue) (k : Knows config part_of made now part s parts held) → Corresponds (items_of 0 parts) held
      → (key : List ℕ) → part_of key ≡ part → option_map (λ (v : Value). v.bytes) (live_at config now held key) ≡ option_map (λ (e : Kept). e.value.bytes) (visible service_answers same s now key)
  live_value_is config part_of made now part s parts held k c key at =
      bytes_are (find (λ h. same key h.value.key && is_live_at config now h) held)
      ∙ ap (option_map (λ (h : HeldValue). h.value.bytes)) (live_is config now key (items_of 0 parts) held c)
      ∙ ap (λ o. option_map (λ (h : HeldValue). h.value.bytes) (if_live config now o)) (value_at-part part_of 0 part parts s key k.parted k.there (at ∙ sym zero_plus))
      ∙ by_entry (entry_of same (held_entries s.records) key) refl
      ∙ ap (option_map (λ (e : Kept). e.value.bytes)) (sym (visible_by_entries same service_answers s now key))
    where
      zero_plus : 0 + part ≡ part
      zero_plus = omega arith

      bytes_are : (o : Option HeldValue) → option_map (λ (v : Value). v.bytes) (option_map (λ (h : HeldValue). h.value) o) ≡ option_map (λ (h : HeldValue). h.value.bytes) (option_map plain o)
      bytes_are None = refl
      bytes_are (Some h) = refl

      by_entry : (o : Option Kept) → entry_of same (held_entries s.records) key ≡ o
          → option_map (λ (h : HeldValue). h.value.bytes) (if_live config now (option_map (as_held_value (0 + part) s) o)) ≡ option_map (λ (e : Kept). e.value.bytes) (passing (is_visible service_answers s now) o)
      by_entry None f = refl
      by_entry (Some e) f =
          let early = k.early key e f in
          ap (λ b. option_map (λ (h : HeldValue). h.value.bytes) (cond b (Some (as_held_value (0 + part) s e)) None))
          (ap (λ b. not (is_covered service_answers s e) && not b) (sym (dead_is config made now (0 + part) s e k.brief k.settings early.0 early.1))
          ∙ and_comm (not (is_covered service_answers s e)) (not (has_come s.settings now e)))
          ∙ grind arith
