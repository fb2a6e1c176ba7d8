-- What is told of a part's entries is true, if each is told for a cause that is true of the candidate of its key.
use Rattle.std.proofs.Common.{◌≡◌, ℕ, zero, suc, cond, true, false, List, [], ◌∷◌, ◌++◌, map, Some, None, slice_get, remove, refl, sym, ap, ◌∙◌, arith, Option, subst, inl, inr, ◌⊎◌, append-nil, ◌<◌, ◌≤◌, true≢false, ◌||◌, option_map, ◌+◌}
use Rattle.std.proofs.lemmas.Bool.{and_from, or_left, eqb-true, eq-eqb, cases_Bool, cond-false}
use Rattle.std.proofs.lemmas.Option.{none-some}
use Rattle.std.specs.Cmp.{IsEquivalence}
use Rattle.engine_reference.proofs.Accounts.{each-map, only_one}
use Rattle.engine_reference.proofs.SoundCalls.{held_at-only, held_at-each}
use Rattle.engine_reference.proofs.StayingVisible.{AreApart-remove}
use Rattle.engine_reference.proofs.run_laws.Fronting.{each-at}
use Rattle.engine_reference.proofs.run_laws.Ordering.{calls_stay_in_order}
use Rattle.engine_reference.proofs.run_laws.Shown.{RecordsApart, entry-held, to-records, from-records, unmatched-changed, held-push, held_at-match, written-apart}
use Rattle.engine_reference.proofs.run_laws.Swept.{sent-one}
use Rattle.engine_reference.specs.Admission.{is_above}
use Rattle.engine_reference.specs.Calls.{with_written, sent, with_room}
use Rattle.engine_reference.specs.Records.{record_at, held_at, held_entries, held_weight, changed_at}
use Rattle.engine_reference.specs.RunLaws.Just.{EachRemoval, IsJust}
use Rattle.engine_reference.specs.RunLaws.Points.{NoneOf, HasPoint, IsPointed, IsInOrder}
use Rattle.engine_reference.specs.Soundness.{number_of, Each, AreNumbered}
use Rattle.engine_reference.specs.Telling.{Removal, TakesAway, removed_entries, entry_of, AreApart}
use Rattle.engine_reference.specs.Times.{end_of, is_reached, has_come, earlier_of}
use Rattle.engine_reference.specs.Visible.{is_covered, told, notice_of, cause_of_write}
use Rattle.engine_reference.specs.declared.data.Entry.{Entry}
use Rattle.engine_reference.specs.declared.data.Notice.{Notice}
use Rattle.engine_reference.specs.declared.data.Record.{Record}
use Rattle.engine_reference.specs.declared.data.Unsent.{Unsent}
use Rattle.engine_reference.specs.declared.data.Upsert.{Upsert}
use Rattle.engine_reference.specs.declared.data.Write.{Write}
use Rattle.engine_reference.specs.declared.data.Write.TheVariants.{Put}
use Rattle.engine_reference.specs.declared.rules.causes.RemovalCause.{RemovalCause}
use Rattle.audit_model.specs.Bytewise.{same}
use Rattle.audit_model.specs.Commands.{Deed}
use Rattle.audit_model.specs.Notes.{are_true_notes, is_true_note, first_with_key, is_true_cause, is_told_first, overfills, same_cause, first_cause}
use Rattle.audit_model.specs.Situation.{is_dead_at}
use Rattle.audit_model.specs.Values.{without_key, untold, earlier_deadline, after_ms, deadline, deadline_has_come}
use Rattle.audit_model.specs.View.{Candidate}
use Rattle.audit_model.specs.declared.config.Config.{Config}
use Rattle.audit_model.specs.declared.config.Weight.{Weight}
use Rattle.audit_model.specs.declared.transcript.Note.{Note}
use Rattle.cache_commands.proofs.SameKeys.{same-refl, equal_from_same, same_along, same_from_equal, same-flip_false}
use Rattle.cache_front.specs.Parts.{Stored, note_of, Part, service_answers, part_settings, nanos, as_held_value, as_value, IsBrief, value_put, put_entry}

-- ---- entries by their keys

abbrev pub Kept : Type 0
Kept = Entry (List ℕ) Stored

-- the entry at a place is that of its key
pub entry_of-at : (es : List Kept) (i : ℕ) (e : Kept) → AreApart same es → slice_get es i ≡ Some e → entry_of same es e.key ≡ Some e
entry_of-at [] i e a there = absurd (none-some e there)
entry_of-at (x ∷ es) zero e a there = let is : x ≡ e = cc in ap (λ (y : Kept). cond (same e.key y.key) (Some y) (entry_of same es e.key)) is ∙ ap (λ b. cond b (Some e) (entry_of same es e.key)) (same-refl e.key)
entry_of-at (x ∷ es) (suc i) e a there = grind (arith, entry_of-at es i e a.1 there, none-some e, equal_from_same e.key x.key)

-- without the one at a place, others stay
pub entry_of-other : (es : List Kept) (i : ℕ) (e : Kept) (q : List ℕ) → slice_get es i ≡ Some e → same q e.key ≡ false → entry_of same (remove es i) q ≡ entry_of same es q
entry_of-other [] i e q there other = absurd (none-some e there)
entry_of-other (x ∷ es) zero e q there other = let is : x ≡ e = cc in sym (ap (λ b. cond b (Some x) (entry_of same es q)) (ap (λ (y : Kept). same q y.key) is ∙ other))
entry_of-other (x ∷ es) (suc i) e q there other = ap (λ o. cond (same q x.key) (Some x) o) (entry_of-other es i e q there other)

-- its own key has none then
pub entry_of-gone : (es : List Kept) (i : ℕ) (e : Kept) → AreApart same es → slice_get es i ≡ Some e → entry_of same (remove es i) e.key ≡ None
entry_of-gone [] i e a there = absurd (none-some e there)
entry_of-gone (x ∷ es) zero e a there = let is : x ≡ e = cc in ap (λ (y : Kept). entry_of same es y.key) (sym is) ∙ a.0
entry_of-gone (x ∷ es) (suc i) e a there = grind (arith, entry_of-gone es i e a.1 there, remove es i, none-some e, equal_from_same e.key x.key, entry_of-at es i e a.1 there)

-- ---- candidates

abbrev pub key_of : Candidate → List ℕ
key_of c = c.value.key

pub first_with_key-other : (key q : List ℕ) (cs : List Candidate) → same q key ≡ false → first_with_key q (without_key key_of key cs) ≡ first_with_key q cs
first_with_key-other key q [] other = refl
first_with_key-other key q (c ∷ cs) other = grind (arith, first_with_key-other key q cs other, same_along q key c.value.key)

-- the key's candidate, of which something holds together with the entry
pub record Fitting (J : Candidate → Kept → Type 0) (cs : List Candidate) (key : List ℕ) (e : Kept) : Type 0 where
  pub candidate : Candidate
  pub there : first_with_key key cs ≡ Some candidate
  pub is : J candidate e

abbrev pub Fits : (Candidate → Kept → Type 0) → List Candidate → List Kept → Type 0
Fits J cs es = (key : List ℕ) (e : Kept) → entry_of same es key ≡ Some e → Fitting J cs key e

abbrev pub notes_of : List (Removal (List ℕ) Stored) → List Note
notes_of removals = map (λ (gone : Removal (List ℕ) Stored). note_of gone.cause gone.entry) removals

module _ (J : Candidate → Kept → Type 0) where
  pub fits-remove : (cs : List Candidate) (es : List Kept) (i : ℕ) (e : Kept) → AreApart same es → slice_get es i ≡ Some e → Fits J cs es → Fits J (without_key key_of e.key cs) (remove es i)
  fits-remove cs es i e a there f q x here = elim (cases_Bool (same q e.key)) [
    | inl t ↦ absurd (none-some x (sym (ap (entry_of same (remove es i)) (equal_from_same q e.key t) ∙ entry_of-gone es i e a there) ∙ here))
    | inr t ↦
        let k = f q x (sym (entry_of-other es i e q there t) ∙ here) in
        record { candidate = k.candidate; there = first_with_key-other e.key q cs t ∙ k.there; is = k.is }
  ]

  module _ (config : Config) (deed : Deed) (before : List Candidate) (Q : RemovalCause → Kept → Type 0)
      (ok : (why : RemovalCause) (e : Kept) (c : Candidate) → J c e → Q why e → is_true_note config before deed (note_of why e) (Some c) ≡ true) where
    -- the notes of what is taken away are true, if those that come behind them are
    pub told_truly : (removals : List (Removal (List ℕ) Stored)) (tail : List Note) (cs : List Candidate) (old new : List Kept) → AreApart same old → Fits J cs old
        → EachRemoval Q removals → TakesAway (removed_entries removals) old new
        → are_true_notes config before deed (untold key_of (notes_of removals) cs) tail ≡ true → are_true_notes config before deed cs (notes_of removals ++ tail) ≡ true
    told_truly [] tail cs old new a f each t rest = rest
    told_truly (gone ∷ removals) tail cs old new a f each t rest =
        let k = f gone.entry.key gone.entry (entry_of-at old t.0 gone.entry a t.1) in
        and_from _ _
        (ap (is_true_note config before deed (note_of gone.cause gone.entry)) k.there ∙ ok gone.cause gone.entry k.candidate k.is each.0)
        (told_truly removals tail (without_key key_of gone.entry.key cs) (remove old t.0) new (AreApart-remove same old t.0 a) (fits-remove cs old t.0 gone.entry a t.1 f) each.1 t.2 rest)

-- ---- the marks of a part: what a point says, and how marks are kept

-- ---- where a point stands in a queue that grew

cons_parts : (w v : Write) (ws vs : List Write) → w ∷ ws ≡ v ∷ vs → (w ≡ v) × (ws ≡ vs)
cons_parts w v ws vs e = (cc, cc)

no_parts : (before : List Write) (w : Write) (after : List Write) → [] ≡ before ++ w ∷ after → ⊥
no_parts [] w after e = cc
no_parts (x ∷ before) w after e = cc

-- the last of a queue is that one, or it stands behind it
pub record IsBehind (queue before : List Write) (w : Write) (after : List Write) (last : Write) : Type 0 where
  pub rest : List Write
  pub behind : after ≡ rest ++ last ∷ []
  pub queued : queue ≡ before ++ w ∷ rest

pub split_last : (queue before : List Write) (w : Write) (after : List Write) (last : Write) → queue ++ last ∷ [] ≡ before ++ w ∷ after → ((w ≡ last) × (after ≡ []) × (queue ≡ before)) ⊎ IsBehind queue before w after last
split_last [] [] w after last e = let p = cons_parts last w [] after e in inl (sym p.0, sym p.1, refl)
split_last [] (x ∷ before) w after last e = absurd (no_parts before w after (cons_parts last x [] (before ++ w ∷ after) e).1)
split_last (q ∷ queue) [] w after last e = grind (arith, cons_parts q w (queue ++ last ∷ []) after e)
split_last (q ∷ queue) (x ∷ before) w after last e = grind (arith, cons_parts q, split_last queue before w after last)

none_last : (n : ℕ) (ws : List Write) (last : Write) → NoneOf n (ws ++ last ∷ []) → NoneOf n ws × (number_of last ≡ n → ⊥)
none_last n [] last h = (tt, h.0)
none_last n (w ∷ ws) last h = let k = none_last n ws last h.1 in ((h.0, k.0), k.1)

-- a point in a queue with one more write, where all is sent: that write itself is above, or the point was there before and the write is another record's
pub data PointsBack (capacity : Option ℕ) (queue : List Write) (last : Write) (number : ℕ) : Type 0 where
  itself : (peak : Upsert) → last ≡ Put peak → is_above capacity peak.kept ≡ true → PointsBack capacity queue last number
  earlier : (number_of last ≡ number → ⊥) → HasPoint capacity queue [] number → PointsBack capacity queue last number

pub points_back : (capacity : Option ℕ) (queue : List Write) (last : Write) (number : ℕ) → HasPoint capacity (queue ++ last ∷ []) [] number → PointsBack capacity queue last number
points_back capacity queue last number p =
    elim (split_last queue p.before (Put p.peak) p.after last p.stands) [
      | inl h ↦ itself p.peak (sym h.0) p.above
      | inr h ↦
          let none = none_last number h.rest last (subst (λ ws. NoneOf number ws) (append-nil p.after ∙ h.behind) p.last) in
          earlier none.1 (record { before = p.before; peak = p.peak; after = h.rest; stands = h.queued; above = p.above; last = subst (λ ws. NoneOf number ws) (sym (append-nil h.rest)) none.0 })
    ]

-- there is no point where nothing waits
pub no_point : (capacity : Option ℕ) (unsent : List Write) (number : ℕ) → HasPoint capacity [] unsent number → ⊥
no_point capacity unsent number p = no_parts p.before (Put p.peak) p.after p.stands

-- ---- why the causes of a run are true causes

-- ---- causes

module _ (config : Config) (deed : Deed) (before : List Candidate) {S : Type 0} (now : ℕ) (t : Part S) where
  -- what the candidate of an entry's key has to be, so that a run from this state tells it truly
  pub record Judges (c : Candidate) (e : Kept) : Type 0 where
    pub bytes : c.value.bytes ≡ e.value.bytes
    pub later : is_told_first deed c ≡ false
    pub expired : has_come t.settings now e ≡ true → c.dead ≡ true
    pub explicit : is_covered service_answers t e ≡ true → c.covered ≡ true
    pub size : IsPointed t e → (c.evictable || overfills config before deed c.value.part) ≡ true

  pub judged : (why : RemovalCause) (e : Kept) (c : Candidate) → Judges c e → IsJust service_answers now t why e → is_true_note config before deed (note_of why e) (Some c) ≡ true
  judged why e c j just = grind (arith, and_from, same_from_equal e.value.bytes c.value.bytes (sym j.bytes), cond-false (is_told_first deed c) (same_cause (note_of why e).cause (first_cause config before deed c)) (is_true_cause config before deed c (note_of why e).cause) j.later, or_left c.covered)

-- ---- deadlines

pub end_is : (since : ℕ) (time : Option ℕ) → since < 9223372036854775808 → ((ms : ℕ) → time ≡ Some ms → ms ≤ 999999999999) → end_of since (option_map nanos time) ≡ option_map (after_ms since) time
end_is since None lt brief = refl
end_is since (Some ms) lt brief = ap Some (let b = brief ms refl in omega arith)

earlier_is : (a b : Option ℕ) → earlier_of a b ≡ earlier_deadline a b
earlier_is None b = refl
earlier_is (Some a) None = refl
earlier_is (Some a) (Some b) = refl

pub reached_is : (o : Option ℕ) (now : ℕ) → is_reached o now ≡ deadline_has_come o now
reached_is None now = refl
reached_is (Some moment) now = refl

module _ {S : Type 0} where
  -- an entry is past its deadline where the value held is dead
  pub dead_is : (config : Config) (made now part : ℕ) (s : Part S) (e : Kept) → IsBrief config → s.settings ≡ part_settings config made → e.written < 9223372036854775808 → e.used < 9223372036854775808
      → has_come s.settings now e ≡ is_dead_at config now (as_held_value part s e)
  dead_is config made now part s e brief settings written used =
      let earlier = earlier_is (option_map (after_ms e.written) config.live_ms) (option_map (after_ms e.used) config.idle_ms) in
      let earlier2 = earlier_is e.expires (earlier_deadline (option_map (after_ms e.written) config.live_ms) (option_map (after_ms e.used) config.idle_ms)) in
      grind (arith, end_is e.written config.live_ms written brief.live, end_is e.used config.idle_ms used brief.idle, earlier, earlier2, reached_is (deadline config (as_value part e) e.used) now)

-- What a write leaves of a part.

abbrev pub Rec : Type 0
Rec = Record (List ℕ) Stored

-- keys that are the same are equal
pub same_laws : IsEquivalence same
same_laws = record {
  refl = same-refl;
  symm = λ x y. either_way x y;
  congr = λ x y z e. ap (λ k. same k z) (equal_from_same x y e);
}
  where
    either_way : (x y : List ℕ) → same x y ≡ same y x
    either_way x y = grind (arith, same_from_equal y x, equal_from_same x y, same-flip_false x y)

-- ---- the record of a key that changed

pub found-at : (key : List ℕ) (f : Rec → Rec) (rs : List Rec) (r : Rec) → AreNumbered rs → held_at same rs key ≡ Some r → (f r).is_held ≡ true → same key (f r).entry.key ≡ true → held_at same (changed_at r.number f rs) key ≡ Some (f r)
found-at key f [] r numbered h held match = absurd (none-some r h)
found-at key f (x ∷ rs) r numbered h held match = grind (arith, found-at key f rs r numbered.1, held_at-only same rs key r numbered.1, eqb-true x.number r.number, eq-eqb r.number r.number refl, none-some r)

-- what is found after a change was changed, or was there
pub changed-from : (m n : ℕ) (f : Rec → Rec) (rs : List Rec) (r o : Rec) → ((x : Rec) → (f x).number ≡ x.number) → AreNumbered rs → record_at rs m ≡ Some r → record_at (changed_at m f rs) n ≡ Some o
    → ((n ≡ m) × (o ≡ f r)) ⊎ ((n ≡ m → ⊥) × (record_at rs n ≡ Some o))
changed-from m n f [] r o keeps numbered there h = absurd (none-some r there)
changed-from m n f (x ∷ rs) r o keeps numbered there h = grind (arith, changed-from m n f rs r o keeps numbered.1, eqb-true x.number n, true≢false, eq-eqb x.number x.number refl, eqb-true x.number m)

pub pushed-from : (n : ℕ) (rs : List Rec) (x o : Rec) → record_at (rs ++ x ∷ []) n ≡ Some o → (record_at rs n ≡ Some o) ⊎ (o ≡ x)
pushed-from n [] x o h = grind (arith, none-some o)
pushed-from n (r ∷ rs) x o h = grind (arith, pushed-from n rs x o)

pub held-pushed : (key : List ℕ) (rs : List Rec) (x : Rec) → held_at same rs key ≡ None → x.is_held ≡ true → same key x.entry.key ≡ true → held_at same (rs ++ x ∷ []) key ≡ Some x
held-pushed key [] x none held match = grind arith
held-pushed key (r ∷ rs) x none held match = grind (arith, held-pushed key rs x, none-some r)

-- where no record of the key is held, none that is held has the key
pub unlike_none : (key : List ℕ) (rs : List Rec) (n : ℕ) (owner : Rec) → held_at same rs key ≡ None → record_at rs n ≡ Some owner → owner.is_held ≡ true → same key owner.entry.key ≡ false
unlike_none key [] n owner none there held = absurd (none-some owner there)
unlike_none key (x ∷ rs) n owner none there held = grind (arith, unlike_none key rs n owner, none-some x)

-- nor does any but the one that is found
pub unlike_other : (key : List ℕ) (rs : List Rec) (r owner : Rec) → RecordsApart same rs → AreNumbered rs → held_at same rs key ≡ Some r → record_at rs owner.number ≡ Some owner → owner.is_held ≡ true
    → (owner.number ≡ r.number → ⊥) → same key owner.entry.key ≡ false
unlike_other key [] r owner apart numbered some there held other = absurd (none-some r some)
unlike_other key (x ∷ rs) r owner apart numbered some there held other = grind (arith, unlike_other key rs r owner apart.1 numbered.1, unlike_none key rs owner.number owner, equal_from_same key x.entry.key, apart.0)

pub all_units : (rs : List Rec) → Each (λ (y : Rec). Unit {0}) rs
all_units [] = tt
all_units (r ∷ rs) = (tt, all_units rs)

-- ---- a write

module _ {S : Type 0} where
  -- the note of what is written over
  abbrev pub replaced_by : ℕ → Part S → Option Rec → List (Notice (List ℕ) Stored)
  replaced_by now s None = []
  replaced_by now s (Some r) = notice_of (cause_of_write service_answers s now r.entry) r.entry ∷ []

  -- what a write of this entry does to a part with nothing unsent
  pub record Wrote (now : ℕ) (key : List ℕ) (e : Entry (List ℕ) Stored) (s t : Part S) : Type 0 where
    pub upsert : Upsert
    pub writes : t.writes ≡ s.writes ++ Put upsert ∷ []
    pub unsent : t.unsent ≡ []
    pub kept : upsert.kept ≡ held_weight t.records
    pub settings : t.settings ≡ s.settings
    pub cover : (x : Entry (List ℕ) Stored) → is_covered service_answers t x ≡ is_covered service_answers s x
    pub notices : t.notices ≡ s.notices ++ replaced_by now s (held_at same s.records key)
    pub found : (q : List ℕ) → entry_of same (held_entries t.records) q ≡ cond (same q key) (Some e) (entry_of same (held_entries s.records) q)
    pub owners : (owner : Rec) → record_at t.records owner.number ≡ Some owner → owner.is_held ≡ true
        → ((owner.number ≡ upsert.number) × (owner.entry ≡ e)) ⊎ ((upsert.number ≡ owner.number → ⊥) × (same key owner.entry.key ≡ false) × (record_at s.records owner.number ≡ Some owner))
    pub apart : AreApart same (held_entries t.records)
    pub in_order : IsInOrder t

  module _ (key : List ℕ) (hash : ℕ) (value : Stored) (now step : ℕ) (s : Part S) (order : IsInOrder s) (apart : AreApart same (held_entries s.records)) (tells : s.settings.tells ≡ true) (sent_all : s.unsent ≡ []) where
    e : Entry (List ℕ) Stored
    e = put_entry s key value now step

    abbrev before_sent : Option Rec → Part S
    before_sent o = with_written service_answers o (with_room s) key hash value now step

    room_order : IsInOrder (with_room s)
    room_order = (calls_stay_in_order (List ℕ) Stored (List ℕ) S Weight).room s order

    written-order : (o : Option Rec) → held_at same s.records key ≡ o → IsInOrder (before_sent o)
    written-order o h =
        let k = calls_stay_in_order (List ℕ) Stored (List ℕ) S Weight in
        subst (λ o. IsInOrder (before_sent o)) h (k.written same service_answers (with_room s) key hash value now step (k.room s order))

    sent-order : (o : Option Rec) (u : Unsent) → (before_sent o).unsent ≡ u ∷ [] → IsInOrder (before_sent o) → IsInOrder (sent u.ticket (before_sent o))
    sent-order o u h k = (calls_stay_in_order (List ℕ) Stored (List ℕ) S Weight).sent u [] (before_sent o) h k

    records-apart : (o : Option Rec) → held_at same s.records key ≡ o → AreApart same (held_entries (before_sent o).records)
    records-apart o h = from-records same (before_sent o).records (written-apart same same_laws service_answers (with_room s) key hash value now step o h (room_order).sound (to-records same s.records apart))

    -- what was found under another key, and under this one
    by_key : (records : List Rec) → ((q : List ℕ) → same q key ≡ false → held_at same records q ≡ held_at same s.records q) → (x : Rec) → held_at same records key ≡ Some x → x.entry ≡ put_entry s key value now step
        → (q : List ℕ) → entry_of same (held_entries records) q ≡ cond (same q key) (Some (put_entry s key value now step)) (entry_of same (held_entries s.records) q)
    by_key records others x own is q = grind (arith, equal_from_same q key, entry-held same records key, entry-held same records q, entry-held same s.records q)

    pub wrote : Wrote now key (put_entry s key value now step) s (value_put key hash value now step s)
    wrote = go (held_at same s.records key) refl
      where
        go : (o : Option Rec) → held_at same s.records key ≡ o → Wrote now key (put_entry s key value now step) s (sent s.next_ticket (before_sent o))
        go None none =
            let x : Rec = record { number = s.next_number; hash = hash; entry = put_entry s key value now step; is_held = true; writes = 1; applied = 0; counts = None } in
            let w : Upsert = record { number = s.next_number; write = 1; weight = (put_entry s key value now step).weight; hash = hash; kept = held_weight (s.records ++ x ∷ []) } in
            let u : Unsent = record { ticket = s.next_ticket; write = Put w } in
            let one : (before_sent None).unsent ≡ u ∷ [] = ap (λ us. us ++ u ∷ []) sent_all in
            let is = sent-one u (before_sent None) one in
            subst (λ t. Wrote now key (put_entry s key value now step) s t) (sym is) (record {
              upsert = w;
              writes = refl;
              unsent = refl;
              kept = refl;
              settings = refl;
              cover = λ y. refl;
              notices = sym (append-nil s.notices) ∙ ap (λ o. s.notices ++ replaced_by now s o) (sym none);
              found = by_key (s.records ++ x ∷ []) (λ q t. held-push same s.records x q t) x (held-pushed key s.records x none refl (same-refl key)) refl;
              owners = λ owner there held. elim (pushed-from owner.number s.records x owner there) [
                | inl k ↦ inr ((λ same_number. (let less = each-at (λ (y : Rec). y.number < s.next_number) s.records owner.number owner order.sound.records.below k in omega (arith, less, same_number))), unlike_none key s.records owner.number owner none k held, k)
                | inr k ↦ inl (ap (λ (y : Rec). y.number) k, ap (λ (y : Rec). y.entry) k)
              ];
              apart = records-apart None none;
              in_order = subst (λ t. IsInOrder t) is (sent-order None u one (written-order None none));
            })
        go (Some r) some =
            let f : Rec → Rec = λ x. record x { entry = put_entry s key value now step; writes = x.writes + 1 } in
            let records = changed_at r.number f s.records in
            let w : Upsert = record { number = r.number; write = r.writes + 1; weight = (put_entry s key value now step).weight; hash = hash; kept = held_weight records } in
            let u : Unsent = record { ticket = s.next_ticket; write = Put w } in
            let one : (before_sent (Some r)).unsent ≡ u ∷ [] = ap (λ us. us ++ u ∷ []) sent_all in
            let is = sent-one u (before_sent (Some r)) one in
            let numbered = order.sound.records.numbered in
            let there = held_at-only same s.records key r numbered some in
            let held : r.is_held ≡ true = (held_at-each (λ (y : Rec). Unit {0}) same s.records key r (all_units s.records) some).1 in
            let mine = held_at-match same s.records key r some in
            let others : ((q : List ℕ) → same q key ≡ false → held_at same records q ≡ held_at same s.records q) = λ q t.
            unmatched-changed same r.number f q s.records
            (each-map (λ (y : Rec). y.number ≡ r.number → y ≡ r) (λ (y : Rec). y.number ≡ r.number → (same q y.entry.key ≡ false) × (same q (f y).entry.key ≡ false))
            (λ y k at. (ap (λ (z : Rec). same q z.entry.key) (k at) ∙ ap (same q) (sym (equal_from_same key r.entry.key mine)) ∙ t, t)) s.records (only_one r.number r s.records numbered there)) in
            subst (λ t. Wrote now key (put_entry s key value now step) s t) (sym is) (record {
              upsert = w;
              writes = refl;
              unsent = refl;
              kept = refl;
              settings = refl;
              cover = λ y. refl;
              notices = ap (λ b. told b (cause_of_write service_answers s now r.entry) r.entry s.notices) tells ∙ ap (λ o. s.notices ++ replaced_by now s o) (sym some);
              found = by_key records (λ q t. others q t) (f r) (found-at key f s.records r numbered some held (same-refl key)) refl;
              owners = λ owner found held_owner. elim (changed-from r.number owner.number f s.records r owner (λ x. refl) numbered there found) [
                | inl k ↦ inl (k.0, ap (λ (y : Rec). y.entry) k.1)
                | inr k ↦ inr ((λ same_number. k.0 (sym same_number)), unlike_other key s.records r owner (to-records same s.records apart) numbered some k.1 held_owner (λ e. k.0 e), k.1)
              ];
              apart = records-apart (Some r) some;
              in_order = subst (λ t. IsInOrder t) is (sent-order (Some r) u one (written-order (Some r) some));
            })
