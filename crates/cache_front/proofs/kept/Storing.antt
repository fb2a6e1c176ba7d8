-- What a store keeps of all its parts, kept by each call of the store; and what follows from it.
use Rattle.std.proofs.Common.{◌≡◌, ℕ, zero, suc, ◌+◌, ◌-◌, ◌*◌, ◌/◌, ◌<◌, ◌≤◌, ◌^◌, true, false, MatchBool, List, [], ◌∷◌, length, append-nil, Option, option_map, Some, IsTrue, slice_get, refl, sym, ap, ◌∙◌, subst, arith, slice_set}
use Rattle.std.proofs.lemmas.List.{length-set}
use Rattle.std.specs.List.{sum_by}
use Rattle.std.proofs.lemmas.Bool.{ltb-true, ltb-false, false_from_ne_true}
use Rattle.std.proofs.lemmas.List.Sums.{sum_by-cons}
use Rattle.std.proofs.lemmas.Nat.{le-div}
use Rattle.std.proofs.lemmas.Option.{none-some}
use Rattle.audit_model.specs.Bytewise.{same}
use Rattle.audit_model.specs.History.{part_count, accepts_values, weight_of}
use Rattle.audit_model.specs.Situation.{HeldValue}
use Rattle.rand_core.specs.Stream.{Stream}
use Rattle.cache_commands.specs.Promises.{Frame, value_for}
use Rattle.engine_reference.specs.declared.data.Record.{Record}
use Rattle.engine_reference.specs.declared.data.Registered.{Registered}
use Rattle.engine_reference.specs.Scanning.{NotesLookUp}
use Rattle.cache_front.proofs.parts.Syncing.{IsLean, held_at_most, weigh, IsSent, number_is, weight_is, IsRested, EachPart, IsReady}
use Rattle.engine_reference.specs.Calls.{cleared_by, with_predicate, IsNew, MaintainsIfDue}
use Rattle.engine_reference.specs.Times.{own_expiration}
use Rattle.audit_model.specs.declared.config.Weight.{Weight}
use Rattle.engine_reference.specs.Admission.{is_above}
use Rattle.engine_reference.specs.Records.{held_entries, held_weight}
use Rattle.engine_reference.specs.Runs.{RunsToEnd}
use Rattle.engine_reference.specs.RunLaws.Points.{pending_of}
use Rattle.engine_reference.specs.RunLaws.Sweeping.{LeavesNoneDue, InOrderBy, IsUsedBefore}
use Rattle.engine_reference.proofs.run_laws.Rises.{uncut_runs_leave_none_due}
use Rattle.front_reference.proofs.laws.Kept.{runs_leave_none_idle}
use Rattle.cache_commands.specs.Held.{Corresponds}
use Rattle.engine_reference.specs.Soundness.{Each}
use Rattle.engine_reference.specs.Telling.{entry_of, AreApart}
use Rattle.front_reference.specs.Fronts.{CallsEach}
use Rattle.front_reference.specs.Parts.{Inserts, TakesOut, takes_nothing}
use Rattle.cache_front.specs.Parts.{Part, Stored, IsProper, service_answers, part_settings, items_of, AreMarked, Stands, value_put, put_entry, nanos, drained, IsBrief}
use Rattle.cache_front.proofs.parts.Joining.{Maintained, idle, ran, Knows, IsNewValue, entry_of-key, own_is, fresh_is}
use Rattle.cache_front.proofs.parts.Items.{ArePlaced, AreParted, decides, replaced-there, replaced-other}
use Rattle.cache_front.proofs.parts.Writing.{wrote, Kept}
use Rattle.front_reference.specs.Wholes.{DrawAll, registered_in}
use Rattle.cache_front.specs.Keeping.{at_moment, common_by, belongs_to, IsProperRecord, IsKeptPart, AreKeptParts, IsStorable}
use Rattle.cache_front.proofs.kept.Keeping.{weighs-little, kept-later, kept-looked_up, kept-accepted, kept-removed, kept-ran, kept-cleared, kept-covered, kept-new}

-- a predicate of this step is registered in a part, in room that was made before
pub record CoversIn {S : Type 0} (next : ℕ) (s t : Part S) : Type 0 where
  pub room : ℕ
  pub predicate : Registered (List ℕ)
  pub at : predicate.step ≡ next
  pub is : t ≡ with_predicate predicate (record s { reserved = room })

-- a part runs to its end, and its notices are taken
pub record RunsDrained (S : Type 0) (now : ℕ) (s t : Part S) : Type 0 where
  pub new : Part S
  pub runs : RunsToEnd service_answers now s new
  pub is : t ≡ drained new

-- a call comes at this moment and step
pub record Comes (frame : Frame) (step now next : ℕ) : Type 0 where
  pub less : frame.latest ≤ now
  pub rises : step ≤ next
  pub range : now < 2 ^ 63

-- a share of what is more than nothing is more than nothing
share-positive : (capacity parts : ℕ) → 0 < capacity → 0 < parts → (capacity + (parts - 1)) / parts ≡ 0 → ⊥
share-positive capacity parts c p e = let one = le-div 1 (capacity + (parts - 1)) parts p (omega (arith, c, p)) in omega (arith, one, e)

-- what is so of each record that is held is so of each entry that is found
pub held-each : (Q : Kept → Type 0) (rs : List (Record (List ℕ) Stored)) (q : List ℕ) (e : Kept) → Each (λ r. r.is_held ≡ true → Q r.entry) rs → entry_of same (held_entries rs) q ≡ Some e → Q e
held-each Q [] q e all there = absurd (none-some e there)
held-each Q (r ∷ rs) q e all there = grind (arith, held-each Q rs q e all.1)

-- held records of short values weigh little
light-part : (frame : Frame) (part step : ℕ) (rs : List (Record (List ℕ) Stored)) → Each (IsProperRecord frame part step) rs → held_weight rs ≤ length (held_entries rs) * 8192
light-part frame part step [] all = omega arith
light-part frame part step (r ∷ rs) all = grind (arith, light-part frame part step rs all.1, Kept, weighs-little frame.config.weight r.entry.value.bytes, sum_by-cons (λ (e : Kept). e.weight) r.entry (held_entries rs))

-- a predicate that was drawn for in all parts stands in all
pub covers-all : {S : Type 0} (next : ℕ) (prefix : List ℕ) (parts : List (Part S)) (old new : Stream) (ids : List ℕ) → DrawAll parts old new ids → CallsEach (CoversIn next) parts (registered_in prefix next ids parts)
covers-all {S = S} next prefix [] old new ids d = record { count = ap (λ xs. length (registered_in {K = List ℕ} {V = Stored} {S = S} {R = Weight} prefix next xs [])) d.0; each = λ place before there. absurd (none-some before there) }
covers-all {S = S} next prefix (s ∷ ss) old new ids (id, rest, mid, is, draws, others) =
    let later = covers-all next prefix ss mid new rest others in
    subst (λ xs. CallsEach (CoversIn next) (s ∷ ss) (registered_in prefix next xs (s ∷ ss))) (sym is)
    (record {
      count = ap suc later.count;
      each = λ place before there. go place before there later;
    })
  where
    go : (place : ℕ) (before : Part S) → slice_get (s ∷ ss) place ≡ Some before → CallsEach (CoversIn next) ss (registered_in prefix next rest ss)
        → (after : Part S) × (slice_get (registered_in prefix next (id ∷ rest) (s ∷ ss)) place ≡ Some after) × CoversIn next before after
    go zero before there later =
        let one : s ≡ before = cc in (
          with_predicate (record { id = id; predicate = prefix; step = next }) s,
          refl,
          subst (λ x. CoversIn next x (with_predicate (record { id = id; predicate = prefix; step = next }) s)) one
              (record { room = s.reserved; predicate = record { id = id; predicate = prefix; step = next }; at = refl; is = refl }),
        )
    go (suc k) before there later = later.each k before there

module _ {S : Type 0} where
  -- one part is changed
  one-kept : (frame : Frame) (step now next part : ℕ) (parts : List (Part S)) (s t : Part S) → Comes frame step now next → AreKeptParts frame step parts → slice_get parts part ≡ Some s → IsKeptPart (at_moment frame now) part next t
      → AreKeptParts (at_moment frame now) next (slice_set parts part t)
  one-kept frame step now next part parts s t at h there k = record {
    number = length-set parts part t ∙ h.number;
    placed = h.placed;
    brief = h.brief;
    range = at.range;
    each = λ j x found. go j x found (decides j part);
  }
    where
      go : (j : ℕ) (x : Part S) → slice_get (slice_set parts part t) j ≡ Some x → Dec (j ≡ part) → IsKeptPart (at_moment frame now) j next x
      go j x found (yes is) =
          let both : Some t ≡ Some x = sym (replaced-there part t s parts there) ∙ ap (slice_get (slice_set parts part t)) (sym is) ∙ found in
          let one : t ≡ x = cc in
          subst (λ m. IsKeptPart (at_moment frame now) m next x) (sym is) (subst (λ y. IsKeptPart (at_moment frame now) part next y) one k)
      go j x found (no other) = kept-later frame j step now next x at.less at.rises (h.each j x (sym (replaced-other part j t parts other) ∙ found))

  -- all are changed
  pub there-too : (news parts : List (Part S)) → length news ≡ length parts → (k : ℕ) (t : Part S) → slice_get news k ≡ Some t → (s : Part S) × (slice_get parts k ≡ Some s)
  there-too [] parts e k t there = absurd (none-some t there)
  there-too (x ∷ news) [] e k t there = absurd (omega (arith, e))
  there-too (x ∷ news) (y ∷ parts) e zero t there = (y, refl)
  there-too (x ∷ news) (y ∷ parts) e (suc k) t there = there-too news parts (let same_rest : suc (length news) ≡ suc (length parts) = e in omega (arith, same_rest)) k t there

  all-kept : (frame after : Frame) (step next : ℕ) (Rel : Part S → Part S → Type 0) (parts news : List (Part S)) → after.config ≡ frame.config → after.part_of ≡ frame.part_of → after.latest < 2 ^ 63 → AreKeptParts frame step parts → CallsEach Rel parts news
      → ((part : ℕ) (s t : Part S) → IsKeptPart frame part step s → Rel s t → IsKeptPart after part next t) → AreKeptParts after next news
  all-kept frame after step next Rel parts news config_is part_of_is range h calls keeps = record {
    number = calls.count ∙ h.number ∙ ap part_count (sym config_is);
    placed = λ key. subst (λ c. after.part_of key < part_count c) (sym config_is) (subst (λ f. f key < part_count frame.config) (sym part_of_is) (h.placed key));
    brief = subst (λ c. IsBrief c) (sym config_is) h.brief;
    range = range;
    each = λ part t there.
        let old = there-too news parts calls.count part t there in
        let x = calls.each part old.0 old.1 in
        let both : Some x.0 ≡ Some t = sym x.1 ∙ there in
        let one : x.0 ≡ t = cc in
        subst (λ y. IsKeptPart after part next y) one (keeps part old.0 x.0 (h.each part old.0 old.1) x.2);
  }

  -- ---- the calls

  pub keeps-look_up : (frame : Frame) (step now next part : ℕ) (parts : List (Part S)) (s new : Part S) (key : List ℕ) (hash : ℕ) → Comes frame step now next → AreKeptParts frame step parts
      → slice_get parts part ≡ Some s → NotesLookUp service_answers same key hash now false s new → AreKeptParts (at_moment frame now) next (slice_set parts part (drained new))
  keeps-look_up frame step now next part parts s new key hash at h there look = one-kept frame step now next part parts s (drained new) at h there (kept-looked_up frame part step now next s at.less at.rises (h.each part s there) key hash new look)

  -- a part takes values where the whole does
  pub takes_values : (frame : Frame) (step : ℕ) (parts : List (Part S)) → AreKeptParts frame step parts → IsTrue (accepts_values frame.config.capacity) → takes_nothing (part_settings frame.config frame.made).capacity ≡ false
  takes_values frame step parts h accepts = grind (arith, share-positive)

  pub keeps-accept : (frame : Frame) (step now next part : ℕ) (parts : List (Part S)) (s new : Part S) (key : List ℕ) (hash : ℕ) (value : Stored) → Comes frame step now next → AreKeptParts frame step parts
      → slice_get parts part ≡ Some s → IsTrue (accepts_values frame.config.capacity) → IsStorable frame part key value → Inserts service_answers same key hash value now next s new
      → AreKeptParts (at_moment frame now) next (slice_set parts part (drained new))
  keeps-accept frame step now next part parts s new key hash value at h there accepts v call =
      let kept = one-kept frame step now next part parts s (drained new) at h there (kept-accepted frame part step now next s at.less at.rises (h.each part s there) key hash value new v (takes_values frame step parts h accepts) call) in
      grind (arith, kept, kept-accepted frame part step now next s at.less at.rises (h.each part s there) key hash value new v (takes_values frame step parts h accepts) call, takes_values frame step parts h accepts)

  pub keeps-remove : (frame : Frame) (step now next part : ℕ) (parts : List (Part S)) (s new : Part S) (key : List ℕ) → Comes frame step now next → AreKeptParts frame step parts → slice_get parts part ≡ Some s
      → TakesOut service_answers same key now s new → AreKeptParts (at_moment frame now) next (slice_set parts part (drained new))
  keeps-remove frame step now next part parts s new key at h there call = one-kept frame step now next part parts s (drained new) at h there (kept-removed frame part step now next s at.less at.rises (h.each part s there) key new call)

  pub keeps-run_all : (frame : Frame) (step now next : ℕ) (parts news : List (Part S)) → Comes frame step now next → AreKeptParts frame step parts → CallsEach (RunsDrained S now) parts news → AreKeptParts (at_moment frame now) next news
  keeps-run_all frame step now next parts news at h calls =
      all-kept frame (at_moment frame now) step next _ parts news refl refl at.range h calls
      (λ part s t k x. subst (λ y. IsKeptPart (at_moment frame now) part next y) (sym x.is) (kept-ran frame part step now next s at.less at.rises k x.new x.runs))

  pub keeps-clear : (frame : Frame) (step now next : ℕ) (parts news : List (Part S)) → Comes frame step now next → AreKeptParts frame step parts → CallsEach (λ s t. t ≡ cleared_by next s) parts news → AreKeptParts (at_moment frame now) next news
  keeps-clear frame step now next parts news at h calls =
      all-kept frame (at_moment frame now) step next (λ s t. t ≡ cleared_by next s) parts news refl refl at.range h calls
      (λ part s t k x. subst (λ y. IsKeptPart (at_moment frame now) part next y) (sym x) (kept-cleared frame part step now next s at.less at.rises k))

  pub keeps-cover : (frame : Frame) (step now next : ℕ) (parts news : List (Part S)) → Comes frame step now next → AreKeptParts frame step parts → CallsEach (CoversIn next) parts news → AreKeptParts (record frame { latest = now; dropped = true }) next news
  keeps-cover frame step now next parts news at h calls =
      all-kept frame (record frame { latest = now; dropped = true }) step next _ parts news refl refl at.range h calls
      (λ part s t k x. subst (λ y. IsKeptPart (record frame { latest = now; dropped = true }) part next y) (sym x.is) (kept-covered frame part step now next s at.less at.rises k x.room x.predicate x.at))

  pub news-kept : (frame : Frame) (name : Option (List ℕ)) (hasher : S) (parts : List (Part S)) → length parts ≡ part_count frame.config → ((key : List ℕ) → frame.part_of key < part_count frame.config)
      → IsBrief frame.config → frame.made < 2 ^ 63 → frame.latest ≡ frame.made
      → ((part : ℕ) (s : Part S) → slice_get parts part ≡ Some s → IsNew name (part_settings frame.config frame.made) hasher frame.config.weight s) → AreKeptParts frame 0 parts
  news-kept frame name hasher parts number placed brief range first each = record {
    number = number;
    placed = placed;
    brief = brief;
    range = subst (λ n. n < 2 ^ 63) (sym first) range;
    each = λ part s there. kept-new frame part name hasher s first (each part s there);
  }

  -- ---- what follows

  parted-from : (part_of : List ℕ → ℕ) (first : ℕ) (parts : List (Part S)) → ((k : ℕ) (s : Part S) → slice_get parts k ≡ Some s → AreApart same (held_entries s.records) × ArePlaced part_of (first + k) (held_entries s.records)) → AreParted part_of first parts
  parted-from part_of first [] each = tt
  parted-from part_of first (s ∷ parts) each =
      let own = each 0 s refl in
      let here : first + 0 ≡ first = omega arith in (
        own.0,
        subst (λ n. ArePlaced part_of n (held_entries s.records)) here own.1,
        parted-from part_of (suc first) parts (λ k x there. let later = each (suc k) x there in let shift : first + suc k ≡ suc first + k = omega arith in (later.0, subst (λ n. ArePlaced part_of n (held_entries x.records)) shift later.1)),
      )

  pub enough-parted : (frame : Frame) (step : ℕ) (parts : List (Part S)) → AreKeptParts frame step parts → AreParted frame.part_of 0 parts
  enough-parted frame step parts h = parted-from frame.part_of 0 parts (λ k s there.
      let part = h.each k s there in
      (part.front.apart, λ q e found. (let p = held-each (IsProper frame k step) s.records q e part.own.proper found in ap frame.part_of (entry_of-key (held_entries s.records) q e found) ∙ p.placed ∙ omega arith)))

  some-below : (parts : List (Part S)) (k : ℕ) → k < length parts → (x : Part S) × (slice_get parts k ≡ Some x)
  some-below [] k lt = absurd (omega (arith, lt))
  some-below (s ∷ parts) zero lt = (s, refl)
  some-below (s ∷ parts) (suc k) lt = some-below parts k (let less : suc k < suc (length parts) = lt in omega (arith, less))

  pub value-new : (frame : Frame) (step now next part : ℕ) (parts : List (Part S)) (s : Part S) (held : List HeldValue) (key : List ℕ) (hash : ℕ) (value : Stored)
      (k : Knows frame.config frame.part_of frame.made now part s parts held) (c : Corresponds (items_of 0 parts) held) (marked : AreMarked s held)
      → Comes frame step now next → IsKeptPart frame part step s → IsStorable frame part key value → ((m : ℕ) → value.milliseconds ≡ Some m → m ≤ 999999999999)
      → IsNewValue frame.config frame.part_of frame.made now part s parts held k c marked key (put_entry s key value now next) (value_put key hash value now next s) (value_for frame now key value.bytes value.milliseconds)
  value-new frame step now next part parts s held key hash value k c marked at h v brief =
      let w = wrote key hash value now next s h.front.ordered h.front.apart (ap (λ c. c.settings.tells) h.front.made) h.front.sent in
      let range = at.range in
      let rises = at.rises in
      record {
        at = v.placed;
        is_key = refl;
        is =
            ap (λ n. record { key = key; bytes = value.bytes; part = n; weight = weight_of s.rules value.bytes; accepted_at = now; own_deadline = own_expiration now (option_map nanos value.milliseconds) }) (sym v.placed)
            ∙ ap (λ r. record { key = key; bytes = value.bytes; part = frame.part_of key; weight = weight_of r value.bytes; accepted_at = now; own_deadline = own_expiration now (option_map nanos value.milliseconds) }) h.own.rules
            ∙ ap (λ d. record { key = key; bytes = value.bytes; part = frame.part_of key; weight = weight_of frame.config.weight value.bytes; accepted_at = now; own_deadline = d }) (own_is now value.milliseconds (omega (arith, range)) brief);
        used = refl;
        accepted = refl;
        fresh = w.cover (put_entry s key value now next)
            ∙ fresh_is s (put_entry s key value now next) (let x = h.own.fresh.cleared in omega (arith, x, rises)) (λ place p there. (let x = h.own.fresh.predicates place p there in omega (arith, x, rises)));
        range = omega (arith, range);
      }

  pub enough-parts : (frame : Frame) (step : ℕ) (parts : List (Part S)) → AreKeptParts frame step parts → (q : List ℕ) → (x : Part S) × (slice_get parts (frame.part_of q) ≡ Some x)
  enough-parts frame step parts h q = some-below parts (frame.part_of q) (let lt = h.placed q in let n = h.number in omega (arith, lt, n))

  pub enough-knows : (frame : Frame) (step now part : ℕ) (parts : List (Part S)) (s : Part S) (held : List HeldValue) → AreKeptParts frame step parts → slice_get parts part ≡ Some s → Knows frame.config frame.part_of frame.made now part s parts held
  enough-knows frame step now part parts s held h there =
      let k = h.each part s there in
      record {
        there = there;
        parted = enough-parted frame step parts h;
        settings = ap (λ c. c.settings) k.front.made;
        brief = h.brief;
        early = λ q e found. (let p = held-each (IsProper frame part step) s.records q e k.own.proper found in let w = p.written in let u = p.used in let r = h.range in (omega (arith, w, r), omega (arith, u, r)));
        in_order = k.front.ordered;
        sent = k.front.sent;
      }

  -- ---- what the laws ask for of each part

  each-part : (now : ℕ) (Q : Part S → Type 0) (parts : List (Part S)) → ((k : ℕ) (s : Part S) → slice_get parts k ≡ Some s → Q s) → EachPart now Q parts
  each-part now Q [] each = tt
  each-part now Q (s ∷ parts) each = (each 0 s refl, each-part now Q parts (λ k x there. each (suc k) x there))

  pub maintained_from : (now : ℕ) (s new : Part S) → MaintainsIfDue service_answers now s new → Maintained now s new
  maintained_from now s new m = grind (arith, MatchBool, Maintained now s new, ran, idle)

  early-part : (frame : Frame) (part step : ℕ) (s : Part S) → frame.latest < 2 ^ 63 → IsKeptPart frame part step s → (q : List ℕ) (e : Kept) → entry_of same (held_entries s.records) q ≡ Some e → (e.written < 9223372036854775808) × (e.used < 9223372036854775808)
  early-part frame part step s range k q e found = let p = held-each (IsProper frame part step) s.records q e k.own.proper found in let w = p.written in let u = p.used in (omega (arith, w, range), omega (arith, u, range))

  -- a part as a run of all left it
  pub record Left (frame : Frame) (step now part : ℕ) (x : Part S) : Type 0 where
    pub old : Part S
    pub kept_before : IsKeptPart frame part step old
    pub run : RunsDrained S now old x
    pub kept : IsKeptPart (at_moment frame now) part step x

  pub left-by : (frame : Frame) (step now : ℕ) (parts news : List (Part S)) → Comes frame step now step → AreKeptParts frame step parts → CallsEach (RunsDrained S now) parts news → (k : ℕ) (x : Part S) → slice_get news k ≡ Some x → Left frame step now k x
  left-by frame step now parts news at h calls k x there =
      let old = there-too news parts calls.count k x there in
      let y = calls.each k old.0 old.1 in
      let both : Some y.0 ≡ Some x = sym y.1 ∙ there in
      let one : y.0 ≡ x = cc in
      record { old = old.0; kept_before = h.each k old.0 old.1; run = subst (λ z. RunsDrained S now old.0 z) one y.2; kept = (keeps-run_all frame step now step parts news at h calls).each k x there }

  pub rested-part : (frame : Frame) (step now part : ℕ) (x : Part S) (news : List (Part S)) (held : List HeldValue) (parted : AreParted frame.part_of 0 news) (c : Corresponds (items_of 0 news) held) (count : (q : List ℕ) → (x : Part S) × (slice_get news (frame.part_of q) ≡ Some x))
      (settings : (k : ℕ) (x : Part S) → slice_get news k ≡ Some x → x.settings ≡ part_settings frame.config frame.made) → Comes frame step now step → Left frame step now part x → IsRested frame.config frame.part_of frame.made news held parted c count settings now x
  rested-part frame step now part x news held parted c count settings at l =
      let range = at.range in
      let less = at.less in
      let due = uncut_runs_leave_none_due (List ℕ) Stored (List ℕ) S Weight service_answers frame.latest step now l.old l.run.new (l.kept_before.front.timely (omega (arith, range, less))) less (omega (arith, range)) l.run.runs in
      let order = (runs_leave_none_idle (List ℕ) Stored (List ℕ) S Weight).ordered (common_by frame l.kept_before.hasher) 63 same (belongs_to frame part) service_answers frame.latest step now l.old l.run.new at.less l.run.runs.runs l.kept_before.front in
      record {
        due = subst (λ z. LeavesNoneDue now z) (sym l.run.is) (record { live = due.live; clear = due.clear; own = due.own; idle = due.idle });
        numbered = l.kept.front.ordered.sound.records.numbered;
        predicates = ap (λ (z : Part S). z.predicates) l.run.is ∙ l.run.runs.done.ended;
        in_order = subst (λ (z : Part S). InOrderBy IsUsedBefore z.records z.access) (sym l.run.is) order;
        early = early-part (at_moment frame now) part step x at.range l.kept;
      }

  pub fits-part : (frame : Frame) (step now part : ℕ) (x : Part S) → Left frame step now part x → is_above x.settings.capacity (held_weight x.records) ≡ false
  fits-part frame step now part x l = grind (arith, append-nil x.writes, held_at_most x l.kept.front.ordered, weigh (pending_of x), ltb-false, false_from_ne_true, ltb-true)

  light-parts : (frame : Frame) (step first : ℕ) (parts : List (Part S)) → ((k : ℕ) (s : Part S) → slice_get parts k ≡ Some s → IsKeptPart frame (first + k) step s)
      → sum_by (λ (s : Part S). held_weight s.records) parts ≤ sum_by (λ (s : Part S). length (held_entries s.records)) parts * 8192
  light-parts frame step first [] each = omega arith
  light-parts frame step first (s ∷ parts) each =
      let own = light-part frame (first + 0) step s.records (each 0 s refl).own.proper in
      let later = light-parts frame step (suc first) parts (λ k x there. let shift : first + suc k ≡ suc first + k = omega arith in subst (λ n. IsKeptPart frame n step x) shift (each (suc k) x there)) in
      let a = sum_by-cons (λ (x : Part S). held_weight x.records) s parts in
      let b = sum_by-cons (λ (x : Part S). length (held_entries x.records)) s parts in
      omega (arith, own, later, a, b)

  -- each part is ready for a run of all
  pub all-ready : (frame : Frame) (step now : ℕ) (parts : List (Part S)) → AreKeptParts frame step parts → EachPart now (IsReady now) parts × EachPart now IsSent parts
  all-ready frame step now parts h = (
    each-part now (IsReady now) parts (λ k s there. (let x = h.each k s there in record { in_order = x.front.ordered; apart = x.front.apart; tells = ap (λ c. c.settings.tells) x.front.made; taken = x.taken })),
    each-part now IsSent parts (λ k s there. (let x = h.each k s there in record { sound = x.front.ordered.sound; sent = x.front.sent })),
  )

  pub lean : (frame : Frame) (step : ℕ) (parts : List (Part S)) (held : List HeldValue) (parted : AreParted frame.part_of 0 parts) (c : Corresponds (items_of 0 parts) held) (count : (q : List ℕ)
      → (x : Part S) × (slice_get parts (frame.part_of q) ≡ Some x)) (settings : (k : ℕ) (x : Part S) → slice_get parts k ≡ Some x
      → x.settings ≡ part_settings frame.config frame.made) → AreKeptParts frame step parts → (k : ℕ) (x : Part S) → slice_get parts k ≡ Some x → IsLean frame.config frame.part_of frame.made parts held parted c count settings x
  lean frame step parts held parted c count settings h k x there =
      let p = h.each k x there in
      record { in_order = p.front.ordered; sent = p.front.sent; few = (let few = p.front.few in omega (arith, few)); light = p.own.light }

  -- what is held weighs at most 8192 per value, so at 2^50 values less than 2^64
  pub weighs : (frame : Frame) (step : ℕ) (parts : List (Part S)) (held : List HeldValue) → AreKeptParts frame step parts → Stands parts held → sum_by (λ (h : HeldValue). h.value.weight) held ≤ length held * 8192
  weighs frame step parts held h stands = grind (arith, number_is parts held stands, weight_is frame.part_of parts held (enough-parted frame step parts h) stands, enough-parted frame step parts h, light-parts frame step 0 parts)
