-- The keys of the first parts.
use Rattle.std.proofs.Common.{◌≡◌, refl, ap, ◌∙◌, sym, ℕ, zero, suc, ◌+◌, ◌<◌, ◌≤◌, arith, List, ◌∷◌, ◌++◌, length, take, Option, None, slice_get, [], Bool, cond, true, false, true≢false, not, ◌&&◌, ◌||◌, map, option_map, Some, is_some, drop, drop-cons, add-one, get_or, Bor, subst}
use Rattle.std.proofs.Math.Bool.{and-false, and-true, or-false}
use Rattle.std.proofs.lemmas.Bool.{and_from, and_parts, not-true, not_from_false, or_parts, or_right, false_from_ne_true}
use Rattle.std.proofs.lemmas.List.{append-nil, append_assoc, length-append, length-map}
use Rattle.std.proofs.lemmas.List.Elements.{filter-append}
use Rattle.std.proofs.lemmas.List.Folds.{list_any-append}
use Rattle.std.proofs.lemmas.List.Sums.{sum_by-cons}
use Rattle.std.proofs.lemmas.Map.Text.{is_eq-slice_cmp}
use Rattle.std.proofs.lemmas.Option.{none-some}
use Rattle.std.specs.BTreeMap.{insert_entry}
use Rattle.std.specs.Cmp.Lexicographic.{slice_cmp}
use Rattle.std.specs.List.{filter, sum_by, list_all, concat}
use Rattle.std.specs.Ordering.{nat_cmp, is_lt, is_eq, match_ordering}
use Rattle.std.specs.declared.cmp.Ordering.{Ordering}
use Rattle.std.specs.declared.cmp.Ordering.TheVariants.{Less, Equal, Greater}
use Rattle.engine_reference.proofs.StayingVisible.{visible_by_entries}
use Rattle.engine_reference.specs.Records.{held_entries}
use Rattle.engine_reference.specs.Scanning.{held_keys, visible_keys}
use Rattle.engine_reference.specs.Telling.{AreApart, entry_of}
use Rattle.engine_reference.specs.Visible.{visible, visible_value}
use Rattle.front_reference.specs.Wholes.{visible_number}
use Rattle.front_state.specs.Calls.{keys_of, visible_of}
use Rattle.audit_model.specs.Bytewise.{same, text_line}
use Rattle.audit_model.specs.Values.{sorted, put_sorted}
use Rattle.cache_commands.proofs.SameKeys.{equal_from_same, same-refl, same-flip_false}
use Rattle.cache_commands.proofs.LiveKeys.{length-sorted, order, put_before, put_behind, sorted-push}
use Rattle.cache_commands.specs.Among.{are_distinct, is_among_keys}
use Rattle.cache_commands.specs.Values.{AreLive}
use Rattle.cache_front.proofs.parts.Items.{AreParted, ArePlaced}
use Rattle.cache_front.proofs.parts.Writing.{Kept}
use Rattle.cache_front.proofs.whole.Calling.{live_keys, parted}
use Rattle.cache_front.specs.Data.{FrontData, parted_by}
use Rattle.cache_front.specs.Listing.{held_by_all, is_seen, seen_by_all}
use Rattle.cache_front.specs.Parts.{Part, items_of, service_answers}
use Rattle.cache_front.specs.View.{IsWhole, StoreOfParts, view}

module _ {S : Type 0} where
  past : (parts : List (Part S)) (i : ℕ) → length parts ≤ i → slice_get parts i ≡ None
  past [] i le = refl
  past (s ∷ parts) zero le = absurd (let l : suc (length parts) ≤ 0 = le in omega (arith, l))
  past (s ∷ parts) (suc i) le = past parts i (let l : suc (length parts) ≤ suc i = le in omega (arith, l))

  -- there are none where there is no part
  pub none_past : (parts : List (Part S)) (i : ℕ) (keys : List (List ℕ)) → length parts ≤ i → keys ≡ keys ++ keys_of (slice_get parts i)
  none_past parts i keys le = sym (append-nil keys) ∙ ap (λ (o : Option (Part S)). keys ++ keys_of o) (sym (past parts i le))

  one-further : (parts : List (Part S)) (i : ℕ) → i < length parts → held_by_all (take (suc i) parts) ≡ held_by_all (take i parts) ++ keys_of (slice_get parts i)
  one-further [] i lt = absurd (let l : suc i ≤ 0 = lt in omega (arith, l))
  one-further (s ∷ parts) zero lt = append-nil (held_keys s.records)
  one-further (s ∷ parts) (suc i) lt = grind (arith, append_assoc, one-further parts i)

  pub gathers_more : (parts : List (Part S)) (i : ℕ) (old new : List (List ℕ)) → i < length parts → old ≡ held_by_all (take i parts) → new ≡ old ++ keys_of (slice_get parts i) → new ≡ held_by_all (take (i + 1) parts)
  gathers_more parts i old new lt was is = grind (arith, one-further)

-- The keys that have a visible value, part by part, are the live keys.

-- ---- keys that pass a test

pub among-filter : (p : List ℕ → Bool) (q : List ℕ) (ks : List (List ℕ)) → is_among_keys q (filter p ks) ≡ (p q && is_among_keys q ks)
among-filter p q [] = sym (and-false (p q))
among-filter p q (k ∷ ks) = grind (arith, among-filter p q ks, equal_from_same q k)

distinct-filter : (p : List ℕ → Bool) (ks : List (List ℕ)) → are_distinct ks ≡ true → are_distinct (filter p ks) ≡ true
distinct-filter p [] d = refl
distinct-filter p (k ∷ ks) d = grind (arith, and_parts, and_from, not_from_false, among-filter, not-true, and-false, distinct-filter p ks)

distinct-append : (xs ys : List (List ℕ)) → are_distinct xs ≡ true → are_distinct ys ≡ true → ((q : List ℕ) → is_among_keys q xs ≡ true → is_among_keys q ys ≡ false) → are_distinct (xs ++ ys) ≡ true
distinct-append [] ys d e apart = e
distinct-append (x ∷ xs) ys d e apart = grind (arith, and_parts, and_from, not_from_false, list_any-append, not-true, same-refl, or_right, distinct-append xs ys)

-- no more pass
filter-few : {X : Type 0} (p : X → Bool) (xs : List X) → length (filter p xs) ≤ length xs
filter-few p [] = omega arith
filter-few p (x ∷ xs) = grind (arith, filter-few p xs)

-- ---- one part

among-entry : (q : List ℕ) (es : List Kept) → is_among_keys q (map (λ (e : Kept). e.key) es) ≡ is_some (entry_of same es q)
among-entry q [] = refl
among-entry q (e ∷ es) = grind (arith, among-entry q es)

distinct-held : (es : List Kept) → AreApart same es → are_distinct (map (λ (e : Kept). e.key) es) ≡ true
distinct-held [] a = refl
distinct-held (e ∷ es) a = and_from _ _ (not_from_false _ (among-entry e.key es ∙ ap (λ (o : Option Kept). is_some o) a.0)) (distinct-held es a.1)

module _ {S : Type 0} (now : ℕ) where
  -- something is visible of the key
  abbrev pub sees : Part S → List ℕ → Bool
  sees s q = is_some (visible_value service_answers same s now q)

  abbrev keys_seen : Part S → List (List ℕ)
  keys_seen s = visible_keys service_answers same s now

  -- what is visible is held
  sees-held : (s : Part S) (q : List ℕ) → (sees s q && is_among_keys q (held_keys s.records)) ≡ sees s q
  sees-held s q = grind (arith, sees, among-entry, visible_by_entries, and-true)

  among-seen : (s : Part S) (q : List ℕ) → is_among_keys q (keys_seen s) ≡ sees s q
  among-seen s q = among-filter (sees s) q (held_keys s.records) ∙ sees-held s q

  distinct-seen : (s : Part S) → AreApart same (held_entries s.records) → are_distinct (keys_seen s) ≡ true
  distinct-seen s apart = distinct-filter (sees s) (held_keys s.records) (distinct-held (held_entries s.records) apart)

  -- another part's keys are not there
  sees-none : (part_of : List ℕ → ℕ) (part : ℕ) (s : Part S) (q : List ℕ) → ArePlaced part_of part (held_entries s.records) → (part_of q ≡ part → ⊥) → sees s q ≡ false
  sees-none part_of part s q placed other = grind (arith, visible_by_entries)

  -- ---- all parts

  -- the keys of all parts that have a visible value
  abbrev pub all_seen : List (Part S) → List (List ℕ)
  all_seen [] = []
  all_seen (s ∷ parts) = visible_keys service_answers same s now ++ all_seen parts

  none-before : (part_of : List ℕ → ℕ) (first : ℕ) (parts : List (Part S)) (q : List ℕ) → AreParted part_of first parts → part_of q < first → is_among_keys q (all_seen parts) ≡ false
  none-before part_of first [] q p lt = refl
  none-before part_of first (s ∷ parts) q p lt =
      list_any-append (λ k. same q k) (keys_seen s) (all_seen parts)
      ∙ ap (λ b. b || is_among_keys q (all_seen parts)) (among-seen s q ∙ sees-none part_of first s q p.1 (λ e. omega (arith, e, lt)))
      ∙ none-before part_of (suc first) parts q p.2 (omega (arith, lt))

  among-all : (part_of : List ℕ → ℕ) (first k : ℕ) (parts : List (Part S)) (s : Part S) (q : List ℕ) → AreParted part_of first parts → slice_get parts k ≡ Some s → part_of q ≡ first + k → is_among_keys q (all_seen parts) ≡ sees s q
  among-all part_of first k [] s q p there at = absurd (none-some s there)
  among-all part_of first zero (x ∷ parts) s q p there at =
      let is : x ≡ s = cc in
      list_any-append (λ k. same q k) (keys_seen x) (all_seen parts)
      ∙ ap (λ b. is_among_keys q (keys_seen x) || b) (none-before part_of (suc first) parts q p.2 (omega (arith, at)))
      ∙ or-false (is_among_keys q (keys_seen x)) ∙ among-seen x q ∙ ap (λ (y : Part S). sees y q) is
  among-all part_of first (suc k) (x ∷ parts) s q p there at =
      list_any-append (λ k. same q k) (keys_seen x) (all_seen parts)
      ∙ ap (λ b. b || is_among_keys q (all_seen parts)) (among-seen x q ∙ sees-none part_of first x q p.1 (λ e. omega (arith, e, at)))
      ∙ among-all part_of (suc first) k parts s q p.2 there (omega (arith, at))

  distinct-all : (part_of : List ℕ → ℕ) (first : ℕ) (parts : List (Part S)) → AreParted part_of first parts → are_distinct (all_seen parts) ≡ true
  distinct-all part_of first [] p = refl
  distinct-all part_of first (s ∷ parts) p = distinct-append (keys_seen s) (all_seen parts) (distinct-seen s p.0) (distinct-all part_of (suc first) parts p.2) apart
    where
      apart : (q : List ℕ) → is_among_keys q (keys_seen s) ≡ true → is_among_keys q (all_seen parts) ≡ false
      apart q h = go (entry_of same (held_entries s.records) q) refl
        where
          held : is_some (entry_of same (held_entries s.records) q) ≡ true
          held = sym (among-entry q (held_entries s.records)) ∙ (and_parts (sees s q) (is_among_keys q (held_keys s.records)) (sees-held s q ∙ sym (among-seen s q) ∙ h)).1

          go : (o : Option Kept) → entry_of same (held_entries s.records) q ≡ o → is_among_keys q (all_seen parts) ≡ false
          go None e = absurd (true≢false (sym held ∙ ap (λ (o : Option Kept). is_some o) e))
          go (Some x) e = let at = p.1 q x e in none-before part_of (suc first) parts q p.2 (omega (arith, at))

  -- ---- how many they are

  seen-few : (first : ℕ) (parts : List (Part S)) → length (all_seen parts) ≤ length (items_of first parts)
  seen-few first [] = omega arith
  seen-few first (s ∷ parts) = grind (arith, length-append, keys_seen, all_seen, filter-few, sees, length-map, seen-few (suc first) parts)

  seen-sum : (parts : List (Part S)) → sum_by (λ (s : Part S). length (visible_keys service_answers same s now)) parts ≡ length (all_seen parts)
  seen-sum [] = refl
  seen-sum (s ∷ parts) =
      sum_by-cons (λ (s : Part S). length (visible_keys service_answers same s now)) s parts ∙ ap (λ n. length (keys_seen s) + n) (seen-sum parts) ∙ sym (length-append (keys_seen s) (all_seen parts))

  -- they are the live keys, once in byte order
  pub live_over : (a : StoreOfParts S) → IsWhole a → AreLive (view a) now (λ live. live ≡ sorted (all_seen a.parts))
  live_over a w = live_keys a now (all_seen a.parts) w (distinct-all a.frame.part_of 0 a.parts (parted a w))
      (λ q s there. among-all a.frame.part_of 0 (a.frame.part_of q) a.parts s q (parted a w) there (omega arith) ∙ some-visible s q)
    where
      some-visible : (s : Part S) (q : List ℕ) → sees s q ≡ is_some (visible service_answers same s now q)
      some-visible s q = go (visible service_answers same s now q)
        where
          go : (o : Option Kept) → is_some (option_map (λ (e : Kept). e.value) o) ≡ is_some o
          go None = refl
          go (Some e) = refl

  -- and so many
  pub number_over : (a : StoreOfParts S) (number : ℕ) → IsWhole a → number ≡ visible_number service_answers same now a.parts → AreLive (view a) now (λ live. number ≡ length live)
  number_over a number w is = λ held stands.
      let l = ap length (live_over a w held stands) ∙ length-sorted (all_seen a.parts) in
      let s = seen-sum a.parts in
      let f = seen-few 0 a.parts in
      let small = w.small in
      omega (arith, is, l, s, f, small)

-- ---- the same from the keys of all parts, by the hash of each

filter-same : (p r : List ℕ → Bool) (ks : List (List ℕ)) → ((q : List ℕ) → is_among_keys q ks ≡ true → p q ≡ r q) → filter p ks ≡ filter r ks
filter-same p r [] each = refl
filter-same p r (k ∷ ks) each = grind (arith, same-refl, or_right, filter-same p r ks)

module _ {S : Type 0} where
  held-in : (part_of : List ℕ → ℕ) (part : ℕ) (s : Part S) (q : List ℕ) → ArePlaced part_of part (held_entries s.records) → is_among_keys q (held_keys s.records) ≡ true → part_of q ≡ part
  held-in part_of part s q placed h = grind (arith, among-entry)

  held-none : (part_of : List ℕ → ℕ) (part : ℕ) (s : Part S) (q : List ℕ) → ArePlaced part_of part (held_entries s.records) → (part_of q ≡ part → ⊥) → is_among_keys q (held_keys s.records) ≡ false
  held-none part_of part s q placed other = false_from_ne_true _ (λ e. other (held-in part_of part s q placed e))

  none-held : (part_of : List ℕ → ℕ) (first : ℕ) (parts : List (Part S)) (q : List ℕ) → AreParted part_of first parts → part_of q < first → is_among_keys q (held_by_all parts) ≡ false
  none-held part_of first [] q p lt = refl
  none-held part_of first (s ∷ parts) q p lt =
      list_any-append (λ k. same q k) (held_keys s.records) (held_by_all parts)
      ∙ ap (λ b. b || is_among_keys q (held_by_all parts)) (held-none part_of first s q p.1 (λ e. omega (arith, e, lt)))
      ∙ none-held part_of (suc first) parts q p.2 (omega (arith, lt))

  distinct-all-held : (part_of : List ℕ → ℕ) (first : ℕ) (parts : List (Part S)) → AreParted part_of first parts → are_distinct (held_by_all parts) ≡ true
  distinct-all-held part_of first [] p = refl
  distinct-all-held part_of first (s ∷ parts) p = distinct-append (held_keys s.records) (held_by_all parts) (distinct-held (held_entries s.records) p.0) (distinct-all-held part_of (suc first) parts p.2)
      (λ q h. (let at = held-in part_of first s q p.1 h in none-held part_of (suc first) parts q p.2 (omega (arith, at))))

  seen-same : (now : ℕ) (test : List ℕ → Bool) (part_of : List ℕ → ℕ) (first : ℕ) (parts : List (Part S)) → AreParted part_of first parts → ((k : ℕ) (s : Part S) → slice_get parts k ≡ Some s → (q : List ℕ) → part_of q ≡ first + k → test q ≡ sees now s q)
      → filter test (held_by_all parts) ≡ all_seen now parts
  seen-same now test part_of first [] p each = refl
  seen-same now test part_of first (s ∷ parts) p each =
      filter-append test (held_keys s.records) (held_by_all parts)
      ∙ ap (λ ks. ks ++ filter test (held_by_all parts)) (filter-same test (sees now s) (held_keys s.records) (λ q h. each zero s refl q (let at = held-in part_of first s q p.1 h in omega (arith, at))))
      ∙ ap (λ ks. visible_keys service_answers same s now ++ ks) (seen-same now test part_of (suc first) parts p.2 (λ k t there q at. each (suc k) t there q (omega (arith, at))))

  module _ (hash : S → List ℕ → ℕ) (d : FrontData S) (w : IsWhole (parted_by hash d)) where
    pub distinct_over : are_distinct (held_by_all d.front.parts) ≡ true
    distinct_over = distinct-all-held (parted_by hash d).frame.part_of 0 d.front.parts (parted (parted_by hash d) w)

    pub seen_over : (now : ℕ) → AreLive (view (parted_by hash d)) now (λ live. live ≡ sorted (seen_by_all hash now d.front))
    seen_over now = λ held stands.
        live_over now (parted_by hash d) w held stands
        ∙ ap sorted (sym (seen-same now (is_seen hash now d.front) (parted_by hash d).frame.part_of 0 d.front.parts (parted (parted_by hash d) w) each))
      where
        each : (k : ℕ) (s : Part S) → slice_get d.front.parts k ≡ Some s → (q : List ℕ) → (parted_by hash d).frame.part_of q ≡ 0 + k → is_seen hash now d.front q ≡ sees now s q
        each k s there q at =
            let is : (parted_by hash d).frame.part_of q ≡ k = omega (arith, at) in
            ap (λ (o : Option (Part S)). is_some (visible_of (record { answers = service_answers; eq = same; hash = hash }) o now q)) (ap (λ n. slice_get d.front.parts n) is ∙ there)

-- ---- keys in byte order

-- ---- a map of keys

abbrev pub Keys : Type 0
Keys = List (Bor (List ℕ) × Unit {0})

abbrev pub texts : Keys → List (List ℕ)
texts es = map (λ e. e.0.now) es

abbrev pub by_text : Bor (List ℕ) → Bor (List ℕ) → Ordering
by_text x y = slice_cmp nat_cmp x.now y.now

abbrev is_new : List ℕ → List (List ℕ) → Bool
is_new key keys = list_all (λ k. not (same key k)) keys

-- a new key goes to its place
put_is : (es : Keys) (k : Bor (List ℕ)) → is_new k.now (texts es) ≡ true → texts (insert_entry by_text es k tt) ≡ put_sorted k.now (texts es)
put_is [] k new = refl
put_is (e ∷ es) k new =
    let parts = and_parts (not (same k.now e.0.now)) (is_new k.now (texts es)) new in
    go (order k.now e.0.now) refl (not-true _ parts.0) (put_is es k parts.1)
  where
    go : (o : Ordering) → order k.now e.0.now ≡ o → same k.now e.0.now ≡ false → texts (insert_entry by_text es k tt) ≡ put_sorted k.now (texts es)
        → texts (match_ordering o ((k, tt) ∷ e ∷ es) ((e.0, tt) ∷ es) (e ∷ insert_entry by_text es k tt)) ≡ put_sorted k.now (texts (e ∷ es))
    go Less f other next = sym (put_before k.now e.0.now (texts es) (ap is_lt f))
    go Equal f other next = let no : true ≡ false = sym (ap is_eq f) ∙ is_eq-slice_cmp k.now e.0.now ∙ other in cc
    go Greater f other next = ap (λ xs. e.0.now ∷ xs) next ∙ sym (put_behind k.now e.0.now (texts es) (ap is_lt f))

new-put : (key k : List ℕ) (xs : List (List ℕ)) → not (same key k) ≡ true → is_new key xs ≡ true → is_new key (put_sorted k xs) ≡ true
new-put key k [] a b = and_from _ _ a refl
new-put key k (x ∷ xs) a b = grind (arith, and_parts, is_new, and_from, new-put key k xs a)

new-sorted : (key : List ℕ) (xs : List (List ℕ)) → is_new key xs ≡ true → is_new key (sorted xs) ≡ true
new-sorted key [] n = refl
new-sorted key (x ∷ xs) n = let parts = and_parts (not (same key x)) (is_new key xs) n in new-put key x (sorted xs) parts.0 (new-sorted key xs parts.1)

new-among : (key : List ℕ) (xs : List (List ℕ)) → is_among_keys key xs ≡ false → is_new key xs ≡ true
new-among key [] n = refl
new-among key (x ∷ xs) n = grind (arith, is_new, new-among key xs)

-- a key is not among those before it
not_before : (xs : List (List ℕ)) (key : List ℕ) (ys : List (List ℕ)) → are_distinct (xs ++ key ∷ ys) ≡ true → is_among_keys key xs ≡ false
not_before [] key ys d = refl
not_before (x ∷ xs) key ys d = grind (arith, and_parts, list_any-append, not-true, or_parts, same-flip_false, not_before xs key ys)

module _ (test : List ℕ → Bool) where
  -- of the keys that were gone through those that pass stand in a map
  pub record Sorts (all rest : List (List ℕ)) (found : Keys) : Type 0 where
    pub done : List (List ℕ)
    pub whole : all ≡ done ++ rest
    pub distinct : are_distinct all ≡ true
    pub texts_are : texts found ≡ sorted (filter test done)

  one-more : (done : List (List ℕ)) (key : List ℕ) → filter test (done ++ key ∷ []) ≡ filter test done ++ cond (test key) (key ∷ []) []
  one-more done key = filter-append test done (key ∷ [])

  pub sorts_more : (all rest : List (List ℕ)) (found then_found : Keys) (k : Bor (List ℕ)) (key : List ℕ) → test key ≡ true → k.now ≡ key → then_found ≡ insert_entry by_text found k tt → Sorts all (key ∷ rest) found → Sorts all rest then_found
  sorts_more all rest found then_found k key passes is e s =
      let before = not_before s.done key rest (subst (λ xs. are_distinct xs ≡ true) s.whole s.distinct) in
      let among = among-filter test key s.done ∙ ap (λ b. test key && b) before ∙ and-false (test key) in
      let new = new-sorted key (filter test s.done) (new-among key (filter test s.done) among) in
      let fresh : is_new k.now (texts found) ≡ true = subst (λ xs. is_new k.now xs ≡ true) (sym s.texts_are) (subst (λ q. is_new q (sorted (filter test s.done)) ≡ true) (sym is) new) in
      record {
        done = s.done ++ key ∷ [];
        whole = s.whole ∙ sym (append_assoc s.done (key ∷ []) rest);
        distinct = s.distinct;
        texts_are =
            ap texts e ∙ put_is found k fresh ∙ ap (put_sorted k.now) s.texts_are ∙ ap (λ q. put_sorted q (sorted (filter test s.done))) is
            ∙ sym (ap sorted (one-more s.done key ∙ ap (λ b. filter test s.done ++ cond b (key ∷ []) []) passes) ∙ sorted-push (filter test s.done) key);
      }

  pub sorts_skip : (all rest : List (List ℕ)) (found : Keys) (key : List ℕ) → test key ≡ false → Sorts all (key ∷ rest) found → Sorts all rest found
  sorts_skip all rest found key fails s = record {
    done = s.done ++ key ∷ [];
    whole = s.whole ∙ sym (append_assoc s.done (key ∷ []) rest);
    distinct = s.distinct;
    texts_are = s.texts_are ∙ sym (ap sorted (one-more s.done key ∙ ap (λ b. filter test s.done ++ cond b (key ∷ []) []) fails ∙ append-nil (filter test s.done)));
  }

-- the next of a list
pub item_next : (ks : List (List ℕ)) (i : ℕ) (item key : List ℕ) → i < length ks → item ≡ get_or ks i item → key ≡ item → drop i ks ≡ key ∷ drop (i + 1) ks
item_next ks i item key lt at is = drop-cons ks i item lt ∙ ap (λ n. get_or ks i item ∷ drop n ks) (sym (add-one i)) ∙ ap (λ x. x ∷ drop (i + 1) ks) (sym at ∙ sym is)

-- ---- lines

concat-push : (xs : List (List ℕ)) (x : List ℕ) → concat (map text_line (xs ++ x ∷ [])) ≡ concat (map text_line xs) ++ text_line x
concat-push [] x = append-nil (text_line x)
concat-push (y ∷ xs) x = ap (λ zs. text_line y ++ zs) (concat-push xs x) ∙ sym (append_assoc (text_line y) (concat (map text_line xs)) (text_line x))

texts-push : (xs : Keys) (e : Bor (List ℕ) × Unit {0}) → texts (xs ++ e ∷ []) ≡ texts xs ++ e.0.now ∷ []
texts-push [] e = refl
texts-push (y ∷ xs) e = ap (λ ks. y.0.now ∷ ks) (texts-push xs e)

-- the lines of those that were gone through
pub record Lined (all rest : Keys) (lines : List ℕ) : Type 0 where
  pub done : Keys
  pub whole : all ≡ done ++ rest
  pub written : lines ≡ concat (map text_line (texts done))

pub lined_more : (all rest : Keys) (lines new : List ℕ) (e : Bor (List ℕ) × Unit {0}) → new ≡ lines ++ text_line e.0.now → Lined all (e ∷ rest) lines → Lined all rest new
lined_more all rest lines new e w l = record {
  done = l.done ++ e ∷ [];
  whole = l.whole ∙ sym (append_assoc l.done (e ∷ []) rest);
  written = w ∙ ap (λ ls. ls ++ text_line e.0.now) l.written ∙ sym (ap (λ ks. concat (map text_line ks)) (texts-push l.done e) ∙ concat-push (texts l.done) e.0.now);
}

pub lined_end : (all : Keys) (lines : List ℕ) → Lined all [] lines → lines ≡ concat (map text_line (texts all))
lined_end all lines l = l.written ∙ sym (ap (λ xs. concat (map text_line (texts xs))) (l.whole ∙ append-nil l.done))
