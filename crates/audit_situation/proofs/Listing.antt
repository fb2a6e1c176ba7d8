-- Entries by number.
use Rattle.std.proofs.Common.{inr, inl, ◌≡◌, refl, sym, ap, ◌∙◌, subst, ℕ, ◌<◌, ◌==◌, nat_lt, nat_le, Bool, true, false, cond, not, ◌&&◌, List, [], ◌∷◌, ◌++◌, map, Option, option_map, Some, None, Result, Ok, Err, OnOk, OnErr, Bor, if◌then◌else◌, arith}
use Rattle.std.specs.Prelude.{nat_eq}
use Rattle.std.specs.List.{find, filter, list_all}
use Rattle.std.specs.Map.{values_of, lookup, set_value}
use Rattle.std.specs.Option.{option_copied}
use Rattle.std.proofs.lemmas.Option.{none-some}
use Rattle.std.proofs.lemmas.Bool.{cases_Bool, not-true, and_parts, and_from, eq-eqb, eqb-true, ne_eqb, lt-ltb, le-ltb, ltb-true, leb-true, le-leb}
use Rattle.audit_model.specs.Numbered.{changed_numbered}
use Rattle.indexmap.specs.IndexMap.{insert_entry, swap_remove_entry}
use Rattle.audit_situation.specs.Listings.{is_new_number, is_listing, are_apart, ranked}
use Rattle.audit_situation.proofs.Ranked.{flip, swap_out, swapped_is, swap_out-map, all-swap_out, apart-out, IsOrder, rising, falling, ranked-find, left-out, ranked-map, ranked-newest_first, ranked-newest_last, all-ranked}
use Rattle.std.proofs.lemmas.Bool.Decides.{nat_tests}

-- where a call went well, what follows from what it left
pub follows : {A E P Q : Type 0} (r : Result A E) → (P → Q) → OnOk r P → OnOk r Q
follows (Ok x) f p = f p
follows (Err e) f p = tt

-- where it failed, the same
pub fails : {A E P Q : Type 0} (r : Result A E) → (P → Q) → OnErr r P → OnErr r Q
fails (Ok x) f p = tt
fails (Err e) f p = f p

-- what a look-up lends
pub lent : {X : Type 0} (r : Option (Bor X)) → option_map (λ x. x.now) r ≡ option_copied r
lent None = refl
lent (Some x) = refl

module _ {X : Type 0} where
  none-new : (n : ℕ) (es : List (ℕ × X)) → lookup (nat_eq n) es ≡ None → is_new_number n es ≡ true
  none-new n [] e = refl
  none-new n (x ∷ es) e = let next = none-new n es in grind (arith, nat_tests, e, next)

  same-new : (n : ℕ) (e : ℕ × X) (es : List (ℕ × X)) → nat_eq n e.0 ≡ true → is_new_number e.0 es ≡ true → is_new_number n es ≡ true
  same-new n e es h k = subst (λ m. is_new_number m es ≡ true) (sym (eqb-true n e.0 h)) k

  new-set : (m n : ℕ) (es : List (ℕ × X)) (w : X) → is_new_number m (set_value (nat_eq n) es w) ≡ is_new_number m es
  new-set m n [] w = refl
  new-set m n (e ∷ es) w = let next = new-set m n es w in grind (arith, nat_tests, next)

  new-last : (m n : ℕ) (x : X) (es : List (ℕ × X)) → is_new_number m es ≡ true → (n == m) ≡ false → is_new_number m (es ++ (n, x) ∷ []) ≡ true
  new-last m n x [] k f = ap (λ b. not b && true) f
  new-last m n x (e ∷ es) k f = let p = and_parts (not (e.0 == m)) (is_new_number m es) k in and_from _ _ p.0 (new-last m n x es p.1 f)

  pub values-last : (es : List (ℕ × X)) (n : ℕ) (x : X) → values_of (es ++ (n, x) ∷ []) ≡ values_of es ++ x ∷ []
  values-last [] n x = refl
  values-last (e ∷ es) n x = ap (λ ys. e.1 ∷ ys) (values-last es n x)

module _ {X : Type 0} (number : X → ℕ) where
  record Parts (e : ℕ × X) (es : List (ℕ × X)) : Type 0 where
    own : (e.0 == number e.1) ≡ true
    new : is_new_number e.0 es ≡ true
    rest : is_listing number es ≡ true

  parts_of : (e : ℕ × X) (es : List (ℕ × X)) → is_listing number (e ∷ es) ≡ true → Parts e es
  parts_of e es l =
      let p = and_parts ((e.0 == number e.1) && is_new_number e.0 es) (is_listing number es) l in
      let q = and_parts (e.0 == number e.1) (is_new_number e.0 es) p.0 in
      record { own = q.0; new = q.1; rest = p.1 }

  whole : (e : ℕ × X) (es : List (ℕ × X)) → (e.0 == number e.1) ≡ true → is_new_number e.0 es ≡ true → is_listing number es ≡ true → is_listing number (e ∷ es) ≡ true
  whole e es a b c = and_from ((e.0 == number e.1) && is_new_number e.0 es) _ (and_from (e.0 == number e.1) _ a b) c

  head-is : (n : ℕ) (e : ℕ × X) → (e.0 == number e.1) ≡ true → (number e.1 == n) ≡ nat_eq n e.0
  head-is n e h = flip (number e.1) n ∙ ap (λ m. n == m) (sym (eqb-true e.0 (number e.1) h))

  head-other : (n : ℕ) (e : ℕ × X) → (e.0 == number e.1) ≡ true → not (e.0 == n) ≡ true → (number e.1 == n) ≡ false
  head-other n e h k = ap (λ m. m == n) (sym (eqb-true e.0 (number e.1) h)) ∙ not-true _ k

  pub found : (n : ℕ) (es : List (ℕ × X)) → is_listing number es ≡ true → lookup (nat_eq n) es ≡ find (λ x. number x == n) (values_of es)
  found n [] l = refl
  found n (e ∷ es) l =
      let p = parts_of e es l in
      ap (λ o. cond (nat_eq n e.0) (Some e.1) o) (found n es p.rest)
      ∙ ap (λ b. cond b (Some e.1) (find (λ x. number x == n) (values_of es))) (sym (head-is n e p.own))

  -- ---- an entry changed

  module _ (n : ℕ) (f : X → X) where
    same_at : (es : List (ℕ × X)) → is_listing number es ≡ true → is_new_number n es ≡ true → values_of es ≡ map (changed_numbered number n f) (values_of es)
    same_at [] l k = refl
    same_at (e ∷ es) l k =
        let p = parts_of e es l in
        let q = and_parts (not (e.0 == n)) (is_new_number n es) k in
        ap (λ ys. e.1 ∷ ys) (same_at es p.rest q.1)
        ∙ sym (ap (λ b. (if b then f e.1 else e.1) ∷ map (changed_numbered number n f) (values_of es)) (head-other n e p.own q.0))

    -- there is none
    pub unchanged_is : (es : List (ℕ × X)) → is_listing number es ≡ true → lookup (nat_eq n) es ≡ None → values_of es ≡ map (changed_numbered number n f) (values_of es)
    unchanged_is es l e = same_at es l (none-new n es e)

    pub changed_is : (es : List (ℕ × X)) (x w : X) → is_listing number es ≡ true → lookup (nat_eq n) es ≡ Some x → w ≡ f x → values_of (set_value (nat_eq n) es w) ≡ map (changed_numbered number n f) (values_of es)
    changed_is [] x w l found is = absurd (none-some x found)
    changed_is (e ∷ es) x w l found is =
        let p = parts_of e es l in
        (elim (cases_Bool (nat_eq n e.0)) [ inl t ↦ rw t (let same : e.1 ≡ x = cc in ap (λ y. y ∷ values_of es) (is ∙ ap f (sym same)) ∙ ap (λ ys. f e.1 ∷ ys) (same_at es p.rest (same-new n e es t p.new))) | inr t ↦ rw t (ap (λ ys. e.1 ∷ ys) ((changed_is es x w p.rest) (rw t at found) is)) ])
        ∙ sym (ap (λ b. (if b then f e.1 else e.1) ∷ map (changed_numbered number n f) (values_of es)) (head-is n e p.own))

  pub changed-listing : (n : ℕ) (es : List (ℕ × X)) (x w : X) → is_listing number es ≡ true → lookup (nat_eq n) es ≡ Some x → number w ≡ number x → is_listing number (set_value (nat_eq n) es w) ≡ true
  changed-listing n [] x w l found is = refl
  changed-listing n (e ∷ es) x w l found is =
      let p = parts_of e es l in elim (cases_Bool (nat_eq n e.0)) [
        | inl t ↦ rw t (let same : e.1 ≡ x = cc in whole (e.0, w) es (ap (λ m. e.0 == m) (is ∙ ap number (sym same)) ∙ p.own) p.new p.rest)
        | inr t ↦ rw t (whole e (set_value (nat_eq n) es w) p.own (new-set e.0 n es w ∙ p.new) ((changed-listing n es x w p.rest) (rw t at found) is))
      ]

  -- ---- an entry added as the last

  pub last-listing : (x : X) (es : List (ℕ × X)) → is_listing number es ≡ true → lookup (nat_eq (number x)) es ≡ None → is_listing number (es ++ (number x, x) ∷ []) ≡ true
  last-listing x [] l absent = whole (number x, x) [] (eq-eqb (number x) (number x) refl) refl refl
  last-listing x (e ∷ es) l absent =
      let p = parts_of e es l in elim (cases_Bool (nat_eq (number x) e.0)) [
        | inl is ↦ absurd (none-some e.1 (sym (rw is at absent)))
        | inr is ↦ whole e (es ++ (number x, x) ∷ []) p.own (new-last e.0 (number x) x es p.new is) ((last-listing x es p.rest) (rw is at absent))
      ]

-- no two values have the same number
pub numbers-apart : {X : Type 0} (number : X → ℕ) (es : List (ℕ × X)) → is_listing number es ≡ true → are_apart (λ x y. number x == number y) (values_of es) ≡ true
numbers-apart number [] l = refl
numbers-apart {X} number (e ∷ es) l =
    let p = parts_of number e es l in
    and_from _ _ (all-apart es p.rest p.new) (numbers-apart number es p.rest)
  where
    all-apart : (fs : List (ℕ × X)) → is_listing number fs ≡ true → is_new_number e.0 fs ≡ true → list_all (λ y. not (number e.1 == number y)) (values_of fs) ≡ true
    all-apart [] k n = refl
    all-apart (f ∷ fs) k n =
        let p = parts_of number e es l in
        let q = parts_of number f fs k in
        let s = and_parts (not (f.0 == e.0)) (is_new_number e.0 fs) n in
        and_from _ _
        (ap (λ m. not (m == number f.1)) (sym (eqb-true e.0 (number e.1) p.own)) ∙ ap (λ m. not (e.0 == m)) (sym (eqb-true f.0 (number f.1) q.own)) ∙ ap not (flip e.0 f.0) ∙ s.0)
        (all-apart fs q.rest s.1)

abbrev at_own : {X : Type 0} → (X → ℕ) → ℕ × X → Bool
at_own number e = e.0 == number e.1

abbrev alike : {X : Type 0} → ℕ × X → ℕ × X → Bool
alike d e = e.0 == d.0

listing-own : {X : Type 0} (number : X → ℕ) (es : List (ℕ × X)) → is_listing number es ≡ true → list_all (at_own number) es ≡ true
listing-own number [] l = refl
listing-own number (e ∷ es) l = let p = parts_of number e es l in and_from _ _ p.own (listing-own number es p.rest)

listing-apart : {X : Type 0} (number : X → ℕ) (es : List (ℕ × X)) → is_listing number es ≡ true → are_apart alike es ≡ true
listing-apart number [] l = refl
listing-apart number (e ∷ es) l = let p = parts_of number e es l in and_from _ _ p.new (listing-apart number es p.rest)

listing-from : {X : Type 0} (number : X → ℕ) (es : List (ℕ × X)) → list_all (at_own number) es ≡ true → are_apart alike es ≡ true → is_listing number es ≡ true
listing-from number [] o a = refl
listing-from number (e ∷ es) o a =
    let p = and_parts (at_own number e) (list_all (at_own number) es) o in
    let q = and_parts (is_new_number e.0 es) (are_apart alike es) a in
    whole number e es p.0 q.0 (listing-from number es p.1 q.1)

-- ---- an entry left out, whose place the last one takes

pub swapped-listing : {X : Type 0} (number : X → ℕ) (n : ℕ) (es : List (ℕ × X)) → is_listing number es ≡ true → is_listing number (swap_remove_entry (nat_eq n) es) ≡ true
swapped-listing number n es l =
    ap (is_listing number) (swapped_is (nat_eq n) es)
    ∙ listing-from number (swap_out (λ e. nat_eq n e.0) es) (all-swap_out (at_own number) (λ e. nat_eq n e.0) es (listing-own number es l)) (apart-out alike (λ d e. flip e.0 d.0) (λ e. nat_eq n e.0) es (listing-apart number es l))

pub swapped-past : {X : Type 0} (last n : ℕ) (es : List (ℕ × X)) → list_all (λ e. nat_le e.0 last) es ≡ true → list_all (λ e. nat_le e.0 last) (swap_remove_entry (nat_eq n) es) ≡ true
swapped-past last n es h = ap (list_all (λ e. nat_le e.0 last)) (swapped_is (nat_eq n) es) ∙ all-swap_out (λ e. nat_le e.0 last) (λ e. nat_eq n e.0) es h

values-out : {X : Type 0} (number : X → ℕ) (n : ℕ) (es : List (ℕ × X)) → is_listing number es ≡ true → values_of (swap_out (λ e. nat_eq n e.0) es) ≡ swap_out (λ x. number x == n) (values_of es)
values-out number n es l =
    swap_out-map (λ e. e.1) (at_own number) (λ e. nat_eq n e.0) (λ x. number x == n) (λ e own. flip (number e.1) n ∙ ap (λ m. n == m) (sym (eqb-true e.0 (number e.1) own))) es (listing-own number es l)

module _ {X : Type 0} (before : ℕ → ℕ → Bool) (order : IsOrder before) (number : X → ℕ) where
  abbrev in_order : List (ℕ × X) → List X
  in_order es = ranked before number (values_of es)

  passes : (n : ℕ) (x y : X) → (number x == n) ≡ true → (number y == n) ≡ true → (number x == number y) ≡ true
  passes n x y h k = eq-eqb (number x) (number y) (eqb-true (number x) n h ∙ sym (eqb-true (number y) n k))

  pub found-ranked : (n : ℕ) (es : List (ℕ × X)) → is_listing number es ≡ true → lookup (nat_eq n) es ≡ find (λ x. number x == n) (in_order es)
  found-ranked n es l = found number n es l ∙ sym (ranked-find before number (λ x y. number x == number y) (λ x. number x == n) (passes n) (values_of es) (numbers-apart number es l))

  pub removed-ranked : (n : ℕ) (es : List (ℕ × X)) → is_listing number es ≡ true → in_order (swap_remove_entry (nat_eq n) es) ≡ filter (λ x. not (number x == n)) (in_order es)
  removed-ranked n es l =
      ap (ranked before number) (ap values_of (swapped_is (nat_eq n) es) ∙ values-out number n es l)
      ∙ left-out before order number (λ x. number x == n) (passes n) (values_of es) (numbers-apart number es l)

  module _ (n : ℕ) (F : X → X) (keeps : (x : X) → number (F x) ≡ number x) where
    keeps-all : (x : X) → number (changed_numbered number n F x) ≡ number x
    keeps-all x = grind (arith, nat_tests)

    pub changed-ranked : (es : List (ℕ × X)) (x w : X) → is_listing number es ≡ true → lookup (nat_eq n) es ≡ Some x → w ≡ F x → in_order (set_value (nat_eq n) es w) ≡ map (changed_numbered number n F) (in_order es)
    changed-ranked es x w l found is = ap (ranked before number) (changed_is number n F es x w l found is) ∙ ranked-map before number number (changed_numbered number n F) keeps-all (values_of es)

    pub unchanged-ranked : (es : List (ℕ × X)) → is_listing number es ≡ true → lookup (nat_eq n) es ≡ None → in_order es ≡ map (changed_numbered number n F) (in_order es)
    unchanged-ranked es l e = ap (ranked before number) (unchanged_is number n F es l e) ∙ ranked-map before number number (changed_numbered number n F) keeps-all (values_of es)

-- ---- an entry added as the last

-- a number above all others is new
pub above-none : {X : Type 0} (last n : ℕ) (es : List (ℕ × X)) → list_all (λ e. nat_le e.0 last) es ≡ true → last < n → lookup (nat_eq n) es ≡ None
above-none last n [] h lt = refl
above-none last n (e ∷ es) h lt =
    let s = and_parts (nat_le e.0 last) (list_all (λ e. nat_le e.0 last) es) h in
    let le = leb-true e.0 last s.0 in
    ap (λ b. cond b (Some e.1) (lookup (nat_eq n) es)) (ne_eqb n e.0 (λ same. absurd (omega arith))) ∙ above-none last n es s.1 lt

above-values : {X : Type 0} (number : X → ℕ) (last n : ℕ) (es : List (ℕ × X)) → is_listing number es ≡ true → list_all (λ e. nat_le e.0 last) es ≡ true → last < n → list_all (λ y. nat_lt (number y) n) (values_of es) ≡ true
above-values number last n [] l h lt = refl
above-values number last n (e ∷ es) l h lt =
    let p = parts_of number e es l in
    let s = and_parts (nat_le e.0 last) (list_all (λ e. nat_le e.0 last) es) h in
    let le = leb-true e.0 last s.0 in
    let own = eqb-true e.0 (number e.1) p.own in
    and_from _ _ (lt-ltb (number e.1) n (omega arith)) (above-values number last n es p.rest s.1 lt)

pub all-past : {X : Type 0} (last n : ℕ) (x : X) (es : List (ℕ × X)) → list_all (λ e. nat_le e.0 last) es ≡ true → last < n → list_all (λ e. nat_le e.0 n) (es ++ (n, x) ∷ []) ≡ true
all-past last n x [] h lt = and_from _ _ (le-leb n n (omega arith)) refl
all-past last n x (e ∷ es) h lt =
    let s = and_parts (nat_le e.0 last) (list_all (λ e. nat_le e.0 last) es) h in
    let le = leb-true e.0 last s.0 in
    and_from _ _ (le-leb e.0 n (omega arith)) (all-past last n x es s.1 lt)

pub set-past : {X : Type 0} (last n : ℕ) (es : List (ℕ × X)) (w : X) → list_all (λ e. nat_le e.0 last) es ≡ true → list_all (λ e. nat_le e.0 last) (set_value (nat_eq n) es w) ≡ true
set-past last n [] w h = refl
set-past last n (e ∷ es) w h = let s = and_parts (nat_le e.0 last) (list_all (λ e. nat_le e.0 last) es) h in let next = set-past last n es w s.1 in grind (arith, nat_tests, s.0, s.1, next)

module _ {X : Type 0} (number : X → ℕ) (x : X) where
  below-apart : (xs : List X) → list_all (λ y. nat_lt (number y) (number x)) xs ≡ true → list_all (λ y. not (number x == number y)) xs ≡ true
  below-apart [] h = refl
  below-apart (y ∷ ys) h =
      let s = and_parts (nat_lt (number y) (number x)) (list_all (λ y. nat_lt (number y) (number x)) ys) h in
      let lt = ltb-true (number y) (number x) s.0 in
      and_from _ _ (ap not (ne_eqb (number x) (number y) (λ same. absurd (omega arith)))) (below-apart ys s.1)

  below-after : (xs : List X) → list_all (λ y. nat_lt (number y) (number x)) xs ≡ true → list_all (λ y. not (nat_lt (number x) (number y))) xs ≡ true
  below-after [] h = refl
  below-after (y ∷ ys) h =
      let s = and_parts (nat_lt (number y) (number x)) (list_all (λ y. nat_lt (number y) (number x)) ys) h in
      let lt = ltb-true (number y) (number x) s.0 in
      and_from _ _ (ap not (le-ltb (number x) (number y) (omega arith))) (below-after ys s.1)

  below-none : (es : List (ℕ × X)) → list_all (λ y. nat_lt (number y) (number x)) (values_of es) ≡ true → is_listing number es ≡ true → lookup (nat_eq (number x)) es ≡ None
  below-none [] h l = refl
  below-none (e ∷ es) h l =
      let p = parts_of number e es l in
      let s = and_parts (nat_lt (number e.1) (number x)) (list_all (λ y. nat_lt (number y) (number x)) (values_of es)) h in
      let lt = ltb-true (number e.1) (number x) s.0 in
      let own = eqb-true e.0 (number e.1) p.own in
      ap (λ b. cond b (Some e.1) (lookup (nat_eq (number x)) es)) (ne_eqb (number x) e.0 (λ same. absurd (omega arith))) ∙ below-none es s.1 p.rest

  -- a map's entries after a new one, the rising order with it last, and the falling one with it first
  pub inserted : (es : List (ℕ × X)) (n : ℕ) → n ≡ number x → lookup (nat_eq n) es ≡ None → insert_entry nat_eq es n x ≡ es ++ (number x, x) ∷ []
  inserted [] n same e = ap (λ m. (m, x) ∷ []) same
  inserted (d ∷ es) n same e = let next = inserted es n same in grind (arith, nat_tests, e, next)

  pub added-last : (last : ℕ) (es : List (ℕ × X)) → is_listing number es ≡ true → list_all (λ e. nat_le e.0 last) es ≡ true → last < number x
      → ranked nat_lt number (values_of (es ++ (number x, x) ∷ [])) ≡ ranked nat_lt number (values_of es) ++ x ∷ []
  added-last last es l h lt =
      let all = above-values number last (number x) es l h lt in
      ap (ranked nat_lt number) (values-last es (number x) x) ∙ ranked-newest_last nat_lt rising number (values_of es) x (below-apart (values_of es) all) (below-after (values_of es) all)

  -- an insertion, which may be refused
  pub inserted-listing : {A E : Type 0} (es : List (ℕ × X)) (n : ℕ) → n ≡ number x → lookup (nat_eq (number x)) es ≡ None → is_listing number es ≡ true → (fs : List (ℕ × X)) (r : Result A E)
      → OnOk r (fs ≡ insert_entry nat_eq es n x) → OnErr r (fs ≡ es) → is_listing number fs ≡ true
  inserted-listing es n same e l fs (Ok a) ok err = ap (is_listing number) (ok ∙ inserted es n same (ap (λ m. lookup (nat_eq m) es) same ∙ e)) ∙ last-listing number x es l e
  inserted-listing es n same e l fs (Err b) ok err = ap (is_listing number) err ∙ l

  abbrev newest_first : List (ℕ × X) → List X
  newest_first es = ranked (λ a b. nat_lt b a) number (values_of es)

  pub below-all : (es : List (ℕ × X)) → list_all (λ y. nat_lt (number y) (number x)) (newest_first es) ≡ true → list_all (λ y. nat_lt (number y) (number x)) (values_of es) ≡ true
  below-all es h = all-ranked (λ a b. nat_lt b a) number (λ y. nat_lt (number y) (number x)) (values_of es) h

  pub absent : (es : List (ℕ × X)) → is_listing number es ≡ true → list_all (λ y. nat_lt (number y) (number x)) (newest_first es) ≡ true → lookup (nat_eq (number x)) es ≡ None
  absent es l h = below-none es (below-all es h) l

  pub added-first : (es : List (ℕ × X)) → list_all (λ y. nat_lt (number y) (number x)) (newest_first es) ≡ true → newest_first (es ++ (number x, x) ∷ []) ≡ x ∷ newest_first es
  added-first es h =
      let all = below-all es h in
      ap (ranked (λ a b. nat_lt b a) number) (values-last es (number x) x) ∙ ranked-newest_first (λ a b. nat_lt b a) falling number (values_of es) x (below-apart (values_of es) all) all

-- a value put back where it stood
pub put-back : {X : Type 0} (n : ℕ) (es : List (ℕ × X)) (x w : X) → lookup (nat_eq n) es ≡ Some x → w ≡ x → set_value (nat_eq n) es w ≡ es
put-back n [] x w found is = refl
put-back {X} n (e ∷ es) x w found is = let next = put-back n es x w in grind (arith, nat_tests, found, next)
