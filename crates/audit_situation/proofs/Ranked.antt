-- Lists in the order of numbers, and the entry that a removal lets the last one replace.
use Rattle.std.proofs.Common.{inr, inl, ◌≡◌, refl, sym, ap, ◌∙◌, ℕ, suc, ◌-◌, Bool, true, false, cond, not, ◌&&◌, nat_lt, List, [], ◌∷◌, ◌++◌, map, length, take, get_or, set, position, Option, option_map, Some, None, if◌then◌else◌, arith, true≢false}
use Rattle.std.specs.Prelude.{◌==◌}
use Rattle.std.specs.List.{find, filter, list_all, swap_remove}
use Rattle.std.specs.Map.{keys_of}
use Rattle.std.specs.Option.{option_map_or}
use Rattle.std.proofs.lemmas.Option.{none-some, same_Some}
use Rattle.std.proofs.lemmas.Bool.{cond_both, cases_Bool, and_parts, and_from, not-true}
use Rattle.indexmap.specs.IndexMap.{swap_remove_entry}
use Rattle.audit_situation.specs.Listings.{are_apart, put_ranked, ranked}
use Rattle.std.proofs.lemmas.Bool.Decides.{nat_tests}

pub flip : (m n : ℕ) → (m == n) ≡ (n == m)
flip m n = grind (arith, nat_tests)

-- ---- the last element goes to the front, and to the place of the first that passes

module _ {X : Type 0} where
  abbrev pub last_of : X → List X → X
  last_of x [] = x
  last_of x (y ∷ ys) = last_of y ys

  abbrev pub front_of : X → List X → List X
  front_of x [] = []
  front_of x (y ∷ ys) = x ∷ front_of y ys

  abbrev pub last_first : List X → List X
  last_first [] = []
  last_first (x ∷ xs) = last_of x xs ∷ front_of x xs

  abbrev pub swap_out : (X → Bool) → List X → List X
  swap_out p [] = []
  swap_out p (x ∷ xs) = cond (p x) (last_first xs) (x ∷ swap_out p xs)

  last_split : (x : X) (xs : List X) → x ∷ xs ≡ front_of x xs ++ last_of x xs ∷ []
  last_split x [] = refl
  last_split x (y ∷ ys) = ap (λ l. x ∷ l) (last_split y ys)

  last_read : (x : X) (xs : List X) (d : X) → get_or (x ∷ xs) (length xs) d ≡ last_of x xs
  last_read x [] d = refl
  last_read x (y ∷ ys) d = last_read y ys d

  front_read : (x : X) (xs : List X) → take (length xs) (x ∷ xs) ≡ front_of x xs
  front_read x [] = refl
  front_read x (y ∷ ys) = ap (λ l. x ∷ l) (front_read y ys)

  -- where the first that passes stands
  abbrev place : (X → Bool) → List X → Option ℕ
  place p [] = None
  place p (x ∷ xs) = cond (p x) (Some 0) (option_map suc (place p xs))

  place_is : (p : X → Bool) (xs : List X) → position p xs ≡ place p xs
  place_is p [] = refl
  place_is p (x ∷ xs) = let next = place_is p xs in grind (arith, nat_tests, next)

  placed : (p : X → Bool) (xs : List X) (d : X) → option_map_or (λ i. swap_remove xs i d) (place p xs) xs ≡ swap_out p xs
  placed p [] d = refl
  placed p (x ∷ []) d = grind (arith, nat_tests)
  placed p (x ∷ y ∷ ys) d = elim (cases_Bool (p x)) [ inl e ↦ rw e first | inr e ↦ rw e (go (place p (y ∷ ys)) (placed p (y ∷ ys) d)) ]
    where
      less : suc (suc (length ys)) - 1 ≡ suc (length ys)
      less = omega arith

      first : swap_remove (x ∷ y ∷ ys) 0 d ≡ last_of y ys ∷ front_of y ys
      first =
          ap (λ n. take n (get_or (x ∷ y ∷ ys) n d ∷ y ∷ ys)) less
          ∙ ap (λ z. z ∷ take (length ys) (y ∷ ys)) (last_read y ys d) ∙ ap (λ l. last_of y ys ∷ l) (front_read y ys)

      later : (i : ℕ) → swap_remove (x ∷ y ∷ ys) (suc i) d ≡ x ∷ swap_remove (y ∷ ys) i d
      later i =
          let one : suc (length ys) - 1 ≡ length ys = omega arith in
          ap (λ n. take n (x ∷ set (y ∷ ys) i (get_or (x ∷ y ∷ ys) n d))) less
          ∙ sym (ap (λ n. x ∷ take n (set (y ∷ ys) i (get_or (y ∷ ys) n d))) one)

      go : (o : Option ℕ) → option_map_or (λ i. swap_remove (y ∷ ys) i d) o (y ∷ ys) ≡ swap_out p (y ∷ ys)
          → option_map_or (λ i. swap_remove (x ∷ y ∷ ys) i d) (option_map suc o) (x ∷ y ∷ ys) ≡ x ∷ swap_out p (y ∷ ys)
      go None ih = ap (λ l. x ∷ l) ih
      go (Some i) ih = later i ∙ ap (λ l. x ∷ l) ih

place-keys : {K V : Type 0} (t : K → Bool) (es : List (K × V)) → place t (keys_of es) ≡ place (λ e. t e.0) es
place-keys t [] = refl
place-keys t (e ∷ es) = ap (λ o. cond (t e.0) (Some 0) (option_map suc o)) (place-keys t es)

-- what `swap_remove` leaves of a map's entries
pub swapped_is : {K V : Type 0} (t : K → Bool) (es : List (K × V)) → swap_remove_entry t es ≡ swap_out (λ e. t e.0) es
swapped_is t [] = refl
swapped_is t (e ∷ es) = ap (λ o. option_map_or (λ i. swap_remove (e ∷ es) i e) o (e ∷ es)) (place_is t (keys_of (e ∷ es)) ∙ place-keys t (e ∷ es)) ∙ placed (λ e. t e.0) (e ∷ es) e

module _ {X Y : Type 0} (f : X → Y) where
  last_of-map : (x : X) (xs : List X) → last_of (f x) (map f xs) ≡ f (last_of x xs)
  last_of-map x [] = refl
  last_of-map x (y ∷ ys) = last_of-map y ys

  front_of-map : (x : X) (xs : List X) → front_of (f x) (map f xs) ≡ map f (front_of x xs)
  front_of-map x [] = refl
  front_of-map x (y ∷ ys) = ap (λ l. f x ∷ l) (front_of-map y ys)

  last_first-map : (xs : List X) → last_first (map f xs) ≡ map f (last_first xs)
  last_first-map [] = refl
  last_first-map (x ∷ xs) = ap (λ y. y ∷ front_of (f x) (map f xs)) (last_of-map x xs) ∙ ap (λ l. f (last_of x xs) ∷ l) (front_of-map x xs)

  pub swap_out-map : (ok : X → Bool) (p : X → Bool) (q : Y → Bool) → ((x : X) → ok x ≡ true → q (f x) ≡ p x) → (xs : List X) → list_all ok xs ≡ true → map f (swap_out p xs) ≡ swap_out q (map f xs)
  swap_out-map ok p q same [] h = refl
  swap_out-map ok p q same (x ∷ xs) h =
      let s = and_parts (ok x) (list_all ok xs) h in
      (elim (cases_Bool (p x)) [ inl e ↦ rw e (sym (last_first-map xs)) | inr e ↦ rw e (ap (λ l. f x ∷ l) (swap_out-map ok p q same xs s.1)) ]) ∙ sym (ap (λ b. cond b (last_first (map f xs)) (f x ∷ swap_out q (map f xs))) (same x s.0))

-- ---- what stays of all

module _ {X : Type 0} (p : X → Bool) where
  pub all-snoc : (xs : List X) (z : X) → list_all p xs ≡ true → p z ≡ true → list_all p (xs ++ z ∷ []) ≡ true
  all-snoc [] z h k = and_from _ _ k refl
  all-snoc (x ∷ xs) z h k = let s = and_parts (p x) (list_all p xs) h in and_from _ _ s.0 (all-snoc xs z s.1 k)

  all-front : (x : X) (xs : List X) → list_all p (x ∷ xs) ≡ true → (p (last_of x xs) ≡ true) × (list_all p (front_of x xs) ≡ true)
  all-front x [] h = ((and_parts (p x) true h).0, refl)
  all-front x (y ∷ ys) h = let s = and_parts (p x) (list_all p (y ∷ ys)) h in let r = all-front y ys s.1 in (r.0, and_from _ _ s.0 r.1)

  all-last_first : (xs : List X) → list_all p xs ≡ true → list_all p (last_first xs) ≡ true
  all-last_first [] h = refl
  all-last_first (x ∷ xs) h = let r = all-front x xs h in and_from _ _ r.0 r.1

  pub all-swap_out : (q : X → Bool) (xs : List X) → list_all p xs ≡ true → list_all p (swap_out q xs) ≡ true
  all-swap_out q [] h = refl
  all-swap_out q (x ∷ xs) h = let s = and_parts (p x) (list_all p xs) h in elim (cases_Bool (q x)) [ inl e ↦ rw e (all-last_first xs s.1) | inr e ↦ rw e (and_from _ _ s.0 (all-swap_out q xs s.1)) ]

  pub all-map : {Y : Type 0} (q : Y → Bool) (f : Y → X) → ((y : Y) → q y ≡ true → p (f y) ≡ true) → (ys : List Y) → list_all q ys ≡ true → list_all p (map f ys) ≡ true
  all-map q f k [] h = refl
  all-map q f k (y ∷ ys) h = let s = and_parts (q y) (list_all q ys) h in and_from _ _ (k y s.0) (all-map q f k ys s.1)

  pub none-found : (xs : List X) → list_all (λ x. not (p x)) xs ≡ true → find p xs ≡ None
  none-found [] h = refl
  none-found (x ∷ xs) h = let s = and_parts (not (p x)) (list_all (λ x. not (p x)) xs) h in ap (λ b. cond b (Some x) (find p xs)) (not-true _ s.0) ∙ none-found xs s.1

  pub found-none : (xs : List X) → find p xs ≡ None → list_all (λ x. not (p x)) xs ≡ true
  found-none [] h = refl
  found-none (x ∷ xs) h = let next = found-none xs in grind (arith, nat_tests, h, next)

  pub none-out : (xs : List X) → find p xs ≡ None → swap_out p xs ≡ xs
  none-out [] e = refl
  none-out (x ∷ xs) e = let next = none-out xs in grind (arith, nat_tests, e, next)

-- ---- lists of which no two are alike

module _ {X : Type 0} (alike : X → X → Bool) (turned : (x y : X) → alike x y ≡ alike y x) where
  pub apart-snoc : (xs : List X) (z : X) → are_apart alike xs ≡ true → list_all (λ y. not (alike z y)) xs ≡ true → are_apart alike (xs ++ z ∷ []) ≡ true
  apart-snoc [] z a h = refl
  apart-snoc (x ∷ xs) z a h =
      let s = and_parts (list_all (λ y. not (alike x y)) xs) (are_apart alike xs) a in
      let t = and_parts (not (alike z x)) (list_all (λ y. not (alike z y)) xs) h in
      and_from _ _ (all-snoc (λ y. not (alike x y)) xs z s.0 (ap not (turned x z) ∙ t.0)) (apart-snoc xs z s.1 t.1)

  all-at : (p : X → Bool) (xs : List X) (z : X) (ys : List X) → list_all p (xs ++ z ∷ ys) ≡ true → p z ≡ true
  all-at p [] z ys h = (and_parts (p z) (list_all p ys) h).0
  all-at p (x ∷ xs) z ys h = all-at p xs z ys (and_parts (p x) (list_all p (xs ++ z ∷ ys)) h).1

  pub apart-middle : (xs : List X) (z : X) (ys : List X) → are_apart alike (xs ++ z ∷ ys) ≡ true → list_all (λ y. not (alike z y)) xs ≡ true
  apart-middle [] z ys a = refl
  apart-middle (x ∷ xs) z ys a =
      let s = and_parts (list_all (λ y. not (alike x y)) (xs ++ z ∷ ys)) (are_apart alike (xs ++ z ∷ ys)) a in
      and_from _ _ (ap not (turned z x) ∙ all-at (λ y. not (alike x y)) xs z ys s.0) (apart-middle xs z ys s.1)

  apart-last : (x : X) (xs : List X) → are_apart alike (x ∷ xs) ≡ true → (list_all (λ y. not (alike (last_of x xs) y)) (front_of x xs) ≡ true) × (are_apart alike (front_of x xs) ≡ true)
  apart-last x [] a = (refl, refl)
  apart-last x (y ∷ ys) a =
      let s = and_parts (list_all (λ z. not (alike x z)) (y ∷ ys)) (are_apart alike (y ∷ ys)) a in
      let r = apart-last y ys s.1 in
      let f = all-front (λ z. not (alike x z)) y ys s.0 in
      (and_from _ _ (ap not (turned (last_of y ys) x) ∙ f.0) r.0, and_from _ _ f.1 r.1)

  apart-last_first : (xs : List X) → are_apart alike xs ≡ true → are_apart alike (last_first xs) ≡ true
  apart-last_first [] a = refl
  apart-last_first (x ∷ xs) a = let r = apart-last x xs a in and_from _ _ r.0 r.1

  pub apart-out : (p : X → Bool) (xs : List X) → are_apart alike xs ≡ true → are_apart alike (swap_out p xs) ≡ true
  apart-out p [] a = refl
  apart-out p (x ∷ xs) a =
      let s = and_parts (list_all (λ y. not (alike x y)) xs) (are_apart alike xs) a in cond_both (p x) _ _ (λ z. are_apart alike z ≡ true) (λ _. apart-last_first xs s.1) (λ _. and_from _ _ (all-swap_out (λ y. not (alike x y)) p xs s.0) (apart-out p xs s.1))

pub apart-map : {X Y : Type 0} (f : X → Y) (alike : Y → Y → Bool) (xs : List X) → are_apart alike (map f xs) ≡ are_apart (λ x y. alike (f x) (f y)) xs
apart-map f alike [] = refl
apart-map {X} f alike (x ∷ xs) = ap (λ b. b && are_apart alike (map f xs)) (others xs) ∙ ap (λ b. list_all (λ y. not (alike (f x) (f y))) xs && b) (apart-map f alike xs)
  where
    others : (ys : List X) → list_all (λ z. not (alike (f x) z)) (map f ys) ≡ list_all (λ y. not (alike (f x) (f y))) ys
    others [] = refl
    others (y ∷ ys) = ap (λ b. not (alike (f x) (f y)) && b) (others ys)

-- where all that pass are alike, none of the others passes
module _ {X : Type 0} (alike : X → X → Bool) (p : X → Bool) (passes : (x y : X) → p x ≡ true → p y ≡ true → alike x y ≡ true) where
  pub others : (x : X) (xs : List X) → p x ≡ true → list_all (λ y. not (alike x y)) xs ≡ true → list_all (λ y. not (p y)) xs ≡ true
  others x [] h a = refl
  others x (y ∷ ys) h a =
      let s = and_parts (not (alike x y)) (list_all (λ y. not (alike x y)) ys) a in
      and_from _ _ ((elim (cases_Bool (p y)) [ inl is ↦ rw is (absurd (true≢false (sym (passes x y h is) ∙ not-true _ s.0))) | inr is ↦ rw is ])) (others x ys h s.1)

  pub gone-out : (xs : List X) → are_apart alike xs ≡ true → list_all (λ y. not (p y)) (swap_out p xs) ≡ true
  gone-out [] a = refl
  gone-out (x ∷ xs) a =
      let s = and_parts (list_all (λ y. not (alike x y)) xs) (are_apart alike xs) a in cond_both (p x) _ _ (λ z. list_all (λ y. not (p y)) z ≡ true) (λ is. all-last_first (λ y. not (p y)) xs (others x xs is s.0)) (λ is. and_from _ _ (ap not is) (gone-out xs s.1))

-- ---- the order

module _ {X : Type 0} (before : ℕ → ℕ → Bool) (number : X → ℕ) where
  abbrev put : X → List X → List X
  put x xs = put_ranked before number x xs

  put-find : (p : X → Bool) (x : X) (l : List X) → (p x ≡ true → find p l ≡ None) → find p (put x l) ≡ cond (p x) (Some x) (find p l)
  put-find p x [] h = refl
  put-find p x (y ∷ ys) h = let next = put-find p x ys in grind (arith, h, next)

  put-all : (p : X → Bool) (x : X) (l : List X) → p x ≡ true → list_all p l ≡ true → list_all p (put x l) ≡ true
  put-all p x [] h k = and_from _ _ h refl
  put-all p x (y ∷ ys) h k = let next = put-all p x ys h (and_parts (p y) (list_all p ys) k).1 in grind (arith, nat_tests, next)

  pub ranked-all : (p : X → Bool) (xs : List X) → list_all p xs ≡ true → list_all p (ranked before number xs) ≡ true
  ranked-all p [] h = refl
  ranked-all p (x ∷ xs) h = let s = and_parts (p x) (list_all p xs) h in put-all p x (ranked before number xs) s.0 (ranked-all p xs s.1)

  all-put : (p : X → Bool) (x : X) (l : List X) → list_all p (put x l) ≡ true → (p x ≡ true) × (list_all p l ≡ true)
  all-put p x [] h = ((and_parts (p x) true h).0, refl)
  all-put p x (y ∷ ys) h = let next = all-put p x ys in grind (arith, nat_tests, h, next)

  pub all-ranked : (p : X → Bool) (xs : List X) → list_all p (ranked before number xs) ≡ true → list_all p xs ≡ true
  all-ranked p [] h = refl
  all-ranked p (x ∷ xs) h = let s = all-put p x (ranked before number xs) h in and_from _ _ s.0 (all-ranked p xs s.1)

  -- a look-up finds the same, where all that pass are alike
  module _ (alike : X → X → Bool) (p : X → Bool) (passes : (x y : X) → p x ≡ true → p y ≡ true → alike x y ≡ true) where
    pub ranked-find : (xs : List X) → are_apart alike xs ≡ true → find p (ranked before number xs) ≡ find p xs
    ranked-find [] a = refl
    ranked-find (x ∷ xs) a =
        let s = and_parts (list_all (λ y. not (alike x y)) xs) (are_apart alike xs) a in
        let ih = ranked-find xs s.1 in
        put-find p x (ranked before number xs) (λ h. ih ∙ none-found p xs (others alike p passes x xs h s.0)) ∙ ap (λ o. cond (p x) (Some x) o) ih

  put-length : (x : X) (l : List X) → length (put x l) ≡ suc (length l)
  put-length x [] = refl
  put-length x (y ∷ ys) = let next = put-length x ys in grind (arith, nat_tests, next)

  pub ranked-length : (xs : List X) → length (ranked before number xs) ≡ length xs
  ranked-length [] = refl
  ranked-length (x ∷ xs) = put-length x (ranked before number xs) ∙ ap suc (ranked-length xs)

  put-last : (x : X) (l : List X) → list_all (λ y. not (before (number x) (number y))) l ≡ true → put x l ≡ l ++ x ∷ []
  put-last x [] h = refl
  put-last x (y ∷ ys) h =
      let s = and_parts (not (before (number x) (number y))) (list_all (λ y. not (before (number x) (number y))) ys) h in
      ap (λ b. if b then x ∷ y ∷ ys else y ∷ put x ys) (not-true _ s.0) ∙ ap (λ l. y ∷ l) (put-last x ys s.1)

  put-first : (x : X) (l : List X) → list_all (λ y. before (number x) (number y)) l ≡ true → put x l ≡ x ∷ l
  put-first x [] h = refl
  put-first x (y ∷ ys) h = ap (λ b. if b then x ∷ y ∷ ys else y ∷ put x ys) (and_parts (before (number x) (number y)) (list_all (λ y. before (number x) (number y)) ys) h).0

-- elements changed, and their numbers not
module _ {X Y : Type 0} (before : ℕ → ℕ → Bool) (number : X → ℕ) (shown : Y → ℕ) (f : X → Y) (keeps : (x : X) → shown (f x) ≡ number x) where
  put-map : (x : X) (l : List X) → put_ranked before shown (f x) (map f l) ≡ map f (put_ranked before number x l)
  put-map x [] = refl
  put-map x (y ∷ ys) =
      ap (λ n. if before n (shown (f y)) then f x ∷ f y ∷ map f ys else f y ∷ put_ranked before shown (f x) (map f ys)) (keeps x)
      ∙ ap (λ n. if before (number x) n then f x ∷ f y ∷ map f ys else f y ∷ put_ranked before shown (f x) (map f ys)) (keeps y)
      ∙ (elim (cases_Bool (before (number x) (number y))) [ inl e ↦ rw e | inr e ↦ rw e (ap (λ l. f y ∷ l) (put-map x ys)) ])

  pub ranked-map : (xs : List X) → ranked before shown (map f xs) ≡ map f (ranked before number xs)
  ranked-map [] = refl
  ranked-map (x ∷ xs) = ap (put_ranked before shown (f x)) (ranked-map xs) ∙ put-map x (ranked before number xs)

-- of two numbers one comes before the other, and what comes before one comes before all that it comes before
pub record IsOrder (before : ℕ → ℕ → Bool) : Type 0 where
  pub along : (a b c : ℕ) → before a b ≡ true → before b c ≡ true → before a c ≡ true
  pub either : (a b : ℕ) → (a == b) ≡ false → before b a ≡ not (before a b)

less-along : (a b c : ℕ) → nat_lt a b ≡ true → nat_lt b c ≡ true → nat_lt a c ≡ true
less-along a b c e f = grind (arith, nat_tests)

less-either : (a b : ℕ) → (a == b) ≡ false → nat_lt b a ≡ not (nat_lt a b)
less-either a b e = grind (arith, nat_tests)

pub rising : IsOrder nat_lt
rising = record { along = less-along; either = less-either }

pub falling : IsOrder (λ a b. nat_lt b a)
falling = record { along = λ a b c e f. less-along c b a f e; either = λ a b e. less-either b a (flip b a ∙ e) }

module _ {X : Type 0} (before : ℕ → ℕ → Bool) (order : IsOrder before) (number : X → ℕ) where
  abbrev numbered_alike : X → X → Bool
  numbered_alike x y = number x == number y

  put-put : (a b : X) → (number a == number b) ≡ false → (l : List X) → put_ranked before number a (put_ranked before number b l) ≡ put_ranked before number b (put_ranked before number a l)
  put-put a b n [] = let turned = order.either (number a) (number b) n in grind (arith, turned)
  put-put a b n (y ∷ ys) =
      let turned = order.either (number a) (number b) n in
      let along = order.along (number a) (number b) (number y) in
      let along2 = order.along (number b) (number a) (number y) in
      let ih = put-put a b n ys in
      grind (arith, turned, along, along2, ih)

  -- the last one may as well come first
  pub ranked-snoc : (xs : List X) (z : X) → list_all (λ y. not (number z == number y)) xs ≡ true → ranked before number (xs ++ z ∷ []) ≡ put_ranked before number z (ranked before number xs)
  ranked-snoc [] z h = refl
  ranked-snoc (x ∷ xs) z h =
      let s = and_parts (not (number z == number x)) (list_all (λ y. not (number z == number y)) xs) h in
      ap (put_ranked before number x) (ranked-snoc xs z s.1) ∙ sym (put-put z x (not-true _ s.0) (ranked before number xs))

  -- one that comes before all, or that all come before
  pub ranked-newest_first : (xs : List X) (z : X) → list_all (λ y. not (number z == number y)) xs ≡ true → list_all (λ y. before (number z) (number y)) xs ≡ true → ranked before number (xs ++ z ∷ []) ≡ z ∷ ranked before number xs
  ranked-newest_first xs z h k = ranked-snoc xs z h ∙ put-first before number z (ranked before number xs) (ranked-all before number (λ y. before (number z) (number y)) xs k)

  pub ranked-newest_last : (xs : List X) (z : X) → list_all (λ y. not (number z == number y)) xs ≡ true → list_all (λ y. not (before (number z) (number y))) xs ≡ true → ranked before number (xs ++ z ∷ []) ≡ ranked before number xs ++ z ∷ []
  ranked-newest_last xs z h k = ranked-snoc xs z h ∙ put-last before number z (ranked before number xs) (ranked-all before number (λ y. not (before (number z) (number y))) xs k)

  pub ranked-last_first : (xs : List X) → are_apart numbered_alike xs ≡ true → ranked before number (last_first xs) ≡ ranked before number xs
  ranked-last_first [] a = refl
  ranked-last_first (x ∷ xs) a =
      let r = apart-last numbered_alike (λ y z. flip (number y) (number z)) x xs a in
      sym (ap (ranked before number) (last_split x xs) ∙ ranked-snoc (front_of x xs) (last_of x xs) r.0)

  -- what is swapped out is put back in its place
  pub swapped-out : (p : X → Bool) (xs : List X) (z : X) → are_apart numbered_alike xs ≡ true → find p xs ≡ Some z → ranked before number xs ≡ put_ranked before number z (ranked before number (swap_out p xs))
  swapped-out p [] z a e = absurd (none-some z e)
  swapped-out p (x ∷ xs) z a e =
      let s = and_parts (list_all (λ y. not (number x == number y)) xs) (are_apart numbered_alike xs) a in
      let ih = swapped-out p xs z s.1 in
      elim (cases_Bool (p x)) [
        | inl is ↦ rw is (let same : x ≡ z = same_Some x z (rw is at e) in ap (λ w. put_ranked before number w (ranked before number xs)) same ∙ ap (put_ranked before number z) (sym (ranked-last_first xs s.1)))
        | inr is ↦ let found = rw is at e in rw is (ap (put_ranked before number x) (ih found) ∙ put-put x z (other xs found s.0) (ranked before number (swap_out p xs)))
      ]
    where
      other : (ys : List X) → find p ys ≡ Some z → list_all (λ y. not (number x == number y)) ys ≡ true → (number x == number z) ≡ false
      other [] e h = absurd (none-some z e)
      other (y ∷ ys) e h = let s = and_parts (not (number x == number y)) (list_all (λ y. not (number x == number y)) ys) h in let next = other ys in grind (arith, nat_tests, e, s.0, next, s.1)

module _ {X : Type 0} (before : ℕ → ℕ → Bool) (number : X → ℕ) where
  filter-put : (q : X → Bool) (x : X) (l : List X) → q x ≡ false → filter q (put_ranked before number x l) ≡ filter q l
  filter-put q x [] h = ap (λ b. cond b (x ∷ []) []) h
  filter-put q x (y ∷ ys) h = let next = filter-put q x ys h in grind (arith, nat_tests, next)

filter-all : {X : Type 0} (q : X → Bool) (l : List X) → list_all q l ≡ true → filter q l ≡ l
filter-all q [] h = refl
filter-all q (x ∷ xs) h = let s = and_parts (q x) (list_all q xs) h in ap (λ b. cond b (x ∷ filter q xs) (filter q xs)) s.0 ∙ ap (λ l. x ∷ l) (filter-all q xs s.1)

pub found-passes : {X : Type 0} (p : X → Bool) (xs : List X) (z : X) → find p xs ≡ Some z → p z ≡ true
found-passes p [] z e = absurd (none-some z e)
found-passes p (x ∷ xs) z e = let next = found-passes p xs z in grind (arith, nat_tests, e, next)

-- what is swapped out is left out of the order
module _ {X : Type 0} (before : ℕ → ℕ → Bool) (order : IsOrder before) (number : X → ℕ) (p : X → Bool) (passes : (x y : X) → p x ≡ true → p y ≡ true → (number x == number y) ≡ true) where
  pub left-out : (xs : List X) → are_apart (λ x y. number x == number y) xs ≡ true → ranked before number (swap_out p xs) ≡ filter (λ x. not (p x)) (ranked before number xs)
  left-out xs a = go (find p xs) refl
    where
      go : (o : Option X) → find p xs ≡ o → ranked before number (swap_out p xs) ≡ filter (λ x. not (p x)) (ranked before number xs)
      go None e = ap (ranked before number) (none-out p xs e) ∙ sym (filter-all (λ x. not (p x)) (ranked before number xs) (ranked-all before number (λ x. not (p x)) xs (found-none p xs e)))
      go (Some z) e =
          sym (ap (filter (λ x. not (p x))) (swapped-out before order number p xs z a e)
          ∙ filter-put before number (λ x. not (p x)) z (ranked before number (swap_out p xs)) (ap not (found-passes p xs z e))
          ∙ filter-all (λ x. not (p x)) (ranked before number (swap_out p xs)) (ranked-all before number (λ x. not (p x)) (swap_out p xs) (gone-out (λ x y. number x == number y) p passes xs a)))
