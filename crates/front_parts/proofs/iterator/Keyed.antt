-- Keys of which no two compare alike, and the pairs of those that have a value.
use Rattle.std.proofs.Common.{◌≡◌, refl, ap, sym, ◌∙◌, subst, ℕ, zero, suc, ◌+◌, ◌<◌, ◌≤◌, ◌⊎◌, inl, inr, arith, Bool, true, List, [], ◌∷◌, ◌++◌, Option, Some, None}
use Rattle.std.specs.Cmp.{IsEquivalence}
use Rattle.std.specs.Prelude.{slice_get, map}
use Rattle.front_parts.specs.Iterator.Coming.{keys_from, pair_before, pairs}

-- it stands somewhere in the list
abbrev pub Has : {X : Type 0} → List X → X → Type 0
Has xs x = (i : ℕ) × (slice_get xs i ≡ Some x)

module _ {X : Type 0} where
  none-there : (x : X) → Has [] x → ⊥
  none-there x h = let e = h.1 in cc

  pub first-or : (y : X) (xs : List X) (x : X) → Has (y ∷ xs) x → (y ≡ x) ⊎ Has xs x
  first-or y xs x (zero, e) = inl (let same : y ≡ x = cc in same)
  first-or y xs x (suc i, e) = inr (i, e)

  pub later : (y : X) (xs : List X) (x : X) → Has xs x → Has (y ∷ xs) x
  later y xs x h = (suc h.0, h.1)

  pub either : (xs ys : List X) (x : X) → Has (xs ++ ys) x → Has xs x ⊎ Has ys x
  either [] ys x h = inr h
  either (z ∷ xs) ys x h = elim (first-or z (xs ++ ys) x h) [
    | inl same ↦ inl (0, ap Some same)
    | inr there ↦ (elim (either xs ys x there) [ inl l ↦ inl (later z xs x l) | inr r ↦ inr r ])
  ]

  pub in-left : (xs ys : List X) (x : X) → Has xs x → Has (xs ++ ys) x
  in-left [] ys x h = absurd (none-there x h)
  in-left (z ∷ xs) ys x h = elim (first-or z xs x h) [ inl same ↦ (0, ap Some same) | inr there ↦ later z (xs ++ ys) x (in-left xs ys x there) ]

  pub in-right : (xs ys : List X) (x : X) → Has ys x → Has (xs ++ ys) x
  in-right [] ys x h = h
  in-right (z ∷ xs) ys x h = later z (xs ++ ys) x (in-right xs ys x h)

module _ {X Y : Type 0} (f : X → Y) where
  pub mapped : (xs : List X) (y : Y) → Has (map f xs) y → (x : X) × Has xs x × (f x ≡ y)
  mapped [] y h = absurd (none-there y h)
  mapped (z ∷ xs) y h = elim (first-or (f z) (map f xs) y h) [
    | inl same ↦ (z, (0, refl), same)
    | inr there ↦ (let m = mapped xs y there in (m.0, later z xs m.0 m.1, m.2))
  ]

  pub has-mapped : (xs : List X) (x : X) → Has xs x → Has (map f xs) (f x)
  has-mapped [] x h = absurd (none-there x h)
  has-mapped (z ∷ xs) x h = elim (first-or z xs x h) [ inl same ↦ (0, ap (λ y. Some (f y)) same) | inr there ↦ later (f z) (map f xs) (f x) (has-mapped xs x there) ]

-- ---- segments

module _ {K : Type 0} (keys_in : ℕ → List K) where
  pub from-segment : (n place : ℕ) (k : K) → Has (keys_from keys_in n place) k → (q : ℕ) × (place ≤ q) × (q < place + n) × Has (keys_in q) k
  from-segment zero place k h = absurd (none-there k h)
  from-segment (suc n) place k h = elim (either (keys_in place) (keys_from keys_in n (suc place)) k h) [
    | inl here ↦ (place, omega arith, omega arith, here)
    | inr more ↦ (let r = from-segment n (suc place) k more in let a = r.1 in let b = r.2 in (r.0, omega arith, omega arith, r.3))
  ]

  pub in-segment : (n place q : ℕ) (k : K) → place ≤ q → q < place + n → Has (keys_in q) k → Has (keys_from keys_in n place) k
  in-segment zero place q k low high h = absurd (omega arith)
  in-segment (suc n) place q k low high h = elim (cases place q low) [
    | inl same ↦ in-left (keys_in place) (keys_from keys_in n (suc place)) k (subst (λ m. Has (keys_in m) k) (sym same) h)
    | inr less ↦ in-right (keys_in place) (keys_from keys_in n (suc place)) k (in-segment n (suc place) q k less (omega arith) h)
  ]
    where
      cases : (p q : ℕ) → p ≤ q → (p ≡ q) ⊎ (suc p ≤ q)
      cases zero zero low = inl refl
      cases zero (suc q) low = inr (omega arith)
      cases (suc p) zero low = absurd (omega arith)
      cases (suc p) (suc q) low = elim (cases p q (omega arith)) [ inl e ↦ inl (ap suc e) | inr l ↦ inr (omega (arith, l)) ]

-- ---- keys that compare alike

module _ {K : Type 0} (eq : K → K → Bool) (laws : IsEquivalence eq) where
  -- none of these compares alike with it
  abbrev pub NoneLike : K → List K → Type 0
  NoneLike k ks = (l : K) → Has ks l → eq k l ≡ true → ⊥

  abbrev pub Apart : List K → Type 0
  Apart [] = Unit {0}
  Apart (k ∷ ks) = NoneLike k ks × Apart ks

  pub apart-append : (ks ls : List K) → Apart ks → Apart ls → ((k l : K) → Has ks k → Has ls l → eq k l ≡ true → ⊥) → Apart (ks ++ ls)
  apart-append [] ls a b cross = b
  apart-append (k ∷ ks) ls a b cross = (
    (λ l h alike. elim (either ks ls l h) [ inl here ↦ a.0 l here alike | inr there ↦ cross k l (0, refl) there alike ]),
    apart-append ks ls a.1 b (λ x y h there. cross x y (later k ks x h) there),
  )

  pub apart-from : (keys_in : ℕ → List K) (n place : ℕ) → ((q : ℕ) → place ≤ q → q < place + n → Apart (keys_in q)) → ((p q : ℕ) (k l : K) → p < q → q < place + n → place ≤ p → Has (keys_in p) k → Has (keys_in q) l → eq k l ≡ true → ⊥)
      → Apart (keys_from keys_in n place)
  apart-from keys_in zero place each cross = tt
  apart-from keys_in (suc n) place each cross =
      apart-append (keys_in place) (keys_from keys_in n (suc place)) (each place (omega arith) (omega arith))
      (apart-from keys_in n (suc place) (λ q low high. each q (omega arith) (omega arith)) (λ p q k l less high low. cross p q k l less (omega arith) (omega arith)))
      (λ k l h there alike.
      let r = from-segment keys_in n (suc place) l there in
      let a = r.1 in
      let b = r.2 in
      cross place r.0 k l (omega arith) (omega arith) (omega arith) h r.3 alike)

  alike-back : (k l : K) → eq k l ≡ true → eq l k ≡ true
  alike-back k l e = laws.symm l k ∙ e

module _ {K V : Type 0} where
  -- a pair is of a key that has its value
  pub of-pair : (value_of : K → Option V) (ks : List K) (x : K × V) → Has (pairs value_of ks) x → Has ks x.0 × (value_of x.0 ≡ Some x.1)
  of-pair value_of [] x h = absurd (none-there x h)
  of-pair value_of (k ∷ ks) x h = by_value (value_of k) refl (λ g. of-pair value_of ks x g) h
    where
      by_value : (o : Option V) → value_of k ≡ o → (Has (pairs value_of ks) x → Has ks x.0 × (value_of x.0 ≡ Some x.1)) → Has (pair_before k o (pairs value_of ks)) x → Has (k ∷ ks) x.0 × (value_of x.0 ≡ Some x.1)
      by_value None is others h = let r = others h in (later k ks x.0 r.0, r.1)
      by_value (Some v) is others h = elim (first-or (k, v) (pairs value_of ks) x h) [
        | inl same ↦ ((0, ap (λ (y : K × V). Some y.0) same), subst (λ (y : K × V). value_of y.0 ≡ Some y.1) same is)
        | inr there ↦ (let r = others there in (later k ks x.0 r.0, r.1))
      ]

  pub has-pair : (value_of : K → Option V) (ks : List K) (k : K) (v : V) → Has ks k → value_of k ≡ Some v → Has (pairs value_of ks) (k, v)
  has-pair value_of [] k v h is = absurd (none-there k h)
  has-pair value_of (l ∷ ks) k v h is = elim (first-or l ks k h) [
    | inl same ↦ subst (λ o. Has (pair_before l o (pairs value_of ks)) (k, v)) (sym (ap value_of same ∙ is)) (0, ap (λ y. Some (y, v)) same)
    | inr there ↦ before (value_of l) (has-pair value_of ks k v there is)
  ]
    where
      before : (o : Option V) → Has (pairs value_of ks) (k, v) → Has (pair_before l o (pairs value_of ks)) (k, v)
      before None h = h
      before (Some w) h = later (l, w) (pairs value_of ks) (k, v) h

module _ {K V : Type 0} (eq : K → K → Bool) (laws : IsEquivalence eq) where
  -- no key twice
  abbrev pub Once : List (K × V) → Type 0
  Once given = (a b : ℕ) (x y : K × V) → slice_get given a ≡ Some x → slice_get given b ≡ Some y → eq x.0 y.0 ≡ true → a ≡ b

  once-before : (k : K) (v : V) (ps : List (K × V)) → ((x : K × V) → Has ps x → eq k x.0 ≡ true → ⊥) → Once ps → Once ((k, v) ∷ ps)
  once-before k v ps other once zero zero x y p q alike = refl
  once-before k v ps other once zero (suc b) x y p q alike =
      let same : (k, v) ≡ x = cc in
      absurd (other y (b, q) (ap (λ (z : K × V). eq z.0 y.0) same ∙ alike))
  once-before k v ps other once (suc a) zero x y p q alike =
      let same : (k, v) ≡ y = cc in
      absurd (other x (a, p) (alike-back eq laws x.0 k (ap (λ (z : K × V). eq x.0 z.0) same ∙ alike)))
  once-before k v ps other once (suc a) (suc b) x y p q alike = ap suc (once a b x y p q alike)

  pub once-pairs : (value_of : K → Option V) (ks : List K) → Apart eq laws ks → Once (pairs value_of ks)
  once-pairs value_of [] apart = λ a b x y p q alike. absurd (none-there x (a, p))
  once-pairs value_of (k ∷ ks) apart = by_value (value_of k) (once-pairs value_of ks apart.1)
    where
      by_value : (o : Option V) → Once (pairs value_of ks) → Once (pair_before k o (pairs value_of ks))
      by_value None once = once
      by_value (Some v) once = once-before k v (pairs value_of ks) (λ x h alike. apart.0 x.0 (of-pair value_of ks x h).0 alike) once
