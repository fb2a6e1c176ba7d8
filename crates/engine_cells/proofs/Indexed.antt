-- Lists of places, as one goes or comes last, and the numbers for which they stand.
use Rattle.std.proofs.Common.{◌≡◌, ◌≢◌, refl, ap, sym, ◌∙◌, subst, ℕ, true, false, not, cond, eqb, ◌||◌, List, [], ◌∷◌, ◌++◌, map, inl, inr}
use Rattle.std.proofs.lemmas.Bool.{cases_eq, cond-true, cond-false, eq-eqb, ne_eqb}
use Rattle.std.proofs.lemmas.List.{map-append}
use Rattle.policy_queue.specs.Indices.{IndicesDiffer, Lacks, has_index, without_index, index_moved_to_back}
use Rattle.policy_queue.proofs.Listed.{has_here, has_later, has_lacked, lacks_not_had}
use Rattle.engine_reference.specs.Records.{without, moved_to_back}

without_here : (x i : ℕ) (xs : List ℕ) → i ≡ x → without_index x (i ∷ xs) ≡ xs
without_here x i xs e = cond-true _ _ _ (eq-eqb i x e)

without_later : (x i : ℕ) (xs : List ℕ) → i ≢ x → without_index x (i ∷ xs) ≡ i ∷ without_index x xs
without_later x i xs d = cond-false _ _ _ (ne_eqb i x d)

-- what is lacking stays lacking
lacks_left : (j x : ℕ) (xs : List ℕ) → Lacks j xs → Lacks j (without_index x xs)
lacks_left j x [] h = tt
lacks_left j x (i ∷ xs) h = elim (cases_eq i x) [
  | inl e ↦ subst (Lacks j) (sym (without_here x i xs e)) h.1
  | inr d ↦ subst (Lacks j) (sym (without_later x i xs d)) (h.0, lacks_left j x xs h.1)
]

-- what went is lacking
pub lacks_gone : (x : ℕ) (xs : List ℕ) → IndicesDiffer xs → Lacks x (without_index x xs)
lacks_gone x [] h = tt
lacks_gone x (i ∷ xs) h = elim (cases_eq i x) [
  | inl e ↦ subst (Lacks x) (sym (without_here x i xs e)) (subst (λ y. Lacks y xs) e h.0)
  | inr d ↦ subst (Lacks x) (sym (without_later x i xs d)) (d, lacks_gone x xs h.1)
]

pub apart_left : (x : ℕ) (xs : List ℕ) → IndicesDiffer xs → IndicesDiffer (without_index x xs)
apart_left x [] h = tt
apart_left x (i ∷ xs) h = elim (cases_eq i x) [
  | inl e ↦ subst IndicesDiffer (sym (without_here x i xs e)) h.1
  | inr d ↦ subst IndicesDiffer (sym (without_later x i xs d)) (lacks_left i x xs h.0, apart_left x xs h.1)
]

lacks_pushed : (j x : ℕ) (xs : List ℕ) → x ≢ j → Lacks j xs → Lacks j (xs ++ x ∷ [])
lacks_pushed j x [] d h = (d, tt)
lacks_pushed j x (i ∷ xs) d h = (h.0, lacks_pushed j x xs d h.1)

apart_pushed : (x : ℕ) (xs : List ℕ) → Lacks x xs → IndicesDiffer xs → IndicesDiffer (xs ++ x ∷ [])
apart_pushed x [] l h = (tt, tt)
apart_pushed x (i ∷ xs) l h = (lacks_pushed i x xs (λ e. l.0 (sym e)) h.0, apart_pushed x xs l.1 h.1)

pub apart_moved : (x : ℕ) (xs : List ℕ) → IndicesDiffer xs → IndicesDiffer (index_moved_to_back x xs)
apart_moved x xs h = apart_pushed x (without_index x xs) (lacks_gone x xs h) (apart_left x xs h)

pub has_gone : (x : ℕ) (xs : List ℕ) → IndicesDiffer xs → has_index x (without_index x xs) ≡ false
has_gone x xs h = has_lacked x (without_index x xs) (lacks_gone x xs h)

-- another stays
pub has_left : (j x : ℕ) (xs : List ℕ) → j ≢ x → has_index j (without_index x xs) ≡ has_index j xs
has_left j x [] d = refl
has_left j x (i ∷ xs) d = elim (cases_eq i x) [
  | inl e ↦ ap (has_index j) (without_here x i xs e) ∙ sym (has_later j i xs (λ f. d (sym f ∙ e)))
  | inr other ↦ ap (has_index j) (without_later x i xs other) ∙ ap (λ b. eqb i j || b) (has_left j x xs d)
]

has_pushed : (j x : ℕ) (xs : List ℕ) → j ≢ x → has_index j (xs ++ x ∷ []) ≡ has_index j xs
has_pushed j x [] d = has_later j x [] (λ e. d (sym e))
has_pushed j x (i ∷ xs) d = ap (λ b. eqb i j || b) (has_pushed j x xs d)

has_last : (x : ℕ) (xs : List ℕ) → has_index x (xs ++ x ∷ []) ≡ true
has_last x [] = has_here x x [] refl
has_last x (i ∷ xs) = elim (cases_eq i x) [
  | inl e ↦ has_here x i (xs ++ x ∷ []) e
  | inr d ↦ has_later x i (xs ++ x ∷ []) d ∙ has_last x xs
]

pub has_moved : (x : ℕ) (xs : List ℕ) → has_index x (index_moved_to_back x xs) ≡ true
has_moved x xs = has_last x (without_index x xs)

pub has_others_moved : (j x : ℕ) (xs : List ℕ) → j ≢ x → has_index j (index_moved_to_back x xs) ≡ has_index j xs
has_others_moved j x xs d = has_pushed j x (without_index x xs) d ∙ has_left j x xs d

-- what lacks a place is as it was without it
pub without_lacked : (x : ℕ) (xs : List ℕ) → has_index x xs ≡ false → without_index x xs ≡ xs
without_lacked x [] e = refl
without_lacked x (i ∷ xs) e =
    let l = lacks_not_had x (i ∷ xs) e in
    without_later x i xs l.0 ∙ ap (λ l. i ∷ l) (without_lacked x xs (has_lacked x xs l.1))

-- the first is one of them, and so is each behind it
pub has_first : (i : ℕ) (xs : List ℕ) → has_index i (i ∷ xs) ≡ true
has_first i xs = has_here i i xs refl

pub has_behind : (j i : ℕ) (xs : List ℕ) → has_index j xs ≡ true → has_index j (i ∷ xs) ≡ true
has_behind j i xs h = elim (cases_eq i j) [
  | inl e ↦ has_here j i xs e
  | inr d ↦ has_later j i xs d ∙ h
]

-- a place stands for the number just where it is this one, and another stands for the same number as before
pub record Names (f g : ℕ → ℕ) (x num j : ℕ) : Type 0 where
  pub named : eqb (f j) num ≡ eqb j x
  pub same : j ≢ x → g j ≡ f j

module _ (f g : ℕ → ℕ) (x num : ℕ) where
  kept_other : (i : ℕ) (xs : List ℕ) → Names f g x num i → i ≢ x → without num (f i ∷ map f xs) ≡ f i ∷ without num (map f xs)
  kept_other i xs n d = ap (λ b. cond (not b) (f i ∷ without num (map f xs)) (without num (map f xs))) (n.named ∙ ne_eqb i x d)

  -- no place stands for the number
  numbers_lacking : (xs : List ℕ) → Lacks x xs → ((j : ℕ) → has_index j xs ≡ true → Names f g x num j) → map g xs ≡ without num (map f xs)
  numbers_lacking [] l h = refl
  numbers_lacking (i ∷ xs) l h =
      let n = h i (has_first i xs) in
      ap (λ m. m ∷ map g xs) (n.same l.0)
      ∙ ap (λ ms. f i ∷ ms) (numbers_lacking xs l.1 (λ j k. h j (has_behind j i xs k)))
      ∙ sym (kept_other i xs n l.0)

  -- the list without a place stands for the numbers without its number
  pub numbers_without : (xs : List ℕ) → IndicesDiffer xs → ((j : ℕ) → has_index j xs ≡ true → Names f g x num j) → map g (without_index x xs) ≡ without num (map f xs)
  numbers_without [] a h = refl
  numbers_without (i ∷ xs) a h = elim (cases_eq i x) [
    | inl e ↦
        ap (map g) (without_here x i xs e)
        ∙ numbers_lacking xs (subst (λ y. Lacks y xs) e a.0) (λ j k. h j (has_behind j i xs k))
        ∙ sym (ap (λ b. cond (not b) (f i ∷ without num (map f xs)) (without num (map f xs))) ((h i (has_first i xs)).named ∙ eq-eqb i x e))
    | inr d ↦
        ap (map g) (without_later x i xs d)
        ∙ ap (λ m. m ∷ map g (without_index x xs)) ((h i (has_first i xs)).same d)
        ∙ ap (λ ms. f i ∷ ms) (numbers_without xs a.1 (λ j k. h j (has_behind j i xs k)))
        ∙ sym (kept_other i xs (h i (has_first i xs)) d)
  ]

  -- the list with a place last stands for the numbers with its number last
  pub numbers_moved : (xs : List ℕ) → IndicesDiffer xs → ((j : ℕ) → has_index j xs ≡ true → Names f g x num j) → g x ≡ num → map g (index_moved_to_back x xs) ≡ moved_to_back num (map f xs)
  numbers_moved xs a h is =
      map-append g (without_index x xs) (x ∷ [])
      ∙ ap (λ ms. ms ++ g x ∷ []) (numbers_without xs a h)
      ∙ ap (λ n. without num (map f xs) ++ n ∷ []) is
