-- Lemmas on lists of indices.
use Rattle.std.proofs.Common.{◌≡◌, ◌≢◌, ℕ, ◌+◌, ◌||◌, true, false, List, [], ◌∷◌, ◌++◌, length, refl, sym, ap, ◌∙◌, inl, inr, arith}
use Rattle.std.proofs.lemmas.Bool.{cases_eq, cond-true, cond-false, eq-eqb, ne_eqb, true≢false}
use Rattle.std.proofs.lemmas.List.{length-append, length_push}
use Rattle.policy_queue.specs.Indices.{Lacks, has_index, without_index, from_index, index_moved_to_back}

pub has_here : (x : ℕ) (i : ℕ) (rest : List ℕ) → i ≡ x → has_index x (i ∷ rest) ≡ true
has_here x i rest e = ap (λ b. b || has_index x rest) (eq-eqb i x e)

pub has_later : (x : ℕ) (i : ℕ) (rest : List ℕ) → i ≢ x → has_index x (i ∷ rest) ≡ has_index x rest
has_later x i rest d = ap (λ b. b || has_index x rest) (ne_eqb i x d)

pub has_at : (x : ℕ) (front back : List ℕ) → has_index x (front ++ x ∷ back) ≡ true
has_at x [] back = has_here x x back refl
has_at x (i ∷ front) back = elim (cases_eq i x) [
  | inl e ↦ has_here x i (front ++ x ∷ back) e
  | inr d ↦ has_later x i (front ++ x ∷ back) d ∙ has_at x front back
]

pub has_lacked : (x : ℕ) (xs : List ℕ) → Lacks x xs → has_index x xs ≡ false
has_lacked x [] h = refl
has_lacked x (i ∷ xs) h = has_later x i xs h.0 ∙ has_lacked x xs h.1

pub lacks_not_had : (x : ℕ) (xs : List ℕ) → has_index x xs ≡ false → Lacks x xs
lacks_not_had x [] e = tt
lacks_not_had x (i ∷ xs) e = elim (cases_eq i x) [
  | inl f ↦ absurd (true≢false (sym (has_here x i xs f) ∙ e))
  | inr d ↦ (d, lacks_not_had x xs (sym (has_later x i xs d) ∙ e))
]

pub without_at : (x : ℕ) (front back : List ℕ) → Lacks x front → without_index x (front ++ x ∷ back) ≡ front ++ back
without_at x [] back h = cond-true _ _ _ (eq-eqb x x refl)
without_at x (i ∷ front) back h = cond-false _ _ _ (ne_eqb i x h.0) ∙ ap (λ r. i ∷ r) (without_at x front back h.1)

pub from_at : (x : ℕ) (front back : List ℕ) → Lacks x front → from_index x (front ++ x ∷ back) ≡ x ∷ back
from_at x [] back h = cond-true _ _ _ (eq-eqb x x refl)
from_at x (i ∷ front) back h = cond-false _ _ _ (ne_eqb i x h.0) ∙ from_at x front back h.1

-- a list around the first place of an index
pub record Split (x : ℕ) (xs : List ℕ) : Type 0 where
  pub front : List ℕ
  pub back : List ℕ
  pub is : xs ≡ front ++ x ∷ back
  pub apart : Lacks x front

pub split_at : (x : ℕ) (xs : List ℕ) → has_index x xs ≡ true → Split x xs
split_at x [] h = absurd (true≢false (sym h))
split_at x (i ∷ xs) h = elim (cases_eq i x) [
  | inl e ↦ record { front = []; back = xs; is = ap (λ j. j ∷ xs) e; apart = tt }
  | inr d ↦
      let s = split_at x xs (sym (has_later x i xs d) ∙ h) in
      record { front = i ∷ s.front; back = s.back; is = ap (λ r. i ∷ r) s.is; apart = (d, s.apart) }
]

-- one index fewer, and as many
pub length_without : (x : ℕ) (xs : List ℕ) → has_index x xs ≡ true → length (without_index x xs) + 1 ≡ length xs
length_without x xs h =
    let s = split_at x xs h in
    let now = ap length (ap (without_index x) s.is ∙ without_at x s.front s.back s.apart) ∙ length-append s.front s.back in
    let was = ap length s.is ∙ length-append s.front (x ∷ s.back) in
    omega arith

pub length_moved : (x : ℕ) (xs : List ℕ) → has_index x xs ≡ true → length (index_moved_to_back x xs) ≡ length xs
length_moved x xs h = let one = length_without x xs h in omega (arith, length_push (without_index x xs) x)
