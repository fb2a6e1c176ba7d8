-- The words of a line by its first space.
use Rattle.std.proofs.Common.{inl, inr, length-drop, ◌≡◌, ℕ, zero, suc, ◌+◌, ◌<◌, ◌≤◌, Bool, true, false, List, [], ◌∷◌, length, take, drop, get_or, Some, None, refl, sym, ap, ◌∙◌, subst, arith}
use Rattle.std.specs.Prelude.{not}
use Rattle.std.specs.List.{filter, slice_split, position, position_or_len, after_first, onto_first}
use Rattle.std.proofs.lemmas.Bool.{cases_Bool, ltb-true, cond-false, cond-true, not_from_false, not-true}
use Rattle.std.proofs.lemmas.Bool.Decides.{nat_tests}
use Rattle.std.proofs.lemmas.Option.{cond_some}
use Rattle.std.proofs.lemmas.List.{drop_all, get_or-drop}
use Rattle.std.proofs.lemmas.List.Sums.{passes_at_first}
use Rattle.std.proofs.lemmas.List.Splits.{slice_split_first, slice_split-cons_yes, slice_split-cons_no}
use Rattle.memcache_model.specs.Bytes.{tokens, is_space, is_filled}

-- ---- spaces in front

-- one space in front makes no difference
tokens-space : (b : ℕ) (bs : List ℕ) → is_space b ≡ true → tokens (b ∷ bs) ≡ tokens bs
tokens-space b bs space = ap (filter is_filled) (slice_split-cons_yes is_space b bs space)

-- ---- the first space

-- no place was found
missed : (p : ℕ → Bool) (line : List ℕ) → position p line ≡ None → length line ≤ position_or_len p line
missed p line is = grind (arith, nat_tests, is)

-- ---- no spaces in front

-- a byte that is no space
abbrev is_other : ℕ → Bool
is_other b = not (is_space b)

-- the spaces in front make no difference
tokens-front : (line : List ℕ) → tokens (drop (position_or_len is_other line) line) ≡ tokens line
tokens-front [] = refl
tokens-front (b ∷ bs) = elim (cases_Bool (is_space b)) [
  | inl is ↦
      let front : position_or_len is_other (b ∷ bs) ≡ suc (position_or_len is_other bs) = cond-true (not (is_other b)) (1 + position_or_len is_other bs) 0 (ap (λ x. not (not x)) is) ∙ omega arith in
      ap (λ n. tokens (drop n (b ∷ bs))) front ∙ tokens-front bs ∙ sym (tokens-space b bs is)
  | inr is ↦
      ap (λ n. tokens (drop n (b ∷ bs))) (cond-false (not (is_other b)) (1 + position_or_len is_other bs) 0 (ap (λ x. not (not x)) is))
]

-- the line without them
pub tokens-trimmed : (line : List ℕ) (at : ℕ) → position is_other line ≡ Some at → tokens (drop at line) ≡ tokens line
tokens-trimmed line at is =
    let place = cond_some _ (position_or_len is_other line) at is in
    ap (λ n. tokens (drop n line)) (sym place.1) ∙ tokens-front line

-- where it begins
pub other-inside : (line : List ℕ) (at : ℕ) → position is_other line ≡ Some at → at < length line
other-inside line at is =
    let place = cond_some _ (position_or_len is_other line) at is in
    subst (λ n. n < length line) place.1 (ltb-true (position_or_len is_other line) (length line) place.0)

-- it begins with no space
pub other-begins : (line : List ℕ) (at : ℕ) → position is_other line ≡ Some at → is_space (get_or (drop at line) 0 0) ≡ false
other-begins line at is =
    let place = cond_some _ (position_or_len is_other line) at is in
    let inside = ltb-true (position_or_len is_other line) (length line) place.0 in
    ap is_space (get_or-drop at line 0 0 ∙ ap (λ n. get_or line n 0) (omega arith)) ∙ not-true (is_space (get_or line at 0)) (subst (λ n. is_other (get_or line n 0) ≡ true) place.1 (passes_at_first is_other line 0 inside))

-- a line of spaces has no words
pub tokens-none : (line : List ℕ) → position is_other line ≡ None → tokens line ≡ []
tokens-none line is =
    sym (tokens-front line) ∙ ap tokens (drop_all (position_or_len is_other line) line (missed is_other line is))

-- a word that is not empty comes first
filter-first : (at : ℕ) (line : List ℕ) (parts : List (List ℕ)) → 0 < length line → 0 < at → filter is_filled (take at line ∷ parts) ≡ take at line ∷ filter is_filled parts
filter-first at [] parts some far = absurd (omega arith)
filter-first zero (b ∷ bs) parts some far = absurd (omega arith)
filter-first (suc k) (b ∷ bs) parts some far = refl

-- the first space of a line that begins with none is not at its front
place-positive : (line : List ℕ) → 0 < length line → is_space (get_or line 0 0) ≡ false → 0 < position_or_len is_space line
place-positive [] some begins = absurd (omega arith)
place-positive (b ∷ bs) some begins = subst (λ n. 0 < n) (sym (cond-true (not (is_space b)) (1 + position_or_len is_space bs) 0 (not_from_false (is_space b) begins))) (omega arith)

-- a line that begins with no space and has one: its first word ends there
pub tokens-first : (line : List ℕ) (at : ℕ) → 0 < length line → is_space (get_or line 0 0) ≡ false → position is_space line ≡ Some at → tokens line ≡ take at line ∷ tokens (drop (at + 1) line)
tokens-first line at some begins is =
    let place = cond_some _ (position_or_len is_space line) at is in
    let inside = ltb-true (position_or_len is_space line) (length line) place.0 in
    let far = place-positive line some begins in
    ap (filter is_filled) (slice_split_first is_space line 0 inside)
    ∙ filter-first (position_or_len is_space line) line (slice_split is_space (after_first is_space line)) some far
    ∙ ap (λ n. take n line ∷ tokens (drop (n + 1) line)) place.1

-- the whole line is one part where there is no space
slice_split-alone : (line : List ℕ) → length line ≤ position_or_len is_space line → slice_split is_space line ≡ line ∷ []
slice_split-alone [] none = refl
slice_split-alone (b ∷ bs) none = elim (cases_Bool (is_space b)) [
  | inl is ↦
      let front = cond-false (not (is_space b)) (1 + position_or_len is_space bs) 0 (ap not is) in
      absurd (omega (arith, front))
  | inr is ↦
      let front = cond-true (not (is_space b)) (1 + position_or_len is_space bs) 0 (ap not is) in
      slice_split-cons_no is_space b bs is ∙ ap (onto_first b) (slice_split-alone bs (omega (arith, front)))
]

-- a line that has no space and is not empty is a word
pub tokens-alone : (line : List ℕ) → 0 < length line → position is_space line ≡ None → tokens line ≡ line ∷ []
tokens-alone line some is =
    ap (filter is_filled) (slice_split-alone line (missed is_space line is)) ∙ whole line some
  where
    whole : (line : List ℕ) → 0 < length line → filter is_filled (line ∷ []) ≡ line ∷ []
    whole [] some = absurd (omega arith)
    whole (b ∷ bs) some = refl

-- ---- what stands behind

-- it is shorter than the line
pub behind-shorter : (line : List ℕ) (at : ℕ) → 0 < length line → length (drop (at + 1) line) < length line
behind-shorter line at some = omega (arith, length-drop (at + 1) line)

-- nothing stands behind the whole line
pub behind-all : (line : List ℕ) → drop (length line) line ≡ []
behind-all line = drop_all (length line) line (omega arith)
