-- What streaks say of each place, and what changes where one comes or goes.
use Rattle.std.proofs.Common.{refl, sym, ap, ◌∙◌, arith, inl, inr, ◌≡◌, ◌≢◌, ℕ, zero, suc, ◌+◌, ◌-◌, ◌<◌, ◌≤◌, true, false, List, [], ◌∷◌, ◌++◌, Option, Some, None, is_some, length, slice_set}
use Rattle.std.specs.Prelude.{unwrap_or}
use Rattle.std.specs.List.{slice_get}
use Rattle.std.specs.BTreeMap.{BTreeMap, get}
use Rattle.std.specs.BTreeMap.Range.{IsRangeOf}
use Rattle.std.specs.Option.{IsSome}
use Rattle.std.specs.declared.ops.Bound.TheVariants.{Included, Unbounded}
use Rattle.std.specs.Ordering.{nat_cmp, is_gt, is_lt}
use Rattle.std.proofs.lemmas.Bool.{cases_eq, cases_lt}
use Rattle.std.proofs.lemmas.Bool.Decides.{nat_tests}
use Rattle.std.proofs.lemmas.List.{length-append}
use Rattle.cache_core.specs.Connections.Words.{AreStreaks, IsChangedAt, IsJoinedAt, StandsApart, streak_at, word_at, words_to}

-- ---- the first words

pub words-length : (f : ℕ → Option ℕ) (n : ℕ) → length (words_to f n) ≡ n
words-length f zero = refl
words-length f (suc n) = let e = words-length f n in let l = length-append (words_to f n) (word_at f n ∷ []) in omega arith

at-front : {X : Type 0} (xs : List X) (x : X) (i : ℕ) → i < length xs → slice_get (xs ++ x ∷ []) i ≡ slice_get xs i
at-front [] x i lt = absurd (omega arith)
at-front (y ∷ ys) x zero lt = refl
at-front (y ∷ ys) x (suc i) lt = at-front ys x i (omega arith)

at-end : {X : Type 0} (xs : List X) (x : X) → slice_get (xs ++ x ∷ []) (length xs) ≡ Some x
at-end [] x = refl
at-end (y ∷ ys) x = at-end ys x

pub words-at : (f : ℕ → Option ℕ) (n i : ℕ) → i < n → slice_get (words_to f n) i ≡ Some (word_at f i)
words-at f zero i lt = absurd (omega arith)
words-at f (suc n) i lt = elim (cases_lt i n) [
  | inl less ↦ let e = words-length f n in at-front (words_to f n) (word_at f n) i (omega arith) ∙ words-at f n i less
  | inr le ↦
      let is : i ≡ n = omega arith in
      ap (slice_get (words_to f (suc n))) (is ∙ sym (words-length f n)) ∙ at-end (words_to f n) (word_at f n) ∙ ap (λ k. Some (word_at f k)) (sym is)
]

-- the same where each word is
pub words-same : (f g : ℕ → Option ℕ) (n : ℕ) → ((i : ℕ) → i < n → word_at g i ≡ word_at f i) → words_to g n ≡ words_to f n
words-same f g zero same = refl
words-same f g (suc n) same = ap (λ ws. ws ++ word_at g n ∷ []) (words-same f g n (λ i lt. same i (omega arith))) ∙ ap (λ w. words_to f n ++ w ∷ []) (same n (omega arith))

set-front : {X : Type 0} (xs : List X) (y x : X) (i : ℕ) → i < length xs → slice_set (xs ++ y ∷ []) i x ≡ slice_set xs i x ++ y ∷ []
set-front [] y x i lt = absurd (omega arith)
set-front (z ∷ zs) y x zero lt = refl
set-front (z ∷ zs) y x (suc i) lt = ap (λ ys. z ∷ ys) (set-front zs y x i (omega arith))

set-end : {X : Type 0} (xs : List X) (y x : X) → slice_set (xs ++ y ∷ []) (length xs) x ≡ xs ++ x ∷ []
set-end [] y x = refl
set-end (z ∷ zs) y x = ap (λ ys. z ∷ ys) (set-end zs y x)

-- one word is another, and the others are the same
pub words-set : (f g : ℕ → Option ℕ) (n p w : ℕ) → p < n → word_at g p ≡ w → ((i : ℕ) → i < n → i ≢ p → word_at g i ≡ word_at f i) → words_to g n ≡ slice_set (words_to f n) p w
words-set f g zero p w lt here others = absurd (omega arith)
words-set f g (suc n) p w lt here others = elim (cases_lt p n) [
  | inl less ↦
      let e = words-length f n in
      ap (λ ws. ws ++ word_at g n ∷ []) (words-set f g n p w less here (λ i l ne. others i (omega arith) ne))
      ∙ ap (λ v. slice_set (words_to f n) p w ++ v ∷ []) (others n (omega arith) (λ same. absurd (omega (arith, same, less))))
      ∙ sym (set-front (words_to f n) (word_at f n) w p (omega arith))
  | inr le ↦
      let is : p ≡ n = omega arith in
      ap (λ ws. ws ++ word_at g n ∷ []) (words-same f g n (λ i l. others i (omega arith) (λ same. absurd (omega (arith, same, is, l)))))
      ∙ ap (λ v. words_to f n ++ v ∷ []) (ap (word_at g) (sym is) ∙ here)
      ∙ sym (ap (λ k. slice_set (words_to f n ++ word_at f n ∷ []) k w) (is ∙ sym (words-length f n)) ∙ set-end (words_to f n) (word_at f n) w)
]

-- ---- the word at a place

of-streak : (o : Option ℕ) (v w : ℕ) → o ≡ Some w → unwrap_or o v ≡ w
of-streak o v w e = ap (λ x. unwrap_or x v) e

no-streak : (o : Option ℕ) (v : ℕ) → o ≡ None → unwrap_or o v ≡ v
no-streak o v e = ap (λ x. unwrap_or x v) e

-- where a streak begins
pub word-begins : (f : ℕ → Option ℕ) (i w : ℕ) → f i ≡ Some w → word_at f i ≡ w
word-begins f zero w e = of-streak (f zero) 0 w e
word-begins f (suc i) w e = of-streak (f (suc i)) (word_at f i) w e

-- where none does it is the word before
pub word-goes-on : (f : ℕ → Option ℕ) (i : ℕ) → f (i + 1) ≡ None → word_at f (i + 1) ≡ word_at f i
word-goes-on f i e = let is : i + 1 ≡ suc i = omega arith in ap (word_at f) is ∙ no-streak (f (suc i)) (word_at f i) (ap f (sym is) ∙ e)

-- that of a streak, up to where the next one begins
pub word-in : (f : ℕ → Option ℕ) (k w i : ℕ) → f k ≡ Some w → k ≤ i → ((j : ℕ) → k < j → j ≤ i → f j ≡ None) → word_at f i ≡ w
word-in f k w zero at le none = let is : k ≡ zero = omega arith in word-begins f zero w (ap f (sym is) ∙ at)
word-in f k w (suc i) at le none = elim (cases_lt i k) [
  | inl less ↦ let is : k ≡ suc i = omega arith in word-begins f (suc i) w (ap f (sym is) ∙ at)
  | inr before ↦ no-streak (f (suc i)) (word_at f i) (none (suc i) (omega arith) (omega arith)) ∙ word-in f k w i at before (λ j lt l. none j lt (omega arith))
]

-- the same where the same streaks begin up to there
pub word-same : (f g : ℕ → Option ℕ) (i : ℕ) → ((j : ℕ) → j ≤ i → g j ≡ f j) → word_at g i ≡ word_at f i
word-same f g zero same = ap (λ o. unwrap_or o 0) (same zero (omega arith))
word-same f g (suc i) same = ap (λ o. unwrap_or o (word_at g i)) (same (suc i) (omega arith)) ∙ ap (λ w. unwrap_or (f (suc i)) w) (word-same f g i (λ j le. same j (omega arith)))

-- and behind a place where it is the same, if the same streaks begin behind it
pub word-behind : (f g : ℕ → Option ℕ) (p i : ℕ) → word_at g p ≡ word_at f p → p ≤ i → ((j : ℕ) → p < j → g j ≡ f j) → word_at g i ≡ word_at f i
word-behind f g p zero here le same = let is : p ≡ zero = omega arith in ap (word_at g) (sym is) ∙ here ∙ ap (word_at f) is
word-behind f g p (suc i) here le same = elim (cases_lt i p) [
  | inl less ↦ let is : p ≡ suc i = omega arith in ap (word_at g) (sym is) ∙ here ∙ ap (word_at f) is
  | inr before ↦ ap (λ o. unwrap_or o (word_at g i)) (same (suc i) (omega arith)) ∙ ap (λ w. unwrap_or (f (suc i)) w) (word-behind f g p i here before same)
]

-- a streak begins where the word differs from the one before
some-of : (o : Option ℕ) → (o ≡ None → ⊥) → is_some o ≡ true
some-of None h = absurd (h refl)
some-of (Some w) h = refl

pub begins-apart : (f : ℕ → Option ℕ) (n p : ℕ) → p < n → (0 < n → is_some (f 0) ≡ true) → ((other : ℕ) → other + 1 ≡ p → slice_get (words_to f n) other ≢ slice_get (words_to f n) p) → is_some (f p) ≡ true
begins-apart f n zero lt first apart = first lt
begins-apart f n (suc p) lt first apart = some-of (f (suc p)) (λ none.
    apart p (omega arith) (words-at f n p (omega arith) ∙ ap Some (sym (no-streak (f (suc p)) (word_at f p) none)) ∙ sym (words-at f n (suc p) lt)))

-- ---- one word more

pub more-same : (f g : ℕ → Option ℕ) (n : ℕ) → ((j : ℕ) → j < n → g j ≡ f j) → words_to g n ≡ words_to f n
more-same f g n same = words-same f g n (λ i lt. word-same f g i (λ j le. same j (omega (arith, lt, le))))

-- a streak begins with it
pub pushed : (f g : ℕ → Option ℕ) (n w : ℕ) → IsChangedAt n (Some w) f g → words_to g (n + 1) ≡ words_to f n ++ w ∷ []
pushed f g n w h =
    let is : n + 1 ≡ suc n = omega arith in
    ap (words_to g) is
    ∙ ap (λ ws. ws ++ word_at g n ∷ []) (more-same f g n (λ j lt. h.others j (λ same. absurd (omega (arith, same, lt)))))
    ∙ ap (λ v. words_to f n ++ v ∷ []) (word-begins g n w h.here)

-- ---- one word is another

module _ (f g h : ℕ → Option ℕ) (n p w : ℕ) (lt : p < n) (m : AreStreaks f n) (apart : StandsApart (words_to f n) p) (joined : IsJoinedAt (p + 1) w f g) (here : word_at h p ≡ w) (others : (other : ℕ) → other ≢ p → h other ≡ g other) where
  pub begins-here : is_some (f p) ≡ true
  begins-here = begins-apart f n p lt m.first apart.before

  begins-behind : p + 1 < n → is_some (f (p + 1)) ≡ true
  begins-behind within = some-of (f (p + 1)) (λ none. apart.behind (p + 1) refl (words-at f n (p + 1) within ∙ ap Some (word-goes-on f p none) ∙ sym (words-at f n p lt)))

  elsewhere : (j : ℕ) → j ≢ p → j ≢ p + 1 → h j ≡ f j
  elsewhere j not_here not_behind = others j not_here ∙ joined.others j not_behind

  there : (o : Option ℕ) → is_some o ≡ true → (x : ℕ) × (o ≡ Some x)
  there None some = absurd (cc)
  there (Some x) some = (x, refl)

  behind : h (p + 1) ≡ g (p + 1)
  behind = others (p + 1) (λ same. absurd (omega (arith, same)))

  just-behind : p + 1 < n → word_at h (p + 1) ≡ word_at f (p + 1)
  just-behind within = elim joined.here [
    | inl stays ↦
        let x = there (f (p + 1)) (begins-behind within) in
        word-begins h (p + 1) x.0 (behind ∙ stays ∙ x.1) ∙ sym (word-begins f (p + 1) x.0 x.1)
    | inr goes ↦ word-goes-on h p (behind ∙ goes.1) ∙ here ∙ sym (word-begins f (p + 1) w goes.0)
  ]

  pub others-same : (i : ℕ) → i < n → i ≢ p → word_at h i ≡ word_at f i
  others-same i within other = elim (cases_lt i p) [
    | inl less ↦ word-same f h i (λ j le. elsewhere j (λ same. absurd (omega (arith, same, le, less))) (λ same. absurd (omega (arith, same, le, less))))
    | inr le ↦ word-behind f h (p + 1) i (just-behind (omega (arith, le, within, other))) (omega (arith, le, other)) (λ j l. elsewhere j (λ same. absurd (omega (arith, same, l))) (λ same. absurd (omega (arith, same, l))))
  ]

  pub all-set : words_to h n ≡ slice_set (words_to f n) p w
  all-set = words-set f h n p w lt here others-same

  none-within : (place : ℕ) → n ≤ place → h place ≡ None
  none-within place le = others place (λ same. absurd (omega (arith, same, le, lt))) ∙ elim (cases_eq place (p + 1)) [
    | inl same ↦ ap g same ∙ elim joined.here [ inl stays ↦ stays ∙ m.within (p + 1) (omega (arith, same, le)) | inr goes ↦ goes.1 ]
    | inr other ↦ joined.others place other ∙ m.within place le
  ]

  pub set-streaks : is_some (h 0) ≡ true → AreStreaks h n
  set-streaks first = record { first = λ some. first; within = none-within }

-- ---- the streak that a place is in

-- by the last streak up to there
pub found-word : (streaks : BTreeMap ℕ ℕ) (place k w : ℕ) → get nat_cmp streaks k ≡ Some w → is_gt (nat_cmp k place) ≡ false → ((q : ℕ) → is_gt (nat_cmp q place) ≡ false → IsSome (get nat_cmp streaks q) → is_lt (nat_cmp k q) ≡ false) → word_at (streak_at streaks) place ≡ w
found-word streaks place k w at le last = word-in (streak_at streaks) k w place at (not-gt k place le) (λ j lt l. none-of (streak_at streaks j) (λ some. absurd (omega (arith, lt, not-lt k j (last j (le-not place j l) some)))))
  where
    not-gt : (a b : ℕ) → is_gt (nat_cmp a b) ≡ false → a ≤ b
    not-gt a b h = grind (arith, nat_tests)

    not-lt : (a b : ℕ) → is_lt (nat_cmp a b) ≡ false → b ≤ a
    not-lt a b h = grind (arith, nat_tests)

    le-not : (b a : ℕ) → a ≤ b → is_gt (nat_cmp a b) ≡ false
    le-not b a h = grind (arith, nat_tests)

    none-of : (o : Option ℕ) → (IsSome o → ⊥) → o ≡ None
    none-of None h = refl
    none-of (Some x) h = absurd (h refl)

-- the last of the streaks that begin up to there
pub last-word : (streaks : BTreeMap ℕ ℕ) (place : ℕ) (rest r : List (ℕ × ℕ)) (k w : ℕ) → IsRangeOf nat_cmp Unbounded (Included place) streaks r → r ≡ rest ++ (k, w) ∷ [] → word_at (streak_at streaks) place ≡ w
last-word streaks place rest r k w range is =
    let e = range.3 (k, w) rest is in
    found-word streaks place k w e.1 e.0.1 (λ q le some. range.4 (k, w) rest is q (tt, le) some)

-- there is one
pub some-streak : (streaks : BTreeMap ℕ ℕ) (place : ℕ) (r : List (ℕ × ℕ)) → is_some (streak_at streaks 0) ≡ true → IsRangeOf nat_cmp Unbounded (Included place) streaks r → r ≡ [] → ⊥
some-streak streaks place r first range none = not-both (streak_at streaks 0) first (range.5 none 0 (tt, low place))
  where
    low : (a : ℕ) → is_gt (nat_cmp 0 a) ≡ false
    low a = grind (arith, nat_tests)

    not-both : (o : Option ℕ) → is_some o ≡ true → o ≡ None → ⊥
    not-both None some none = absurd (cc)
    not-both (Some x) some none = absurd (cc)

-- where a streak goes into the one before it, which has this word
pub joined-before : (f g : ℕ → Option ℕ) (p before w : ℕ) → 0 < p → before ≡ p - 1 → IsChangedAt p None f g → word_at f before ≡ w → word_at g p ≡ w
joined-before f g zero before w some is h at = absurd (omega arith)
joined-before f g (suc p) before w some is h at =
    let same : before ≡ p = omega arith in
    no-streak (g (suc p)) (word_at g p) h.here ∙ word-same f g p (λ j le. h.others j (λ e. absurd (omega (arith, e, le)))) ∙ ap (word_at f) (sym same) ∙ at
