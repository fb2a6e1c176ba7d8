-- The lines of a piece that was looked through up to a place.
use Rattle.std.proofs.Common.{◌≡◌, ◌≢◌, ◌⊎◌, ◌<◌, ◌≤◌, ◌+◌, ◌-◌, ℕ, List, ◌==◌, zero, suc, count_by, eq-eqb, eqb-true, length-drop, take, drop, length, false, slice_index, arith, ap, sym, ◌∙◌, inl, inr, subst₂}
use Rattle.std.proofs.Math.Seq.{take-length}
use Rattle.std.proofs.lemmas.Bool.{cases_lt, false_from_ne_true, false≢true}
use Rattle.std.proofs.lemmas.List.{get_or-drop, get_or-take, length-take-le, take-append-le, take-append-drop, drop-take}
use Rattle.std.proofs.lemmas.List.Sums.{count_by_more_no, count_by_more_yes}
use Rattle.memchr.specs.Find.{NoneBefore, Nowhere, Passes, is_byte}
use Rattle.cache_service.specs.Cutting.{IsLineOfPiece, IsQuickToItsEnd, may_take_long}

-- the last line began at `start`, none ends from there up to `place`, and those that end before are quick
pub record IsScanned (xs : List ℕ) (start place : ℕ) : Type 0 where
  pub begun : start ≤ place
  pub behind : (start ≡ 0) ⊎ (slice_index xs (start - 1) ≡ 10)
  pub none : (k : ℕ) → start ≤ k → k < place → slice_index xs k ≢ 10
  pub quick : (i j : ℕ) → IsLineOfPiece xs i j → j < start → may_take_long (drop i (take j xs)) ≡ false

-- a line of a front is one of the list
line-of-front : (xs : List ℕ) (n i j : ℕ) → n ≤ length xs → IsLineOfPiece (take n xs) i j → IsLineOfPiece xs i j
line-of-front xs n i j within line =
    record {
      begins = begun line.begins;
      within = (line.within.0, omega (arith, line.within.1, len));
      ends = sym (same j (omega (arith, line.within.1, len))) ∙ line.ends;
      one = λ k from to e. line.one k from to (same k (omega (arith, to, line.within.1, len)) ∙ e);
    }
  where
    len : length (take n xs) ≡ n
    len = length-take-le n xs within

    same : (k : ℕ) → k < n → slice_index (take n xs) k ≡ slice_index xs k
    same k under = get_or-take n xs k 0 under

    begun : (i ≡ 0) ⊎ (slice_index (take n xs) (i - 1) ≡ 10) → (i ≡ 0) ⊎ (slice_index xs (i - 1) ≡ 10)
    begun (inl e) = inl e
    begun (inr e) = inr (sym (same (i - 1) (omega (arith, line.within.0, line.within.1, len))) ∙ e)

-- its text is the same
text-of-front : (xs : List ℕ) (n i j : ℕ) → j ≤ n → n ≤ length xs
    → drop i (take j (take n xs)) ≡ drop i (take j xs)
text-of-front xs n i j to within =
    ap (drop i) (sym (take-append-le j (take n xs) (drop n xs) (omega (arith, to, length-take-le n xs within)))
    ∙ ap (take j) (take-append-drop n xs))

module _ (xs : List ℕ) (start place : ℕ) (scanned : IsScanned xs start place) where
  -- a line that ends at the place is the last one
  last-line : (i j : ℕ) → IsLineOfPiece xs i j → start ≤ j → j ≤ place → (i ≡ start) × (j ≡ place)
  last-line i j line above under =
      (omega (arith, low scanned.behind, high line.begins), omega (arith, under, ended))
    where
      ended : place ≤ j
      ended = elim (cases_lt j place) [ inl lt ↦ absurd (scanned.none j above lt line.ends) | inr ge ↦ ge ]

      low : (start ≡ 0) ⊎ (slice_index xs (start - 1) ≡ 10) → start ≤ i
      low (inl e) = omega (arith, e)
      low (inr e) = elim (cases_lt i start)
          [ inl lt ↦ absurd (line.one (start - 1) (omega (arith, lt)) (omega (arith, lt, above)) e) | inr ge ↦ ge ]

      high : (i ≡ 0) ⊎ (slice_index xs (i - 1) ≡ 10) → i ≤ start
      high (inl e) = omega (arith, e)
      high (inr e) = elim (cases_lt start i)
          [ inl lt ↦ absurd (scanned.none (i - 1) (omega (arith, lt)) (omega (arith, lt, line.within.0, under)) e) | inr ge ↦ ge ]

  -- up to a line end, only the last line may take long
  pub quick-to-line-end : place < length xs → IsQuickToItsEnd (take (place + 1) xs)
  quick-to-line-end inside i j line long = elim (cases_lt j start) [
    | inl lt ↦ absurd (false≢true (sym (scanned.quick i j own lt) ∙ ap may_take_long (sym text) ∙ long))
    | inr ge ↦ omega (arith, len, (last-line i j own ge (omega (arith, line.within.1, len))).1)
  ]
    where
      len : length (take (place + 1) xs) ≡ place + 1
      len = length-take-le (place + 1) xs (omega (arith, inside))

      own : IsLineOfPiece xs i j
      own = line-of-front xs (place + 1) i j (omega (arith, inside)) line

      text : drop i (take j (take (place + 1) xs)) ≡ drop i (take j xs)
      text = text-of-front xs (place + 1) i j (omega (arith, line.within.1, len)) (omega (arith, inside))

  -- a quick line ends at the place
  pub behind-line-end : slice_index xs place ≡ 10
      → may_take_long (take (place - start) (drop start xs)) ≡ false
      → IsScanned xs (place + 1) (place + 1)
  behind-line-end end quick = record {
    begun = omega arith;
    behind = inr (ap (slice_index xs) (omega arith) ∙ end);
    none = λ k above under e. absurd (omega (arith, above, under));
    quick = λ i j line under. elim (cases_lt j start) [
      | inl lt ↦ scanned.quick i j line lt
      | inr ge ↦ let same = last-line i j line ge (omega (arith, under)) in
          subst₂ (λ a b. may_take_long (drop a (take b xs)) ≡ false) (sym same.0) (sym same.1) (ap may_take_long text ∙ quick)
    ];
  }
    where
      whole : start + (place - start) ≡ place
      whole = omega (arith, scanned.begun)

      text : drop start (take place xs) ≡ take (place - start) (drop start xs)
      text = ap (λ n. drop start (take n xs)) (sym whole) ∙ drop-take start (place - start) xs

-- how many lines end among the first bytes
abbrev pub lines_in : List ℕ → ℕ → ℕ
lines_in xs n = count_by (λ byte. byte == 10) (take n xs)

-- what is behind a place
module _ (xs : List ℕ) (start : ℕ) (within : start ≤ length xs) where
  abbrev rest : List ℕ
  rest = take (length xs - start) (drop start xs)

  abbrev EndsNone : ℕ → Type 0
  EndsNone n = Nowhere (Passes (is_byte 10) rest) 0 n

  rest-is : rest ≡ drop start xs
  rest-is = ap (λ n. take n (drop start xs)) (sym (length-drop start xs)) ∙ take-length (drop start xs)

  rest-at : (k : ℕ) → slice_index rest k ≡ slice_index xs (start + k)
  rest-at k = ap (λ l. slice_index l k) rest-is ∙ get_or-drop start xs k 0

  pub rest-length : length rest ≡ length xs - start
  rest-length = ap (λ (l : List ℕ). length l) rest-is ∙ length-drop start xs

  -- none of its first lines ends
  none-ends : (n : ℕ) → EndsNone n → (k : ℕ) → start ≤ k → k < start + n → slice_index xs k ≢ 10
  none-ends n none k above under e =
      none (k - start) (omega arith) (omega (arith, above, under))
      (eq-eqb (slice_index rest (k - start)) 10 (rest-at (k - start) ∙ ap (slice_index xs) (omega (arith, above)) ∙ e))

  none-counted : (n : ℕ) → start + n ≤ length xs → EndsNone n → lines_in xs (start + n) ≡ lines_in xs start
  none-counted zero low none = ap (lines_in xs) (omega arith)
  none-counted (suc n) low none =
      let other : slice_index xs (start + n) ≢ 10 = none-ends (suc n) none (start + n) (omega arith) (omega arith) in
      ap (lines_in xs) (omega arith)
      ∙ count_by_more_no (λ byte. byte == 10) xs (start + n) 0 (omega (arith, low)) (false_from_ne_true (slice_index xs (start + n) == 10) (λ e. other (eqb-true (slice_index xs (start + n)) 10 e)))
      ∙ none-counted n (omega (arith, low)) (λ k from to. none k from (omega (arith, to)))

  module _ (scanned : IsScanned xs start start) where
    scanned-on : (n : ℕ) → EndsNone n → IsScanned xs start (start + n)
    scanned-on n none = record { begun = omega arith; behind = scanned.behind; none = none-ends n none; quick = scanned.quick }

    -- no line ends in it: up to the end of all, only the last may take long, and there are no more
    pub quick-to-end : EndsNone (length rest) → IsQuickToItsEnd (take (length xs) xs)
    quick-to-end none i j line long =
        let own = line-of-front xs (length xs) i j (omega arith) line in
        let lengths = rest-length in
        elim (cases_lt j start) [
          | inl lt ↦ absurd (false≢true (sym (scanned.quick i j own lt) ∙ ap (λ l. may_take_long (drop i (take j l))) (sym (take-length xs)) ∙ long))
          | inr ge ↦ absurd (none-ends (length rest) none j ge (omega (arith, own.within.1, lengths, within)) own.ends)
        ]

    -- the first line end in it
    module _ (at : ℕ) (first : NoneBefore (Passes (is_byte 10) rest) 0 (length rest) at) (ends : Passes (is_byte 10) rest at) where
      pub end-within : start + at < length xs
      end-within = let high = first.high in let lengths = rest-length in omega (arith, high, lengths, within)

      end-here : slice_index xs (start + at) ≡ 10
      end-here = sym (rest-at at) ∙ eqb-true (slice_index rest at) 10 ends

      pub scanned-first : IsScanned xs start (start + at)
      scanned-first = scanned-on at first.before

      -- the line that it ends is the only one that is more
      pub one-counted : lines_in xs (start + at + 1) ≡ lines_in xs start + 1
      one-counted =
          count_by_more_yes (λ byte. byte == 10) xs (start + at) 0 end-within (eq-eqb (slice_index xs (start + at)) 10 end-here)
          ∙ ap (λ n. n + 1) (none-counted at (let e = end-within in omega (arith, e)) first.before)

      pub quick-to-first : IsQuickToItsEnd (take (start + at + 1) xs)
      quick-to-first = quick-to-line-end xs start (start + at) scanned-first end-within

      pub scanned-behind : may_take_long (take (start + at - start) (drop start xs)) ≡ false → IsScanned xs (start + at + 1) (start + at + 1)
      scanned-behind quick = behind-line-end xs start (start + at) scanned-first end-here quick

  pub none-more : EndsNone (length rest) → lines_in xs (length xs) ≡ lines_in xs start
  none-more none =
      let lengths = rest-length in
      ap (lines_in xs) (omega (arith, within)) ∙ none-counted (length xs - start) (omega (arith, within)) (λ k from to. none k from (omega (arith, to, lengths)))
