-- Records by rising number.
use Rattle.std.proofs.Common.{◌≡◌, ◌≢◌, refl, ap, sym, ◌∙◌, ℕ, ◌<◌, arith, Bool, true, false, cond, List, [], ◌∷◌, ◌++◌, Some, None, eqb}
use Rattle.std.specs.Prelude.{nat_lt}
use Rattle.std.proofs.lemmas.Bool.{cond_both, eqb-true, eq-eqb, ltb-true, ltb-false, lt-ltb, le-ltb}
use Rattle.engine_reference.specs.declared.data.Record.{Record}
use Rattle.engine_reference.specs.Records.{record_at, without_record, changed_at}
use Rattle.engine_cells.specs.Cells.{put_among}
use Rattle.std.proofs.lemmas.Bool.Decides.{nat_tests}

module _ {K V : Type 0} where
  -- every record has a smaller number; every record has a larger number
  abbrev pub AllBelow : ℕ → List (Record K V) → Type 0
  AllBelow n [] = Unit {0}
  AllBelow n (x ∷ xs) = (x.number < n) × AllBelow n xs

  abbrev pub AllAbove : ℕ → List (Record K V) → Type 0
  AllAbove n [] = Unit {0}
  AllAbove n (x ∷ xs) = (n < x.number) × AllAbove n xs

  abbrev pub AreRising : List (Record K V) → Type 0
  AreRising [] = Unit {0}
  AreRising (x ∷ xs) = AllAbove x.number xs × AreRising xs

  above-later : (m n : ℕ) (xs : List (Record K V)) → m < n → AllAbove n xs → AllAbove m xs
  above-later m n [] less h = tt
  above-later m n (x ∷ xs) less h = (let first = h.0 in omega arith, above-later m n xs less h.1)

  -- what is missing from a list is missing from the rest, and is not the first
  rest-none : (x : Record K V) (xs : List (Record K V)) (n : ℕ) → record_at (x ∷ xs) n ≡ None → (eqb x.number n ≡ false) × (record_at xs n ≡ None)
  rest-none x xs n h = grind (arith, nat_tests, h)

  -- the record that was put_among, or what was there
  pub record_at-put_among : (r : Record K V) (xs : List (Record K V)) (n : ℕ) → record_at xs r.number ≡ None → record_at (put_among r xs) n ≡ cond (eqb r.number n) (Some r) (record_at xs n)
  record_at-put_among r [] n h = refl
  record_at-put_among r (x ∷ xs) n h = let next = record_at-put_among r xs n (rest-none x xs r.number h).1 in grind (arith, nat_tests, next)
    where
      apart : eqb x.number r.number ≡ false
      apart = (rest-none x xs r.number h).0

      both : (a b : Bool) → eqb x.number n ≡ a → eqb r.number n ≡ b → cond a (Some x) (cond b (Some r) (record_at xs n)) ≡ cond b (Some r) (cond a (Some x) (record_at xs n))
      both true true e f = absurd (let same : x.number ≡ r.number = eqb-true x.number n e ∙ sym (eqb-true r.number n f) in let t = eq-eqb x.number r.number same in cc)
      both true false e f = refl
      both false true e f = refl
      both false false e f = refl

  -- what was put_among is changed
  pub changed-placed_here : (r : Record K V) (xs : List (Record K V)) (f : Record K V → Record K V) → (f r).number ≡ r.number → record_at xs r.number ≡ None
      → changed_at r.number f (put_among r xs) ≡ put_among (f r) xs
  changed-placed_here r [] f same h = ap (λ b. cond b (f r ∷ []) (r ∷ [])) (eq-eqb r.number r.number refl)
  changed-placed_here r (x ∷ xs) f same h = let next = changed-placed_here r xs f same (rest-none x xs r.number h).1 in grind (arith, nat_tests, next)
    where
      apart : eqb x.number r.number ≡ false
      apart = (rest-none x xs r.number h).0

  -- another is changed
  pub changed-placed_there : (r : Record K V) (xs : List (Record K V)) (n : ℕ) (f : Record K V → Record K V) → ((x : Record K V) → (f x).number ≡ x.number) → eqb r.number n ≡ false
      → changed_at n f (put_among r xs) ≡ put_among r (changed_at n f xs)
  changed-placed_there r [] n f same other = ap (λ b. cond b (f r ∷ []) (r ∷ [])) other
  changed-placed_there r (x ∷ xs) n f same other = go (nat_lt r.number x.number) refl (changed-placed_there r xs n f same other)
    where
      before : (b : Bool) → nat_lt r.number x.number ≡ true
          → cond (eqb r.number n) (f r ∷ x ∷ xs) (r ∷ cond b (f x ∷ xs) (x ∷ changed_at n f xs)) ≡ put_among r (cond b (f x ∷ xs) (x ∷ changed_at n f xs))
      before true t =
          ap (λ c. cond c (f r ∷ x ∷ xs) (r ∷ f x ∷ xs)) other
          ∙ sym (ap (λ c. cond c (r ∷ f x ∷ xs) (f x ∷ put_among r xs)) (ap (λ m. nat_lt r.number m) (same x) ∙ t))
      before false t =
          ap (λ c. cond c (f r ∷ x ∷ xs) (r ∷ x ∷ changed_at n f xs)) other
          ∙ sym (ap (λ c. cond c (r ∷ x ∷ changed_at n f xs) (x ∷ put_among r (changed_at n f xs))) t)

      go : (a : Bool) → nat_lt r.number x.number ≡ a → changed_at n f (put_among r xs) ≡ put_among r (changed_at n f xs)
          → changed_at n f (cond a (r ∷ x ∷ xs) (x ∷ put_among r xs)) ≡ put_among r (changed_at n f (x ∷ xs))
      go true t later = before (eqb x.number n) t
      go false t later = grind (arith, nat_tests, t, later)

  -- what was put_among goes
  pub without-placed_here : (r : Record K V) (xs : List (Record K V)) → record_at xs r.number ≡ None → without_record r.number (put_among r xs) ≡ xs
  without-placed_here r [] h = ap (λ b. cond b [] (r ∷ [])) (eq-eqb r.number r.number refl)
  without-placed_here r (x ∷ xs) h = let next = without-placed_here r xs (rest-none x xs r.number h).1 in grind (arith, nat_tests, next)

  -- before all others, and behind all others
  pub put_among-first : (r : Record K V) (xs : List (Record K V)) → AllAbove r.number xs → put_among r xs ≡ r ∷ xs
  put_among-first r [] h = refl
  put_among-first r (x ∷ xs) h = ap (λ b. cond b (r ∷ x ∷ xs) (x ∷ put_among r xs)) (lt-ltb r.number x.number h.0)

  pub put_among-last : (r : Record K V) (xs : List (Record K V)) → AllBelow r.number xs → put_among r xs ≡ xs ++ r ∷ []
  put_among-last r [] h = refl
  put_among-last r (x ∷ xs) h =
      let less = h.0 in
      ap (λ b. cond b (r ∷ x ∷ xs) (x ∷ put_among r xs)) (le-ltb r.number x.number (omega arith)) ∙ ap (λ l. x ∷ l) (put_among-last r xs h.1)

  pub put_among-append : (r : Record K V) (xs : List (Record K V)) (last : Record K V) → r.number < last.number → put_among r (xs ++ last ∷ []) ≡ put_among r xs ++ last ∷ []
  put_among-append r [] last h = ap (λ b. cond b (r ∷ last ∷ []) (last ∷ r ∷ [])) (lt-ltb r.number last.number h)
  put_among-append r (x ∷ xs) last h = let next = put_among-append r xs last h in grind (arith, nat_tests, next)

  -- another goes, of records by rising number
  pub without-placed_there : (r : Record K V) (xs : List (Record K V)) (n : ℕ) → AreRising xs → eqb r.number n ≡ false → without_record n (put_among r xs) ≡ put_among r (without_record n xs)
  without-placed_there r [] n rising other = ap (λ b. cond b [] (r ∷ [])) other
  without-placed_there r (x ∷ xs) n rising other = go (nat_lt r.number x.number) refl (without-placed_there r xs n rising.1 other)
    where
      before : (b : Bool) → nat_lt r.number x.number ≡ true → cond (eqb r.number n) (x ∷ xs) (r ∷ cond b xs (x ∷ without_record n xs)) ≡ put_among r (cond b xs (x ∷ without_record n xs))
      before true t =
          ap (λ c. cond c (x ∷ xs) (r ∷ xs)) other
          ∙ sym (put_among-first r xs (above-later r.number x.number xs (ltb-true r.number x.number t) rising.0))
      before false t =
          ap (λ c. cond c (x ∷ xs) (r ∷ x ∷ without_record n xs)) other
          ∙ sym (ap (λ c. cond c (r ∷ x ∷ without_record n xs) (x ∷ put_among r (without_record n xs))) t)

      go : (a : Bool) → nat_lt r.number x.number ≡ a → without_record n (put_among r xs) ≡ put_among r (without_record n xs)
          → without_record n (cond a (r ∷ x ∷ xs) (x ∷ put_among r xs)) ≡ put_among r (without_record n (x ∷ xs))
      go true t later = before (eqb x.number n) t
      go false t later = grind (arith, nat_tests, t, later)

  above-put_among : (m : ℕ) (r : Record K V) (xs : List (Record K V)) → m < r.number → AllAbove m xs → AllAbove m (put_among r xs)
  above-put_among m r [] less h = (less, tt)
  above-put_among m r (x ∷ xs) less h = let next = above-put_among m r xs less h.1 in grind (arith, nat_tests, next)

  pub rising-put_among : (r : Record K V) (xs : List (Record K V)) → record_at xs r.number ≡ None → AreRising xs → AreRising (put_among r xs)
  rising-put_among r [] none h = (tt, tt)
  rising-put_among r (x ∷ xs) none h =
      cond_both (nat_lt r.number x.number) _ _ AreRising (λ e. let less = ltb-true r.number x.number e in ((less, above-later r.number x.number xs less h.0), h)) (λ e. let more = ltb-false r.number x.number e in (above-put_among x.number r xs (let d : x.number ≢ r.number = differ in omega arith) h.0, (rising-put_among r xs (rest-none x xs r.number none).1 h.1)))
    where
      differ : x.number ≡ r.number → ⊥
      differ same = let t = eq-eqb x.number r.number same in let f = (rest-none x xs r.number none).0 in absurd (cc)

  pub below-put_among : (m : ℕ) (r : Record K V) (xs : List (Record K V)) → r.number < m → AllBelow m xs → AllBelow m (put_among r xs)
  below-put_among m r [] less h = (less, tt)
  below-put_among m r (x ∷ xs) less h = let next = below-put_among m r xs less h.1 in grind (arith, nat_tests, next)
