-- Numbers that are read, and notices that are told, one desk after another.
use Rattle.std.proofs.Common.{◌≡◌, ◌∙◌, ℕ, zero, suc, ◌+◌, ◌-◌, ◌^◌, ◌<◌, ◌≤◌, ◌⊎◌, inl, inr, arith, ap, refl, sym, subst, List, [], ◌∷◌, ◌++◌, length, Option, Some, None}
use Rattle.std.specs.Prelude.{All, min, slice_get}
use Rattle.std.proofs.lemmas.List.Elements.{All-append}
use Rattle.std.proofs.lemmas.List.Sums.{fold-append}
use Rattle.front_reference.specs.Fronts.{Front}
use Rattle.engine_reference.specs.declared.data.Notice.{Notice}
use Rattle.moka_sync.specs.Holding.{DoneUnderEach, DoneUnderLock, Guarded}
use Rattle.moka_sync.specs.Telling.{AddsTold, DidCount, DoneUnderRange, SumsUnderEach, WasTold}

-- an item behind a list
read-more : (xs : List ℕ) (x n k : ℕ) → slice_get (xs ++ x ∷ []) n ≡ Some k → ((n ≡ length xs) × (x ≡ k)) ⊎ (slice_get xs n ≡ Some k)
read-more [] x zero k at = inl (refl, let same : x ≡ k = cc in same)
read-more [] x (suc n) k at = absurd (let no : ⊥ = cc in no)
read-more (y ∷ ys) x zero k at = inr at
read-more (y ∷ ys) x (suc n) k at = elim (read-more ys x n k at) [ inl e ↦ inl (ap suc e.0, e.1) | inr r ↦ inr r ]

below-or-not : (a b : ℕ) → (a < b) ⊎ (b ≤ a)
below-or-not zero zero = inr (omega arith)
below-or-not zero (suc b) = inl (omega arith)
below-or-not (suc a) zero = inr (omega arith)
below-or-not (suc a) (suc b) = elim (below-or-not a b) [ inl low ↦ inl (omega (arith, low)) | inr high ↦ inr (omega (arith, high)) ]

module _ {K V P S R : Type 0} where
  pub sums-none : (of : Front K V P S R → ℕ) → SumsUnderEach 0 of 0
  sums-none of = record { counts = []; each = refl; read = λ number count at. absurd (let no : ⊥ = cc in no); summed = refl }

  pub sums-more : (many : ℕ) (of : Front K V P S R → ℕ) (total count next : ℕ) → SumsUnderEach many of total → DoneUnderLock many (DidCount of count) → next ≡ min (total + count) (2 ^ 64 - 1) → SumsUnderEach (many + 1) of next
  sums-more many of total count next h one is = record {
    counts = h.counts ++ count ∷ [];
    each = let long = length-more h.counts count in omega (arith, long, h.each);
    read = λ number k at. elim (read-more h.counts count number k at) [
      | inl e ↦ subst (λ n. DoneUnderLock n (DidCount of k)) (sym (e.0 ∙ h.each)) (subst (λ x. DoneUnderLock many (DidCount of x)) e.1 one)
      | inr before ↦ h.read number k before
    ];
    summed = is ∙ ap (λ t. min (t + count) (2 ^ 64 - 1)) h.summed ∙ sym (fold-append (λ t k. min (t + k) (2 ^ 64 - 1)) 0 h.counts (count ∷ []));
  }
    where
      length-more : (xs : List ℕ) (x : ℕ) → length (xs ++ x ∷ []) ≡ length xs + 1
      length-more [] x = refl
      length-more (y ∷ ys) x = let tail = length-more ys x in omega (arith, tail)

  -- one desk more
  pub range-none : (first end : ℕ) (Fact : Guarded K V P S R → Guarded K V P S R → Type 0) → end ≤ first → DoneUnderRange first end Fact
  range-none first end Fact low number above below = absurd (omega (arith, low, above, below))

  pub range-more : (first end : ℕ) (Fact : Guarded K V P S R → Guarded K V P S R → Type 0) → DoneUnderRange first end Fact → DoneUnderLock end Fact → DoneUnderRange first (end + 1) Fact
  range-more first end Fact each one number above below = elim (below-or-not number end) [
    | inl low ↦ each number above low
    | inr high ↦ subst (λ n. DoneUnderLock n Fact) (let same : end ≡ number = omega (arith, below, high) in same) one
  ]

  -- two parts of all desks
  pub range-all : (first count : ℕ) (Fact : Guarded K V P S R → Guarded K V P S R → Type 0) → DoneUnderRange first count Fact → DoneUnderRange 0 first Fact → DoneUnderEach count Fact
  range-all first count Fact above below number low = elim (below-or-not number first) [
    | inl before ↦ below number (omega arith) before
    | inr behind ↦ above number behind low
  ]

module _ {K V P S R : Type 0} where
  pub adds-none : (old : List (Notice K V)) → AddsTold P S R old old
  adds-none old = record { added = []; appended = sym (append-nil old); told = λ k d low. absurd (omega (arith, low)) }
    where
      append-nil : (xs : List (Notice K V)) → xs ++ [] ≡ xs
      append-nil [] = refl
      append-nil (x ∷ xs) = ap (λ ys. x ∷ ys) (append-nil xs)

  pub adds-all : (old mid new : List (Notice K V)) → AddsTold P S R old mid → AddsTold P S R mid new → AddsTold P S R old new
  adds-all old mid new h k = record {
    added = h.added ++ k.added;
    appended = k.appended ∙ ap (λ xs. xs ++ k.added) h.appended ∙ assoc old h.added k.added;
    told = All-append (WasTold P S R) h.added k.added h.told k.told;
  }
    where
      assoc : (xs ys zs : List (Notice K V)) → (xs ++ ys) ++ zs ≡ xs ++ (ys ++ zs)
      assoc [] ys zs = refl
      assoc (x ∷ xs) ys zs = ap (λ us. x ∷ us) (assoc xs ys zs)

  told-one : (notice : Notice K V) → WasTold P S R notice → All (WasTold P S R) (notice ∷ [])
  told-one notice told zero d low = told
  told-one notice told (suc k) d low = absurd (omega (arith, low))

  pub adds-one : (old mid new : List (Notice K V)) (notice : Notice K V) → AddsTold P S R old mid → WasTold P S R notice → new ≡ mid ++ notice ∷ [] → AddsTold P S R old new
  adds-one old mid new notice h told is = adds-all old mid new h (record { added = notice ∷ []; appended = is; told = told-one notice told })
