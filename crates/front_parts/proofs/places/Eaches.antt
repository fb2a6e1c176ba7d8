-- A loop that changes each of several.
use Rattle.std.proofs.Common.{◌≡◌, refl, ap, sym, ◌∙◌, subst, ℕ, zero, suc, ◌+◌, ◌<◌, ◌≤◌, arith, List, [], ◌∷◌, length, get_or, Some, inl, inr, ◌⊎◌}
use Rattle.std.specs.Prelude.{slice_get, slice_set}
use Rattle.front_reference.specs.Fronts.{CallsEach}
use Rattle.front_parts.proofs.places.Lists.{there, length-set_at}

cases : (k i : ℕ) → k < i + 1 → (k < i) ⊎ (k ≡ i)
cases zero zero low = inr refl
cases zero (suc i) low = inl (omega arith)
cases (suc k) zero low = absurd (omega arith)
cases (suc k) (suc i) low = elim (cases k i (omega arith)) [ inl l ↦ inl (omega (arith, l)) | inr e ↦ inr (ap suc e) ]

module _ {X : Type 0} where
  set-there : (xs : List X) (i : ℕ) (x : X) → i < length xs → slice_get (slice_set xs i x) i ≡ Some x
  set-there [] i x low = absurd (omega arith)
  set-there (y ∷ xs) zero x low = refl
  set-there (y ∷ xs) (suc i) x low = set-there xs i x (omega arith)

  set-other : (xs : List X) (i k : ℕ) (x : X) → (k ≡ i → ⊥) → slice_get (slice_set xs i x) k ≡ slice_get xs k
  set-other [] i k x other = refl
  set-other (y ∷ xs) zero zero x other = absurd (other refl)
  set-other (y ∷ xs) zero (suc k) x other = refl
  set-other (y ∷ xs) (suc i) zero x other = refl
  set-other (y ∷ xs) (suc i) (suc k) x other = set-other xs i k x (λ e. other (ap suc e))

  -- the first few were changed
  pub record SoFar (Rel : X → X → Type 0) (place : ℕ) (old new : List X) : Type 0 where
    pub count : length new ≡ length old
    pub done : (k : ℕ) (s : X) → k < place → slice_get old k ≡ Some s → (t : X) × (slice_get new k ≡ Some t) × Rel s t
    pub rest : (k : ℕ) → place ≤ k → slice_get new k ≡ slice_get old k

  pub so_far_start : (Rel : X → X → Type 0) (xs : List X) → SoFar Rel 0 xs xs
  so_far_start Rel xs = record { count = refl; done = λ k s low e. absurd (omega arith); rest = λ k low. refl }

  pub so_far_next : (Rel : X → X → Type 0) (old new : List X) (place : ℕ) (x t : X) → SoFar Rel place old new → place < length old → x ≡ get_or new place x → Rel x t → SoFar Rel (place + 1) old (slice_set new place t)
  so_far_next Rel old new place x t h low e r =
      let c = h.count in
      let within : place < length new = omega arith in
      let here : slice_get new place ≡ Some x = there new place x within e in
      record {
        count = length-set_at new place t ∙ h.count;
        done = λ k s less at. elim (cases k place less) [
          | inl l ↦ (let d = h.done k s l at in (d.0, set-other new place k t (λ same. absurd (omega arith)) ∙ d.1, d.2))
          | inr same ↦
              let there_old : slice_get old place ≡ Some s = ap (λ n. slice_get old n) (sym same) ∙ at in
              let both : Some x ≡ Some s = sym here ∙ h.rest place (omega arith) ∙ there_old in
              let one : x ≡ s = cc in
              (t, ap (λ n. slice_get (slice_set new place t) n) same ∙ set-there new place t within, subst (λ y. Rel y t) one r)
        ];
        rest = λ k less. set-other new place k t (λ same. absurd (omega arith)) ∙ h.rest k (omega arith);
      }

  short : (xs : List X) (k : ℕ) (s : X) → slice_get xs k ≡ Some s → k < length xs
  short [] k s e = absurd (cc)
  short (x ∷ xs) zero s e = omega arith
  short (x ∷ xs) (suc k) s e = let l = short xs k s e in omega arith

  pub so_far_end : (Rel : X → X → Type 0) (old new : List X) (place : ℕ) → SoFar Rel place old new → length old ≤ place → CallsEach Rel old new
  so_far_end Rel old new place h past = record {
    count = h.count;
    each = λ k s at. let l = short old k s at in h.done k s (omega arith) at;
  }
