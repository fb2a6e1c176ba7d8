-- Lists from a place on.
use Rattle.std.proofs.Common.{◌≡◌, refl, ap, sym, ◌∙◌, ◌+◌, ◌≤◌, ℕ, zero, suc, Bool, true, false, cond, ◌&&◌, ◌||◌, List, [], ◌∷◌, ◌++◌, Some, length, arith, drop, take}
use Rattle.std.specs.Prelude.{slice_get, nat_lt, remove}
use Rattle.std.proofs.lemmas.Bool.{le-ltb, eq-eqb}
use Rattle.std.specs.List.{list_any}
use Rattle.engine_pending.specs.Pending.{ticketed_at, without_ticketed}
use Rattle.engine_pending.specs.declared.tickets.Ticketed.{Ticketed}

drop-there : {X : Type 0} (xs : List X) (i : ℕ) (x : X) → slice_get xs i ≡ Some x → drop i xs ≡ x ∷ drop (suc i) xs
drop-there [] i x h = absurd (cc)
drop-there (y ∷ xs) zero x h = let same : y ≡ x = cc in ap (λ z. z ∷ xs) same
drop-there (y ∷ xs) (suc i) x h = drop-there xs i x h

drop_past : {X : Type 0} (xs : List X) (i : ℕ) → length xs ≤ i → drop i xs ≡ []
drop_past [] zero h = refl
drop_past [] (suc i) h = refl
drop_past (x ∷ xs) zero h = absurd (omega arith)
drop_past (x ∷ xs) (suc i) h = drop_past xs i (omega arith)

one_more : (i : ℕ) → suc i ≡ i + 1
one_more i = omega arith

-- ---- tests of each item

pub list_any-here : {X : Type 0} (test : X → Bool) (xs : List X) (i : ℕ) (x : X) → slice_get xs i ≡ Some x → list_any test (drop i xs) ≡ (test x || list_any test (drop (suc i) xs))
list_any-here test xs i x h = ap (λ l. list_any test l) (drop-there xs i x h)

pub list_any-end : {X : Type 0} (test : X → Bool) (xs : List X) (i : ℕ) → length xs ≤ i → list_any test (drop i xs) ≡ list_any test xs → false ≡ list_any test xs
list_any-end test xs i past h = sym (ap (λ l. list_any test l) (drop_past xs i past)) ∙ h

pub list_any-past : {X : Type 0} (test : X → Bool) (xs : List X) (i : ℕ) (x : X) → list_any test (drop i xs) ≡ list_any test xs → slice_get xs i ≡ Some x → test x ≡ false → list_any test (drop (i + 1) xs) ≡ list_any test xs
list_any-past test xs i x h there none =
    sym (list_any-here test xs i x there ∙ ap (λ b. b || list_any test (drop (suc i) xs)) none ∙ ap (λ k. list_any test (drop k xs)) (one_more i)) ∙ h

-- an order that fails, or what it stands beside
pub right_none : (a b : Bool) → b ≡ false → (a && b) ≡ false
right_none true b e = e
right_none false b e = refl

pub left_none : (a b : ℕ) (x : Bool) → b ≤ a → (nat_lt a b && x) ≡ false
left_none a b x h = ap (λ t. t && x) (le-ltb a b h)

-- ---- tickets

module _ {W : Type 0} where
  ticketed_at-here : (us : List (Ticketed W)) (i t : ℕ) (u : Ticketed W) → slice_get us i ≡ Some u → u.ticket ≡ t → ticketed_at (drop i us) t ≡ Some u.write
  ticketed_at-here us i t u there same = ap (λ l. ticketed_at l t) (drop-there us i u there) ∙ ap (λ b. cond b (Some u.write) (ticketed_at (drop (suc i) us) t)) (eq-eqb u.ticket t same)

  without_ticketed-here : (us : List (Ticketed W)) (i t : ℕ) (u : Ticketed W) → slice_get us i ≡ Some u → u.ticket ≡ t → without_ticketed t (drop i us) ≡ drop (suc i) us
  without_ticketed-here us i t u there same = ap (λ l. without_ticketed t l) (drop-there us i u there) ∙ ap (λ b. cond b (drop (suc i) us) (u ∷ without_ticketed t (drop (suc i) us))) (eq-eqb u.ticket t same)

  pub ticket-found : (us : List (Ticketed W)) (i t : ℕ) (u : Ticketed W) → slice_get us i ≡ Some u → u.ticket ≡ t → ticketed_at (drop i us) t ≡ ticketed_at us t → without_ticketed t us ≡ take i us ++ without_ticketed t (drop i us)
      → (u : Ticketed W) × (slice_get us i ≡ Some u) × (ticketed_at us t ≡ Some u.write) × (without_ticketed t us ≡ remove us i)
  ticket-found us i t u there same write others =
      (u, there, sym write ∙ ticketed_at-here us i t u there same, others ∙ ap (λ l. take i us ++ l) (without_ticketed-here us i t u there same))
