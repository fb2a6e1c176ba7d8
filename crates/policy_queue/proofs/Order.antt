-- Lemmas on places and on the indices that stand in them.
use Rattle.std.proofs.Common.{◌≡◌, ◌≢◌, ℕ, zero, suc, ◌+◌, ◌-◌, ◌<◌, ◌≤◌, List, [], ◌∷◌, ◌++◌, length, get_or, set, take, drop, refl, sym, ap, ◌∙◌, inl, inr, arith, subst}
use Rattle.std.proofs.lemmas.Bool.{cases_lt, cases_eq, cond-true, cond-false, eq-eqb, ne_eqb}
use Rattle.std.proofs.lemmas.List.{take-append-drop, drop_more, drop_all, get_or_past, get_or-set_same, get_or-set_other, set_split, append-nil, length-set, take-set-le, drop-set-lt}
use Rattle.policy_queue.specs.Indices.{vacant, order, Lacks}

pub order_empty : (p : ℕ) (ps : List ℕ) → p ≡ vacant → order (p ∷ ps) ≡ order ps
order_empty p ps e = cond-true _ _ _ (eq-eqb p vacant e)

pub order_taken : (p : ℕ) (ps : List ℕ) → p ≢ vacant → order (p ∷ ps) ≡ p ∷ order ps
order_taken p ps d = cond-false _ _ _ (ne_eqb p vacant d)

-- what stands somewhere stands within the list
pub within : (ps : List ℕ) (k : ℕ) → get_or ps k vacant ≢ vacant → k < length ps
within ps k d = elim (cases_lt k (length ps)) [ inl h ↦ h | inr h ↦ absurd (d (get_or_past ps k vacant h)) ]

pub order-append : (ps qs : List ℕ) → order (ps ++ qs) ≡ order ps ++ order qs
order-append [] qs = refl
order-append (p ∷ ps) qs = elim (cases_eq p vacant) [
  | inl e ↦ order_empty p (ps ++ qs) e ∙ order-append ps qs ∙ ap (λ r. r ++ order qs) (sym (order_empty p ps e))
  | inr d ↦ order_taken p (ps ++ qs) d ∙ ap (λ r. p ∷ r) (order-append ps qs) ∙ ap (λ r. r ++ order qs) (sym (order_taken p ps d))
]

pub order_drop_some : (ps : List ℕ) (k : ℕ) → get_or ps k vacant ≢ vacant → order (drop k ps) ≡ get_or ps k vacant ∷ order (drop (k + 1) ps)
order_drop_some ps k d = ap order (drop_more ps k vacant (within ps k d)) ∙ order_taken (get_or ps k vacant) (drop (k + 1) ps) d

pub order_drop_none : (ps : List ℕ) (k : ℕ) → k < length ps → get_or ps k vacant ≡ vacant → order (drop k ps) ≡ order (drop (k + 1) ps)
order_drop_none ps k lt e = ap order (drop_more ps k vacant lt) ∙ order_empty (get_or ps k vacant) (drop (k + 1) ps) e

-- the places before one, and from one on
pub order_split : (ps : List ℕ) (k : ℕ) → order ps ≡ order (take k ps) ++ order (drop k ps)
order_split ps k = ap order (sym (take-append-drop k ps)) ∙ order-append (take k ps) (drop k ps)

pub order_at : (ps : List ℕ) (k : ℕ) → get_or ps k vacant ≢ vacant → order ps ≡ order (take k ps) ++ get_or ps k vacant ∷ order (drop (k + 1) ps)
order_at ps k d = order_split ps k ∙ ap (λ r. order (take k ps) ++ r) (order_drop_some ps k d)

-- a place that is emptied
pub order_emptied : (ps : List ℕ) (k : ℕ) → k < length ps → order (set ps k vacant) ≡ order (take k ps) ++ order (drop (k + 1) ps)
order_emptied ps k h =
    let e : suc k ≡ k + 1 = omega arith in
    ap order (set_split ps k vacant h) ∙ order-append (take k ps) (vacant ∷ drop (suc k) ps) ∙ ap (λ r. order (take k ps) ++ r) (order_empty vacant (drop (suc k) ps) refl) ∙ ap (λ (j : ℕ). order (take k ps) ++ order (drop j ps)) e

pub order_push : (ps : List ℕ) (p : ℕ) → p ≢ vacant → order (ps ++ p ∷ []) ≡ order ps ++ p ∷ []
order_push ps p d = order-append ps (p ∷ []) ∙ ap (λ r. order ps ++ r) (order_taken p [] d)

-- empty places hold nothing
pub order_skip : (ps : List ℕ) (from to : ℕ) → from ≤ to → ((j : ℕ) → from ≤ j → j < to → get_or ps j vacant ≡ vacant) → order (drop from ps) ≡ order (drop to ps)
order_skip ps from to le h = go (to - from) from (omega arith) h
  where
    go : (d from : ℕ) → from + d ≡ to → ((j : ℕ) → from ≤ j → j < to → get_or ps j vacant ≡ vacant) → order (drop from ps) ≡ order (drop to ps)
    go zero from e h = let same : from ≡ to = omega arith in ap (λ i. order (drop i ps)) same
    go (suc d) from e h = elim (cases_lt from (length ps)) [
      | inl lt ↦ order_drop_none ps from lt (h from (omega arith) (omega arith)) ∙ go d (from + 1) (omega arith) (λ j low. h j (omega arith))
      | inr ge ↦ ap order (drop_all from ps ge) ∙ ap order (sym (drop_all to ps (omega arith)))
    ]

pub order_drop_front : (ps : List ℕ) (f : ℕ) → ((j : ℕ) → j < f → get_or ps j vacant ≡ vacant) → order (drop f ps) ≡ order ps
order_drop_front ps f h = sym (order_skip ps 0 f (omega arith) (λ j low. h j))

pub order_take_all : (ps : List ℕ) (m : ℕ) → ((j : ℕ) → m ≤ j → get_or ps j vacant ≡ vacant) → order (take m ps) ≡ order ps
order_take_all ps m h =
    let none : order (drop m ps) ≡ [] = order_skip ps m (m + length ps) (omega arith) (λ j low high. h j low) ∙ ap order (drop_all (m + length ps) ps (omega arith)) in
    sym (order_split ps m ∙ ap (λ r. order (take m ps) ++ r) none ∙ append-nil (order (take m ps)))

-- an array without an empty place
pub all_taken : (ps : List ℕ) → ((k : ℕ) → k < length ps → get_or ps k vacant ≢ vacant) → length (order ps) ≡ length ps
all_taken [] h = refl
all_taken (p ∷ ps) h = ap length (order_taken p ps (h 0 (omega arith))) ∙ ap suc (all_taken ps (λ k lt. h (suc k) (omega arith)))

-- what no place has, the order lacks
pub Lacks-order : (ps : List ℕ) (x : ℕ) → ((j : ℕ) → get_or ps j vacant ≢ vacant → get_or ps j vacant ≢ x) → Lacks x (order ps)
Lacks-order [] x h = tt
Lacks-order (p ∷ ps) x h = elim (cases_eq p vacant) [
  | inl e ↦ subst (Lacks x) (sym (order_empty p ps e)) (Lacks-order ps x (λ j. h (suc j)))
  | inr d ↦ subst (Lacks x) (sym (order_taken p ps d)) (h zero d, Lacks-order ps x (λ j. h (suc j)))
]

-- and the other way round
pub Lacks-at : (ps : List ℕ) (x k : ℕ) → Lacks x (order ps) → get_or ps k vacant ≢ vacant → get_or ps k vacant ≢ x
Lacks-at [] x k h d = absurd (d (get_or_past [] k vacant (omega arith)))
Lacks-at (p ∷ ps) x zero h d = let g = subst (Lacks x) (order_taken p ps d) h in g.0
Lacks-at (p ∷ ps) x (suc k) h d = elim (cases_eq p vacant) [
  | inl e ↦ Lacks-at ps x k (subst (Lacks x) (order_empty p ps e) h) d
  | inr f ↦ let g = subst (Lacks x) (order_taken p ps f) h in Lacks-at ps x k g.1 d
]

-- an index goes down over empty places
pub order_carried : (ps : List ℕ) (to from x : ℕ) → to ≤ from → ((k : ℕ) → to ≤ k → k < from → get_or ps k vacant ≡ vacant) → get_or ps from vacant ≡ x → x ≢ vacant → order (set (set ps from vacant) to x) ≡ order ps
order_carried ps to from x le gap there named =
    let taken : get_or ps from vacant ≢ vacant = λ e. named (sym there ∙ e) in
    let below : from < length ps = within ps from taken in
    let ps₁ : List ℕ = set ps from vacant in
    let ps₂ : List ℕ = set ps₁ to x in
    let len₁ : length ps₁ ≡ length ps = length-set ps from vacant in
    let here : get_or ps₂ to vacant ≡ x = get_or-set_same ps₁ to x vacant (omega arith) in
    let front : take to ps₂ ≡ take to ps = take-set-le to ps₁ to x (omega arith) ∙ take-set-le to ps from vacant le in
    let empty : (k : ℕ) → to + 1 ≤ k → k < from + 1 → get_or ps₂ k vacant ≡ vacant = λ k low high. get_or-set_other ps₁ to k x vacant (omega arith) ∙ elim (cases_eq k from) [
      | inl e ↦ ap (λ i. get_or ps₁ i vacant) e ∙ get_or-set_same ps from vacant vacant below
      | inr d ↦ get_or-set_other ps from k vacant vacant d ∙ gap k (omega arith) (omega arith)
    ] in
    let back : drop (from + 1) ps₂ ≡ drop (from + 1) ps = drop-set-lt (from + 1) ps₁ to x (omega arith) ∙ drop-set-lt (from + 1) ps from vacant (omega arith) in
    let new : order ps₂ ≡ order (take to ps) ++ x ∷ order (drop (from + 1) ps) = order_split ps₂ to ∙ ap (λ r. order r ++ order (drop to ps₂)) front ∙ ap (λ r. order (take to ps) ++ r) (order_drop_some ps₂ to (λ e. named (sym here ∙ e)) ∙ ap (λ y. y ∷ order (drop (to + 1) ps₂)) here ∙ ap (λ r. x ∷ r) (order_skip ps₂ (to + 1) (from + 1) (omega arith) empty ∙ ap order back)) in
    let old : order ps ≡ order (take to ps) ++ x ∷ order (drop (from + 1) ps) = order_split ps to ∙ ap (λ r. order (take to ps) ++ r) (order_skip ps to from le gap ∙ order_drop_some ps from taken ∙ ap (λ y. y ∷ order (drop (from + 1) ps)) there) in
    new ∙ sym old
