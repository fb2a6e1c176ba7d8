-- Slots, one of which is written.
use Rattle.std.proofs.Common.{◌≡◌, ◌≢◌, refl, ap, ◌∙◌, ℕ, zero, suc, ◌+◌, ◌<◌, ◌≤◌, inl, inr, arith, Bool, cond, true, false, List, [], ◌∷◌, length, get_or, set}
use Rattle.std.proofs.lemmas.Bool.{cases_lt, cases_eq, lt-ltb, le-ltb, ltb-true}
use Rattle.std.proofs.lemmas.List.{get_or-set_same, get_or-set_other, get_or_past, get_or_read_under}
use Rattle.std.proofs.lemmas.List.Sums.{sum_by-set, sum_by-cons}
use Rattle.std.specs.Prelude.{nat_lt}
use Rattle.engine_cells.specs.declared.keys.Slot.{Slot}
use Rattle.engine_cells.specs.Keys.Spots.{HasEntry}
use Rattle.engine_cells.specs.Keys.Slots.{nowhere, vacant_slot, slot_at, HoldsPlace, taken_in, entries_in, Has}
use Rattle.std.proofs.lemmas.Bool.Decides.{nat_tests}

pub at-set : (xs : List Slot) (i : ℕ) (s : Slot) → i < length xs → slot_at (set xs i s) i ≡ s
at-set xs i s within = get_or-set_same xs i s vacant_slot within

pub off-set : (xs : List Slot) (i j : ℕ) (s : Slot) → j ≢ i → slot_at (set xs i s) j ≡ slot_at xs j
off-set xs i j s other = get_or-set_other xs i j s vacant_slot other

pub taken-within : (xs : List Slot) (k : ℕ) → HoldsPlace xs k → k < length xs
taken-within xs k taken = elim (cases_lt k (length xs)) [
  | inl less ↦ less
  | inr past ↦ absurd (omega (arith, ap (λ s. s.place) (get_or_past xs k vacant_slot past)))
]

pub along : (xs ys : List Slot) (j k : ℕ) → slot_at xs j ≡ slot_at ys k → HoldsPlace ys k → HoldsPlace xs j
along xs ys j k same taken = omega (arith, ap (λ s. s.place) same)

-- what was taken stays so where a place is written
pub still-taken : (xs : List Slot) (i : ℕ) (s : Slot) → i < length xs → s.place < nowhere → (x : ℕ) → HoldsPlace xs x → HoldsPlace (set xs i s) x
still-taken xs i s within place x taken = elim (cases_eq x i) [
  | inl e ↦ omega (arith, ap (λ k. (slot_at (set xs i s) k).place) e, ap (λ q. q.place) (at-set xs i s within))
  | inr off ↦ along (set xs i s) xs x x (off-set xs i x s off) taken
]

one : (s : Slot) → s.place < nowhere → ◌≡◌ {A = ℕ} (cond (nat_lt s.place nowhere) 1 0) 1
one s less = ap (λ b. cond b 1 0) (lt-ltb s.place nowhere less)

nil : (s : Slot) → nowhere ≤ s.place → ◌≡◌ {A = ℕ} (cond (nat_lt s.place nowhere) 1 0) 0
nil s le = ap (λ b. cond b 1 0) (le-ltb s.place nowhere le)

pub taken-more : (xs : List Slot) (i : ℕ) (s : Slot) → i < length xs → nowhere ≤ (slot_at xs i).place → s.place < nowhere → taken_in (set xs i s) ≡ taken_in xs + 1
taken-more xs i s within was less = omega (arith, sum_by-set (λ q. cond (nat_lt q.place nowhere) 1 0) xs i s vacant_slot within, nil (slot_at xs i) was, one s less)

pub taken-same : (xs : List Slot) (i : ℕ) (s : Slot) → i < length xs → HoldsPlace xs i → s.place < nowhere → taken_in (set xs i s) ≡ taken_in xs
taken-same xs i s within was less = omega (arith, sum_by-set (λ q. cond (nat_lt q.place nowhere) 1 0) xs i s vacant_slot within, one (slot_at xs i) was, one s less)

pub taken-less : (xs : List Slot) (i : ℕ) → i < length xs → HoldsPlace xs i → taken_in (set xs i vacant_slot) + 1 ≡ taken_in xs
taken-less xs i within was = omega (arith, sum_by-set (λ q. cond (nat_lt q.place nowhere) 1 0) xs i vacant_slot vacant_slot within, one (slot_at xs i) was, nil vacant_slot (omega arith))

pub all-taken : (xs : List Slot) → ((k : ℕ) → k < length xs → HoldsPlace xs k) → length xs ≤ taken_in xs
all-taken [] h = omega arith
all-taken (x ∷ xs) h = omega (arith, all-taken xs (λ k less. h (suc k) (omega arith)), sum_by-cons (λ q. cond (nat_lt q.place nowhere) 1 0) x xs, one x (h zero (omega arith)))

-- the entries are what stands in the slots
pub has-among : (xs : List Slot) (h p : ℕ) → Has xs h p → HasEntry (entries_in xs) h p
has-among xs h p (k, at, less) = go xs k at
  where
    here : (b : Bool) (x : Slot) (xs : List Slot) → b ≡ true → x ≡ record { tag = h; place = p } → HasEntry (cond b ((x.tag, x.place) ∷ entries_in xs) (entries_in xs)) h p
    here true x xs e is = inl (ap (λ s. s.tag) is, ap (λ s. s.place) is)
    here false x xs e is = absurd (cc)

    go : (xs : List Slot) (k : ℕ) → slot_at xs k ≡ record { tag = h; place = p } → HasEntry (entries_in xs) h p
    go [] k at = absurd (omega (arith, ap (λ s. s.place) at))
    go (x ∷ xs) zero at = here (nat_lt x.place nowhere) x xs (lt-ltb x.place nowhere (omega (arith, ap (λ s. s.place) at))) at
    go (x ∷ xs) (suc k) at = let next = go xs k at in grind (arith, nat_tests, x, xs, next)

pub both : (x : Slot) (h p : ℕ) → x.tag ≡ h → x.place ≡ p → x ≡ record { tag = h; place = p }
both x h p a b = ap (λ n. record x { tag = n }) a ∙ ap (λ n. record x { tag = h; place = n }) b

pub among-has : (xs : List Slot) (h p : ℕ) → HasEntry (entries_in xs) h p → Has xs h p
among-has [] h p u = absurd u
among-has (x ∷ xs) h p u = go (nat_lt x.place nowhere) refl (among-has xs h p) u
  where
    behind : Has xs h p → Has (x ∷ xs) h p
    behind (k, at, less) = (suc k, at, less)

    go : (b : Bool) → nat_lt x.place nowhere ≡ b → (HasEntry (entries_in xs) h p → Has xs h p) → HasEntry (cond b ((x.tag, x.place) ∷ entries_in xs) (entries_in xs)) h p → Has (x ∷ xs) h p
    go false e later u = behind (later u)
    go true e later (inl same) = (zero, both x h p same.0 same.1, omega (arith, ltb-true x.place nowhere e, same.1))
    go true e later (inr u) = behind (later u)

-- what is read of a slot
pub read : (xs : List Slot) (k n : ℕ) (x : Slot) → n ≡ length xs → k < n → x ≡ get_or xs k x → x ≡ slot_at xs k
read xs k n x is less e = get_or_read_under xs k n x vacant_slot e less is
