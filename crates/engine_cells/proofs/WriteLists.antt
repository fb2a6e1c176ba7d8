-- The write list where it is not kept.
use Rattle.std.proofs.Common.{◌≡◌, refl, ap, ◌∙◌, ℕ, ◌+◌, ◌-◌, ◌^◌, ◌<◌, ◌≤◌, arith, Bool, false, cond, inl, inr, List, [], ◌∷◌, ◌++◌, length}
use Rattle.std.proofs.lemmas.Bool.{cases_Bool}
use Rattle.std.proofs.lemmas.List.{length_push}
use Rattle.policy_queue.specs.Indices.{has_index, without_index, index_moved_to_back}
use Rattle.policy_queue.proofs.Listed.{length_without}
use Rattle.engine_cells.specs.Fitting.{ComesLast, StepsOut}
use Rattle.engine_cells.specs.WriteList.{after_move, after_moves, unkept}
use Rattle.engine_cells.proofs.Indexed.{without_lacked}

-- one more move
pub moves-more : (places : List ℕ) (ms : List (ℕ × Bool)) (m : ℕ × Bool) → after_moves places (ms ++ m ∷ []) ≡ after_move (after_moves places ms) m
moves-more places [] m = refl
moves-more places (x ∷ ms) m = moves-more (after_move places x) ms m

pub length-off : (x : ℕ) (xs : List ℕ) → length (without_index x xs) + cond (has_index x xs) 1 0 ≡ length xs
length-off x xs = elim (cases_Bool (has_index x xs)) [
  | inl e ↦ rw e (length_without x xs e)
  | inr e ↦ rw e (let one = ap length (without_lacked x xs e) in omega (arith, one))
]

pub length-last : (x : ℕ) (xs : List ℕ) → length (index_moved_to_back x xs) ≡ length xs + cond (has_index x xs) 0 1
length-last x xs = elim (cases_Bool (has_index x xs)) [
  | inl e ↦ (let less = length_without x xs e in rw e (omega (arith, less, length_push (without_index x xs) x)))
  | inr e ↦ (let same = ap length (without_lacked x xs e) in rw e (omega (arith, same, length_push (without_index x xs) x)))
]

last-room : (x n m : ℕ) (xs : List ℕ) → m ≡ n + cond (has_index x xs) 0 1 → (has_index x xs ≡ false → 0 < 2 ^ 32 - 2 - n) → 2 ^ 32 - 2 - m + cond (has_index x xs) 0 1 ≡ 2 ^ 32 - 2 - n
last-room x n m xs is some = elim (cases_Bool (has_index x xs)) [
  | inl e ↦ (let many = rw e at is in rw e (omega (arith, many)))
  | inr e ↦ (let many = rw e at is in let free = some e in rw e (omega (arith, many, free)))
]

off-room : (x n m : ℕ) (xs : List ℕ) → m + cond (has_index x xs) 1 0 ≡ n → n ≤ 2 ^ 32 - 2 → 2 ^ 32 - 2 - m ≡ 2 ^ 32 - 2 - n + cond (has_index x xs) 1 0
off-room x n m xs is few = elim (cases_Bool (has_index x xs)) [
  | inl e ↦ (let many = rw e at is in rw e (omega (arith, many, few)))
  | inr e ↦ (let many = rw e at is in rw e (omega (arith, many)))
]

-- a place comes last
pub last-unkept : (x : ℕ) (places new : List ℕ) → new ≡ index_moved_to_back x places → (has_index x places ≡ false → 0 < 2 ^ 32 - 2 - length places) → ComesLast x (unkept places) (unkept new)
last-unkept x places new is room = record {
  indices = is;
  room = last-room x (length places) (length new) places (ap length is ∙ length-last x places) room;
  bound = refl;
}

-- a place goes
pub off-unkept : (x : ℕ) (places new : List ℕ) → new ≡ without_index x places → length places ≤ 2 ^ 32 - 2 → StepsOut x (unkept places) (unkept new)
off-unkept x places new is few = record {
  indices = is;
  room = off-room x (length places) (length new) places (ap (λ n. n + cond (has_index x places) 1 0) (ap length is) ∙ length-off x places) few;
  bound = refl;
}
