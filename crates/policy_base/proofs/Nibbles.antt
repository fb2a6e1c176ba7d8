-- Words of sixteen counts.
use Rattle.std.proofs.Common.{◌≡◌, ℕ, zero, suc, ◌+◌, ◌-◌, ◌*◌, ◌/◌, ◌%◌, ◌^◌, ◌<◌, ◌≤◌, List, [], ◌∷◌, ◌++◌, map, length, get_or, set, replicate, refl, sym, ap, ap₂, ◌∙◌, arith}
use Rattle.std.proofs.Math.Nat.{pow-suc}
use native.Mathlib.Nat.{div-div-eq-div-mul}
use Rattle.std.proofs.lemmas.List.{get_or_append_left, get_or-append-add, set-append_left, set-append_right, length-append, map-append, replicate-append-replicate}
use Rattle.std.proofs.Common.{ltb, true, false}
use Rattle.std.specs.Int.Bits.{bit_and}
use Rattle.std.proofs.lemmas.Nat.{and_mask, and_mod, and_shr}
use Rattle.std.proofs.lemmas.Bool.{lt-ltb, le-ltb, cond-true, cond-false}
use Rattle.policy_base.specs.Counts.{nibbles, counts_of, half, bump}

pub pow16-suc : (i : ℕ) → 16 ^ suc i ≡ 16 * 16 ^ i
pow16-suc i = let p = pow-suc 16 i in omega arith

-- a shift by four bits a count
pub pow16 : (i : ℕ) → 16 ^ i ≡ 2 ^ (4 * i)
pow16 zero = refl
pow16 (suc i) =
    let x : ℕ = 4 * i in
    let e : 4 * suc i ≡ suc (suc (suc (suc x))) = omega arith in
    let a = pow-suc 2 (suc (suc (suc x))) in
    let b = pow-suc 2 (suc (suc x)) in
    let c = pow-suc 2 (suc x) in
    let d = pow-suc 2 x in
    let f = pow16 i in
    let g = pow16-suc i in
    let h : 16 ^ suc i ≡ 2 ^ suc (suc (suc (suc x))) = omega arith in
    h ∙ ap (λ k. 2 ^ k) (sym e)

pub length-nibbles : (n w : ℕ) → length (nibbles n w) ≡ n
unfolding nibbles
length-nibbles zero w = refl
length-nibbles (suc n) w = ap suc (length-nibbles n (w / 16))

-- the i-th count
pub get_or-nibbles : (n w i : ℕ) → i < n → get_or (nibbles n w) i 0 ≡ w / 16 ^ i % 16
unfolding nibbles
get_or-nibbles zero w i lt = absurd (omega arith)
get_or-nibbles (suc n) w zero lt = omega arith
get_or-nibbles (suc n) w (suc i) lt =
    get_or-nibbles n (w / 16) i (omega arith) ∙ ap (λ q. q % 16) (div-div-eq-div-mul w 16 (16 ^ i) ∙ ap (λ q. w / q) (sym (pow16-suc i)))

-- one more in the i-th count
pub nibbles-bump : (n w i : ℕ) → i < n → get_or (nibbles n w) i 0 < 15 → nibbles n (w + 16 ^ i) ≡ set (nibbles n w) i (get_or (nibbles n w) i 0 + 1)
unfolding nibbles
nibbles-bump zero w i lt below = absurd (omega arith)
nibbles-bump (suc n) w zero lt below =
    let a : (w + 1) % 16 ≡ w % 16 + 1 = omega arith in
    let b : (w + 1) / 16 ≡ w / 16 = omega arith in
    ap₂ ◌∷◌ a (ap (nibbles n) b)
nibbles-bump (suc n) w (suc i) lt below =
    let a : (w + 16 * 16 ^ i) % 16 ≡ w % 16 = omega arith in
    let b : (w + 16 * 16 ^ i) / 16 ≡ w / 16 + 16 ^ i = omega arith in
    ap (λ q. nibbles (suc n) (w + q)) (pow16-suc i) ∙ ap₂ ◌∷◌ a (ap (nibbles n) b ∙ nibbles-bump n (w / 16) i (omega arith) below)

-- it still fits its word
pub bump-fits : (n w i : ℕ) → i < n → get_or (nibbles n w) i 0 < 15 → w < 16 ^ n → w + 16 ^ i < 16 ^ n
unfolding nibbles
bump-fits zero w i lt below fits = absurd (omega arith)
bump-fits (suc n) w zero lt below fits = let p = pow16-suc n in omega arith
bump-fits (suc n) w (suc i) lt below fits =
    let p = pow16-suc n in
    let q = pow16-suc i in
    let small : w / 16 < 16 ^ n = omega arith in
    let h = bump-fits n (w / 16) i (omega arith) below small in
    omega arith

-- the lower three bits of each of n counts
abbrev pub lower_bits : ℕ → ℕ
lower_bits zero = 0
lower_bits (suc n) = lower_bits n * 16 + 7

-- a shift by one bit halves each count, once the bit that comes from the count above is dropped
pub nibbles-half : (n w : ℕ) → nibbles n (bit_and (w / 2) (lower_bits n)) ≡ map half (nibbles n w)
unfolding nibbles
nibbles-half zero w = refl
nibbles-half (suc n) w =
    let low : lower_bits (suc n) % 16 ≡ 7 = omega arith in
    let high : lower_bits (suc n) / 16 ≡ lower_bits n = omega arith in
    let three : bit_and (w / 2 % 16) 7 ≡ w / 2 % 16 % 8 = and_mask (w / 2 % 16) 3 in
    let count : bit_and (w / 2) (lower_bits (suc n)) % 16 ≡ w % 16 / 2 = and_mod (w / 2) (lower_bits (suc n)) 4 ∙ ap (bit_and (w / 2 % 16)) low ∙ three ∙ omega arith in
    let shift : w / 2 / 16 ≡ w / 16 / 2 = omega arith in
    let rest : bit_and (w / 2) (lower_bits (suc n)) / 16 ≡ bit_and (w / 16 / 2) (lower_bits n) = and_shr (w / 2) (lower_bits (suc n)) 4 ∙ ap₂ bit_and shift high in
    ap₂ ◌∷◌ count (ap (nibbles n) rest ∙ nibbles-half n (w / 16))

-- the counts of a table: count i of word j
pub get_or-counts : (ws : List ℕ) (j i : ℕ) → j < length ws → i < 16 → get_or (counts_of ws) (16 * j + i) 0 ≡ get_or (nibbles 16 (get_or ws j 0)) i 0
unfolding counts_of
get_or-counts [] j i lt small = absurd (omega arith)
get_or-counts (w ∷ ws) zero i lt small =
    let e : 16 * 0 + i ≡ i = omega arith in
    ap (λ k. get_or (nibbles 16 w ++ counts_of ws) k 0) e ∙ get_or_append_left (nibbles 16 w) (counts_of ws) 0 i (omega (arith, length-nibbles 16 w))
get_or-counts (w ∷ ws) (suc j) i lt small =
    let e : 16 * suc j + i ≡ length (nibbles 16 w) + (16 * j + i) = omega (arith, length-nibbles 16 w) in
    ap (λ k. get_or (nibbles 16 w ++ counts_of ws) k 0) e ∙ get_or-append-add (nibbles 16 w) (counts_of ws) (16 * j + i) 0 ∙ get_or-counts ws j i (omega arith) small

-- a word in which one count was written
pub set-counts : (ws : List ℕ) (j i v c : ℕ) → j < length ws → i < 16 → nibbles 16 v ≡ set (nibbles 16 (get_or ws j 0)) i c → counts_of (set ws j v) ≡ set (counts_of ws) (16 * j + i) c
unfolding counts_of
set-counts [] j i v c lt small e = absurd (omega arith)
set-counts (w ∷ ws) zero i v c lt small e =
    let z : 16 * 0 + i ≡ i = omega arith in
    ap (λ r. r ++ counts_of ws) e ∙ sym (set-append_left (nibbles 16 w) (counts_of ws) i c (omega (arith, length-nibbles 16 w))) ∙ ap (λ k. set (nibbles 16 w ++ counts_of ws) k c) (sym z)
set-counts (w ∷ ws) (suc j) i v c lt small e =
    let size = length-nibbles 16 w in
    let past : 16 ≤ 16 * suc j + i = omega arith in
    let k : 16 * suc j + i - 16 ≡ 16 * j + i = omega arith in
    ap (λ r. nibbles 16 w ++ r) (set-counts ws j i v c (omega arith) small e ∙ ap (λ q. set (counts_of ws) q c) (sym k)) ∙ sym (set-append_right (nibbles 16 w) (counts_of ws) 16 (16 * suc j + i) c size past)

-- the counts of halved words
pub counts-half : (ws vs : List ℕ) → length vs ≡ length ws → ((k : ℕ) → k < length ws → nibbles 16 (get_or vs k 0) ≡ map half (nibbles 16 (get_or ws k 0))) → counts_of vs ≡ map half (counts_of ws)
unfolding counts_of
counts-half [] [] e h = refl
counts-half [] (v ∷ vs) e h = absurd (omega arith)
counts-half (w ∷ ws) [] e h = absurd (omega arith)
counts-half (w ∷ ws) (v ∷ vs) e h =
    ap₂ ◌++◌ (h zero (omega arith)) (counts-half ws vs (omega arith) (λ k lt. h (suc k) (omega arith))) ∙ sym (map-append half (nibbles 16 w) (counts_of ws))

module _ (ws : List ℕ) (j i : ℕ) (lt : j < length ws) (small : i < 16) where
  -- a count below 15 grows
  pub bump-yes : (v : ℕ) → get_or (nibbles 16 (get_or ws j 0)) i 0 < 15 → nibbles 16 v ≡ set (nibbles 16 (get_or ws j 0)) i (get_or (nibbles 16 (get_or ws j 0)) i 0 + 1) → counts_of (set ws j v) ≡ bump (counts_of ws) (16 * j + i)
  bump-yes v below e =
      let c = get_or-counts ws j i lt small in
      let test : ltb (get_or (counts_of ws) (16 * j + i) 0) 15 ≡ true = lt-ltb _ _ (omega arith) in
      set-counts ws j i v _ lt small e ∙ ap (λ n. set (counts_of ws) (16 * j + i) (n + 1)) (sym c) ∙ sym (cond-true (ltb (get_or (counts_of ws) (16 * j + i) 0) 15) _ _ test)

  -- a count of 15 stays
  pub bump-no : 15 ≤ get_or (nibbles 16 (get_or ws j 0)) i 0 → counts_of ws ≡ bump (counts_of ws) (16 * j + i)
  bump-no full =
      let c = get_or-counts ws j i lt small in
      let test : ltb (get_or (counts_of ws) (16 * j + i) 0) 15 ≡ false = le-ltb _ _ (omega arith) in
      sym (cond-false (ltb (get_or (counts_of ws) (16 * j + i) 0) 15) _ _ test)

zero_nibbles : nibbles 16 0 ≡ replicate 16 0
unfolding nibbles
zero_nibbles = refl

-- words of zero are counts of zero
pub counts-zeros : (n : ℕ) → counts_of (replicate n 0) ≡ replicate (16 * n) 0
unfolding counts_of
counts-zeros zero = refl
counts-zeros (suc n) =
    let e : 16 + 16 * n ≡ 16 * suc n = omega arith in
    ap₂ ◌++◌ zero_nibbles (counts-zeros n) ∙ replicate-append-replicate 16 (16 * n) 0 ∙ ap (λ k. replicate k 0) e

pub counts-none : [] ≡ counts_of []
unfolding counts_of
counts-none = refl

pub length-counts : (ws : List ℕ) → length (counts_of ws) ≡ 16 * length ws
unfolding counts_of
length-counts [] = omega arith
length-counts (w ∷ ws) = length-append (nibbles 16 w) (counts_of ws) ∙ (let a = length-nibbles 16 w in let b = length-counts ws in omega arith)
