-- One increment of a sketch.
use Rattle.std.proofs.Common.{◌≡◌, ℕ, ◌+◌, ◌*◌, ◌/◌, ◌^◌, ◌<◌, ◌≤◌, Bool, false, cond, ltb, eqb, min, max, List, map, replicate, length, sym, subst, ap, ap₂, ◌∙◌, arith}
use Rattle.std.proofs.lemmas.Bool.{ne_eqb, lt-ltb, le-ltb, cond-true, cond-false}
use Rattle.policy_base.specs.Counts.{Sketch, half, bumped_in, can_grow_in, incremented, aged, counts_of, sketch_of, grown}
use Rattle.std.specs.Int.{IsPowerOfTwo}
use Rattle.policy_base.proofs.Nibbles.{counts-zeros}

module _ (z : ℕ) (cs ds : List ℕ) (size more sample h : ℕ) (g : Bool) (some : 0 < z) (counts : ds ≡ bumped_in z cs h) (grew : g ≡ can_grow_in z cs h) (is : more ≡ size + cond g 1 0) where
  same : (let s : Sketch = record { words = z; counts = cs; size = size; sample = sample } in aged (record { words = z; counts = ds; size = more; sample = sample }) ≡ incremented s h)
  same =
      let nz : eqb z 0 ≡ false = ne_eqb z 0 (λ e. absurd (omega arith)) in
      let e : more ≡ size + cond (can_grow_in z cs h) 1 0 = is ∙ ap (λ b. size + cond b 1 0) grew in
      sym (cond-false (eqb z 0) _ _ nz ∙ ap₂ (λ (c : List ℕ) (n : ℕ). aged (record { words = z; counts = c; size = n; sample = sample })) (sym counts) (sym e))

  pub young : more < sample → (let s : Sketch = record { words = z; counts = cs; size = size; sample = sample } in let t : Sketch = record { words = z; counts = ds; size = more; sample = sample } in t ≡ incremented s h)
  young lt = sym (cond-true (ltb more sample) _ _ (lt-ltb more sample lt)) ∙ same

  pub old : sample ≤ more → (let s : Sketch = record { words = z; counts = cs; size = size; sample = sample } in let t : Sketch = record { words = z; counts = map half ds; size = more / 2; sample = sample } in t ≡ incremented s h)
  old le = sym (cond-false (ltb more sample) _ _ (le-ltb more sample le)) ∙ same

-- a table just made, where it is larger than the one before
pub made : (s : Sketch) (words capacity : ℕ) (len sample : ℕ) (items : List ℕ) → s.words < words → len ≡ words → items ≡ replicate words 0 → sample ≡ max (10 * min capacity (2 ^ 24)) 10 → sketch_of len items 0 sample ≡ grown s words capacity
made s words capacity len sample items lt e f g =
    ap (λ n. sketch_of n items 0 sample) e ∙ ap (λ xs. let t : Sketch = record { words = words; counts = xs; size = 0; sample = sample } in t) (ap counts_of f ∙ counts-zeros words) ∙ ap (λ n. let t : Sketch = record { words = words; counts = replicate (16 * words) 0; size = 0; sample = n } in t) g
    ∙ sym (cond-true (ltb s.words words) _ _ (lt-ltb s.words words lt))

-- a slice of a table that has words
pub is_power : (len : ℕ) (items now : List ℕ) → len ≡ length items → now ≡ items → (0 < len → IsPowerOfTwo len) → 0 < length now → IsPowerOfTwo (length now)
is_power len items now e f power some =
    let long : length now ≡ len = ap length f ∙ sym e in
    let P : ℕ → Type 0 = IsPowerOfTwo in
    subst P (sym long) (power (omega arith))
