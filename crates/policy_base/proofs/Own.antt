-- A hash's own count stays at or below its frequency.
use Rattle.std.proofs.Common.{◌≡◌, ℕ, zero, suc, ◌+◌, ◌*◌, ◌/◌, ◌<◌, ◌≤◌, true, false, cond, ltb, eqb, min, List, [], ◌∷◌, map, length, get_or, set, refl, sym, ap, ◌∙◌, inl, inr, arith, subst}
use Rattle.std.proofs.Math.Nat.{mod-lt}
use Rattle.std.proofs.lemmas.Bool.{cases_lt, cases_eq, cond-true, cond-false, lt-ltb, le-ltb, ne_eqb, eq-eqb}
use Rattle.std.proofs.lemmas.List.{length-set, length-map, get_or-set_same, get_or-set_other, get_or-map, get_or_past}
use Rattle.policy_base.specs.Counts.{Sketch, half, spread, place, bump, count, frequency_of, can_grow, bumped_in, aged, incremented, after, own_step, own_count}

-- what one more at a place leaves: as many places, no count smaller, and the place itself one larger or at 15
pub record Bumps (before after : List ℕ) (at : ℕ) : Type 0 where
  pub len : length after ≡ length before
  pub grows : (k : ℕ) → get_or before k 0 ≤ get_or after k 0
  pub counts : at < length before → min (get_or before at 0 + 1) 15 ≤ get_or after at 0

pub bumps : (cs : List ℕ) (at : ℕ) → Bumps cs (bump cs at) at
bumps cs at = elim (cases_lt (get_or cs at 0) 15) [
  | inl lt ↦
      let e : bump cs at ≡ set cs at (get_or cs at 0 + 1) = cond-true (ltb (get_or cs at 0) 15) _ _ (lt-ltb _ _ lt) in
      let more : List ℕ = set cs at (get_or cs at 0 + 1) in
      let P : List ℕ → Type 0 = λ xs. Bumps cs xs at in
      subst P (sym e) (record {
        len = length-set cs at _;
        grows = λ k. elim (cases_eq k at) [
          | inl same ↦ elim (cases_lt at (length cs)) [
            | inl inside ↦ let w = ap (λ i. get_or more i 0) same ∙ get_or-set_same cs at (get_or cs at 0 + 1) 0 inside in let v = ap (λ i. get_or cs i 0) same in omega arith
            | inr past ↦ let v = ap (λ i. get_or cs i 0) same ∙ get_or_past cs at 0 past in omega arith
          ]
          | inr other ↦ let w = get_or-set_other cs at k (get_or cs at 0 + 1) 0 other in omega arith
        ];
        counts = λ inside. let w = get_or-set_same cs at (get_or cs at 0 + 1) 0 inside in omega arith;
      })
  | inr ge ↦
      let e : bump cs at ≡ cs = cond-false (ltb (get_or cs at 0) 15) _ _ (le-ltb _ _ ge) in
      let P : List ℕ → Type 0 = λ xs. Bumps cs xs at in
      subst P (sym e) (record { len = refl; grows = λ k. omega arith; counts = λ inside. omega arith })
]

-- a place of a hash lies within the counts
pub place_within : (z h i : ℕ) → 0 < z → i < 4 → place z h i < 16 * z
place_within z h i some small =
    let a = mod-lt (spread h i) some in
    let b = mod-lt h {m = 4} (omega arith) in
    omega arith

-- what one increment leaves, before any aging
pub record Counted (z : ℕ) (before after : List ℕ) (g : ℕ) : Type 0 where
  pub len : length after ≡ length before
  pub grows : (k : ℕ) → get_or before k 0 ≤ get_or after k 0
  pub counts : (i : ℕ) → i < 4 → min (get_or before (place z g i) 0 + 1) 15 ≤ get_or after (place z g i) 0

pub counted : (z : ℕ) (cs : List ℕ) (g : ℕ) → 0 < z → length cs ≡ 16 * z → Counted z cs (bumped_in z cs g) g
counted z cs g some whole =
    let c₁ : List ℕ = bump cs (place z g 0) in
    let c₂ : List ℕ = bump c₁ (place z g 1) in
    let c₃ : List ℕ = bump c₂ (place z g 2) in
    let c₄ : List ℕ = bump c₃ (place z g 3) in
    let b₀ = bumps cs (place z g 0) in
    let b₁ = bumps c₁ (place z g 1) in
    let b₂ = bumps c₂ (place z g 2) in
    let b₃ = bumps c₃ (place z g 3) in
    let result : Counted z cs c₄ g = record {
      len = b₃.len ∙ b₂.len ∙ b₁.len ∙ b₀.len;
      grows = λ k. let p = b₀.grows k in let q = b₁.grows k in let r = b₂.grows k in let s = b₃.grows k in omega arith;
      counts = four _
          (let p = b₀.counts (let w = place_within z g 0 some (omega arith) in omega arith) in let q = b₁.grows (place z g 0) in let r = b₂.grows (place z g 0) in let s = b₃.grows (place z g 0) in omega arith)
          (let o = b₀.grows (place z g 1) in let p = b₁.counts (let w = place_within z g 1 some (omega arith) in let e = b₀.len in omega arith) in let r = b₂.grows (place z g 1) in let s = b₃.grows (place z g 1) in omega arith)
          (let o = b₀.grows (place z g 2) in let n = b₁.grows (place z g 2) in let p = b₂.counts (let w = place_within z g 2 some (omega arith) in let e = b₀.len in let f = b₁.len in omega arith) in let s = b₃.grows (place z g 2) in omega arith)
          (let o = b₀.grows (place z g 3) in let n = b₁.grows (place z g 3) in let m = b₂.grows (place z g 3) in let p = b₃.counts (let w = place_within z g 3 some (omega arith) in let e = b₀.len in let f = b₁.len in let d = b₂.len in omega arith) in omega arith);
    } in result
  where
    four : (P : ℕ → Type 0) → P 0 → P 1 → P 2 → P 3 → (i : ℕ) → i < 4 → P i
    four P a b c d zero lt = a
    four P a b c d (suc zero) lt = b
    four P a b c d (suc (suc zero)) lt = c
    four P a b c d (suc (suc (suc zero))) lt = d
    four P a b c d (suc (suc (suc (suc i)))) lt = absurd (omega arith)

-- a sketch with a table: sixteen counts a word
pub record HasTable (s : Sketch) : Type 0 where
  pub some : 0 < s.words
  pub whole : length s.counts ≡ 16 * s.words

-- a count of each of the hash's four places is at least its own
abbrev pub Covers : Sketch → ℕ → ℕ → Type 0
Covers s h own = (i : ℕ) → i < 4 → own ≤ count s h i

pub covers-frequency : (s : Sketch) (h own : ℕ) → 0 < s.words → Covers s h own → own ≤ frequency_of s h
covers-frequency s h own some covers =
    let e : frequency_of s h ≡ min (min (count s h 0) (count s h 1)) (min (count s h 2) (count s h 3)) = cond-false (eqb s.words 0) _ _ (ne_eqb s.words 0 (λ z. absurd (omega arith))) in
    let a = covers 0 (omega arith) in
    let b = covers 1 (omega arith) in
    let c = covers 2 (omega arith) in
    let d = covers 3 (omega arith) in
    omega arith

pub frequency-covers : (s : Sketch) (h own : ℕ) → 0 < s.words → own ≤ frequency_of s h → Covers s h own
frequency-covers s h own some le =
    let e : frequency_of s h ≡ min (min (count s h 0) (count s h 1)) (min (count s h 2) (count s h 3)) = cond-false (eqb s.words 0) _ _ (ne_eqb s.words 0 (λ z. absurd (omega arith))) in
    four (λ i. own ≤ count s h i) (omega arith) (omega arith) (omega arith) (omega arith)
  where
    four : (P : ℕ → Type 0) → P 0 → P 1 → P 2 → P 3 → (i : ℕ) → i < 4 → P i
    four P a b c d zero lt = a
    four P a b c d (suc zero) lt = b
    four P a b c d (suc (suc zero)) lt = c
    four P a b c d (suc (suc (suc zero))) lt = d
    four P a b c d (suc (suc (suc (suc i)))) lt = absurd (omega arith)

-- the counts before an aging are at least the hash's own, counted once more where it is the hash
raised : (s : Sketch) (h own g : ℕ) → HasTable s → Covers s h own → (i : ℕ) → i < 4 → cond (eqb g h) (min (own + 1) 15) own ≤ get_or (bumped_in s.words s.counts g) (place s.words h i) 0
raised s h own g t covers i lt =
    let c = counted s.words s.counts g t.some t.whole in
    let was = covers i lt in
    elim (cases_eq g h) [
      | inl same ↦
          let e : cond (eqb g h) (min (own + 1) 15) own ≡ min (own + 1) 15 = cond-true (eqb g h) _ _ (subst (λ x. eqb g x ≡ true) same (eqb-same g)) in
          let P : ℕ → Type 0 = λ x. min (own + 1) 15 ≤ get_or (bumped_in s.words s.counts g) (place s.words x i) 0 in
          let w : P g = let v = c.counts i lt in let u : own ≤ get_or s.counts (place s.words g i) 0 = subst (λ x. own ≤ get_or s.counts (place s.words x i) 0) (sym same) was in omega arith in
          let v : P h = subst P same w in
          omega arith
      | inr other ↦
          let e : cond (eqb g h) (min (own + 1) 15) own ≡ own = cond-false (eqb g h) _ _ (ne_eqb g h other) in
          let v = c.grows (place s.words h i) in
          omega arith
    ]
  where
    eqb-same : (n : ℕ) → eqb n n ≡ true
    eqb-same n = eq-eqb n n refl

half-get : (cs : List ℕ) (k : ℕ) → get_or (map half cs) k 0 ≡ get_or cs k 0 / 2
half-get cs k = elim (cases_lt k (length cs)) [
  | inl lt ↦ get_or-map half cs k 0 0 lt
  | inr past ↦
      let a : get_or (map half cs) k 0 ≡ 0 = get_or_past (map half cs) k 0 (omega (arith, length-map cs half)) in
      let b : get_or cs k 0 ≡ 0 = get_or_past cs k 0 past in
      omega arith
]

-- one increment keeps the own count at or below
pub one_step : (s : Sketch) (h own g : ℕ) → HasTable s → Covers s h own → HasTable (incremented s g) × Covers (incremented s g) h (own_step s h own g)
one_step s h own g t covers =
    let z : eqb s.words 0 ≡ false = ne_eqb s.words 0 (λ e. absurd (omega (arith, t.some))) in
    let next : Sketch = record s { counts = bumped_in s.words s.counts g; size = s.size + cond (can_grow s g) 1 0 } in
    let e : incremented s g ≡ aged next = cond-false (eqb s.words 0) _ _ z in
    let r = raised s h own g t covers in
    let c = counted s.words s.counts g t.some t.whole in
    let more : ℕ = cond (eqb g h) (min (own + 1) 15) own in
    let P : Sketch → Type 0 = λ x. HasTable x × Covers x h (own_step s h own g) in
    subst P (sym e) (elim (cases_lt next.size s.sample) [
      | inl young ↦
          let b : ltb next.size s.sample ≡ true = lt-ltb _ _ young in
          let f : aged next ≡ next = cond-true (ltb next.size s.sample) _ _ b in
          let o : own_step s h own g ≡ more = cond-true (ltb next.size s.sample) _ _ b in
          let Q : Sketch → Type 0 = λ x. HasTable x × Covers x h (own_step s h own g) in
          subst Q (sym f) (record { some = t.some; whole = c.len ∙ t.whole }, λ i lt. let v = r i lt in omega arith)
      | inr old ↦
          let b : ltb next.size s.sample ≡ false = le-ltb _ _ old in
          let halved : Sketch = record next { counts = map half next.counts; size = next.size / 2 } in
          let f : aged next ≡ halved = cond-false (ltb next.size s.sample) _ _ b in
          let o : own_step s h own g ≡ more / 2 = cond-false (ltb next.size s.sample) _ _ b in
          let Q : Sketch → Type 0 = λ x. HasTable x × Covers x h (own_step s h own g) in
          subst Q (sym f) (record { some = t.some; whole = length-map (bumped_in s.words s.counts g) half ∙ c.len ∙ t.whole }, λ i lt. let v = r i lt in let w = half-get (bumped_in s.words s.counts g) (place s.words h i) in omega arith)
    ])

-- so do all
pub own_covered : (s : Sketch) (h own : ℕ) (gs : List ℕ) → HasTable s → Covers s h own → HasTable (after s gs) × Covers (after s gs) h (own_count s h own gs)
own_covered s h own [] t covers = (t, covers)
own_covered s h own (g ∷ gs) t covers =
    let one = one_step s h own g t covers in
    own_covered (incremented s g) h (own_step s h own g) gs one.0 one.1

pub own_below : (s : Sketch) (h own : ℕ) (gs : List ℕ) → HasTable s → own ≤ frequency_of s h → own_count s h own gs ≤ frequency_of (after s gs) h
own_below s h own gs t le =
    let all = own_covered s h own gs t (frequency-covers s h own t.some le) in
    covers-frequency (after s gs) h (own_count s h own gs) all.0.some all.1
