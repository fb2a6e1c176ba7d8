-- The sketch's table: what is made where it is wanted.
use Rattle.std.proofs.Common.{◌≡◌, refl, ap, sym, ◌∙◌, subst, ℕ, ◌<◌, ◌≤◌, ◌/◌, ◌^◌, arith, Bool, true, false, cond, ◌&&◌, Option, Some, None}
use Rattle.std.specs.Prelude.{min, nat_lt, nat_le, ◌==◌}
use Rattle.std.specs.Int.{IsNextPowerOfTwo}
use Rattle.std.proofs.lemmas.Bool.{lt-ltb, ne_eqb, eq-eqb, eqb-true}
use Rattle.policy_base.specs.Counts.{Sketch, fresh, grown}
use Rattle.engine_reference.specs.Admission.{sketch_room, wants_table}
use Rattle.engine_reference.specs.Records.{admitted_number, admitted_weight}
use Rattle.engine_reference.specs.Runs.{grows, IsApplied}
use Rattle.engine_reference.specs.State.{State, Answers}
use Rattle.engine_cells.specs.Stretches.{Stretch}
use Rattle.engine_runs.proofs.Joining.{stretch-step}
use Rattle.engine_runs.specs.Tables.{LacksTableFor}

and-second : (a b c : Bool) → (a && b && c) ≡ true → b ≡ true
and-second a true c h = refl
and-second true false c h = h
and-second false false c h = h

none-lacks : (capacity : Option ℕ) (sketch : Sketch) (weight : ℕ) → wants_table capacity sketch weight ≡ true → sketch.words ≡ 0
none-lacks None sketch weight h = absurd (cc)
none-lacks (Some c) sketch weight h = eqb-true sketch.words 0 (and-second (nat_lt 0 c) (sketch.words == 0) (nat_le (c / 2) weight) h)

room-some : (capacity number weight : ℕ) → 128 ≤ sketch_room capacity number weight
room-some capacity number weight = omega arith

words-some : (hashes words : ℕ) → 128 ≤ hashes → IsNextPowerOfTwo (min hashes (2 ^ 24)) words → 0 < words
words-some hashes words some h = let up = h.1 in omega arith

-- a table that is made where there is none
table-made : (sketch : Sketch) (hashes words : ℕ) → sketch.words ≡ 0 → 128 ≤ hashes → IsNextPowerOfTwo (min hashes (2 ^ 24)) words → grown sketch words hashes ≡ fresh words hashes
table-made sketch hashes words none some h = ap (λ b. cond b (fresh words hashes) sketch) (lt-ltb sketch.words words (let up = words-some hashes words some h in omega arith))

module _ {K V P S R : Type 0} where
  lacks-none : (hashes : ℕ) (s : State K V P S R) → LacksTableFor hashes s → s.sketch.words ≡ 0
  lacks-none hashes s h = none-lacks s.settings.capacity s.sketch (admitted_weight s.records) h.lacks

  lacks-some : (hashes : ℕ) (s : State K V P S R) → LacksTableFor hashes s → 128 ≤ hashes
  lacks-some hashes s h = subst (λ n. 128 ≤ n) (sym h.room) (room-some h.capacity (admitted_number s.records) (admitted_weight s.records))

  pub grown-stretch : (answers : Answers K V P R) (now hashes words : ℕ) (s t : State K V P S R) → IsApplied s → LacksTableFor hashes s → IsNextPowerOfTwo (min hashes (2 ^ 24)) words
      → t ≡ record s { sketch = grown s.sketch words hashes } → Stretch answers now s t
  grown-stretch answers now hashes words s t applied lacks size after = stretch-step answers now s t
      (grows words applied lacks.lacks lacks.capacity lacks.is_set (subst (λ n. IsNextPowerOfTwo (min n (2 ^ 24)) words) lacks.room size)
      (after ∙ ap (λ k. record s { sketch = k }) (table-made s.sketch hashes words (lacks-none hashes s lacks) (lacks-some hashes s lacks) size) ∙ ap (λ n. record s { sketch = fresh words n }) lacks.room))

  pub grown-applied : (hashes words : ℕ) (s t : State K V P S R) → IsApplied s → t ≡ record s { sketch = grown s.sketch words hashes } → IsApplied t
  grown-applied hashes words s t applied after = subst (λ x. IsApplied x) (sym after) (record { reads = applied.reads; writes = applied.writes })

  -- a table that was made is there, and without memory there is none
  pub grown-there : (hashes words : ℕ) (s t : State K V P S R) → LacksTableFor hashes s → IsNextPowerOfTwo (min hashes (2 ^ 24)) words → t ≡ record s { sketch = grown s.sketch words hashes } → (t.sketch.words == 0) ≡ false
  grown-there hashes words s t lacks size after =
      ap (λ (x : State K V P S R). x.sketch.words == 0) after ∙ ap (λ (k : Sketch). k.words == 0) (table-made s.sketch hashes words (lacks-none hashes s lacks) (lacks-some hashes s lacks) size)
      ∙ ne_eqb words 0 (let some = words-some hashes words (lacks-some hashes s lacks) size in λ e. omega (arith, some, e))

  pub none-there : (hashes : ℕ) (s : State K V P S R) → LacksTableFor hashes s → (s.sketch.words == 0) ≡ true
  none-there hashes s lacks = eq-eqb s.sketch.words 0 (lacks-none hashes s lacks)
