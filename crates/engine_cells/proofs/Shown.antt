-- The held keys that have a visible value are as many as the cells whose records show one.
use Rattle.std.proofs.Common.{inr, inl, ◌≡◌, refl, ap, sym, ◌∙◌, ℕ, zero, suc, ◌+◌, arith, Bool, true, false, cond, ◌&&◌, List, [], ◌∷◌, length, map, Option, Some, None, is_some}
use Rattle.std.specs.Prelude.{filter, sum_by, count_by, option_map}
use Rattle.std.proofs.lemmas.Bool.{cases_Bool, and_from}
use Rattle.std.proofs.lemmas.List.Sums.{sum_by-cons, length-filter}
use Rattle.engine_pending.specs.Pending.{Pending}
use Rattle.engine_pending.specs.Whole.{whole}
use Rattle.engine_reference.specs.declared.data.Read.{Read}
use Rattle.engine_reference.specs.declared.data.Record.{Record}
use Rattle.engine_reference.specs.declared.data.Write.{Write}
use Rattle.engine_reference.specs.Records.{held_at, held_entries}
use Rattle.engine_reference.specs.Scanning.{held_keys, visible_keys}
use Rattle.engine_reference.specs.State.{State, Answers}
use Rattle.engine_reference.specs.Visible.{is_visible, passing, visible_value}
use Rattle.engine_cells.specs.Cells.{cell_at, records_by_number}
use Rattle.engine_cells.specs.Showing.{shown_part}
use Rattle.engine_cells.specs.Spotted.{is_match}
use Rattle.engine_cells.specs.Tallying.{sum_over}
use Rattle.engine_cells.proofs.Held.{held-there}
use Rattle.engine_cells.proofs.Totals.{sum_over-is}

module _ {K V : Type 0} (test : K → Bool) where
  -- what a record counts for among the held ones whose keys pass a test
  abbrev keyed_part : Record K V → ℕ
  keyed_part r = cond r.is_held (cond (test r.entry.key) 1 0) 0

  counted : (rs : List (Record K V)) → count_by test (held_keys rs) ≡ sum_by keyed_part rs
  counted [] = refl
  counted (r ∷ rs) =
      elim (cases_Bool r.is_held) [
        | inl is ↦ ap (λ b. count_by test (map (λ x. x.key) (cond b (r.entry ∷ held_entries rs) (held_entries rs)))) is ∙ sum_by-cons (λ k. cond (test k) 1 0) r.entry.key (held_keys rs) ∙ ap (λ n. cond (test r.entry.key) 1 0 + n) (counted rs) ∙ sym (sum_by-cons keyed_part r rs ∙ ap (λ b. cond b (cond (test r.entry.key) 1 0) 0 + sum_by keyed_part rs) is)
        | inr is ↦ ap (λ b. count_by test (map (λ x. x.key) (cond b (r.entry ∷ held_entries rs) (held_entries rs)))) is ∙ (counted rs) ∙ (let z : sum_by keyed_part rs ≡ 0 + sum_by keyed_part rs = omega arith in z) ∙ sym (sum_by-cons keyed_part r rs ∙ ap (λ b. cond b (cond (test r.entry.key) 1 0) 0 + sum_by keyed_part rs) is)
      ]

  keys-counted : (rs : List (Record K V)) → length (filter test (held_keys rs)) ≡ sum_by keyed_part rs
  keys-counted rs = length-filter test (held_keys rs) ∙ counted rs

module _ {K V : Type 0} where
  -- two sums of parts that are alike in each cell
  sum_over-alike : (f g : Record K V → ℕ) (cells : List (Option (Record K V))) → ((i : ℕ) (c : Record K V) → cell_at cells i ≡ Some c → f c ≡ g c) → sum_over f cells ≡ sum_over g cells
  sum_over-alike f g [] h = refl
  sum_over-alike f g (None ∷ cells) h = sum_over-alike f g cells (λ i. h (suc i))
  sum_over-alike f g (Some c ∷ cells) h = ap (λ n. n + sum_over f cells) (h zero c refl) ∙ ap (λ n. g c + n) (sum_over-alike f g cells (λ i. h (suc i)))

module _ {K V O W P S R : Type 0} (read_of : O → Read) (write_of : W → Write) (answers : Answers K V P R) (eq : K → K → Bool) (now : ℕ) (p : Pending K V O W P S R) (cells : List (Option (Record K V))) (access order : List ℕ) (next : ℕ) where
  abbrev state : State K V P S R
  state = whole read_of write_of (records_by_number cells) access order next p

  abbrev has_value : K → Bool
  has_value key = is_some (visible_value answers eq state now key)

  pub shown-is : ((key : K) → eq key key ≡ true) → ((key : K) (i j : ℕ) → is_match eq key (cell_at cells i) ≡ true → is_match eq key (cell_at cells j) ≡ true → i ≡ j)
      → sum_over (shown_part answers.covers p now) cells ≡ length (visible_keys answers eq state now)
  shown-is same single =
      sum_over-alike (shown_part answers.covers p now) (keyed_part has_value) cells (λ i c there. go i c there c.is_held refl)
      ∙ sym (sum_over-is (keyed_part has_value) cells)
      ∙ sym (keys-counted has_value (records_by_number cells))
    where
      at-own : (i : ℕ) (c : Record K V) → cell_at cells i ≡ Some c → c.is_held ≡ true → held_at eq (records_by_number cells) c.entry.key ≡ Some c
      at-own i c there held =
          let key = c.entry.key in
          let mine : is_match eq key (cell_at cells i) ≡ true = ap (is_match eq key) there ∙ and_from _ _ held (same key) in
          held-there eq cells i key mine (λ j other. single key i j mine other) ∙ there

      go : (i : ℕ) (c : Record K V) → cell_at cells i ≡ Some c → (b : Bool) → c.is_held ≡ b → shown_part answers.covers p now c ≡ keyed_part has_value c
      go i c there true held =
          let seen : Bool = is_visible answers state now c.entry in
          ap (λ b. cond {A = ℕ} (b && seen) 1 0) held
          ∙ ap (λ b. cond {A = ℕ} b 1 0) (sym (ap (λ o. is_some (option_map (λ e. e.value) (option_map (λ r. r.entry) (passing (λ r. is_visible answers state now r.entry) o)))) (at-own i c there held) ∙ (elim (cases_Bool seen) [ inl is ↦ rw is | inr is ↦ rw is ])))
          ∙ sym (ap (λ b. cond {A = ℕ} b (cond {A = ℕ} (has_value c.entry.key) 1 0) 0) held)
      go i c there false held =
          ap (λ b. cond {A = ℕ} (b && is_visible answers state now c.entry) 1 0) held
          ∙ sym (ap (λ b. cond {A = ℕ} b (cond {A = ℕ} (has_value c.entry.key) 1 0) 0) held)
