-- Cells that are of a step or later ones.
use Rattle.std.proofs.Common.{◌≡◌, ap, sym, subst, ℕ, ◌≤◌, arith, true, List, Option, Some, None, inl, inr, ◌∙◌}
use Rattle.std.proofs.lemmas.Bool.{cases_eq}
use Rattle.engine_reference.specs.declared.data.Record.{Record}
use Rattle.engine_reference.specs.Records.{record_at}
use Rattle.engine_cells.specs.Cells.{cell_at, records_by_number, HaveOwnNumbers}
use Rattle.engine_cells.specs.Swept.{AreSince}
use Rattle.engine_cells.proofs.Changes.{Gets, Loses, place_of}
use Rattle.engine_cells.proofs.Listed.{record_at-there}
use Rattle.engine_cells.proofs.Walking.{place-there}

module _ {K V : Type 0} where
  pub since-gets : (step : ℕ) (old new : List (Option (Record K V))) (i : ℕ) (d : Record K V) → Gets old new i d → (d.is_held ≡ true → step ≤ d.entry.step) → AreSince step old → AreSince step new
  since-gets step old new i d gets late h j x at held = elim (place_of old new i j d x gets at) [
    | inl p ↦ subst (λ (y : Record K V). step ≤ y.entry.step) (sym p.1) (late (ap (λ (y : Record K V). y.is_held) (sym p.1) ∙ held))
    | inr f ↦ h j x f held
  ]

  pub since-loses : (step : ℕ) (old new : List (Option (Record K V))) (i : ℕ) → Loses old new i → AreSince step old → AreSince step new
  since-loses step old new i loses h j x at held = elim (cases_eq j i) [
    | inl same ↦ (let f : Some x ≡ None = sym at ∙ ap (λ k. cell_at new k) same ∙ loses.gone in absurd (cc))
    | inr apart ↦ h j x (sym (loses.others j apart) ∙ at) held
  ]

  pub since-less : (step later : ℕ) (cells : List (Option (Record K V))) → step ≤ later → AreSince later cells → AreSince step cells
  since-less step later cells less h i c at held = let late = h i c at held in omega (arith, late, less)

  -- the same, of the records by their numbers
  pub since-records : (step : ℕ) (cells : List (Option (Record K V))) → HaveOwnNumbers cells → AreSince step cells → (r : Record K V) → record_at (records_by_number cells) r.number ≡ Some r → r.is_held ≡ true → step ≤ r.entry.step
  since-records step cells apart h r there held =
      let p = place-there cells r.number r apart there in
      h p.place r (p.there ∙ ap (λ x. Some x) p.is) held

  pub records-since : (step : ℕ) (cells : List (Option (Record K V))) → HaveOwnNumbers cells → ((r : Record K V) → record_at (records_by_number cells) r.number ≡ Some r → r.is_held ≡ true → step ≤ r.entry.step) → AreSince step cells
  records-since step cells apart h i c at held = h c (record_at-there cells i c apart at) held
