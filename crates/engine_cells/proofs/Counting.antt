-- Cells and a queue of their places, as a record counts.
use Rattle.std.proofs.Common.{◌≡◌, ◌≢◌, refl, ap, sym, ◌∙◌, ℕ, zero, suc, List, [], ◌∷◌, Option, Some, inl, inr}
use Rattle.std.specs.Prelude.{slice_set}
use Rattle.engine_reference.specs.declared.data.Record.{Record}
use Rattle.engine_cells.specs.declared.noting.Noted.{Noted}
use Rattle.engine_cells.specs.declared.noting.PlacedWrite.{PlacedWrite}
use Rattle.engine_pending.specs.declared.tickets.Ticketed.{Ticketed}
use Rattle.engine_cells.specs.Cells.{cell_at}
use Rattle.engine_cells.specs.Noting.{AreAllAimed}
use Rattle.engine_cells.proofs.Changes.{Gets, place_of}
use Rattle.engine_cells.proofs.Pointing.{pointed-map}

module _ {K V : Type 0} where
  -- one place has another cell, the others are as they were
  pub gets-set : (cells : List (Option (Record K V))) (i : ℕ) (c d : Record K V) → cell_at cells i ≡ Some c → Gets cells (slice_set cells i (Some d)) i d
  gets-set cells i c d there = record { there = here cells i there; others = λ j differ. apart cells i j differ }
    where
      here : (cells : List (Option (Record K V))) (i : ℕ) → cell_at cells i ≡ Some c → cell_at (slice_set cells i (Some d)) i ≡ Some d
      here [] i e = absurd (cc)
      here (o ∷ cells) zero e = refl
      here (o ∷ cells) (suc i) e = here cells i e

      apart : (cells : List (Option (Record K V))) (i j : ℕ) → j ≢ i → cell_at (slice_set cells i (Some d)) j ≡ cell_at cells j
      apart [] i j differ = refl
      apart (o ∷ cells) zero zero differ = absurd (differ refl)
      apart (o ∷ cells) zero (suc j) differ = refl
      apart (o ∷ cells) (suc i) zero differ = refl
      apart (o ∷ cells) (suc i) (suc j) differ = apart cells i j (λ e. differ (ap (λ k. suc k) e))

  pub pointed-gets_same : (old new : List (Option (Record K V))) (next i : ℕ) (c d : Record K V) {rs : List Noted} {ws : List PlacedWrite} {us : List (Ticketed PlacedWrite)} → cell_at old i ≡ Some c → Gets old new i d → d.number ≡ c.number → AreAllAimed old next rs ws us → AreAllAimed new next rs ws us
  pointed-gets_same old new next i c d there h same = pointed-map old new next next (λ place number p. (
    p.0,
    λ j x at is. elim (place_of old new i j d x h at) [
      | inl q ↦ p.1 j c (ap (λ k. cell_at old k) q.0 ∙ there) (sym same ∙ sym (ap (λ y. y.number) q.1) ∙ is)
      | inr f ↦ p.1 j x f is
    ],
  ))
