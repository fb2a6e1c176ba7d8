-- Timers of places, as cells come, change and go.
use Rattle.std.proofs.Common.{◌≡◌, ◌≢◌, refl, ap, sym, ◌∙◌, subst, ℕ, ◌<◌, Bool, true, false, ◌&&◌, List, Option, Some, None, inl, inr, ◌⊎◌, zero, suc, ◌≤◌, length, arith, [], ◌∷◌}
use Rattle.std.specs.Prelude.{slice_set}
use Rattle.std.proofs.lemmas.Bool.{cases_eq, lt-leb}
use Rattle.std.proofs.lemmas.Option.{same_Some}
use Rattle.engine_reference.specs.Times.{is_reached}
use Rattle.engine_pending.specs.Timers.Awaited.{Awaited, IsAwaited, IsSet, KeepsOthers}
use Rattle.engine_reference.specs.declared.data.Record.{Record}
use Rattle.engine_cells.specs.Cells.{cell_at}
use Rattle.engine_cells.specs.Awaiting.{AreAwaited}
use Rattle.engine_cells.specs.Looking.{is_expired}
use Rattle.engine_cells.proofs.Changes.{Gets, Loses}
use Rattle.engine_cells.proofs.Counting.{gets-set}

-- what was set of another place is still
pub other-set : (a b : Awaited) (place i : ℕ) (time : Option ℕ) → (i ≡ place → ⊥) → KeepsOthers place a.timers b.timers → (b.is_whole ≡ true → a.is_whole ≡ true) → IsSet a i time → IsSet b i time
other-set a b place i None apart keeps whole h = tt
other-set a b place i (Some t) apart keeps whole h = λ all. keeps.others i t apart (h (whole all))

module _ {K V : Type 0} where
  pub cells-within : (cells : List (Option (Record K V))) (i : ℕ) (c : Record K V) → cell_at cells i ≡ Some c → i < length cells
  cells-within [] i c h = absurd (cc)
  cells-within (o ∷ cells) zero c h = omega arith
  cells-within (o ∷ cells) (suc i) c h = let later = cells-within cells i c h in omega (arith, later)

  pub awaited-gets : (old new : List (Option (Record K V))) (a b : Awaited) (place : ℕ) (d : Record K V) → Gets old new place d → KeepsOthers place a.timers b.timers → (b.is_whole ≡ true → a.is_whole ≡ true)
      → (d.is_held ≡ true → IsSet b place d.entry.expires) → AreAwaited old a → AreAwaited new b
  awaited-gets old new a b place d gets keeps whole here h i c there held = go (cases_eq i place)
    where
      go : (i ≡ place) ⊎ (i ≢ place) → IsSet b i c.entry.expires
      go (inl same) =
          let is : d ≡ c = same_Some _ _ (sym gets.there ∙ ap (λ j. cell_at new j) (sym same) ∙ there) in
          subst (λ j. IsSet b j c.entry.expires) (sym same) (subst (λ (x : Record K V). IsSet b place x.entry.expires) is (here (ap (λ (x : Record K V). x.is_held) is ∙ held)))
      go (inr apart) = other-set a b place i c.entry.expires apart keeps whole (h i c (sym (gets.others i apart) ∙ there) held)

  pub awaited-loses : (old new : List (Option (Record K V))) (a b : Awaited) (place : ℕ) → Loses old new place → KeepsOthers place a.timers b.timers → (b.is_whole ≡ true → a.is_whole ≡ true) → AreAwaited old a → AreAwaited new b
  awaited-loses old new a b place loses keeps whole h i c there held = go (cases_eq i place)
    where
      go : (i ≡ place) ⊎ (i ≢ place) → IsSet b i c.entry.expires
      go (inl same) = absurd (let e : None ≡ Some c = sym loses.gone ∙ ap (λ j. cell_at new j) (sym same) ∙ there in cc)
      go (inr apart) = other-set a b place i c.entry.expires apart keeps whole (h i c (sym (loses.others i apart) ∙ there) held)

  -- a record that is as held as it was, and expires as it did
  pub awaited-alike : (cells : List (Option (Record K V))) (a : Awaited) (place : ℕ) (c d : Record K V) → cell_at cells place ≡ Some c → d.is_held ≡ c.is_held → d.entry.expires ≡ c.entry.expires
      → AreAwaited cells a → AreAwaited (slice_set cells place (Some d)) a
  awaited-alike cells a place c d there held expires h =
      awaited-gets cells (slice_set cells place (Some d)) a a place d (gets-set cells place c d there) (record { others = λ other time apart k. k }) (λ all. all)
      (λ is. subst (λ e. IsSet a place e) (sym expires) (h place c there (sym held ∙ is))) h

  -- where no timer comes by now, no own expiration was reached
  pub none-expired : (cells : List (Option (Record K V))) (a : Awaited) (now : ℕ) → AreAwaited cells a → a.is_whole ≡ true → ((place time : ℕ) → IsAwaited a place time → now < time)
      → (i : ℕ) (c : Record K V) → cell_at cells i ≡ Some c → is_expired now c ≡ false
  none-expired cells a now h whole none i c there = go c.is_held c.entry.expires refl (h i c there)
    where
      go : (held : Bool) (expires : Option ℕ) → c.is_held ≡ held → (c.is_held ≡ true → IsSet a i expires) → (held && is_reached expires now) ≡ false
      go false expires e k = refl
      go true None e k = refl
      go true (Some t) e k = lt-leb t now (none i t (k e whole))

  -- each place below this one has the timer that it is to have
  abbrev pub AreTimed : List (Option (Record K V)) → Awaited → ℕ → Type 0
  AreTimed cells a below = (i : ℕ) (c : Record K V) → i < below → cell_at cells i ≡ Some c → c.is_held ≡ true → IsSet a i c.entry.expires

  pub timed-whole : (cells : List (Option (Record K V))) (a : Awaited) (below : ℕ) → length cells ≤ below → AreTimed cells a below → AreAwaited cells a
  timed-whole cells a below many h i c there held =
      let within = cells-within cells i c there in
      h i c (omega (arith, within, many)) there held
