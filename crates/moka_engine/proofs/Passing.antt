-- A look-up that may pass over what it finds.
use Rattle.std.proofs.Common.{◌≡◌, refl, ap, sym, ◌∙◌, subst, ℕ, Bool, true, false, Option, Some, None, is_some}
use Rattle.std.specs.Option.{option_map}
use Rattle.std.proofs.lemmas.Option.{same_Some}
use Rattle.engine_reference.specs.declared.data.Entry.{Entry}
use Rattle.engine_reference.specs.declared.data.Record.{Record}
use Rattle.engine_reference.specs.Scanning.{past}
use Rattle.engine_cells.specs.Kept.{Kept}
use Rattle.engine_calls.specs.Finding.{IsFoundIn, PassesOver, WasFound}

module _ {K V : Type 0} where
  -- the value of what is found
  abbrev pub value-in : Option (Record K V) → Option V
  value-in o = option_map (λ (e : Entry K V). e.value) (option_map (λ (r : Record K V). r.entry) o)

  -- what is asked of a record is asked of its value
  pub value-asked : (Ignores : V → Bool → Type 0) (b : Bool) (o : Option (Record K V)) → ((r : Record K V) → o ≡ Some r → Ignores r.entry.value b) → (v : V) → value-in o ≡ Some v → Ignores v b
  value-asked Ignores b None asked v e = absurd (cc)
  value-asked Ignores b (Some r) asked v e = subst (λ x. Ignores x b) (same_Some _ _ e) (asked r refl)

  not-past : (b : Bool) (o : Option (Record K V)) (r : Record K V) → past b o ≡ Some r → b ≡ false
  not-past true o r e = absurd (cc)
  not-past false o r e = refl

  is-past : (b : Bool) (o : Option (Record K V)) (r : Record K V) → o ≡ Some r → past b o ≡ None → b ≡ true
  is-past true o r at e = refl
  is-past false o r at e = absurd (let no : Some r ≡ None = sym at ∙ e in cc)

module _ {K V P S R : Type 0} (Ignores : V → Bool → Type 0) (t : Kept K V P S R) (hash : ℕ) (o : Option (Record K V)) where
  -- what is found is not passed over
  pub found-unpassed : (place : ℕ) (p : PassesOver Ignores t hash o (Some place)) → p.ignored ≡ false
  found-unpassed place p = let f : IsFoundIn t hash (past p.ignored o) place = p.found in not-past p.ignored o f.found f.is

  pub found-asked : (place : ℕ) → PassesOver Ignores t hash o (Some place) → (v : V) → value-in o ≡ Some v → Ignores v false
  found-asked place p = value-asked Ignores false o (λ r e. subst (Ignores r.entry.value) (found-unpassed place p) (p.asked r e))

  pub found-value : (place : ℕ) (v : V) (r : Record K V) → PassesOver Ignores t hash o (Some place) → o ≡ Some r → v ≡ r.entry.value → Some v ≡ past false (value-in o)
  found-value place v r p at is = ap Some is ∙ ap value-in (sym at)

  -- and where nothing is, it is passed over, or nothing was found
  pub none-asked : (seen : Option ℕ) → WasFound t hash seen o → PassesOver Ignores t hash o None → (v : V) → value-in o ≡ Some v → Ignores v (is_some seen)
  none-asked None was p v e = absurd (let no : None ≡ Some v = sym (ap value-in was) ∙ e in cc)
  none-asked (Some place) was p v e =
      let f : IsFoundIn t hash o place = was in
      value-asked Ignores true o (λ r at. subst (Ignores r.entry.value) (is-past p.ignored o f.found f.is p.found) (p.asked r at)) v e

  pub none-found : (seen : Option ℕ) → WasFound t hash seen o → None ≡ past (is_some seen) (value-in o)
  none-found None was = sym (ap value-in was)
  none-found (Some place) was = refl
