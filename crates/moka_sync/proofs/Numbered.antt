-- Desks that bear their places as numbers.
use Rattle.std.proofs.Common.{◌≡◌, ap, refl, sym, ◌∙◌, ℕ, zero, suc, ◌+◌, arith, List, [], ◌∷◌, ◌++◌, length, map, Option, Some, None, option_map}
use Rattle.std.proofs.lemmas.Option.{slice_get-map}
use Rattle.std.specs.Prelude.{slice_get}
use Rattle.moka_sync.specs.Holding.{BearTheirPlaces}

module _ {D : Type 0} where
  numbered-from : (number : D → ℕ) (first : ℕ) (ds : List D) (d : D) → ((place : ℕ) (e : D) → slice_get ds place ≡ Some e → number e ≡ first + place) → number d ≡ first + length ds
      → (place : ℕ) (e : D) → slice_get (ds ++ d ∷ []) place ≡ Some e → number e ≡ first + place
  numbered-from number first [] d each is zero e at = let same : d ≡ e = cc in ap number (sym same) ∙ is
  numbered-from number first [] d each is (suc place) e at = absurd (let no : ⊥ = cc in no)
  numbered-from number first (x ∷ ds) d each is zero e at = each zero e at
  numbered-from number first (x ∷ ds) d each is (suc place) e at =
      let further = numbered-from number (first + 1) ds d (λ p f here. let one = each (suc p) f here in omega (arith, one)) (omega (arith, is)) place e at in
      omega (arith, further)

  -- one desk more
  pub numbered-more : (number : D → ℕ) (ds : List D) (d : D) → BearTheirPlaces ds number → number d ≡ length ds → BearTheirPlaces (ds ++ d ∷ []) number
  numbered-more number ds d each is place e at =
      let it = numbered-from number 0 ds d (λ p f here. let one = each p f here in omega (arith, one)) (omega (arith, is)) place e at in
      omega (arith, it)

  -- a single desk
  pub numbered-one : (number : D → ℕ) (d : D) (ds : List D) → ds ≡ d ∷ [] → number d ≡ 0 → BearTheirPlaces ds number
  numbered-one number d ds are is place e at = go place (ap (λ xs. slice_get xs place) (sym are) ∙ at)
    where
      go : (place : ℕ) → slice_get (d ∷ []) place ≡ Some e → number e ≡ place
      go zero here = let same : d ≡ e = cc in ap number (sym same) ∙ is
      go (suc k) here = absurd (let no : ⊥ = cc in no)

-- desks that are seen through a function
pub numbered-seen : {X D : Type 0} (f : X → D) (number : D → ℕ) (xs : List X) → BearTheirPlaces xs (λ x. number (f x)) → BearTheirPlaces (map f xs) number
numbered-seen {X} {D} f number xs each place d at = go (slice_get xs place) (λ x here. each place x here) (sym (slice_get-map f xs place) ∙ at)
  where
    go : (o : Option X) → ((x : X) → o ≡ Some x → number (f x) ≡ place) → option_map f o ≡ Some d → number d ≡ place
    go None is e = absurd (let no : ⊥ = cc in no)
    go (Some x) is e = let same : f x ≡ d = cc in ap number (sym same) ∙ is x refl
