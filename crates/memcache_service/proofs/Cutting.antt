-- Requests served of some bytes, and of more bytes.
use Rattle.std.proofs.Common.{◌≡◌, ℕ, Bool, false, ◌-◌, ◌≤◌, ◌⊎◌, ⊎_elim, inl, inr, List, [], ◌++◌, length, drop, subst, refl, arith}
use Rattle.std.proofs.lemmas.Bool.{cases_lt}
use Rattle.std.proofs.lemmas.List.{drop-append-le, length-append}
use Rattle.std.proofs.Math.ListN.{drop_of_length-le}
use Rattle.memcache_model.proofs.Fronts.{cuts}
use Rattle.memcache_model.specs.Grammar.{arrived, request}
use Rattle.memcache_service.proofs.Parting.{none-arrived}
use Rattle.memcache_service.specs.Serving.{AreServed, ends_behind, no_more, one_more}
use Rattle.memcache_service.specs.declared.shelf.Shelf.{Ghosts}
use Rattle.memcache_service.specs.declared.stock.Stock.{Stock}

module _ {T : Type 0} (shelf : Ghosts T) (moment most : ℕ) (first : Stock T) (before : List ℕ) where
  -- while bytes to come belong to a request nothing is left
  skip-or-left : (bytes : List ℕ) (new : Stock T) (left : List ℕ) (skip : ℕ) (after : List ℕ) (ends : Bool) → AreServed shelf moment most first bytes 0 before new left skip after ends → (skip ≡ 0) ⊎ (left ≡ [])
  skip-or-left bytes new left skip after ends no_more = inl refl
  skip-or-left bytes new left skip after ends (one_more mid now r used was rest between said were arrives served) = ⊎_elim
      (λ few. inl (omega (arith, few)))
      (λ all. inr (drop_of_length-le rest all))
      (cases_lt used (length rest))

  -- the same requests are served of more bytes
  pub served-more : (bytes more : List ℕ) (new : Stock T) (left : List ℕ) (skip : ℕ) (after : List ℕ) (ends : Bool) → AreServed shelf moment most first bytes 0 before new left skip after ends → skip ≡ 0
      → AreServed shelf moment most first (bytes ++ more) 0 before new (left ++ more) skip after ends
  served-more bytes more new left skip after ends no_more whole = no_more
  served-more bytes more new left skip after ends (one_more mid now r used was rest between said were arrives served) whole =
      let few : used ≤ length rest = omega (arith, whole) in
      let before_it : was ≡ 0 = ⊎_elim (λ e. e) (λ e. absurd (none-arrived most r used (subst (λ (b : List ℕ). arrived most b ≡ request r used) e arrives))) (skip-or-left bytes mid rest was between false were) in
      let again = served-more bytes more mid rest was between false were before_it in
      let one = one_more mid now r used was (rest ++ more) between said again (cuts most rest more r used arrives) served in
      let same : used - length (rest ++ more) ≡ used - length rest = omega (arith, whole, length-append rest more) in
      subst (λ (l : List ℕ). AreServed shelf moment most first (bytes ++ more) 0 before now l (used - length rest) said (ends_behind r.command)) (drop-append-le used rest more few)
      (subst (λ (n : ℕ). AreServed shelf moment most first (bytes ++ more) 0 before now (drop used (rest ++ more)) n said (ends_behind r.command)) same one)
