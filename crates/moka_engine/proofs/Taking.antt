-- A removal that is sent and reported at once, by what is held.
use Rattle.std.proofs.Common.{◌≡◌, sym, subst, ℕ, Option, Some}
use Rattle.std.specs.Prelude.{MatchOption}
use Rattle.engine_reference.specs.declared.data.Record.{Record}
use Rattle.engine_reference.specs.Calls.{taken_out}
use Rattle.engine_reference.specs.State.{State, Answers}

module _ {K V P S R : Type 0} (answers : Answers K V P R) (now : ℕ) (old new : State K V P S R) where
  pub took : (o : Option (Record K V)) (r : Record K V) → o ≡ Some r → new ≡ taken_out answers r now old → MatchOption o (new ≡ old) (λ r. new ≡ taken_out answers r now old)
  took o r is e = subst (λ x. MatchOption x (new ≡ old) (λ r. new ≡ taken_out answers r now old)) (sym is) e
