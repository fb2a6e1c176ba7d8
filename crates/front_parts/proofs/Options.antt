-- What holds by whether there is a value.
use Rattle.std.proofs.Common.{◌≡◌, refl, subst, ℕ, Bool, true, false, Option, Some, None, is_some, option_map}
use Rattle.std.specs.Prelude.{MatchOption}
use Rattle.engine_reference.specs.declared.data.Record.{Record}
use Rattle.engine_reference.specs.Calls.{MaintainsIfDue, taken_out}
use Rattle.engine_reference.specs.State.{State, Answers}

pub where-some : {V : Type 0} (A : Type 0) (B : V → Type 0) (o : Option V) (v : V) → o ≡ Some v → MatchOption o A B → B v
where-some A B o v is h = subst (λ x. MatchOption x A B) is h

pub where-none : {V : Type 0} (A : Type 0) (B : V → Type 0) (o : Option V) → o ≡ None → MatchOption o A B → A
where-none A B o is h = subst (λ x. MatchOption x A B) is h

-- what is seen of it is there where it is
pub some-seen : {A B : Type 0} (f : A → B) (o : Option A) (b : B) → Some b ≡ option_map f o → is_some o ≡ true
some-seen f None b e = absurd (cc)
some-seen f (Some a) b e = refl

pub none-seen : {A B : Type 0} (f : A → B) (o : Option A) → None ≡ option_map f o → is_some o ≡ false
none-seen f None e = refl
none-seen f (Some a) e = absurd (cc)

-- ---- a removal, and then maintenance if it is due

module _ {K V P S R : Type 0} (answers : Answers K V P R) (now : ℕ) (old mid new : State K V P S R) where
  pub taken-some : (o : Option (Record K V)) → is_some o ≡ true → MatchOption o (mid ≡ old) (λ r. mid ≡ taken_out answers r now old) → MaintainsIfDue answers now mid new
      → MatchOption o (new ≡ old) (λ r. MaintainsIfDue answers now (taken_out answers r now old) new)
  taken-some None some took m = absurd (cc)
  taken-some (Some r) some took m = subst (λ s. MaintainsIfDue answers now s new) took m

  pub taken-none : (o : Option (Record K V)) → is_some o ≡ false → MatchOption o (mid ≡ old) (λ r. mid ≡ taken_out answers r now old)
      → MatchOption o (mid ≡ old) (λ r. MaintainsIfDue answers now (taken_out answers r now old) mid)
  taken-none None none took = took
  taken-none (Some r) none took = absurd (cc)
