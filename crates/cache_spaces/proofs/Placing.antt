-- One namespace in the place of another, and what calls say of the one at a place.
use Rattle.std.proofs.Common.{◌≡◌, ℕ, ◌≤◌, List, length, Some, sym, ap, ◌∙◌, subst, arith, inl, inr, ◌≢◌, ◌<◌, get_or, refl, ◌-◌, Bool, true, false, [], Vec, Global, slice_set, Result, Ok, Err, IfErr, ◌↔◌, IfOk, IsErr}
use Rattle.std.specs.List.{slice_get}
use Rattle.std.proofs.lemmas.List.{set-set, length-set}
use Rattle.std.proofs.lemmas.Option.{slice_get_within, same_Some}
use Rattle.audit_model.specs.declared.input.ServiceError.{ServiceError}
use Rattle.cache_core.proofs.connections.Getting.{at-replaced, set-same, at-other, at-place}
use Rattle.cache_spaces.specs.Calls.{At, InSpace, Refuses, IsOpened, IsUnknown, TakesOutput}
use Rattle.cache_spaces.specs.Spaces.{Space, untaken_output, has_opened}
use Rattle.audit_model.specs.declared.input.ServiceError.TheVariants as error

-- what was put stands there
pub at-is : {X : Type 0} (F : X → X → Type 0) (xs ys : List X) (n : ℕ) (a : At xs ys n F) → slice_get ys n ≡ Some a.is
at-is F xs ys n a = ap (λ l. slice_get l n) a.set ∙ at-replaced xs n a.is (slice_get_within xs n a.was a.at)

-- what stood there was replaced
pub at-was : {X : Type 0} (F : X → X → Type 0) (xs ys : List X) (n : ℕ) (a : At xs ys n F) (x : X) → slice_get xs n ≡ Some x → a.was ≡ x
at-was F xs ys n a x at = same_Some a.was x (sym a.at ∙ at)

-- one call after another
pub at-more : {X : Type 0} (F G H : X → X → Type 0) (xs ys zs : List X) (n : ℕ) → At xs ys n F → At ys zs n G → ((x y z : X) → F x y → G y z → H x z) → At xs zs n H
at-more F G H xs ys zs n a b h =
    let same = at-was G ys zs n b a.is (at-is F xs ys n a) in
    record {
      was = a.was;
      is = b.is;
      at = a.at;
      set = b.set ∙ ap (λ l. slice_set l n b.is) a.set ∙ set-set xs n a.is b.is;
      fact = h a.was a.is b.is a.fact (subst (λ y. G y b.is) same b.fact);
    }

-- nothing changed
pub at-same : {X : Type 0} (F : X → X → Type 0) (xs : List X) (n : ℕ) (x : X) → slice_get xs n ≡ Some x → F x x → At xs xs n F
at-same F xs n x at fact = record { was = x; is = x; at = at; set = sym (set-same xs n x at); fact = fact }

-- another fact of the same two
pub at-map : {X : Type 0} (F G : X → X → Type 0) (xs ys : List X) (n : ℕ) → At xs ys n F → ((x y : X) → F x y → G x y) → At xs ys n G
at-map F G xs ys n a h = record { was = a.was; is = a.is; at = a.at; set = a.set; fact = h a.was a.is a.fact }

-- another fact, by where the two stand
pub at-given : {X : Type 0} (F G : X → X → Type 0) (xs ys : List X) (n : ℕ) → At xs ys n F → ((x y : X) → slice_get xs n ≡ Some x → slice_get ys n ≡ Some y → F x y → G x y) → At xs ys n G
at-given F G xs ys n a h = record { was = a.was; is = a.is; at = a.at; set = a.set; fact = h a.was a.is a.at (at-is F xs ys n a) a.fact }

-- what was left as it was
pub at-unmoved : {X : Type 0} {F : X → X → Type 0} {n : ℕ} (old new : List X) → new ≡ old → At old old n F → At old new n F
at-unmoved {X} {F} {n} old new e a = subst (λ l. At old l n F) (sym e) a

-- what comes behind a call that left it so
pub at-after : {X : Type 0} {F : X → X → Type 0} {n : ℕ} (old mid new : List X) → mid ≡ old → At mid new n F → At old new n F
at-after {X} {F} {n} old mid new e a = subst (λ l. At l new n F) e a

-- ---- one that is there

-- there is a namespace of that number
pub within-not : {X : Type 0} (xs : List X) (n : ℕ) (x : X) → slice_get xs n ≡ Some x → length xs ≤ n → ⊥
within-not xs n x at past = let within = slice_get_within xs n x at in absurd (omega (arith, within, past))

-- a refusal of one that there is
pub refused-here : {X : Type 0} (spaces : List X) (n : ℕ) (e : ServiceError) (Cause : X → Type 0) (x : X) → slice_get spaces n ≡ Some x → Refuses spaces n e Cause → Cause x
refused-here spaces n e Cause x at (inl none) = absurd (within-not spaces n x at none.1)
refused-here spaces n e Cause x at (inr i) = subst Cause (same_Some i.space x (sym i.at ∙ at)) i.fact

-- what is true of the one of a number is true of this
pub fact-here : {X : Type 0} (Fact : X → Type 0) (spaces : List X) (n : ℕ) (x : X) → slice_get spaces n ≡ Some x → InSpace spaces n Fact → Fact x
fact-here Fact spaces n x at i = subst Fact (same_Some i.space x (sym i.at ∙ at)) i.fact

-- ---- a call on the namespace at a place

-- a list that is seen so, and what a call found at a place of it
module _ {X : Type 0} (seen xs : List X) (e : xs ≡ seen) (i : ℕ) (was : X) (lt : i < length xs) (here : was ≡ get_or xs i was) where
  pub put-at : (Fact : X → X → Type 0) (is : X) → Fact was is → At seen (slice_set xs i is) i Fact
  put-at Fact is fact = subst (λ l. At l (slice_set xs i is) i Fact) e (record { was = was; is = is; at = at-place xs i was lt here; set = refl; fact = fact })

  pub refused-at : (error : ServiceError) (Cause : X → Type 0) → Cause was → Refuses seen i error Cause
  refused-at error Cause cause = inr (subst (λ l. InSpace l i Cause) e (record { space = was; at = at-place xs i was lt here; fact = cause }))

  pub refused-there : {A : Type 0} (Cause : ServiceError → X → Type 0) (r : Result A ServiceError) → IfErr r (λ e. Cause e was) → IfErr r (λ e. Refuses seen i e (Cause e))
  refused-there Cause (Ok a) cause = cause
  refused-there Cause (Err e) cause = refused-at e (Cause e) cause

-- what is so of an error where something else is so
pub if-err-given : {A E P : Type 0} (Q : E → Type 0) (r : Result A E) → (P → IfErr r Q) → IfErr r (λ e. P → Q e)
if-err-given Q (Ok a) f = tt
if-err-given Q (Err e) f = f

-- ---- what is known of a place is known of more

pub refuses-map : {X : Type 0} {Cause More : X → Type 0} (xs : List X) (i : ℕ) (e : ServiceError) → ((was : X) → Cause was → More was) → Refuses xs i e Cause → Refuses xs i e More
refuses-map xs i e f (inl none) = inl none
refuses-map xs i e f (inr a) = inr (record { space = a.space; at = a.at; fact = f a.space a.fact })

-- ---- what stands at the place afterwards, and what at others

pub at-it : {X : Type 0} {Fact : X → X → Type 0} (old new : List X) (i : ℕ) (a : At old new i Fact) (x : X) → slice_get new i ≡ Some x → a.is ≡ x
at-it {X} {Fact} old new i a x here = same_Some a.is x (sym (at-is Fact old new i a) ∙ here)

pub at-others : {X : Type 0} {Fact : X → X → Type 0} (old new : List X) (i j : ℕ) → At old new i Fact → j ≢ i → slice_get new j ≡ slice_get old j
at-others old new i j a ne = ap (λ xs. slice_get xs j) a.set ∙ at-other old j i a.is ne

pub at-length : {X : Type 0} {Fact : X → X → Type 0} (old new : List X) (i : ℕ) → At old new i Fact → length new ≡ length old
at-length old new i a = ap length a.set ∙ length-set old i a.is

-- ---- what takings and looks say of it

-- what was not refused was opened
opened : (b : Bool) → (b ≡ false → false ≡ true) → b ≡ true
opened true refused = refl
opened false refused = refused refl

module _ {T : Type 0} (was : Space T) (number : ℕ) where
  pub takes-output : (is : Space T) (r : Result (Vec ℕ Global) ServiceError) → IfOk r (λ text. (text.items ≡ untaken_output was number) × (is ≡ record was { outputs = slice_set was.outputs (number - 1) [] })) → IsErr r ↔ (has_opened was number ≡ false)
      → IfOk r (λ text. TakesOutput was is number text.items)
  takes-output is (Ok text) taken refused = record { opened = opened (has_opened was number) refused.1; taken = taken.0; rest = taken.1 }
  takes-output is (Err e) taken refused = taken

  pub unknown : {A : Type 0} (r : Result A ServiceError) → IsErr r ↔ (has_opened was number ≡ false) → IfErr r (λ e. e ≡ error.NoConnection) → IfErr r (λ e. IsUnknown was number e)
  unknown (Ok a) refused none = none
  unknown (Err e) refused none = record { unknown = refused.0 refl; error = none }

  pub first-of : {A : Type 0} (Same : Type 0) (r : Result A ServiceError) → IfErr r (λ e. (e ≡ error.NoConnection) × Same) → IfErr r (λ e. e ≡ error.NoConnection)
  first-of Same (Ok a) both = both
  first-of Same (Err e) both = both.0

  pub looked : {A : Type 0} (Fact : A → Type 0) (r : Result A ServiceError) → IfOk r Fact → IsErr r ↔ (has_opened was number ≡ false) → IfOk r (λ a. IsOpened was number × Fact a)
  looked Fact (Ok a) fact refused = (opened (has_opened was number) refused.1, fact)
  looked Fact (Err e) fact refused = fact
