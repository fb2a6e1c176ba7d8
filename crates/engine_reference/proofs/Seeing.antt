-- What look-ups see of sending, clears and predicates.
use Rattle.std.proofs.Common.{◌≡◌, refl, ap, ◌∙◌, ℕ, Bool, true, not, ◌&&◌, ◌||◌, List, [], ◌∷◌, ◌++◌, Option, Some, None, inl, inr, ◌⊎◌}
use Rattle.std.specs.Prelude.{nat_lt, max}
use Rattle.std.specs.List.{list_any}
use Rattle.std.specs.Option.{option_map}
use Rattle.engine_reference.specs.declared.data.Write.{Write}
use Rattle.engine_reference.specs.Calls.{with_sent, unsent_at, cleared_by, with_predicate}
use Rattle.engine_reference.specs.Laws.{SendingKeepsVisible, CoverShowsNothing}
use Rattle.engine_reference.specs.Records.{held_at}
use Rattle.engine_reference.specs.Visible.{visible, passing, is_visible, is_covered}
use Rattle.std.proofs.Common.{◌<◌, arith}
use Rattle.std.proofs.lemmas.Bool.{or_cases, ltb-true, lt-ltb}
use Rattle.std.proofs.lemmas.List.Folds.{list_any-append}
use Rattle.std.proofs.Math.Bool.{or-true}
use Rattle.engine_reference.specs.Times.{has_come}
use Rattle.engine_reference.specs.Visible.{is_covered_by}
use Rattle.std.proofs.lemmas.Bool.Decides.{nat_tests}

module _ (K V P S R : Type 0) where
  pub sending_keeps_visible : SendingKeepsVisible K V P S R
  sending_keeps_visible eq answers ticket s moment key = go (unsent_at s.unsent ticket)
    where
      go : (o : Option Write) → visible answers eq (with_sent ticket o s) moment key ≡ visible answers eq s moment key
      go None = refl
      go (Some w) = refl

module _ {X : Type 0} where
  -- a value that passes a stronger test, or does not
  stronger : (f g : X → Bool) → ((x : X) → f x ≡ true → g x ≡ true) → (o : Option X) → (passing f o ≡ passing g o) ⊎ (passing f o ≡ None)
  stronger f g h None = inl refl
  stronger f g h (Some x) = grind (arith, nat_tests)

through : {X Y : Type 0} (f : X → Y) (a b : Option X) → (a ≡ b) ⊎ (a ≡ None) → (option_map f a ≡ option_map f b) ⊎ (option_map f a ≡ None)
through f a b (inl e) = inl (ap (λ o. option_map f o) e)
through f a b (inr e) = inr (ap (λ o. option_map f o) e)

-- not dead and not covered now, so neither before
weaker : (dead c d : Bool) → (d ≡ true → c ≡ true) → (not dead && not c) ≡ true → (not dead && not d) ≡ true
weaker dead c d h e = grind (arith, h, e)

later_clear : (at cleared step : ℕ) (rest : Bool) → (nat_lt at cleared || rest) ≡ true → (nat_lt at (max cleared step) || rest) ≡ true
later_clear at cleared step rest h = elim (or_cases (nat_lt at cleared) rest h) [
  | inl t ↦ (let below : at < cleared = ltb-true at cleared t in let still : at < max cleared step = omega arith in ap (λ b. b || rest) (lt-ltb at (max cleared step) still))
  | inr t ↦ ap (λ b. nat_lt at (max cleared step) || b) t ∙ or-true (nat_lt at (max cleared step))
]

one_more : {X : Type 0} (f : X → Bool) (x : X) (xs : List X) (at cleared : ℕ) → (nat_lt at cleared || list_any f xs) ≡ true → (nat_lt at cleared || list_any f (xs ++ x ∷ [])) ≡ true
one_more f x xs at cleared h = grind (arith, list_any-append f xs (x ∷ []), h)

module _ (K V P S R : Type 0) where
  pub cover_shows_nothing : CoverShowsNothing K V P S R
  cover_shows_nothing = record {
    cleared = λ eq answers step s moment key.
        through (λ r. r.entry) _ _ (stronger (λ r. is_visible answers (cleared_by step s) moment r.entry) (λ r. is_visible answers s moment r.entry)
        (λ r. weaker (has_come s.settings moment r.entry) (is_covered answers (cleared_by step s) r.entry) (is_covered answers s r.entry)
        (later_clear r.entry.step s.cleared step (list_any (λ p. is_covered_by answers s.rules p r.entry) s.predicates))) (held_at eq s.records key));
    covered = λ eq answers p s moment key.
        through (λ r. r.entry) _ _ (stronger (λ r. is_visible answers (with_predicate p s) moment r.entry) (λ r. is_visible answers s moment r.entry)
        (λ r. weaker (has_come s.settings moment r.entry) (is_covered answers (with_predicate p s) r.entry) (is_covered answers s r.entry)
        (one_more (λ q. is_covered_by answers s.rules q r.entry) p s.predicates r.entry.step s.cleared)) (held_at eq s.records key));
  }
