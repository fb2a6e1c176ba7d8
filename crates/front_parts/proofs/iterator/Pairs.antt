-- The pairs of keys that are tried one after another.
use Rattle.std.proofs.Common.{◌≡◌, refl, ap, sym, ◌∙◌, ℕ, suc, ◌+◌, ◌-◌, ◌<◌, arith, List, [], ◌∷◌, ◌++◌, reverse, Option, Some, None}
use Rattle.std.proofs.lemmas.List.{reverse-reverse}
use Rattle.std.specs.Prelude.{Result, Ok, Err, OnErr}
use Rattle.front_parts.specs.Iterator.Coming.{Source, coming_of, keys_from, pair_before, pairs, pairs_back}

pub on_err : {X E : Type 0} (P : Type 0) (r : Result X E) → P → OnErr r P
on_err P (Ok x) h = tt
on_err P (Err e) h = h

module _ {K : Type 0} where
  from-suc : (f : ℕ → List K) (n m place : ℕ) → n ≡ suc m → keys_from f n place ≡ f place ++ keys_from f m (suc place)
  from-suc f n m place e = ap (λ c. keys_from f c place) e

  from-next : (f : ℕ → List K) (count place : ℕ) → place < count → keys_from f (count - place) place ≡ f place ++ keys_from f (count - (place + 1)) (place + 1)
  from-next f count place low =
      let less : count - place ≡ suc (count - (place + 1)) = omega arith in
      let more : suc place ≡ place + 1 = omega arith in
      from-suc f (count - place) (count - (place + 1)) place less ∙ ap (λ p. f place ++ keys_from f (count - (place + 1)) p) more

module _ {K V : Type 0} where
  before-append : (key : K) (o : Option V) (ps qs : List (K × V)) → pair_before key o ps ++ qs ≡ pair_before key o (ps ++ qs)
  before-append key None ps qs = refl
  before-append key (Some v) ps qs = refl

  pub pairs-append : (value_of : K → Option V) (ks ls : List K) → pairs value_of (ks ++ ls) ≡ pairs value_of ks ++ pairs value_of ls
  pairs-append value_of [] ls = refl
  pairs-append value_of (k ∷ ks) ls = ap (λ ps. pair_before k (value_of k) ps) (pairs-append value_of ks ls) ∙ sym (before-append k (value_of k) (pairs value_of ks) (pairs value_of ls))

  coming-parts : (s : Source K V) (ks : List K) (place : ℕ) → coming_of s ks place ≡ pairs_back s ks ++ pairs s.value_of (keys_from s.keys_in (s.segments - place) place)
  coming-parts s ks place = pairs-append s.value_of (reverse ks) (keys_from s.keys_in (s.segments - place) place)

  pub first_of_coming : (s : Source K V) (old new : List K) (place : ℕ) (p : K × V) → pairs_back s old ≡ p ∷ pairs_back s new → coming_of s old place ≡ p ∷ coming_of s new place
  first_of_coming s old new place p e =
      let rest = pairs s.value_of (keys_from s.keys_in (s.segments - place) place) in
      coming-parts s old place ∙ ap (λ l. l ++ rest) e ∙ ap (λ l. p ∷ l) (sym (coming-parts s new place))

  pub same_coming : (s : Source K V) (old new : List K) (place : ℕ) → pairs_back s new ≡ pairs_back s old → coming_of s new place ≡ coming_of s old place
  same_coming s old new place e =
      let rest = pairs s.value_of (keys_from s.keys_in (s.segments - place) place) in
      coming-parts s new place ∙ ap (λ l. l ++ rest) e ∙ sym (coming-parts s old place)

  -- a segment is opened where nothing is to come of the keys before it
  pub opened : (s : Source K V) (old ks : List K) (place : ℕ) → place < s.segments → pairs_back s old ≡ [] → ks ≡ reverse (s.keys_in place) → coming_of s ks (place + 1) ≡ coming_of s old place
  opened s old ks place low none is =
      let rest = keys_from s.keys_in (s.segments - (place + 1)) (place + 1) in
      let back : reverse ks ≡ s.keys_in place = ap reverse is ∙ reverse-reverse (s.keys_in place) in
      ap (λ l. pairs s.value_of (l ++ rest)) back
      ∙ ap (λ l. pairs s.value_of l) (sym (from-next s.keys_in s.segments place low))
      ∙ ap (λ l. l ++ pairs s.value_of (keys_from s.keys_in (s.segments - place) place)) (sym none)
      ∙ sym (coming-parts s old place)
