-- The turn of a kind and a key, looked for among those of a hash.
use Rattle.std.proofs.Common.{◌≡◌, refl, sym, ap, ◌∙◌, subst, ℕ, ◌<◌, ◌≤◌, ◌==◌, Bool, true, false, cond, ◌&&◌, ◌||◌, List, [], ◌∷◌, Option, option_map, Some, None, arith, true≢false}
use Rattle.std.specs.Prelude.{All, nat_lt}
use Rattle.std.specs.List.{AllByRecursion, filter, list_any}
use Rattle.std.specs.List.Sorted.{IsStrictlySortedBy}
use Rattle.std.specs.BTreeSet.{BTreeSet, contains}
use Rattle.std.specs.Ordering.{nat_cmp, is_eq, is_le, ordering_then}
use Rattle.std.specs.declared.cmp.Ordering.TheVariants.{Less, Equal, Greater}
use Rattle.std.proofs.lemmas.Bool.{and_parts, eqb-true, eq-eqb}
use Rattle.std.proofs.lemmas.List.Elements.{recursion_from_All}
use Rattle.std.proofs.lemmas.List.Kept.{IsStrictlySortedBy-filter}
use Rattle.std.proofs.lemmas.Map.Keys.{sorted_head, sorted_tail}
use Rattle.std.proofs.lemmas.Map.Views.{any-filter_same}
use Rattle.front_reference.specs.Fronts.{turn_at, turn_of}
use Rattle.front_reference.specs.declared.data.OpenTurn.{OpenTurn}
use Rattle.front_reference.specs.declared.data.TurnKind.{TurnKind}
use Rattle.front_parts.specs.Places.Indexing.{has_hash, is_of, pair_cmp}
use Rattle.front_parts.proofs.places.Indexed.{Rise, all-any, all-to, apart-firsts, apart-seconds, at-all, at-pair, first-of, firsts-rise, lt-lt, none-of, not-lt, seconds-rise}

-- a pair from a hash on
le-first : (hash : ℕ) (p : ℕ × ℕ) → (is_le (pair_cmp (hash, 0) p) && true) ≡ true → hash ≤ p.0
le-first hash p h = go (nat_lt hash p.0) (hash == p.0) refl refl h
  where
    go : (l e : Bool) → nat_lt hash p.0 ≡ l → (hash == p.0) ≡ e → (is_le (ordering_then (cond l Less (cond e Equal Greater)) (nat_cmp 0 p.1)) && true) ≡ true → hash ≤ p.0
    go true e l is h = let lt = lt-lt hash p.0 l in omega (arith, lt)
    go false true l is h = let same = eqb-true hash p.0 is in omega (arith, same)
    go false false l is h = absurd (let no : ⊥ = cc in no)

first-le : (hash m : ℕ) (p : ℕ × ℕ) → is_eq (pair_cmp (hash, m) p) ≡ true → (is_le (pair_cmp (hash, 0) p) && true) ≡ true
first-le hash m p h =
    let parts = and_parts (hash == p.0) (m == p.1) (sym (at-pair (hash, m) p) ∙ h) in
    ap (λ a. is_le (ordering_then a (nat_cmp 0 p.1)) && true) (ap (nat_cmp hash) (sym (eqb-true hash p.0 parts.0)) ∙ equal hash) ∙ least p.1
  where
    least : (n : ℕ) → (is_le (nat_cmp 0 n) && true) ≡ true
    least n = go (nat_lt 0 n) (0 == n) refl refl
      where
        go : (l e : Bool) → nat_lt 0 n ≡ l → (0 == n) ≡ e → (is_le (cond l Less (cond e Equal Greater)) && true) ≡ true
        go true e l is = refl
        go false true l is = refl
        go false false l is = let low = not-lt 0 n l in let zero_is : 0 ≡ n = omega (arith, low) in absurd (true≢false (sym (eq-eqb 0 n zero_is) ∙ is))

    equal : (n : ℕ) → nat_cmp n n ≡ Equal
    equal n = go (nat_lt n n) refl
      where
        go : (l : Bool) → nat_lt n n ≡ l → cond l Less (cond (n == n) Equal Greater) ≡ Equal
        go true l = let lt = lt-lt n n l in absurd (omega (arith, lt))
        go false l = ap (λ e. cond e Equal Greater) (eq-eqb n n refl)

all-filtered : {X : Type 0} (P : X → Type 0) (p : X → Bool) (xs : List X) → ((x : X) → p x ≡ true → P x) → AllByRecursion P (filter p xs)
all-filtered P p [] is = tt
all-filtered P p (x ∷ xs) is = go (p x) refl (all-filtered P p xs is)
  where
    go : (b : Bool) → p x ≡ b → AllByRecursion P (filter p xs) → AllByRecursion P (cond b (x ∷ filter p xs) (filter p xs))
    go true e r = (is x e, r)
    go false e r = r

module _ {K : Type 0} (eq : K → K → Bool) (kind : TurnKind) (key : K) (hash : ℕ) (ts : List (OpenTurn K)) where
  -- what is left of the pairs from the hash on: of the others none is of the turn
  pub record Rest (pairs : List (ℕ × ℕ)) : Type 0 where
    pub ordered : IsStrictlySortedBy pair_cmp pairs
    pub from : AllByRecursion (λ (p : ℕ × ℕ). hash ≤ p.0) pairs
    pub out : (m : ℕ) → list_any (λ p. is_eq (pair_cmp (hash, m) p)) pairs ≡ false → has_hash hash (turn_at ts m) ≡ true → is_of eq kind key (turn_at ts m) ≡ false

  pub all_rest : (hashes : BTreeSet (ℕ × ℕ)) (pairs : List (ℕ × ℕ)) → IsStrictlySortedBy pair_cmp hashes.keys → ((h m : ℕ) → contains pair_cmp hashes (h, m) ≡ has_hash h (turn_at ts m)) → pairs ≡ filter (λ p. is_le (pair_cmp (hash, 0) p) && true) hashes.keys → Rest pairs
  all_rest hashes pairs ordered hashed is = subst Rest (sym is) (record {
    ordered = IsStrictlySortedBy-filter pair_cmp (λ p. is_le (pair_cmp (hash, 0) p) && true) hashes.keys ordered;
    from = all-filtered (λ (p : ℕ × ℕ). hash ≤ p.0) (λ p. is_le (pair_cmp (hash, 0) p) && true) hashes.keys (le-first hash);
    out = λ m none there.
        let same = any-filter_same (λ p. is_eq (pair_cmp (hash, m) p)) (λ p. is_le (pair_cmp (hash, 0) p) && true) true (first-le hash m) hashes.keys in
        absurd (true≢false (sym there ∙ sym (hashed hash m) ∙ sym same ∙ none));
  })

  pub less_rest : (n : ℕ) (x : ℕ × ℕ) (pairs : List (ℕ × ℕ)) → x.1 ≡ n → is_of eq kind key (turn_at ts n) ≡ false → Rest (x ∷ pairs) → Rest pairs
  less_rest n x pairs is not_it r = record {
    ordered = sorted_tail pair_cmp x pairs r.ordered;
    from = r.from.1;
    out = λ m none there. go m none there (hash == x.0 && m == x.1) (at-pair (hash, m) x);
  }
    where
      second : (a b : Bool) → (a && b) ≡ true → b ≡ true
      second a b e = (and_parts a b e).1

      go : (m : ℕ) → list_any (λ p. is_eq (pair_cmp (hash, m) p)) pairs ≡ false → has_hash hash (turn_at ts m) ≡ true → (b : Bool) → is_eq (pair_cmp (hash, m) x) ≡ b → is_of eq kind key (turn_at ts m) ≡ false
      go m none there true e =
          let same = eqb-true m x.1 (second (hash == x.0) (m == x.1) (sym (at-pair (hash, m) x) ∙ e)) in
          ap (λ k. is_of eq kind key (turn_at ts k)) (same ∙ is) ∙ not_it
      go m none there false e = r.out m (ap (λ b. b || list_any (λ p. is_eq (pair_cmp (hash, m) p)) pairs) e ∙ none) there

  -- the turns of the key have the hash
  module _ (stands : All (λ (t : OpenTurn K). eq key t.key ≡ true → t.hash ≡ hash) ts) (rises : Rise ts) where
    out-of : (m : ℕ) (u : OpenTurn K) → turn_at ts m ≡ Some u → (has_hash hash (turn_at ts m) ≡ true → is_of eq kind key (turn_at ts m) ≡ false) → is_of eq kind key (Some u) ≡ false
    out-of m u at none = go (is_of eq kind key (Some u)) refl
      where
        go : (b : Bool) → is_of eq kind key (Some u) ≡ b → b ≡ false
        go false e = refl
        go true e =
            let its = (at-all (λ (t : OpenTurn K). eq key t.key ≡ true → t.hash ≡ hash) ts m u (recursion_from_All _ _ stands) at).0 (and_parts _ _ e).1 in
            absurd (true≢false (sym e ∙ sym (ap (is_of eq kind key) at) ∙ none (ap (has_hash hash) at ∙ eq-eqb u.hash hash its)))

    pub not_found : (pairs : List (ℕ × ℕ)) → ((m : ℕ) → list_any (λ p. is_eq (pair_cmp (hash, m) p)) pairs ≡ false) → Rest pairs → None ≡ option_map (λ t. t.number) (turn_of eq ts kind key)
    not_found pairs none r = ap (option_map (λ t. t.number)) (sym (none-of eq kind key ts rises (λ m u at. out-of m u at (r.out m (none m)))))

    -- what comes behind the pairs of the hash is of none
    pub past : (x : ℕ × ℕ) (pairs : List (ℕ × ℕ)) → (x.0 ≡ hash → ⊥) → Rest (x ∷ pairs) → (m : ℕ) → list_any (λ p. is_eq (pair_cmp (hash, m) p)) (x ∷ pairs) ≡ false
    past x pairs other r m = all-any (λ p. is_eq (pair_cmp (hash, m) p)) (x ∷ pairs) (
      apart-firsts (hash, m) x (λ same. other (sym same)),
      all-to (λ y. pair_cmp x y ≡ Less) (λ p. is_eq (pair_cmp (hash, m) p) ≡ false)
          (λ y less. apart-firsts (hash, m) y (λ same. let low = firsts-rise x y less in let from = r.from.0 in let is : x.0 ≡ hash = omega (arith, low, from, same) in absurd (other is)))
          pairs (sorted_head pair_cmp x pairs r.ordered),
    )

    -- it is the first of its kind and key
    pub found : (x : ℕ × ℕ) (pairs : List (ℕ × ℕ)) (n : ℕ) → x.0 ≡ hash → x.1 ≡ n → is_of eq kind key (turn_at ts n) ≡ true → Rest (x ∷ pairs) → Some n ≡ option_map (λ t. t.number) (turn_of eq ts kind key)
    found x pairs n first second it r = go (turn_at ts n) refl
      where
        lower : (m : ℕ) → m < n → list_any (λ p. is_eq (pair_cmp (hash, m) p)) (x ∷ pairs) ≡ false
        lower m low = all-any (λ p. is_eq (pair_cmp (hash, m) p)) (x ∷ pairs) (
          apart-seconds (hash, m) x (λ same. absurd (omega (arith, low, same, second))),
          all-to (λ y. pair_cmp x y ≡ Less) (λ p. is_eq (pair_cmp (hash, m) p) ≡ false)
              (λ y less. go_on y less (hash == y.0 && m == y.1) refl)
              pairs (sorted_head pair_cmp x pairs r.ordered),
        )
          where
            go_on : (y : ℕ × ℕ) → pair_cmp x y ≡ Less → (b : Bool) → (hash == y.0 && m == y.1) ≡ b → is_eq (pair_cmp (hash, m) y) ≡ false
            go_on y less false e = at-pair (hash, m) y ∙ e
            go_on y less true e =
                let parts = and_parts _ _ e in
                let one = eqb-true hash y.0 parts.0 in
                let two = eqb-true m y.1 parts.1 in
                let higher = seconds-rise x y (first ∙ one) less in
                absurd (omega (arith, higher, two, low, second))

        go : (o : Option (OpenTurn K)) → turn_at ts n ≡ o → Some n ≡ option_map (λ t. t.number) (turn_of eq ts kind key)
        go None at = absurd (true≢false (sym it ∙ ap (is_of eq kind key) at))
        go (Some t) at =
            let number = (at-all (λ (u : OpenTurn K). Unit {0}) ts n t (everywhere ts) at).1 in
            ap (λ m. Some m) (sym number)
            ∙ ap (option_map (λ u. u.number)) (sym (first-of eq kind key ts n t rises at (sym (ap (is_of eq kind key) at) ∙ it) (λ m u low there. out-of m u there (r.out m (lower m low)))))
          where
            everywhere : (us : List (OpenTurn K)) → AllByRecursion (λ (u : OpenTurn K). Unit {0}) us
            everywhere [] = tt
            everywhere (u ∷ us) = (tt, everywhere us)
