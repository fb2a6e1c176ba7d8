-- Each step keeps the rule.
use Rattle.std.proofs.Common.{◌≡◌, ◌≢◌, ◌<◌, ℕ, zero, suc, List, [], ◌∷◌, ◌++◌, length, set, true, false, true≢false, refl, sym, ap, ◌∙◌, subst, inl, inr, ⊎_elim, arith}
use Rattle.std.proofs.lemmas.Option.{same_Some}
use mathlib.Core.Option.{some, some-ne-none, some-injective}
use lib.ListN.{get_elem?}
use Rattle.atomic_table.proofs.Lists.{at_set, at_snoc}
use Rattle.atomic_table.specs.Table.{Act, Allows, Joins, Splits, State, Step, opening}
use Rattle.cache_history.specs.Histories.{AreAllOf, AreAmong, Claiming, ClaimsOne, Fits, Hold, IsHistory, IsKept, IsLatest, IsNext, IsOneOf, Looking, Passing, bare, first_view, claimer, holds_with, laden, nobody, with_hold}
use Rattle.cache_history.specs.declared.known.Known.{Known}
use Rattle.cache_history.specs.declared.known.Own.{Own}

off : false ≡ true → ⊥
off e = true≢false (sym e)

module _ {C : Type 0} where
  -- what stands among some values stands among one more
  one_longer : (new : C) (values : List C) (hold : Hold C) → IsOneOf values hold
      → IsOneOf (new ∷ values) hold
  one_longer new [] hold one = absurd one
  one_longer new (old ∷ cs) hold one = inr one

  are_longer : (new : C) (values : List C) (holds : List (Hold C)) → AreAmong values holds
      → AreAmong (new ∷ values) holds
  are_longer new values [] are = are
  are_longer new values (hold ∷ holds) are =
      (one_longer new values hold are.0, are_longer new values holds are.1)

  pub all_more : {X : Type 0} (values : List C) (own : X → Own C) (xs : List X) (x : X)
      → AreAllOf values own xs → AreAmong values (own x).holds → AreAllOf values own (xs ++ x ∷ [])
  all_more values own [] x all are = (are, tt)
  all_more values own (y ∷ ys) x all are = (all.0, all_more values own ys x all.1 are)

module _ {C : Type 0} (Starts : C → Type 0) (Holds : C → C → Type 0) where
  abbrev Rule : State C (Known C) → Type 0
  Rule = IsKept Starts Holds

  abbrev Suits : ℕ → List C → ℕ → Known C → Type 0
  Suits = Fits Starts Holds

  pub next_is : (values : List C) (new : C) → IsHistory Starts Holds values
      → IsNext Starts Holds values new → IsHistory Starts Holds (new ∷ values)
  next_is [] new is next = absurd next
  next_is (old ∷ cs) new is next = (next, is)

  pub are_next : (values : List C) (new : C) (holds : List (Hold C)) → IsNext Starts Holds values new
      → AreAmong values holds → AreAmong (new ∷ values) (holds_with values new holds)
  are_next [] new holds next are = absurd next
  are_next (old ∷ cs) new holds next are = (inl refl, are_longer new (old ∷ cs) holds are)

  -- of the latest
  pub next_of : (values : List C) (old new : C) → IsLatest old values → Holds old new
      → IsNext Starts Holds values new
  next_of [] old new latest holds = absurd (cc)
  next_of (c ∷ cs) old new latest holds = subst (λ c'. Holds c' new) (sym (same_Some c old latest)) holds

  pub claims_one : (values : List C) (old new : C) (p q : Own C) → IsLatest old values
      → q ≡ with_hold values new p → p.seen < length values → AreAmong (new ∷ values) q.holds
      → IsHistory Starts Holds (new ∷ values) → ClaimsOne Starts Holds p q old new
  claims_one [] old new p q latest is later are history = absurd (cc)
  claims_one (c ∷ cs) old new p q latest is later are history = record {
    values = new ∷ c ∷ cs;
    history = history;
    are = are;
    number = length cs;
    later = omega (arith, later);
    seen = ap (λ o. o.seen) is ∙ omega arith;
    claimed = ap (λ o. o.holds) is ∙ ap (λ c'. (length cs, (c', new)) ∷ p.holds) (same_Some c old latest);
  }

  -- one view was replaced
  suits_set : (seat : ℕ) (values : List C) (views : List (Known C)) (by : ℕ) (w : Known C)
      → ((j : ℕ) (u : Known C) → j ≢ by → get_elem? views j ≡ some u → Suits seat values j u)
      → Suits seat values by w
      → (j : ℕ) (u : Known C) → get_elem? (set views by w) j ≡ some u → Suits seat values j u
  suits_set seat values views by w others mine j u e =
      ⊎_elim
      (λ (x : (j ≡ by) × (w ≡ u)).
      subst (λ (y : ℕ × Known C). Suits seat values y.0 y.1) (λ i. (sym x.0 i, x.1 i)) mine)
      (λ (x : (j ≢ by) × (get_elem? views j ≡ some u)). others j u x.0 x.1)
      (at_set views by j w u e)

  -- a value was added, which one keeper knows
  suits_longer : (seat : ℕ) (values : List C) (new : C) (j : ℕ) (u : Known C) → j ≢ seat
      → Suits seat values j u → Suits seat (new ∷ values) j u
  suits_longer seat values new j u apart fits = record {
    keeps = λ k. absurd (apart (fits.keeps k).0);
    are = are_longer new values u.own.holds fits.are;
    seen = let s = fits.seen in omega arith;
  }

  pub begins : (words : List ℕ) (start : C) → Starts start → Rule (opening words [] (first_view start))
  begins words start starts = record {
    seat = 0;
    values = start ∷ [];
    is = starts;
    fits = one;
  }
    where
      one : (by : ℕ) (v : Known C) → get_elem? (first_view start ∷ []) by ≡ some v
          → Suits 0 (start ∷ []) by v
      one zero v e = subst (Suits 0 (start ∷ []) 0) (some-injective _ _ e)
          (record { keeps = λ k. (refl, refl); are = tt; seen = omega arith })
      one (suc by) v e = absurd (some-ne-none v (sym e))

  module _ (slots id i : ℕ) (f : ℕ → ℕ) (v : Known C) (carried : List (ℕ × C)) where
    pub claims : (new : C) (step : Step C) → step.said ≡ some new → v.keeps ≡ true
        → IsNext Starts Holds v.values new
        → Allows Rule slots id (v, carried) i f (Claiming Starts Holds step (v, carried))
    claims new step said keeps next s h homes at small =
        let mine = h.fits id v at in
        let known = mine.keeps keeps in
        let are = subst (λ cs. AreAmong cs v.own.holds) (sym known.1) mine.are in
        let seen = subst (λ (cs : List C). v.own.seen < length cs) (sym known.1) mine.seen in
        let next' = subst (λ cs. IsNext Starts Holds cs new) known.1 next in (
          _,
          Act.keeps,
          tt,
          record {
            seat = h.seat;
            values = new ∷ h.values;
            is = next_is h.values new h.is next';
            fits = suits_set h.seat (new ∷ h.values) s.views id _
                (λ j u apart e. suits_longer h.seat h.values new j u (λ x. apart (x ∙ sym known.0)) (h.fits j u e))
                (record {
                  keeps = λ k. (known.0, ap (λ cs. new ∷ cs) known.1);
                  are = subst (λ cs. AreAmong (new ∷ cs) (holds_with v.values new v.own.holds)) known.1 (are_next v.values new v.own.holds next are);
                  seen = subst (λ (cs : List C). length v.values < suc (length cs)) known.1 (omega arith);
                });
          },
          (new, said, refl, are, seen),
        )

    pub passes : (new : C) (step : Step C) → step.said ≡ some new → v.keeps ≡ true
        → IsNext Starts Holds v.values new
        → Allows Rule slots id (v, carried) i f (Passing step (v, carried))
    passes new step said keeps next s h homes at small =
        let mine = h.fits id v at in
        let known = mine.keeps keeps in
        let next' = subst (λ cs. IsNext Starts Holds cs new) known.1 next in (
          _,
          Act.keeps,
          tt,
          record {
            seat = h.seat;
            values = new ∷ h.values;
            is = next_is h.values new h.is next';
            fits = suits_set h.seat (new ∷ h.values) s.views id _
                (λ j u apart e. suits_longer h.seat h.values new j u (λ x. apart (x ∙ sym known.0)) (h.fits j u e))
                (record {
                  keeps = λ k. (known.0, ap (λ cs. new ∷ cs) known.1);
                  are = are_longer new h.values v.own.holds mine.are;
                  seen = let s = mine.seen in omega arith;
                });
          },
          (new, said, refl),
        )

    pub looks : (step : Step C) → v.keeps ≡ true
        → Allows Rule slots id (v, carried) i f (Looking Starts Holds step (v, carried))
    looks step keeps s h homes at small =
        let mine = h.fits id v at in
        let known = mine.keeps keeps in (
          v,
          Act.keeps,
          tt,
          record {
            seat = h.seat;
            values = h.values;
            is = h.is;
            fits = suits_set h.seat h.values s.views id v (λ j u apart e. h.fits j u e) mine;
          },
          (refl, subst (λ cs. AreAmong cs v.own.holds) (sym known.1) mine.are, subst (λ (cs : List C). v.own.seen < length cs) (sym known.1) mine.seen),
        )

  -- of any token, what it claims can be cut off
  pub cuts : (id : ℕ) (v : Known C) → Splits Rule id v (bare v) (claimer v)
  cuts id v s h at =
      let mine = h.fits id v at in record {
        seat = h.seat;
        values = h.values;
        is = h.is;
        fits = λ j u e. ⊎_elim
            (λ was. suits_set h.seat h.values s.views id (bare v) (λ k x apart e'. h.fits k x e')
            (record { keeps = mine.keeps; are = tt; seen = let n = mine.seen in omega arith }) j u was)
            (λ (same : claimer v ≡ u). subst (Suits h.seat h.values j) same
            (record { keeps = λ k. absurd (off k); are = mine.are; seen = mine.seen }))
            (at_snoc (set s.views id (bare v)) (claimer v) u j e);
      }

  pub takes_in : (id : ℕ) (v : Known C) (other : ℕ) (w : Known C)
      → Joins Rule id v other w (laden v w) nobody
  takes_in id v other w s h at apart there =
      let mine = h.fits id v at in
      let theirs = ⊎_elim
      (λ (t : (other ≡ id) × (laden v w ≡ w)). absurd (apart t.0))
      (λ (t : (other ≢ id) × (get_elem? s.views other ≡ some w)). h.fits other w t.1)
      (at_set s.views id other (laden v w) w there) in record {
        seat = h.seat;
        values = h.values;
        is = h.is;
        fits = suits_set h.seat h.values (set s.views id (laden v w)) other nobody
            (λ j u _ e. suits_set h.seat h.values s.views id (laden v w) (λ k x _ e'. h.fits k x e')
            (record { keeps = mine.keeps; are = theirs.are; seen = theirs.seen }) j u e)
            (record { keeps = λ k. absurd (off k); are = tt; seen = let n = mine.seen in omega arith });
      }
