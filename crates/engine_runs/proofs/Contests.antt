-- The walk of a contest, and what it comes to.
use Rattle.std.proofs.Common.{◌≡◌, refl, ap, sym, ◌∙◌, subst, ℕ, ◌+◌, ◌-◌, ◌<◌, arith, true, false, ◌&&◌, cond, length, List, [], ◌∷◌, Option, Some, None, is_some, inl, inr, eqb}
use Rattle.std.specs.Prelude.{nat_lt, slice_get, fold, IfSome, IfNone}
use Rattle.std.specs.Option.{option_and_then}
use Rattle.std.proofs.Math.Bool.{and-false}
use Rattle.std.proofs.lemmas.Bool.{cases_Bool, eq-eqb, ne_eqb, le-ltb}
use Rattle.std.proofs.lemmas.Bool.Decides.{nat_tests}
use Rattle.policy_base.specs.Counts.{Sketch, frequency_of}
use Rattle.engine_reference.specs.declared.data.Record.{Record}
use Rattle.engine_reference.specs.declared.data.Upsert.{Upsert}
use Rattle.engine_reference.specs.Admission.{displace, refuse, verdict, contest, shortest_front, with_first, frequencies}
use Rattle.engine_reference.specs.Records.{record_at, settled_in, with_settled, weight_at}
use Rattle.engine_reference.specs.Soundness.{IsIn, AreOnce}
use Rattle.engine_reference.specs.State.{State}
use Rattle.engine_reference.proofs.Evicting.{front-none}
use Rattle.engine_reference.proofs.HeldRecords.{record_at-number}
use Rattle.engine_cells.specs.Kept.{Kept, kept_at, numbered_at, StandsFirst}
use Rattle.engine_cells.specs.Looking.{behind}
use Rattle.engine_runs.specs.declared.contesting.Contest.{Contest}
use Rattle.engine_runs.specs.declared.deciding.Decision.{Decision}
use Rattle.engine_runs.specs.declared.deciding.Decision.TheVariants as decide
use Rattle.engine_runs.specs.Contesting.{is_won, on_from, from_place, IsOnList, outcome, IsDecided, reached, lost, ended}
use Rattle.engine_runs.specs.Deciding.{decided, decision, refused_as}

-- ---- the numbers from one on

behind-first : (ns : List ℕ) (n : ℕ) → slice_get ns 0 ≡ Some n → n ∷ behind n ns ≡ ns
behind-first [] n e = absurd (cc)
behind-first (m ∷ ns) n e =
    let same : m ≡ n = cc in
    ap (λ b. n ∷ cond b ns (behind n ns)) (eq-eqb m n same) ∙ ap (λ k. k ∷ ns) (sym same)

in-behind : (ns : List ℕ) (n m : ℕ) (ys : List ℕ) → behind n ns ≡ m ∷ ys → IsIn m ns
in-behind [] n m ys e = absurd (cc)
in-behind (k ∷ ks) n m ys e = elim (cases_Bool (eqb k n)) [
  | inl t ↦ let here = rw t at e in inr (subst (λ l. IsIn m l) (sym here) (inl refl))
  | inr t ↦ inr (in-behind ks n m ys (rw t at e))
]

behind-next : (ns : List ℕ) (n m : ℕ) (ys : List ℕ) → AreOnce ns → behind n ns ≡ m ∷ ys → behind m ns ≡ ys
behind-next [] n m ys once e = absurd (cc)
behind-next (k ∷ ks) n m ys once e = elim (cases_Bool (eqb k n)) [
  | inl t ↦ let here = rw t at e in past (subst (λ l. IsIn m l) (sym here) (inl refl)) ∙ ap (λ l. behind m l) here ∙ ap (λ b. cond b ys (behind m ys)) (eq-eqb m m refl)
  | inr t ↦ let later = rw t at e in past (in-behind ks n m ys later) ∙ behind-next ks n m ys once.1 later
]
  where
    past : IsIn m ks → cond (eqb k m) ks (behind m ks) ≡ behind m ks
    past i = ap (λ b. cond b ks (behind m ks)) (ne_eqb k m (λ same. once.0 (subst (λ x. IsIn x ks) (sym same) i)))

module _ {K V P S R : Type 0} (t : Kept K V P S R) where
  pub from-first : (o : Option ℕ) → IfSome o (StandsFirst t t.state.access) → IfNone o (t.state.access ≡ []) → from_place t o ≡ t.state.access
  from-first None h none = sym none
  from-first (Some i) h none = ap (λ o. on_from o t.state.access) h.1 ∙ behind-first t.state.access h.0.number h.2

  pub from-next : (n : ℕ) (o : Option ℕ) → AreOnce t.state.access → IfSome o (StandsFirst t (behind n t.state.access)) → IfNone o (behind n t.state.access ≡ []) → from_place t o ≡ behind n t.state.access
  from-next n None once h none = sym none
  from-next n (Some i) once h none = ap (λ o. on_from o t.state.access) h.1 ∙ go (behind n t.state.access) refl h.2
    where
      go : (bs : List ℕ) → behind n t.state.access ≡ bs → slice_get bs 0 ≡ Some h.0.number → h.0.number ∷ behind h.0.number t.state.access ≡ bs
      go [] e f = absurd (cc)
      go (y ∷ ys) e f =
          let same : y ≡ h.0.number = cc in
          ap (λ l. h.0.number ∷ l) (behind-next t.state.access n h.0.number ys once (e ∙ ap (λ k. k ∷ ys) same)) ∙ ap (λ k. k ∷ ys) (sym same)

  pub on-list : (ns : List ℕ) (o : Option ℕ) → IfSome o (StandsFirst t ns) → IsOnList t o
  on-list ns None h = tt
  on-list ns (Some i) h = (h.0, h.1, h.3)

-- ---- one more record

less-shift : (a b c : ℕ) → nat_lt a (b - c) ≡ nat_lt (c + a) b
less-shift a b c = grind (arith, nat_tests)

module _ {K V : Type 0} where
  frequencies_from : (sketch : Sketch) (a b : ℕ) (rs : List (Record K V)) → fold (λ f r. f + frequency_of sketch r.hash) (a + b) rs ≡ a + fold (λ f r. f + frequency_of sketch r.hash) b rs
  frequencies_from sketch a b [] = refl
  frequencies_from sketch a b (r ∷ rs) =
      ap (λ n. fold (λ f r. f + frequency_of sketch r.hash) n rs) (let e : (a + b) + frequency_of sketch r.hash ≡ a + (b + frequency_of sketch r.hash) = omega arith in e) ∙ frequencies_from sketch a (b + frequency_of sketch r.hash) rs

  frequencies-first : (sketch : Sketch) (r : Record K V) (rs : List (Record K V)) → frequencies sketch (r ∷ rs) ≡ frequency_of sketch r.hash + frequencies sketch rs
  frequencies-first sketch r rs =
      ap (λ n. fold (λ f r. f + frequency_of sketch r.hash) n rs) (let e : 0 + frequency_of sketch r.hash ≡ frequency_of sketch r.hash + 0 = omega arith in e) ∙ frequencies_from sketch (frequency_of sketch r.hash) 0 rs

  won-past : (sketch : Sketch) (r : Record K V) (ahead : ℕ) (o : Option (List (Record K V))) → is_won sketch (ahead - frequency_of sketch r.hash) o ≡ is_won sketch ahead (with_first r o)
  won-past sketch r ahead None = refl
  won-past sketch r ahead (Some vs) = less-shift (frequencies sketch vs) ahead (frequency_of sketch r.hash) ∙ ap (λ n. nat_lt n ahead) (sym (frequencies-first sketch r vs))

  -- a settled record would go
  pub past-settled : (sketch : Sketch) (r : Record K V) (left ahead : ℕ) (rest : List (Record K V)) → 0 < left → r.writes ≡ r.applied
      → is_won sketch (ahead - frequency_of sketch r.hash) (shortest_front (left - weight_at r) rest) ≡ is_won sketch ahead (shortest_front left (with_settled (Some r) rest))
  past-settled sketch r left ahead rest some settled =
      won-past sketch r ahead (shortest_front (left - weight_at r) rest)
      ∙ sym (ap (λ b. is_won sketch ahead (shortest_front left (cond b (r ∷ rest) rest))) (eq-eqb r.writes r.applied settled)
      ∙ ap (λ b. is_won sketch ahead (cond b (Some []) (with_first r (shortest_front (left - weight_at r) rest)))) (ne_eqb left 0 (λ z. omega arith)))

  -- another stays
  pub past-unsettled : (sketch : Sketch) (r : Record K V) (left ahead : ℕ) (rest : List (Record K V)) → (r.writes ≡ r.applied → ⊥)
      → is_won sketch ahead (shortest_front left rest) ≡ is_won sketch ahead (shortest_front left (with_settled (Some r) rest))
  past-unsettled sketch r left ahead rest other = sym (ap (λ b. is_won sketch ahead (shortest_front left (cond b (r ∷ rest) rest))) (ne_eqb r.writes r.applied other))

  pub kept-number : (rs : List (Record K V)) (o : Option ℕ) (r : Record K V) → option_and_then (λ n. record_at rs n) o ≡ Some r → record_at rs r.number ≡ Some r
  kept-number rs None r h = absurd (cc)
  kept-number rs (Some n) r h = ap (λ m. record_at rs m) (record_at-number rs n r h) ∙ h

module _ {K V P S R : Type 0} (t : Kept K V P S R) (c new : Contest) (place : ℕ) (r : Record K V) (there : kept_at t place ≡ Some r) (next : c.next ≡ Some place) (rest : from_place t new.next ≡ behind r.number t.state.access) where
  from-here : from_place t c.next ≡ r.number ∷ behind r.number t.state.access
  from-here = ap (λ o. from_place t o) next ∙ ap (λ o. on_from o t.state.access) there

  -- the contest goes on behind it
  pub outcome-goes : ((xs : List (Record K V)) → is_won t.state.sketch new.ahead (shortest_front new.left xs) ≡ is_won t.state.sketch c.ahead (shortest_front c.left (with_settled (Some r) xs)))
      → outcome t new ≡ outcome t c
  outcome-goes past =
      ap (λ ns. is_won t.state.sketch new.ahead (shortest_front new.left (settled_in t.state.records ns))) rest
      ∙ past (settled_in t.state.records (behind r.number t.state.access))
      ∙ ap (λ o. is_won t.state.sketch c.ahead (shortest_front c.left (with_settled o (settled_in t.state.records (behind r.number t.state.access))))) (sym (kept-number t.state.records (numbered_at t.numbers place) r there))
      ∙ ap (λ ns. is_won t.state.sketch c.ahead (shortest_front c.left (settled_in t.state.records ns))) (sym from-here)

  pub outcome-shorter : length (from_place t new.next) < length (from_place t c.next)
  outcome-shorter =
      let a = ap (λ ns. length ns) rest in
      let b = ap (λ ns. length ns) from-here in
      omega (arith, a, b)

module _ {K V P S R : Type 0} (t : Kept K V P S R) where
  -- where it is decided
  pub outcome-is : (c : Contest) → IsDecided c → outcome t c ≡ (eqb c.left 0 && nat_lt 0 c.ahead)
  outcome-is c (reached e) =
      ap (λ o. is_won t.state.sketch c.ahead o) (front-none (settled_in t.state.records (from_place t c.next)) c.left e)
      ∙ ap (λ b. b && nat_lt 0 c.ahead) (sym (eq-eqb c.left 0 e))
  outcome-is c (lost e) =
      go (shortest_front c.left (settled_in t.state.records (from_place t c.next)))
      ∙ sym (and-false (eqb c.left 0))
      ∙ ap (λ b. eqb c.left 0 && b) (sym (le-ltb 0 c.ahead (omega arith)))
    where
      go : (o : Option (List (Record K V))) → is_won t.state.sketch c.ahead o ≡ false
      go None = refl
      go (Some vs) = le-ltb (frequencies t.state.sketch vs) c.ahead (omega arith)
  outcome-is c (ended e) =
      let none_left : is_won {K = K} {V = V} t.state.sketch c.ahead (cond (eqb c.left 0) (Some []) None) ≡ (eqb c.left 0 && nat_lt 0 c.ahead) = elim (cases_Bool (eqb c.left 0)) [ inl z ↦ rw z | inr z ↦ rw z ] in
      ap (λ o. is_won t.state.sketch c.ahead (shortest_front c.left (settled_in t.state.records (from_place t o)))) e ∙ none_left

-- ---- and what is done then

module _ {K V : Type 0} (sketch : Sketch) (hash wanted : ℕ) (otherwise : Decision) (asked : wanted ≡ frequency_of sketch hash) where
  pub contest-won : (o : Option (List (Record K V))) → is_won sketch wanted o ≡ true → decide.Displace ≡ decided otherwise (contest sketch hash o)
  contest-won None e = absurd (cc)
  contest-won (Some vs) e = ap (λ b. decided {K = K} {V = V} otherwise (cond b (displace vs) refuse)) (sym e ∙ ap (λ n. nat_lt (frequencies sketch vs) n) asked)

  pub contest-lost : (o : Option (List (Record K V))) → is_won sketch wanted o ≡ false → otherwise ≡ decided otherwise (contest sketch hash o)
  contest-lost None e = refl
  contest-lost (Some vs) e = ap (λ b. decided {K = K} {V = V} otherwise (cond b (displace vs) refuse)) (sym e ∙ ap (λ n. nat_lt (frequencies sketch vs) n) asked)

module _ {K V P S R : Type 0} where
  pub judged_new : (s : State K V P S R) (u : Upsert) (r : Record K V) → nat_lt r.applied u.write ≡ true → is_some r.counts ≡ false
      → decided (refused_as u r) (verdict s u) ≡ decision s u r
  judged_new s u r e f =
      ap (λ b. cond b decide.Count (decided (refused_as u r) (verdict s u))) (sym f)
      ∙ ap (λ b. cond b (cond (is_some r.counts) decide.Count (decided (refused_as u r) (verdict s u))) decide.Skip) (sym e)
