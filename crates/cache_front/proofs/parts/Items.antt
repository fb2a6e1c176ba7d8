-- The values of all parts, and what is left of them where one part changes.
use Rattle.std.proofs.Common.{◌≡◌, ℕ, zero, suc, ◌+◌, ◌<◌, cond, true, false, not, List, [], ◌∷◌, ◌++◌, map, length, Option, option_map, Some, None, slice_get, refl, sym, ap, ◌∙◌, arith, true≢false, remove, subst, ◌==◌, slice_set, inl, inr}
use Rattle.std.specs.List.{sum_by, find}
use Rattle.std.proofs.lemmas.Bool.{and_from, and_parts, eq-eqb, eqb-true, false_from_ne_true, cases_Bool, or_from, and_right, ne_eqb}
use Rattle.std.proofs.lemmas.List.{length-map}
use Rattle.std.proofs.lemmas.List.Folds.{list_all-append}
use Rattle.std.proofs.lemmas.List.Sums.{sum_by-cons, sum_by-append}
use Rattle.std.proofs.lemmas.Option.{none-some, same_Some}
use Rattle.audit_model.specs.Bytewise.{same}
use Rattle.audit_model.specs.Situation.{HeldValue, candidate_at}
use Rattle.engine_reference.specs.Records.{held_entries, held_weight, record_at}
use Rattle.engine_reference.specs.Telling.{entry_of, AreApart, Removal, TakesAway, removed_entries}
use Rattle.cache_commands.specs.Running.{weight_in}
use Rattle.cache_commands.specs.Held.{value_at, items_without, is_absent, have_own_keys, plain, Corresponds}
use Rattle.cache_commands.proofs.SameKeys.{same-refl, equal_from_same}
use Rattle.cache_commands.proofs.Held.{absent_from_none, none_from_absent, length-items_without, apart-items_without, value_at-map, apart-map, value_at-items_without, corresponds-left, apart-left, left}
use Rattle.cache_commands.proofs.Weights.{adds, weight_in-sum}
use Rattle.cache_front.specs.Parts.{Part, as_held_value, items_in, items_of, Stored, service_answers, AreMarked}
use Rattle.cache_front.proofs.parts.Writing.{Kept, notes_of, entry_of-other, entry_of-gone, entry_of-at, Rec}
use Rattle.engine_reference.specs.Visible.{is_covered}
use Rattle.engine_reference.proofs.StayingVisible.{AreApart-remove}
use Rattle.std.specs.Option.{option_map_or}
use Rattle.audit_model.specs.Changes.{held_after}
use Rattle.audit_model.specs.Commands.{Deed}
use Rattle.audit_model.specs.History.{Value}
use Rattle.audit_model.specs.Notes.{tells_size, candidates_of}
use Rattle.audit_model.specs.View.{Candidate}
use Rattle.audit_model.specs.declared.config.Config.{Config}
use Rattle.audit_model.specs.declared.transcript.Note.{Note}
use Rattle.engine_reference.proofs.HeldRecords.{held-without}

-- ---- lists of values that have the same one under each key

pub same_length : (xs ys : List HeldValue) → have_own_keys xs ≡ true → have_own_keys ys ≡ true → ((q : List ℕ) → value_at xs q ≡ value_at ys q) → length xs ≡ length ys
same_length [] [] a b e = refl
same_length [] (y ∷ ys) a b e = absurd (none-some y (e y.value.key ∙ ap (λ c. cond c (Some y) (value_at ys y.value.key)) (same-refl y.value.key)))
same_length (x ∷ xs) ys a b e =
    let parts = and_parts (is_absent x.value.key xs) (have_own_keys xs) a in
    let there : value_at ys x.value.key ≡ Some x = sym (e x.value.key) ∙ ap (λ c. cond c (Some x) (value_at xs x.value.key)) (same-refl x.value.key) in
    ap suc (same_length xs (items_without x.value.key ys) parts.1 (apart-items_without x.value.key ys b) (λ q. alike q parts.0)) ∙ length-items_without x.value.key ys x there
  where
    alike : (q : List ℕ) → is_absent x.value.key xs ≡ true → value_at xs q ≡ value_at (items_without x.value.key ys) q
    alike q absent = grind (arith, e q, equal_from_same q x.value.key, none_from_absent x.value.key xs absent, value_at-items_without x.value.key q ys b)

-- the values held are those that are found
pub corresponds_from : (items held : List HeldValue) → have_own_keys items ≡ true → have_own_keys held ≡ true → ((q : List ℕ) → option_map plain (value_at held q) ≡ value_at items q) → Corresponds items held
corresponds_from items held a b e = grind (arith, length-map held plain, same_length (map plain held) items (apart-map plain held (λ h. refl) ∙ b) a (λ q. value_at-map plain held q (λ h. refl) ∙ e q), apart-map plain held (λ h. refl), value_at-map plain held)

-- each key stands once, in the part that is its own
abbrev pub ArePlaced : (List ℕ → ℕ) → ℕ → List Kept → Type 0
ArePlaced part_of part es = (q : List ℕ) (e : Kept) → entry_of same es q ≡ Some e → part_of q ≡ part

pub value_at-both : (xs ys : List HeldValue) (q : List ℕ) → value_at xs q ≡ None → value_at (xs ++ ys) q ≡ value_at ys q
value_at-both [] ys q none = refl
value_at-both (x ∷ xs) ys q none = grind (arith, value_at-both xs ys q, none-some x)

pub value_at-first : (xs ys : List HeldValue) (q : List ℕ) (h : HeldValue) → value_at xs q ≡ Some h → value_at (xs ++ ys) q ≡ Some h
value_at-first [] ys q h some = absurd (none-some h some)
value_at-first (x ∷ xs) ys q h some = grind (arith, value_at-first xs ys q h)

-- ---- one part

module _ {S : Type 0} where
  pub value_at-in : (part : ℕ) (s : Part S) (es : List Kept) (q : List ℕ) → value_at (map (as_held_value part s) es) q ≡ option_map (as_held_value part s) (entry_of same es q)
  value_at-in part s [] q = refl
  value_at-in part s (e ∷ es) q = grind (arith, value_at-in part s es q)

  weight-in : (part : ℕ) (s : Part S) (es : List Kept) → weight_in part (map (as_held_value part s) es) ≡ sum_by (λ (e : Kept). e.weight) es
  weight-in part s es = weight_in-sum part (map (as_held_value part s) es) ∙ go es
    where
      go : (es : List Kept) → sum_by (adds part) (map (as_held_value part s) es) ≡ sum_by (λ (e : Kept). e.weight) es
      go [] = refl
      go (e ∷ es) =
          sum_by-cons (adds part) (as_held_value part s e) (map (as_held_value part s) es)
          ∙ ap (λ b. cond b e.weight 0 + sum_by (adds part) (map (as_held_value part s) es)) (eq-eqb part part refl)
          ∙ ap (λ n. e.weight + n) (go es) ∙ sym (sum_by-cons (λ (x : Kept). x.weight) e es)

  weight-out : (part other : ℕ) (s : Part S) (es : List Kept) → (other == part) ≡ false → sum_by (adds part) (map (as_held_value other s) es) ≡ 0
  weight-out part other s [] away = refl
  weight-out part other s (e ∷ es) away = grind (arith, sum_by-cons (adds part) (as_held_value other s e) (map (as_held_value other s) es), adds part, weight-out part other s es away)

  -- ---- all parts

  abbrev pub AreParted : (List ℕ → ℕ) → ℕ → List (Part S) → Type 0
  AreParted part_of first [] = Unit {0}
  AreParted part_of first (s ∷ parts) = AreApart same (held_entries s.records) × ArePlaced part_of first (held_entries s.records) × AreParted part_of (suc first) parts

  -- another part's keys are not there
  pub not_here : (part_of : List ℕ → ℕ) (part : ℕ) (s : Part S) (q : List ℕ) → ArePlaced part_of part (held_entries s.records) → (part_of q ≡ part → ⊥) → value_at (items_in part s) q ≡ None
  not_here part_of part s q placed other = grind (arith, value_at-in part s (held_entries s.records) q, Kept)

  pub none_before : (part_of : List ℕ → ℕ) (first : ℕ) (parts : List (Part S)) (q : List ℕ) → AreParted part_of first parts → part_of q < first → value_at (items_of first parts) q ≡ None
  none_before part_of first [] q p lt = refl
  none_before part_of first (s ∷ parts) q p lt = grind (arith, value_at-both (items_in first s) (items_of (suc first) parts) q, not_here part_of first s q p.1, none_before part_of (suc first) parts q p.2)

  -- under a key stands what its part has
  pub value_at-part : (part_of : List ℕ → ℕ) (first k : ℕ) (parts : List (Part S)) (s : Part S) (q : List ℕ) → AreParted part_of first parts → slice_get parts k ≡ Some s → part_of q ≡ first + k
      → value_at (items_of first parts) q ≡ option_map (as_held_value (first + k) s) (entry_of same (held_entries s.records) q)
  value_at-part part_of first k [] s q p there at = absurd (none-some s there)
  value_at-part part_of first zero (x ∷ parts) s q p there at =
      let value = value_at-first (items_in first x) (items_of (suc first) parts) q in
      grind (arith, Kept, value_at-in first x (held_entries x.records) q, value_at-both (items_in first x) (items_of (suc first) parts) q, none_before part_of (suc first) parts q p.2, value)
  value_at-part part_of first (suc k) (x ∷ parts) s q p there at = grind (arith, value_at-both (items_in first x) (items_of (suc first) parts) q, not_here part_of first x q p.1, value_at-part part_of (suc first) k parts s q p.2 there)

  pub apart-of : (part_of : List ℕ → ℕ) (first : ℕ) (parts : List (Part S)) → AreParted part_of first parts → have_own_keys (items_of first parts) ≡ true
  apart-of part_of first [] p = refl
  apart-of part_of first (s ∷ parts) p = go (held_entries s.records) p.0 p.1 (apart-of part_of (suc first) parts p.2)
    where
      rest : List HeldValue
      rest = items_of (suc first) parts

      go : (es : List Kept) → AreApart same es → ArePlaced part_of first es → have_own_keys rest ≡ true → have_own_keys (map (as_held_value first s) es ++ rest) ≡ true
      go [] a placed r = r
      go (e ∷ es) a placed r =
          let at : part_of e.key ≡ first = placed e.key e (ap (λ b. cond b (Some e) (entry_of same es e.key)) (same-refl e.key)) in
          let here = absent_from_none e.key (map (as_held_value first s) es) (value_at-in first s es e.key ∙ ap (option_map (as_held_value first s)) a.0) in
          let there = absent_from_none e.key rest (none_before part_of (suc first) parts e.key p.2 (omega (arith, at))) in
          and_from _ _
          (list_all-append (λ (g : HeldValue). not (same e.key g.value.key)) (map (as_held_value first s) es) rest ∙ and_from _ _ here there)
          (go es a.1 (λ q x h. placed q x (skip q x h a.0)) r)
        where
          skip : (q : List ℕ) (x : Kept) → entry_of same es q ≡ Some x → entry_of same es e.key ≡ None → entry_of same (e ∷ es) q ≡ Some x
          skip q x h none = grind (arith, equal_from_same q e.key, none-some x)

  weight-before : (part first : ℕ) (parts : List (Part S)) → part < first → sum_by (adds part) (items_of first parts) ≡ 0
  weight-before part first [] lt = refl
  weight-before part first (s ∷ parts) lt = grind (arith, sum_by-append (adds part) (items_in first s) (items_of (suc first) parts), adds part, weight-out part first s (held_entries s.records), false_from_ne_true, eqb-true first part, weight-before part (suc first) parts)

  -- a part weighs what its entries do
  pub weight-part : (first k : ℕ) (parts : List (Part S)) (s : Part S) → slice_get parts k ≡ Some s → weight_in (first + k) (items_of first parts) ≡ held_weight s.records
  weight-part first k parts s there = weight_in-sum (first + k) (items_of first parts) ∙ go first k parts there
    where
      go : (first k : ℕ) (parts : List (Part S)) → slice_get parts k ≡ Some s → sum_by (adds (first + k)) (items_of first parts) ≡ held_weight s.records
      go first k [] there = absurd (none-some s there)
      go first zero (x ∷ parts) there =
          let is : x ≡ s = cc in
          let here : first + 0 ≡ first = omega arith in
          ap (λ n. sum_by (adds n) (items_in first x ++ items_of (suc first) parts)) here
          ∙ sum_by-append (adds first) (items_in first x) (items_of (suc first) parts)
          ∙ (let a = sym (weight_in-sum first (items_in first x)) ∙ weight-in first x (held_entries x.records) in let b = weight-before first (suc first) parts (omega arith) in
          let c : held_weight x.records ≡ held_weight s.records = ap (λ (y : Part S). held_weight y.records) is in omega arith)
      go first (suc k) (x ∷ parts) there =
          let shift : first + suc k ≡ suc first + k = omega arith in
          ap (λ n. sum_by (adds n) (items_in first x ++ items_of (suc first) parts)) shift
          ∙ sum_by-append (adds (suc first + k)) (items_in first x) (items_of (suc first) parts)
          ∙ (let a = weight-out (suc first + k) first x (held_entries x.records) (false_from_ne_true _ (λ e. (let is = eqb-true first (suc first + k) e in omega (arith, is)))) in let b = go (suc first) k parts there in omega arith)

-- ---- one part changes

pub decides : (a b : ℕ) → Dec (a ≡ b)
decides a b = grind (arith, eqb-true a b, true≢false, eq-eqb a b)

-- ---- entries of a part are taken away

pub away : (removals : List (Removal (List ℕ) Stored)) (old new : List Kept) → AreApart same old → TakesAway (removed_entries removals) old new → AreApart same new
away [] old new a t = subst (λ es. AreApart same es) (sym t) a
away (gone ∷ removals) old new a t = away removals (remove old t.0) new (AreApart-remove same old t.0 a) t.2

pub placed-away : (part_of : List ℕ → ℕ) (part : ℕ) (removals : List (Removal (List ℕ) Stored)) (old new : List Kept) → AreApart same old → ArePlaced part_of part old → TakesAway (removed_entries removals) old new → ArePlaced part_of part new
placed-away part_of part [] old new a p t = subst (λ es. ArePlaced part_of part es) (sym t) p
placed-away part_of part (gone ∷ removals) old new a p t = placed-away part_of part removals (remove old t.0) new (AreApart-remove same old t.0 a) left_placed t.2
  where
    left_placed : ArePlaced part_of part (remove old t.0)
    left_placed q e h = elim (cases_Bool (same q gone.entry.key)) [
      | inl k ↦ ap part_of (equal_from_same q gone.entry.key k) ∙ p gone.entry.key gone.entry (entry_of-at old t.0 gone.entry a t.1)
      | inr k ↦ p q e (sym (entry_of-other old t.0 gone.entry q t.1 k) ∙ h)
    ]

-- ---- notes of one part

-- these notes tell keys of a part
abbrev pub AreOf : (List ℕ → ℕ) → ℕ → List Note → Type 0
AreOf part_of part [] = Unit {0}
AreOf part_of part (n ∷ notes) = (part_of n.key ≡ part) × AreOf part_of part notes

pub of-append : (part_of : List ℕ → ℕ) (part : ℕ) (xs ys : List Note) → AreOf part_of part xs → AreOf part_of part ys → AreOf part_of part (xs ++ ys)
of-append part_of part [] ys a b = b
of-append part_of part (n ∷ xs) ys a b = (a.0, of-append part_of part xs ys a.1 b)

pub of-removals : (part_of : List ℕ → ℕ) (part : ℕ) (removals : List (Removal (List ℕ) Stored)) (old new : List Kept) → AreApart same old → ArePlaced part_of part old → TakesAway (removed_entries removals) old new → AreOf part_of part (notes_of removals)
of-removals part_of part [] old new a p t = tt
of-removals part_of part (gone ∷ removals) old new a p t =
    let removals2 = of-removals part_of part removals (remove old t.0) new (AreApart-remove same old t.0 a) (placed-away part_of part (gone ∷ []) old (remove old t.0) a p (t.0, t.1, refl)) t.2 in
    grind (arith, entry_of-at old t.0 gone.entry a t.1, removals2, remove old t.0, AreApart-remove same old t.0 a, placed-away part_of part (gone ∷ []) old (remove old t.0) a p (t.0, t.1, refl))

-- a key of another part is not touched
pub left-elsewhere : (part_of : List ℕ → ℕ) (part : ℕ) (notes : List Note) (xs : List HeldValue) (q : List ℕ) → have_own_keys xs ≡ true → AreOf part_of part notes → (part_of q ≡ part → ⊥) → value_at (left notes xs) q ≡ value_at xs q
left-elsewhere part_of part [] xs q a of other = refl
left-elsewhere part_of part (n ∷ notes) xs q a of other = grind (arith, left-elsewhere part_of part notes (items_without n.key xs) q (apart-items_without n.key xs a) of.1 other, apart-items_without n.key xs a, value_at-items_without n.key q xs a, equal_from_same q n.key)

-- ---- a part in the place of another

module _ {S : Type 0} where
  pub replaced-there : (k : ℕ) (t s : Part S) (parts : List (Part S)) → slice_get parts k ≡ Some s → slice_get (slice_set parts k t) k ≡ Some t
  replaced-there k t s [] there = absurd (none-some s there)
  replaced-there zero t s (x ∷ parts) there = refl
  replaced-there (suc k) t s (x ∷ parts) there = replaced-there k t s parts there

  pub replaced-other : (k j : ℕ) (t : Part S) (parts : List (Part S)) → (j ≡ k → ⊥) → slice_get (slice_set parts k t) j ≡ slice_get parts j
  replaced-other k j t [] other = refl
  replaced-other zero zero t (x ∷ parts) other = absurd (other refl)
  replaced-other zero (suc j) t (x ∷ parts) other = refl
  replaced-other (suc k) zero t (x ∷ parts) other = refl
  replaced-other (suc k) (suc j) t (x ∷ parts) other = replaced-other k j t parts (λ e. other (ap suc e))

  pub parted-at : (part_of : List ℕ → ℕ) (first k : ℕ) (parts : List (Part S)) (s : Part S) → AreParted part_of first parts → slice_get parts k ≡ Some s
      → AreApart same (held_entries s.records) × ArePlaced part_of (first + k) (held_entries s.records)
  parted-at part_of first k [] s p there = absurd (none-some s there)
  parted-at part_of first zero (x ∷ parts) s p there = grind (arith, ArePlaced part_of (first + 0))
  parted-at part_of first (suc k) (x ∷ parts) s p there = grind (arith, parted-at part_of (suc first) k parts s p.2 there)

  pub parted-with : (part_of : List ℕ → ℕ) (first k : ℕ) (t : Part S) (parts : List (Part S)) → AreParted part_of first parts → AreApart same (held_entries t.records) → ArePlaced part_of (first + k) (held_entries t.records)
      → AreParted part_of first (slice_set parts k t)
  parted-with part_of first k t [] p apart placed = tt
  parted-with part_of first zero t (x ∷ parts) p apart placed = (apart, (λ q e h. placed q e h ∙ omega arith), p.2)
  parted-with part_of first (suc k) t (x ∷ parts) p apart placed = (p.0, p.1, parted-with part_of (suc first) k t parts p.2 apart (λ q e h. placed q e h ∙ omega arith))

  -- under the keys of other parts stands what stood
  pub value_at-elsewhere : (part_of : List ℕ → ℕ) (first k : ℕ) (t : Part S) (parts : List (Part S)) (q : List ℕ) → AreParted part_of first parts → AreParted part_of first (slice_set parts k t) → (part_of q ≡ first + k → ⊥)
      → value_at (items_of first (slice_set parts k t)) q ≡ value_at (items_of first parts) q
  value_at-elsewhere part_of first k t [] q p r away = refl
  value_at-elsewhere part_of first zero t (x ∷ parts) q p r away =
      let here : (part_of q ≡ first → ⊥) = λ e. away (e ∙ omega arith) in
      value_at-both (items_in first t) (items_of (suc first) parts) q (not_here part_of first t q r.1 here)
      ∙ sym (value_at-both (items_in first x) (items_of (suc first) parts) q (not_here part_of first x q p.1 here))
  value_at-elsewhere part_of first (suc k) t (x ∷ parts) q p r away =
      same_front (items_in first x) (items_of (suc first) (slice_set parts k t)) (items_of (suc first) parts)
      (value_at-elsewhere part_of (suc first) k t parts q p.2 r.2 (λ e. away (e ∙ omega arith)))
    where
      same_front : (xs ys zs : List HeldValue) → value_at ys q ≡ value_at zs q → value_at (xs ++ ys) q ≡ value_at (xs ++ zs) q
      same_front [] ys zs e = e
      same_front (y ∷ xs) ys zs e = ap (λ o. cond (same q y.value.key) (Some y) o) (same_front xs ys zs e)

  -- ONE PART CHANGES UNDER A KEY, and so do the values held: they still correspond
  module _ (part_of : List ℕ → ℕ) (part : ℕ) (s t : Part S) (parts : List (Part S)) (held xs : List HeldValue) (key : List ℕ) (e : Option Kept) (h : Option HeldValue)
      (parted : AreParted part_of 0 parts) (there : slice_get parts part ≡ Some s) (c : Corresponds (items_of 0 parts) held) (at : part_of key ≡ part) (apart : AreApart same (held_entries t.records))
      (found : (q : List ℕ) → entry_of same (held_entries t.records) q ≡ cond (same q key) e (entry_of same (held_entries s.records) q))
      (cover : (x : Kept) → is_covered service_answers t x ≡ is_covered service_answers s x) where
    zero_plus : 0 + part ≡ part
    zero_plus = omega arith

    pub placed_changed : ArePlaced part_of (0 + part) (held_entries t.records)
    placed_changed q x f = elim (cases_Bool (same q key)) [
      | inl same_key ↦ ap part_of (equal_from_same q key same_key) ∙ at ∙ sym zero_plus
      | inr other ↦ (parted-at part_of 0 part parts s parted there).1 q x (rw other at (sym (found q) ∙ f))
    ]

    pub parted_changed : AreParted part_of 0 (slice_set parts part t)
    parted_changed = parted-with part_of 0 part t parts parted apart placed_changed

    pub corresponds_changed : have_own_keys xs ≡ true → ((q : List ℕ) → value_at xs q ≡ cond (same q key) h (value_at held q)) → option_map plain h ≡ option_map (as_held_value part t) e → Corresponds (items_of 0 (slice_set parts part t)) xs
    corresponds_changed apart_xs held_is is =
        corresponds_from (items_of 0 (slice_set parts part t)) xs (apart-of part_of 0 (slice_set parts part t) parted_changed) apart_xs (λ q. ap (option_map plain) (held_is q) ∙ by_part q (decides (part_of q) (0 + part)))
      where
        covers : (o : Option Kept) → option_map (as_held_value (0 + part) s) o ≡ option_map (as_held_value (0 + part) t) o
        covers None = refl
        covers (Some x) = ap (λ b. Some (record (as_held_value (0 + part) s x) { covered = b })) (sym (cover x))

        by_part : (q : List ℕ) → Dec (part_of q ≡ 0 + part) → option_map plain (cond (same q key) h (value_at held q)) ≡ value_at (items_of 0 (slice_set parts part t)) q
        by_part q (yes here) =
            by_key ∙ ap (option_map (as_held_value (0 + part) t)) (sym (found q)) ∙ sym (value_at-part part_of 0 part (slice_set parts part t) t q parted_changed (replaced-there part t s parts there) here)
          where
            by_key : option_map plain (cond (same q key) h (value_at held q)) ≡ option_map (as_held_value (0 + part) t) (cond (same q key) e (entry_of same (held_entries s.records) q))
            by_key = elim (cases_Bool (same q key)) [
              | inl k ↦ rw k (is ∙ ap (λ m. option_map (as_held_value m t) e) (sym zero_plus))
              | inr k ↦ rw k (c.found q ∙ value_at-part part_of 0 part parts s q parted there here ∙ covers (entry_of same (held_entries s.records) q))
            ]
        by_part q (no away) =
            ap (λ b. option_map plain (cond b h (value_at held q))) (false_from_ne_true (same q key) (λ is_key. away (ap part_of (equal_from_same q key is_key) ∙ at ∙ sym zero_plus)))
            ∙ c.found q ∙ sym (value_at-elsewhere part_of 0 part t parts q parted parted_changed away)

  -- what is found under a key after entries were taken away and their values told
  pub found-away : (part : ℕ) (s : Part S) (removals : List (Removal (List ℕ) Stored)) (old new : List Kept) (items : List HeldValue) → AreApart same old → have_own_keys items ≡ true → TakesAway (removed_entries removals) old new
      → (q : List ℕ) → value_at items q ≡ option_map (as_held_value part s) (entry_of same old q) → value_at (left (notes_of removals) items) q ≡ option_map (as_held_value part s) (entry_of same new q)
  found-away part s [] old new items a b t q e = e ∙ ap (λ es. option_map (as_held_value part s) (entry_of same es q)) (sym t)
  found-away part s (gone ∷ removals) old new items a b t q e =
      let away = found-away part s removals (remove old t.0) new (items_without gone.entry.key items) (AreApart-remove same old t.0 a) (apart-items_without gone.entry.key items b) t.2 q in
      let value = value_at-items_without gone.entry.key q items b in
      let other = entry_of-other old t.0 gone.entry q t.1 in
      grind (arith, away, remove old t.0, AreApart-remove same old t.0 a, apart-items_without gone.entry.key items b, value, equal_from_same q gone.entry.key, entry_of-gone old t.0 gone.entry a t.1, other)

  -- THE PARTS AFTER A RUN OF ONE: the values that are left correspond
  pub corresponds-run : (part_of : List ℕ → ℕ) (k : ℕ) (t new : Part S) (parts : List (Part S)) (held : List HeldValue) (removals : List (Removal (List ℕ) Stored)) → AreParted part_of 0 parts → slice_get parts k ≡ Some t
      → TakesAway (removed_entries removals) (held_entries t.records) (held_entries new.records)
      → ((q : List ℕ) (e : Kept) → entry_of same (held_entries new.records) q ≡ Some e → is_covered service_answers new e ≡ is_covered service_answers t e)
      → Corresponds (items_of 0 parts) held → Corresponds (items_of 0 (slice_set parts k new)) (left (notes_of removals) held)
  corresponds-run part_of k t new parts held removals p there takes cover c =
      corresponds_from (items_of 0 (slice_set parts k new)) (left (notes_of removals) held) (apart-of part_of 0 (slice_set parts k new) parted) (apart-left (notes_of removals) held c.apart)
      (λ q. (corresponds-left (notes_of removals) (items_of 0 parts) held apart_items c).found q ∙ go q)
    where
      at : AreApart same (held_entries t.records) × ArePlaced part_of (0 + k) (held_entries t.records)
      at = parted-at part_of 0 k parts t p there

      apart_items : have_own_keys (items_of 0 parts) ≡ true
      apart_items = apart-of part_of 0 parts p

      parted : AreParted part_of 0 (slice_set parts k new)
      parted = parted-with part_of 0 k new parts p (away removals (held_entries t.records) (held_entries new.records) at.0 takes)
          (placed-away part_of (0 + k) removals (held_entries t.records) (held_entries new.records) at.0 at.1 takes)

      covers : (q : List ℕ) (o : Option Kept) → entry_of same (held_entries new.records) q ≡ o → option_map (as_held_value (0 + k) t) o ≡ option_map (as_held_value (0 + k) new) o
      covers q None e = refl
      covers q (Some x) e = ap (λ b. Some (record (as_held_value (0 + k) t x) { covered = b })) (sym (cover q x e))

      by_part : (q : List ℕ) → Dec (part_of q ≡ 0 + k) → value_at (left (notes_of removals) (items_of 0 parts)) q ≡ value_at (items_of 0 (slice_set parts k new)) q
      by_part q (yes e) =
          found-away (0 + k) t removals (held_entries t.records) (held_entries new.records) (items_of 0 parts) at.0 apart_items takes q (value_at-part part_of 0 k parts t q p there e)
          ∙ covers q (entry_of same (held_entries new.records) q) refl
          ∙ sym (value_at-part part_of 0 k (slice_set parts k new) new q parted (replaced-there k new t parts there) e)
      by_part q (no e) =
          left-elsewhere part_of (0 + k) (notes_of removals) (items_of 0 parts) q apart_items (of-removals part_of (0 + k) removals (held_entries t.records) (held_entries new.records) at.0 at.1 takes) e
          ∙ sym (value_at-elsewhere part_of 0 k new parts q p parted e)

      go : (q : List ℕ) → value_at (left (notes_of removals) (items_of 0 parts)) q ≡ value_at (items_of 0 (slice_set parts k new)) q
      go q = by_part q (decides (part_of q) (0 + k))

-- ---- what a step leaves of the marks of parts that it does not touch

-- no note of another part starts a part's points anew
none_elsewhere : (part_of : List ℕ → ℕ) (part j : ℕ) (values : List Value) (notes : List Note) → (j ≡ part → ⊥) → ((q : List ℕ) (v : Value) → find (λ (x : Value). same q x.key) values ≡ Some v → v.part ≡ part_of q) → AreOf part_of part notes
    → tells_size j values notes ≡ false
none_elsewhere part_of part j values [] other right of = refl
none_elsewhere part_of part j values (n ∷ notes) other right of = or_from _ _ (and_right _ _ (unsized (find (λ (v : Value). same n.key v.key) values) refl)) (none_elsewhere part_of part j values notes other right of.1)
  where
    unsized : (o : Option Value) → find (λ (v : Value). same n.key v.key) values ≡ o → option_map_or (λ (v : Value). v.part == j) o false ≡ false
    unsized None e = refl
    unsized (Some v) e = ne_eqb v.part j (λ f. other (sym f ∙ right n.key v e ∙ of.0))

pub find-candidates : (cand : HeldValue → Candidate) → ((h : HeldValue) → (cand h).value ≡ h.value) → (held : List HeldValue) (tail : List Candidate) (part_of : List ℕ → ℕ)
    → ((q : List ℕ) (h : HeldValue) → value_at held q ≡ Some h → h.value.part ≡ part_of q)
    → ((q : List ℕ) (v : Value) → find (λ (x : Value). same q x.key) (map (λ (c : Candidate). c.value) tail) ≡ Some v → v.part ≡ part_of q)
    → (q : List ℕ) (v : Value) → find (λ (x : Value). same q x.key) (map (λ (c : Candidate). c.value) (map cand held ++ tail)) ≡ Some v → v.part ≡ part_of q
find-candidates cand same_value held tail part_of right later q v e = go held (right q) e
  where
    go : (xs : List HeldValue) → ((h : HeldValue) → value_at xs q ≡ Some h → h.value.part ≡ part_of q) → find (λ (x : Value). same q x.key) (map (λ (c : Candidate). c.value) (map cand xs ++ tail)) ≡ Some v → v.part ≡ part_of q
    go [] r e = later q v e
    go (x ∷ xs) r e =
        let e = ap (λ (y : Value). cond (same q y.key) (Some y) (find (λ (x : Value). same q x.key) (map (λ (c : Candidate). c.value) (map cand xs ++ tail)))) (sym (same_value x)) ∙ e in
        elim (cases_Bool (same q x.value.key)) [
          | inl f ↦ ap (λ (y : Value). y.part) (sym (same_Some x.value v (rw f at e))) ∙ r x (ap (λ b. cond b (Some x) (value_at xs q)) f)
          | inr f ↦ go xs (λ h g. r h (ap (λ b. cond b (Some x) (value_at xs q)) f ∙ g)) (rw f at e)
        ]

module _ {S : Type 0} (config : Config) (part_of : List ℕ → ℕ) (now : ℕ) (parts : List (Part S)) (held : List HeldValue) (parted : AreParted part_of 0 parts) (c : Corresponds (items_of 0 parts) held) where
  -- a value held is in its key's part
  pub in_part : (count : (q : List ℕ) → (s : Part S) × (slice_get parts (part_of q) ≡ Some s)) → (q : List ℕ) (h : HeldValue) → value_at held q ≡ Some h → h.value.part ≡ part_of q
  in_part count q h e =
      let s = count q in
      let zero_plus : 0 + part_of q ≡ part_of q = omega arith in
      go s.0 (entry_of same (held_entries s.0.records) q) (ap (option_map plain) (sym e) ∙ c.found q ∙ value_at-part part_of 0 (part_of q) parts s.0 q parted s.1 (sym zero_plus)) zero_plus
    where
      go : (s : Part S) (o : Option Kept) → Some (plain h) ≡ option_map (as_held_value (0 + part_of q) s) o → 0 + part_of q ≡ part_of q → h.value.part ≡ part_of q
      go s None e z = absurd (none-some (plain h) (sym e))
      go s (Some x) e z = let is : plain h ≡ as_held_value (0 + part_of q) s x = cc in ap (λ (g : HeldValue). g.value.part) is ∙ z

  -- a record held is in its part
  pub owner_part : (j : ℕ) (s : Part S) → slice_get parts j ≡ Some s → (owner : Rec) → record_at s.records owner.number ≡ Some owner → owner.is_held ≡ true
      → (entry_of same (held_entries s.records) owner.entry.key ≡ Some owner.entry) × (part_of owner.entry.key ≡ j)
  owner_part j s there owner at held =
      let p = parted-at part_of 0 j parts s parted there in
      let place = held-without s.records owner.number owner at held in
      let e = entry_of-at (held_entries s.records) place.place owner.entry p.0 place.there in
      (e, p.1 owner.entry.key owner.entry e ∙ omega arith)

  -- MARKS OF OTHER PARTS STAY
  pub marks_elsewhere : (deed : Deed) (notes : List Note) (part j : ℕ) (s : Part S) (xs : List HeldValue) (values : List Value) → deed.syncs ≡ false → AreOf part_of part notes → (j ≡ part → ⊥) → slice_get parts j ≡ Some s
      → ((q : List ℕ) (h : HeldValue) → value_at held q ≡ Some h → h.value.part ≡ part_of q)
      → ((q : List ℕ) (v : Value) → find (λ (x : Value). same q x.key) (map (λ (c : Candidate). c.value) (candidates_of config (map (candidate_at config now) held) deed)) ≡ Some v → v.part ≡ part_of q)
      → ((q : List ℕ) → part_of q ≡ j → value_at xs q ≡ value_at held q)
      → AreMarked s held → AreMarked s (map (held_after config now held deed notes values) xs)
  marks_elsewhere deed notes part j s xs values no_sync of other there right found stays marked owner at is_held point h e = grind (arith, value_at-map, owner_part j s, true≢false, none-some h, none_elsewhere part_of part j)

  -- what is found among the candidates is in its key's part
  pub candidates_placed : (count : (q : List ℕ) → (s : Part S) × (slice_get parts (part_of q) ≡ Some s)) → (q : List ℕ) (v : Value) → find (λ (x : Value). same q x.key) (map (λ (c : Candidate). c.value) (map (candidate_at config now) held ++ [])) ≡ Some v → v.part ≡ part_of q
  candidates_placed count = find-candidates (candidate_at config now) (λ h. refl) held [] part_of (in_part count) (λ q v found. absurd (none-some v found))

  -- MARKS WHERE ONE PART CHANGES: its own, and those of others, which stay
  pub marks_everywhere : (deed : Deed) (notes : List Note) (part : ℕ) (s t : Part S) (xs : List HeldValue) (values : List Value) → deed.syncs ≡ false → AreOf part_of part notes → slice_get parts part ≡ Some s
      → ((q : List ℕ) → (s : Part S) × (slice_get parts (part_of q) ≡ Some s))
      → ((q : List ℕ) (v : Value) → find (λ (x : Value). same q x.key) (map (λ (c : Candidate). c.value) (candidates_of config (map (candidate_at config now) held) deed)) ≡ Some v → v.part ≡ part_of q)
      → ((q : List ℕ) → (part_of q ≡ part → ⊥) → value_at xs q ≡ value_at held q)
      → ((j : ℕ) (x : Part S) → slice_get parts j ≡ Some x → AreMarked x held)
      → AreMarked t (map (held_after config now held deed notes values) xs)
      → (j : ℕ) (x : Part S) → slice_get (slice_set parts part t) j ≡ Some x → AreMarked x (map (held_after config now held deed notes values) xs)
  marks_everywhere deed notes part s t xs values no_sync of there count found stays marked here j x at = go (decides j part)
    where
      go : Dec (j ≡ part) → AreMarked x (map (held_after config now held deed notes values) xs)
      go (yes is) =
          let both : Some t ≡ Some x = sym (replaced-there part t s parts there) ∙ ap (slice_get (slice_set parts part t)) (sym is) ∙ at in
          let one : t ≡ x = cc in
          subst (λ y. AreMarked y (map (held_after config now held deed notes values) xs)) one here
      go (no other) =
          let at_j : slice_get parts j ≡ Some x = sym (replaced-other part j t parts other) ∙ at in
          marks_elsewhere deed notes part j x xs values no_sync of other at_j (in_part count) found (λ q is. stays q (λ e. other (sym is ∙ e))) (marked j x at_j)
