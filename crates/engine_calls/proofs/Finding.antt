-- What is found under a key.
use Rattle.std.proofs.Common.{◌≡◌, refl, ap, sym, ◌∙◌, subst, ℕ, Bool, true, false, cond, ◌&&◌, ◌==◌, eqb, List, [], ◌∷◌, Option, Some, None}
use Rattle.std.specs.Option.{option_and_then}
use Rattle.std.proofs.lemmas.Bool.{and_parts}
use Rattle.std.proofs.lemmas.Option.{same_Some}
use Rattle.engine_reference.specs.declared.data.Record.{Record}
use Rattle.engine_reference.specs.Records.{held_at, record_at, changed_at}
use Rattle.engine_reference.specs.State.{State, Answers}
use Rattle.engine_reference.specs.Visible.{visible_record, is_visible, passing}
use Rattle.engine_reference.proofs.HeldRecords.{record_at-number}
use Rattle.engine_cells.specs.Kept.{Kept, kept_at, numbered_at}
use Rattle.engine_calls.specs.Finding.{IsFoundIn}

module _ {K V : Type 0} where
  of-number : (rs : List (Record K V)) (o : Option ℕ) (r : Record K V) → option_and_then (λ n. record_at rs n) o ≡ Some r → record_at rs r.number ≡ Some r
  of-number rs None r h = absurd (cc)
  of-number rs (Some n) r h = ap (λ m. record_at rs m) (record_at-number rs n r h) ∙ h

  -- what is held under a key is held, and its key compares alike
  pub held-match : (eq : K → K → Bool) (rs : List (Record K V)) (key : K) (r : Record K V) → held_at eq rs key ≡ Some r → (r.is_held && eq key r.entry.key) ≡ true
  held-match eq [] key r h = absurd (cc)
  held-match eq (x ∷ rs) key r h = go (x.is_held && eq key x.entry.key) refl h (held-match eq rs key r)
    where
      go : (b : Bool) → (x.is_held && eq key x.entry.key) ≡ b → cond b (Some x) (held_at eq rs key) ≡ Some r → (held_at eq rs key ≡ Some r → (r.is_held && eq key r.entry.key) ≡ true) → (r.is_held && eq key r.entry.key) ≡ true
      go true e h later = let same : x ≡ r = cc in ap (λ y. y.is_held && eq key y.entry.key) (sym same) ∙ e
      go false e h later = later h

  -- two changes that do the same to the record of a number
  pub changed-alike : (n : ℕ) (f g : Record K V → Record K V) (rs : List (Record K V)) (r : Record K V) → record_at rs n ≡ Some r → f r ≡ g r → changed_at n f rs ≡ changed_at n g rs
  changed-alike n f g [] r h e = refl
  changed-alike n f g (x ∷ rs) r h e = go (x.number == n) h (changed-alike n f g rs r)
    where
      go : (b : Bool) → cond b (Some x) (record_at rs n) ≡ Some r → (record_at rs n ≡ Some r → f r ≡ g r → changed_at n f rs ≡ changed_at n g rs) → cond b (f x ∷ rs) (x ∷ changed_at n f rs) ≡ cond b (g x ∷ rs) (x ∷ changed_at n g rs)
      go true h later = let same : x ≡ r = cc in ap (λ y. f y ∷ rs) same ∙ ap (λ y. y ∷ rs) e ∙ ap (λ y. g y ∷ rs) (sym same)
      go false h later = ap (λ l. x ∷ l) (later h e)

  -- a change to the record of a number that is not there
  pub changed-none : (n : ℕ) (f : Record K V → Record K V) (rs : List (Record K V)) → record_at rs n ≡ None → changed_at n f rs ≡ rs
  changed-none n f [] h = refl
  changed-none n f (x ∷ rs) h = go (x.number == n) h (changed-none n f rs)
    where
      go : (b : Bool) → cond b (Some x) (record_at rs n) ≡ None → (record_at rs n ≡ None → changed_at n f rs ≡ rs) → cond b (f x ∷ rs) (x ∷ changed_at n f rs) ≡ x ∷ rs
      go true h later = absurd (cc)
      go false h later = ap (λ l. x ∷ l) (later h)

  -- a change to the record of a number that is there
  pub changed-there : (n : ℕ) (f : Record K V → Record K V) → ((x : Record K V) → (f x).number ≡ x.number) → (rs : List (Record K V)) (r : Record K V) → record_at rs n ≡ Some r → record_at (changed_at n f rs) n ≡ Some (f r)
  changed-there n f same [] r h = absurd (cc)
  changed-there n f same (x ∷ rs) r h = go (eqb x.number n) refl h (changed-there n f same rs r)
    where
      go : (b : Bool) → eqb x.number n ≡ b → cond b (Some x) (record_at rs n) ≡ Some r → (record_at rs n ≡ Some r → record_at (changed_at n f rs) n ≡ Some (f r)) → record_at (cond b (f x ∷ rs) (x ∷ changed_at n f rs)) n ≡ Some (f r)
      go true t h later =
          let is : x ≡ r = cc in
          ap (λ m. cond (eqb m n) (Some (f x)) (record_at rs n)) (same x) ∙ ap (λ b. cond b (Some (f x)) (record_at rs n)) t ∙ ap (λ y. Some (f y)) is
      go false t h later = ap (λ b. cond b (Some x) (record_at (changed_at n f rs) n)) t ∙ later h

module _ {K V P S R : Type 0} where
  -- what stands in a place after a change of its record
  pub kept-changed : (t : Kept K V P S R) (place : ℕ) (r : Record K V) (f : Record K V → Record K V) → ((x : Record K V) → (f x).number ≡ x.number) → kept_at t place ≡ Some r
      → kept_at (record t { state = record t.state { records = changed_at r.number f t.state.records } }) place ≡ Some (f r)
  kept-changed t place r f same h = go (numbered_at t.numbers place) h
    where
      go : (o : Option ℕ) → option_and_then (λ n. record_at t.state.records n) o ≡ Some r → option_and_then (λ n. record_at (changed_at r.number f t.state.records) n) o ≡ Some (f r)
      go None h = absurd (cc)
      go (Some n) h =
          let is = record_at-number t.state.records n r h in
          ap (λ m. record_at (changed_at m f t.state.records) n) is ∙ changed-there n f same t.state.records r h

  -- the record in a place is that of its number
  pub kept-number : (t : Kept K V P S R) (place : ℕ) (r : Record K V) → kept_at t place ≡ Some r → record_at t.state.records r.number ≡ Some r
  kept-number t place r h = of-number t.state.records (numbered_at t.numbers place) r h

module _ {K V P S R : Type 0} (answers : Answers K V P R) (eq : K → K → Bool) (s : State K V P S R) (now : ℕ) (key : K) where
  -- the record of a key is visible, where its entry is
  pub visible-as : (r : Record K V) (b : Bool) → held_at eq s.records key ≡ Some r → is_visible answers s now r.entry ≡ b → visible_record answers eq s now key ≡ cond b (Some r) None
  visible-as r b held e = ap (λ o. passing (λ x. is_visible answers s now x.entry) o) held ∙ ap (λ c. cond c (Some r) None) e

module _ {K V P S R : Type 0} (eq : K → K → Bool) (t : Kept K V P S R) (hash place : ℕ) (key : K) where
  pub found-in : (r : Record K V) (o : Option (Record K V)) → kept_at t place ≡ Some r → held_at eq t.state.records key ≡ Some r → r.hash ≡ hash → o ≡ Some r → IsFoundIn t hash o place
  found-in r o there held hash_is is = record { found = r; is = is; there = there; held = (and_parts _ _ (held-match eq t.state.records key r held)).0; hash_is = hash_is }

module _ {K V P S R : Type 0} (Ignores : V → Bool → Type 0) (t : Kept K V P S R) (hash place : ℕ) (o : Option (Record K V)) where
  -- what was found was asked about
  pub asked-of : (b : Bool) → IsFoundIn t hash o place → ((r : Record K V) → kept_at t place ≡ Some r → Ignores r.entry.value b) → (r : Record K V) → o ≡ Some r → Ignores r.entry.value b
  asked-of b f asked r e = subst (λ (x : Record K V). Ignores x.entry.value b) (same_Some f.found r (sym f.is ∙ e)) (asked f.found f.there)
