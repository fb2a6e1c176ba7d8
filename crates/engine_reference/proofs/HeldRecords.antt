-- What is held after a record was changed or taken away.
use Rattle.std.proofs.Common.{inr, inl, arith, ◌≡◌, refl, ap, sym, ◌∙◌, ℕ, suc, true, false, cond, List, [], ◌∷◌, Some, eqb, ◌==◌}
use Rattle.std.specs.Prelude.{slice_get, remove}
use Rattle.std.proofs.lemmas.Bool.{cases_Bool}
use Rattle.engine_reference.specs.declared.data.Entry.{Entry}
use Rattle.engine_reference.specs.declared.data.Record.{Record}
use Rattle.engine_reference.specs.Records.{record_at, without_record, changed_at, held_entries}
use Rattle.std.proofs.lemmas.Bool.Decides.{nat_tests}

module _ {K V : Type 0} where
  pub record_at-number : (rs : List (Record K V)) (number : ℕ) (r : Record K V) → record_at rs number ≡ Some r → r.number ≡ number
  record_at-number [] number r h = absurd (cc)
  record_at-number (x ∷ rs) number r h = let next = record_at-number rs number r in grind (arith, nat_tests, next, h)

  -- bookkeeping on a record changes nothing of what is held
  pub held-changed : (number : ℕ) (change : Record K V → Record K V) → ((r : Record K V) → (change r).is_held ≡ r.is_held) → ((r : Record K V) → (change r).entry ≡ r.entry)
      → (rs : List (Record K V)) → held_entries (changed_at number change rs) ≡ held_entries rs
  held-changed number change held entry [] = refl
  held-changed number change held entry (r ∷ rs) = let next = held-changed number change held entry rs in grind (arith, nat_tests, next)

  -- a record that is not held goes: what is held stays
  pub held-without_other : (rs : List (Record K V)) (number : ℕ) (r : Record K V) → record_at rs number ≡ Some r → r.is_held ≡ false
      → held_entries (without_record number rs) ≡ held_entries rs
  held-without_other [] number r there out = refl
  held-without_other (x ∷ rs) number r there out = let next = held-without_other rs number r in grind (arith, nat_tests, there, next)

  -- where a held entry stands, and that it goes from there
  pub record GoesFrom (rs : List (Record K V)) (number : ℕ) (e : Entry K V) : Type 0 where
    pub place : ℕ
    pub there : slice_get (held_entries rs) place ≡ Some e
    pub after : held_entries (without_record number rs) ≡ remove (held_entries rs) place

  -- a record that is held goes: its entry goes, and the others stay
  pub held-without : (rs : List (Record K V)) (number : ℕ) (r : Record K V) → record_at rs number ≡ Some r → r.is_held ≡ true → GoesFrom rs number r.entry
  held-without [] number r there held = absurd (cc)
  held-without (x ∷ rs) number r there held =
      elim (cases_Bool (x.number == number)) [
        | inl e ↦ let h = rw e at there in let later = held-without rs number r in let same : x ≡ r = cc in let whole : held_entries (x ∷ rs) ≡ r.entry ∷ held_entries rs = ap (λ h. cond h (x.entry ∷ held_entries rs) (held_entries rs)) (ap (λ y. y.is_held) same ∙ held) ∙ ap (λ y. y.entry ∷ held_entries rs) same in record { place = 0; there = ap (λ es. slice_get es 0) whole; after = ap (λ b. held_entries (cond b rs (x ∷ without_record number rs))) e ∙ sym (ap (λ es. remove es 0) whole) }
        | inr e ↦ let h = rw e at there in past e (held-without rs number r h held)
      ]
    where
      past : eqb x.number number ≡ false → GoesFrom rs number r.entry → GoesFrom (x ∷ rs) number r.entry
      past t p = elim (cases_Bool x.is_held) [
        | inl h ↦ record {
          place = suc p.place;
          there = ap (λ b. slice_get (cond b (x.entry ∷ held_entries rs) (held_entries rs)) (suc p.place)) h ∙ p.there;
          after = ap (λ b. held_entries (cond b rs (x ∷ without_record number rs))) t
              ∙ ap (λ b. cond b (x.entry ∷ held_entries (without_record number rs)) (held_entries (without_record number rs))) h
              ∙ ap (λ es. x.entry ∷ es) p.after
              ∙ sym (ap (λ b. remove (cond b (x.entry ∷ held_entries rs) (held_entries rs)) (suc p.place)) h);
        }
        | inr h ↦ record {
          place = p.place;
          there = ap (λ b. slice_get (cond b (x.entry ∷ held_entries rs) (held_entries rs)) p.place) h ∙ p.there;
          after = ap (λ b. held_entries (cond b rs (x ∷ without_record number rs))) t
              ∙ ap (λ b. cond b (x.entry ∷ held_entries (without_record number rs)) (held_entries (without_record number rs))) h
              ∙ p.after
              ∙ sym (ap (λ b. remove (cond b (x.entry ∷ held_entries rs) (held_entries rs)) p.place) h);
        }
      ]
