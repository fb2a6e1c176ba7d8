-- What is held after a look-up was held before it, and removals after a look-up.
use Rattle.std.proofs.Common.{◌≡◌, refl, ap, sym, ◌∙◌, subst, ℕ, ◌+◌, ◌-◌, ◌≤◌, arith, Bool, true, false, cond, ◌&&◌, List, [], ◌∷◌, length, Option, Some, None, option_map, inl, inr, eqb}
use Rattle.std.specs.Prelude.{MatchBool, MatchOption}
use Rattle.std.specs.Cmp.{IsEquivalence}
use Rattle.engine_reference.specs.declared.data.Record.{Record}
use Rattle.engine_reference.specs.Calls.{MaintainsIfDue, with_read, used_entry, with_removal_room, removal_rooms}
use Rattle.engine_reference.specs.Records.{held_at, held_entries, changed_at}
use Rattle.engine_reference.specs.Runs.{Runs, RunsToEnd, is_due}
use Rattle.engine_reference.specs.Scanning.{past, NotesLookUp}
use Rattle.engine_reference.specs.State.{State, Answers}
use Rattle.engine_reference.specs.Telling.{AreApart, entry_of}
use Rattle.engine_reference.specs.Visible.{visible_record}
use Rattle.engine_reference.proofs.StayingVisible.{taken_looks}
use Rattle.engine_reference.proofs.TellingSteps.{run_tells}
use Rattle.front_reference.specs.Parts.{freed, held_value, taken_out, TakesOut}
use Rattle.front_parts.specs.Looking.{RemovesAfterLook}
use Rattle.front_parts.proofs.Looked.{looked-rest}

abbrev pub parts_of : {K V : Type 0} → Record K V → K × V
parts_of r = (r.entry.key, r.entry.value)

module _ {K V : Type 0} (eq : K → K → Bool) where
  -- there is a held record of the key, of the same key and value
  pub record IsHeldAs (rs : List (Record K V)) (q : K) (r : Record K V) : Type 0 where
    pub owner : Record K V
    pub there : held_at eq rs q ≡ Some owner
    pub key : owner.entry.key ≡ r.entry.key
    pub value : owner.entry.value ≡ r.entry.value

  entry-held : (rs : List (Record K V)) (q : K) → entry_of eq (held_entries rs) q ≡ option_map (λ r. r.entry) (held_at eq rs q)
  entry-held [] q = refl
  entry-held (x ∷ rs) q = go x.is_held (entry-held rs q)
    where
      go : (b : Bool) → entry_of eq (held_entries rs) q ≡ option_map (λ r. r.entry) (held_at eq rs q)
          → entry_of eq (cond b (x.entry ∷ held_entries rs) (held_entries rs)) q ≡ option_map (λ r. r.entry) (cond (b && eq q x.entry.key) (Some x) (held_at eq rs q))
      go false later = later
      go true later = by_key (eq q x.entry.key)
        where
          by_key : (c : Bool) → cond c (Some x.entry) (entry_of eq (held_entries rs) q) ≡ option_map (λ r. r.entry) (cond c (Some x) (held_at eq rs q))
          by_key true = refl
          by_key false = later

  -- a change that keeps keys and values
  record Alike (f : Record K V → Record K V) (x : Record K V) : Type 0 where
    held : (f x).is_held ≡ x.is_held
    key : (f x).entry.key ≡ x.entry.key
    value : (f x).entry.value ≡ x.entry.value

  module _ (f : Record K V → Record K V) (alike : (x : Record K V) → Alike f x) (n : ℕ) (q : K) (r : Record K V) where
    held-changed : (rs : List (Record K V)) → held_at eq (changed_at n f rs) q ≡ Some r → IsHeldAs rs q r
    held-changed [] e = absurd (cc)
    held-changed (x ∷ rs) e = go (eqb x.number n) e (held-changed rs)
      where
        -- by whether the first is the key's
        first : (b : Bool) → (x.is_held && eq q x.entry.key) ≡ b → (y : Record K V) → (x.entry.key ≡ y.entry.key) → (x.entry.value ≡ y.entry.value) → (o : Option (Record K V))
            → cond b (Some y) o ≡ Some r → (o ≡ Some r → IsHeldAs rs q r) → IsHeldAs (x ∷ rs) q r
        first true t y key value o e later =
            let both : Some y ≡ Some r = e in
            let is : y ≡ r = cc in
            record {
              owner = x;
              there = ap (λ c. cond c (Some x) (held_at eq rs q)) t;
              key = key ∙ ap (λ z. z.entry.key) is;
              value = value ∙ ap (λ z. z.entry.value) is;
            }
        first false t y key value o e later =
            let k = later e in
            record { owner = k.owner; there = ap (λ c. cond c (Some x) (held_at eq rs q)) t ∙ k.there; key = k.key; value = k.value }

        go : (b : Bool) → held_at eq (cond b (f x ∷ rs) (x ∷ changed_at n f rs)) q ≡ Some r → (held_at eq (changed_at n f rs) q ≡ Some r → IsHeldAs rs q r) → IsHeldAs (x ∷ rs) q r
        go true e later =
            let a = alike x in
            let same : ((f x).is_held && eq q (f x).entry.key) ≡ (x.is_held && eq q x.entry.key) = ap (λ h. h && eq q (f x).entry.key) a.held ∙ ap (λ k. x.is_held && eq q k) a.key in
            first (x.is_held && eq q x.entry.key) refl (f x) (sym a.key) (sym a.value) (held_at eq rs q) (sym (ap (λ c. cond c (Some (f x)) (held_at eq rs q)) same) ∙ e)
            (λ there. record { owner = r; there = there; key = refl; value = refl })
        go false e later = first (x.is_held && eq q x.entry.key) refl x refl refl (held_at eq (changed_at n f rs) q) e later

module _ {K V P S R : Type 0} where
  -- room changes no hasher
  pub removal_room-hasher : (o : Option (Record K V)) (s : State K V P S R) → (with_removal_room o s).hasher ≡ s.hasher
  removal_room-hasher None s = refl
  removal_room-hasher (Some r) s = refl

module _ {K V P S R : Type 0} (answers : Answers K V P R) (eq : K → K → Bool) (laws : IsEquivalence eq) where
  held-run : (now : ℕ) (old new : State K V P S R) → AreApart eq (held_entries old.records) → Runs answers now old new → (q : K) (r : Record K V) → held_at eq new.records q ≡ Some r → IsHeldAs eq old.records q r
  held-run now old new apart run q r e =
      let t = run_tells answers now old new run in
      let there : entry_of eq (held_entries new.records) q ≡ Some r.entry = entry-held eq new.records q ∙ ap (λ o. option_map (λ z. z.entry) o) e in
      elim (taken_looks eq laws t.removals (held_entries old.records) (held_entries new.records) apart t.tells.entries q) [
        | inl same ↦ found (held_at eq old.records q) refl (sym (entry-held eq old.records q) ∙ sym same ∙ there)
        | inr gone ↦ absurd (let both : None ≡ Some r.entry = sym gone.0 ∙ there in cc)
      ]
    where
      found : (o : Option (Record K V)) → held_at eq old.records q ≡ o → option_map (λ z. z.entry) o ≡ Some r.entry → IsHeldAs eq old.records q r
      found None is h = absurd (let both : None ≡ Some r.entry = h in cc)
      found (Some x) is h =
          let both : Some x.entry ≡ Some r.entry = h in
          let same : x.entry ≡ r.entry = cc in
          record { owner = x; there = is; key = ap (λ z. z.key) same; value = ap (λ z. z.value) same }

  held-maintained : (now : ℕ) (old new : State K V P S R) → AreApart eq (held_entries old.records) → MaintainsIfDue answers now old new → (q : K) (r : Record K V) → held_at eq new.records q ≡ Some r → IsHeldAs eq old.records q r
  held-maintained now old new apart m q r e = go (is_due old now) m
    where
      go : (b : Bool) → MatchBool b (RunsToEnd answers now old new) (new ≡ old) → IsHeldAs eq old.records q r
      go true run = held-run now old new apart run.runs q r e
      go false same = record { owner = r; there = ap (λ s. held_at eq s.records q) (sym same) ∙ e; key = refl; value = refl }

  held-read : (o : Option (Record K V)) (hash now : ℕ) (s : State K V P S R) (q : K) (r : Record K V) → held_at eq (with_read answers o hash now s).records q ≡ Some r → IsHeldAs eq s.records q r
  held-read None hash now s q r e = record { owner = r; there = e; key = refl; value = refl }
  held-read (Some x) hash now s q r e =
      held-changed eq (λ y. record y { entry = used_entry answers s now y.entry }) (λ y. record { held = refl; key = refl; value = refl }) x.number q r s.records e

  -- what is held after a look-up was held before it
  pub held-looked : (key : K) (hash now : ℕ) (ignored : Bool) (old new : State K V P S R) → AreApart eq (held_entries old.records) → NotesLookUp answers eq key hash now ignored old new → (q : K) (r : Record K V) → held_at eq new.records q ≡ Some r → IsHeldAs eq old.records q r
  held-looked key hash now ignored old new apart h q r e =
      let k = held-read (past ignored (visible_record answers eq old now key)) hash now h.mid q r (ap (λ s. held_at eq s.records q) (sym h.reads) ∙ e) in
      let m = held-maintained now old h.mid apart h.maintains q k.owner k.there in
      record { owner = m.owner; there = m.there; key = m.key ∙ k.key; value = m.value ∙ k.value }

  -- ---- a removal after a look-up

  module _ (key : K) (hash now step : ℕ) (old roomy mid : State K V P S R) (apart : AreApart eq (held_entries old.records)) where
    -- what the removal finds
    pub record Finds (parts : K × V) (shown : Option V) : Type 0 where
      pub unsent : mid.unsent ≡ old.unsent
      pub few : length mid.writes ≤ length old.writes
      pub hasher : mid.hasher ≡ old.hasher
      pub settings : mid.settings ≡ old.settings
      pub looks : NotesLookUp answers eq key hash now false (record old { reserved = old.reserved + removal_rooms old.settings }) mid
      pub reserved : removal_rooms mid.settings ≤ mid.reserved
      pub own : (r : Record K V) → held_at eq mid.records key ≡ Some r → (parts.0 ≡ r.entry.key) × (parts.1 ≡ r.entry.value)
      pub told : (r : Record K V) → held_at eq mid.records key ≡ Some r → shown ≡ cond mid.settings.tells (Some r.entry.value) None

    pub finds : (parts : K × V) (shown : Option V) → roomy ≡ with_removal_room (held_at eq old.records key) old → Some parts ≡ option_map parts_of (held_at eq old.records key)
        → shown ≡ cond old.settings.tells (held_value eq old key) None → NotesLookUp answers eq key hash now false roomy mid → Finds parts shown
    finds parts shown room some show look = go (held_at eq old.records key) refl
      where
        go : (o : Option (Record K V)) → held_at eq old.records key ≡ o → Finds parts shown
        go None none = absurd (let both : Some parts ≡ None = some ∙ ap (λ h. option_map parts_of h) none in cc)
        go (Some x) there =
            let roomed : State K V P S R = record old { reserved = old.reserved + removal_rooms old.settings } in
            let looks : NotesLookUp answers eq key hash now false roomed mid = subst (λ s. NotesLookUp answers eq key hash now false s mid) (room ∙ ap (λ h. with_removal_room h old) there) look in
            let k = looked-rest answers eq key hash now false roomed mid looks in
            let settings : mid.settings ≡ old.settings = ap (λ s. s.settings) k.0 in
            let pair : K × V = (x.entry.key, x.entry.value) in
            let mine : Some parts ≡ Some pair = some ∙ ap (λ h. option_map parts_of h) there in
            let same : parts ≡ pair = cc in
            let before = λ (r : Record K V) (e : held_at eq mid.records key ≡ Some r). held-looked key hash now false roomed mid apart looks key r e in
            record {
              unsent = ap (λ s. s.unsent) k.0;
              few = k.1;
              hasher = ap (λ s. s.hasher) k.0;
              settings = settings;
              looks = looks;
              reserved = let roomy = ap (λ s. s.reserved) k.0 in let rooms = ap (λ s. removal_rooms s) settings in omega (arith, roomy, rooms);
              own = λ r e.
                  let h = before r e in
                  let both : Some x ≡ Some h.owner = sym there ∙ h.there in
                  let is : x ≡ h.owner = cc in
                  (ap (λ p. p.0) same ∙ ap (λ z. z.entry.key) is ∙ h.key, ap (λ p. p.1) same ∙ ap (λ z. z.entry.value) is ∙ h.value);
              told = λ r e.
                  let h = before r e in
                  let both : Some x ≡ Some h.owner = sym there ∙ h.there in
                  let is : x ≡ h.owner = cc in
                  show ∙ ap (λ o. cond old.settings.tells (option_map (λ z. z.entry.value) o) None) there ∙ ap (λ t. cond t (Some x.entry.value) None) (ap (λ s. s.tells) (sym settings))
                  ∙ ap (λ v. cond mid.settings.tells (Some v) None) (ap (λ z. z.entry.value) is ∙ h.value);
            }

    pub removes-some : (parts : K × V) (shown : Option V) (new : State K V P S R) (removed : Option V) → Finds parts shown → TakesOut answers eq key now (freed (removal_rooms mid.settings) mid) new → removed ≡ held_value eq mid key
        → RemovesAfterLook answers eq key hash now step old new removed
    removes-some parts shown new removed f takes gives = record {
      acts = record {
        rooms = removal_rooms old.settings;
        mid = mid;
        looks = f.looks;
        operates = subst (λ s. TakesOut answers eq key now (freed (removal_rooms s) mid) new) f.settings takes;
      };
      gives = gives;
    }

    -- where the key is not held nothing is removed
    pub removes-none : roomy ≡ with_removal_room (held_at eq old.records key) old → None ≡ option_map parts_of (held_at eq old.records key) → NotesLookUp answers eq key hash now false roomy mid
        → RemovesAfterLook answers eq key hash now step old mid None
    removes-none room none look = go (held_at eq old.records key) refl
      where
        go : (o : Option (Record K V)) → held_at eq old.records key ≡ o → RemovesAfterLook answers eq key hash now step old mid None
        go (Some x) there = absurd (let pair : K × V = (x.entry.key, x.entry.value) in let both : None ≡ Some pair = none ∙ ap (λ h. option_map parts_of h) there in cc)
        go None absent =
            let looks : NotesLookUp answers eq key hash now false old mid = subst (λ s. NotesLookUp answers eq key hash now false s mid) (room ∙ ap (λ h. with_removal_room h old) absent) look in
            let gone : held_at eq mid.records key ≡ None = not_held looks (held_at eq mid.records key) refl in
            let zero : old.reserved ≡ old.reserved + 0 = omega arith in
            let free : mid.reserved ≡ mid.reserved - 0 = omega arith in
            record {
              acts = record {
                rooms = 0;
                mid = mid;
                looks = subst (λ n. NotesLookUp answers eq key hash now false (record old { reserved = n }) mid) zero looks;
                operates = subst (λ o. MatchOption o (mid ≡ freed 0 mid) (λ r. MaintainsIfDue answers now (taken_out answers r now (freed 0 mid)) mid)) (sym gone) (ap (λ n. record mid { reserved = n }) free);
              };
              gives = sym (ap (λ h. option_map (λ r. r.entry.value) h) gone);
            }
          where
            not_held : NotesLookUp answers eq key hash now false old mid → (h : Option (Record K V)) → held_at eq mid.records key ≡ h → h ≡ None
            not_held looks None e = refl
            not_held looks (Some r) e = let k = held-looked key hash now false old mid apart looks key r e in absurd (let both : None ≡ Some k.owner = sym absent ∙ k.there in cc)
