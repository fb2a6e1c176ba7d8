-- The pairs of all parts of a front are those that are visible in it.
use Rattle.std.proofs.Common.{◌≡◌, refl, ap, sym, ◌∙◌, subst, ℕ, zero, suc, ◌<◌, inl, inr, arith, Bool, true, false, cond, List, [], ◌∷◌, length, Option, Some, None, option_map}
use Rattle.std.specs.Cmp.{IsEquivalence}
use Rattle.std.specs.Prelude.{slice_get, map}
use Rattle.engine_reference.proofs.StayingVisible.{entry_of-there, visible_by_entries}
use Rattle.engine_reference.specs.declared.data.Entry.{Entry}
use Rattle.engine_reference.specs.Records.{held_entries}
use Rattle.engine_reference.specs.Scanning.{held_keys}
use Rattle.engine_reference.specs.State.{State, Answers}
use Rattle.engine_reference.specs.Telling.{AreApart, entry_of}
use Rattle.engine_reference.specs.Visible.{is_visible, passing, visible, visible_value}
use Rattle.front_reference.specs.Fronts.{Front, part_by_hash, part_of}
use Rattle.front_reference.specs.Wholes.{HasGiven}
use Rattle.front_parts.specs.Iterator.Coming.{Source, all_pairs, keys_from}
use Rattle.front_parts.proofs.iterator.Keyed.{Apart, Has, apart-from, first-or, from-segment, has-mapped, has-pair, in-segment, mapped, of-pair, once-pairs}

both : (b : Bool) → b ≡ true → b ≡ false → ⊥
both true a b = cc
both false a b = cc

module _ {K V : Type 0} (eq : K → K → Bool) (laws : IsEquivalence eq) where
  cond_none : (b : Bool) (e : Entry K V) (o : Option (Entry K V)) → cond b (Some e) o ≡ None → (b ≡ false) × (o ≡ None)
  cond_none true e o h = absurd (let no : ⊥ = cc in no)
  cond_none false e o h = (refl, h)

  none-like : (es : List (Entry K V)) (k : K) → entry_of eq es k ≡ None → (e : Entry K V) → Has es e → eq k e.key ≡ false
  none-like [] k none e h = absurd (let n = h.1 in let no : ⊥ = cc in no)
  none-like (x ∷ es) k none e h =
      let p = cond_none (eq k x.key) x (entry_of eq es k) none in
      elim (first-or x es e h) [ inl same ↦ ap (λ (y : Entry K V). eq k y.key) (sym same) ∙ p.0 | inr there ↦ none-like es k p.1 e there ]

  -- keys of entries that are apart
  apart-keys : (es : List (Entry K V)) → AreApart eq es → Apart eq laws (map (λ e. e.key) es)
  apart-keys [] h = tt
  apart-keys (x ∷ es) h = (
    (λ l there alike.
        let m = mapped (λ (e : Entry K V). e.key) es l there in
        both (eq x.key l) alike (ap (λ y. eq x.key y) (sym m.2) ∙ none-like es x.key h.0 m.0 m.1)),
    apart-keys es h.1,
  )

  -- the entry of an entry's own key
  own-entry : (es : List (Entry K V)) (e : Entry K V) → AreApart eq es → Has es e → entry_of eq es e.key ≡ Some e
  own-entry [] e h there = absurd (let n = there.1 in let no : ⊥ = cc in no)
  own-entry (x ∷ es) e h there = elim (first-or x es e there) [
    | inl same ↦ ap (λ b. cond b (Some x) (entry_of eq es e.key)) (ap (λ (y : Entry K V). eq e.key y.key) same ∙ laws.refl e.key) ∙ ap Some same
    | inr more ↦ ap (λ b. cond b (Some x) (entry_of eq es e.key)) (laws.symm e.key x.key ∙ none-like es x.key h.0 e more) ∙ own-entry es e h.1 more
  ]

passed : {X : Type 0} (test : X → Bool) (o : Option X) (x : X) → passing test o ≡ Some x → (o ≡ Some x) × (test x ≡ true)
passed test None x h = absurd (let no : ⊥ = cc in no)
passed test (Some y) x h = go (test y) refl h
  where
    go : (b : Bool) → test y ≡ b → cond b (Some y) None ≡ Some x → (Some y ≡ Some x) × (test x ≡ true)
    go true is h = let same : y ≡ x = cc in (h, ap test (sym same) ∙ is)
    go false is h = absurd (let no : ⊥ = cc in no)

has-value : {X Y : Type 0} (f : X → Y) (o : Option X) (y : Y) → option_map f o ≡ Some y → (x : X) × (o ≡ Some x) × (f x ≡ y)
has-value f None y h = absurd (let no : ⊥ = cc in no)
has-value f (Some x) y h = let same : f x ≡ y = cc in (x, refl, same)

module _ {K V P S R : Type 0} (answers : Answers K V P R) where
  -- what an iterator over a front rests on: each part holds its own keys, and none twice
  pub record IsSpread (eq : K → K → Bool) (hash : K → ℕ) (f : Front K V P S R) : Type 0 where
    pub apart : (place : ℕ) (s : State K V P S R) → slice_get f.parts place ≡ Some s → AreApart eq (held_entries s.records)
    pub belong : (place : ℕ) (s : State K V P S R) (e : Entry K V) → slice_get f.parts place ≡ Some s → Has (held_entries s.records) e → part_of f.bits (hash e.key) ≡ place

  -- it goes over a front as of a moment
  pub record GoesOver (eq : K → K → Bool) (hash : K → ℕ) (now : ℕ) (f : Front K V P S R) (source : Source K V) : Type 0 where
    pub segments : source.segments ≡ length f.parts
    pub keys : (place : ℕ) (s : State K V P S R) → slice_get f.parts place ≡ Some s → source.keys_in place ≡ held_keys s.records
    pub values : (key : K) (s : State K V P S R) → part_by_hash f (hash key) ≡ Some s → source.value_of key ≡ visible_value answers eq s now key

  module _ (eq : K → K → Bool) (laws : IsEquivalence eq) (hash : K → ℕ) (now : ℕ) (f : Front K V P S R) (source : Source K V) (spread : IsSpread eq hash f) (over : GoesOver eq hash now f source) where
    part_there : (place : ℕ) → place < length f.parts → (s : State K V P S R) × (slice_get f.parts place ≡ Some s)
    part_there place low = there f.parts place low
      where
        there : (xs : List (State K V P S R)) (i : ℕ) → i < length xs → (s : State K V P S R) × (slice_get xs i ≡ Some s)
        there [] i low = absurd (omega arith)
        there (x ∷ xs) zero low = (x, refl)
        there (x ∷ xs) (suc i) low = there xs i (omega arith)

    -- a key of a part is that of an entry that is held there
    held_key : (place : ℕ) (s : State K V P S R) (k : K) → slice_get f.parts place ≡ Some s → Has (source.keys_in place) k → (e : Entry K V) × Has (held_entries s.records) e × (e.key ≡ k)
    held_key place s k at h = mapped (λ (e : Entry K V). e.key) (held_entries s.records) k (subst (λ ks. Has ks k) (over.keys place s at) h)

    belongs : (place : ℕ) (k : K) → place < length f.parts → Has (source.keys_in place) k → part_of f.bits (hash k) ≡ place
    belongs place k low h =
        let p = part_there place low in
        let e = held_key place p.0 k p.1 h in
        ap (λ x. part_of f.bits (hash x)) (sym e.2) ∙ spread.belong place p.0 e.0 p.1 e.1

    all_apart : ((x y : K) → eq x y ≡ true → hash x ≡ hash y) → Apart eq laws (keys_from source.keys_in source.segments 0)
    all_apart respects =
        let same = over.segments in
        apart-from eq laws source.keys_in source.segments 0
        (λ q low high. let p = part_there q (omega arith) in subst (λ ks. Apart eq laws ks) (sym (over.keys q p.0 p.1)) (apart-keys eq laws (held_entries p.0.records) (spread.apart q p.0 p.1)))
        (λ p q k l less high low one other alike.
        let one_place : p ≡ q = sym (belongs p k (omega arith) one) ∙ ap (λ h. part_of f.bits h) (respects k l alike) ∙ belongs q l (omega arith) other in
        absurd (omega arith))

    visible_as : (s : State K V P S R) (k : K) → visible answers eq s now k ≡ passing (is_visible answers s now) (entry_of eq (held_entries s.records) k)
    visible_as s k = visible_by_entries eq answers s now k

    -- all that is to come is all that is visible
    pub all_given : ((x y : K) → eq x y ≡ true → hash x ≡ hash y) → HasGiven answers eq hash now f (length f.parts) (all_pairs source)
    all_given respects =
        let same = over.segments in
        record {
          once = once-pairs eq laws source.value_of (keys_from source.keys_in source.segments 0) (all_apart respects);
          right = λ a x at.
              let of = of-pair source.value_of (keys_from source.keys_in source.segments 0) x (a, at) in
              let seg = from-segment source.keys_in source.segments 0 x.0 of.0 in
              let low = seg.2 in
              let within : seg.0 < length f.parts = omega arith in
              let p = part_there seg.0 within in
              let there : part_by_hash f (hash x.0) ≡ Some p.0 = ap (λ n. slice_get f.parts n) (belongs seg.0 x.0 within seg.3) ∙ p.1 in
              let seen = has-value (λ (e : Entry K V). e.value) (visible answers eq p.0 now x.0) x.1 (sym (over.values x.0 p.0 there) ∙ of.1) in
              let held = held_key seg.0 p.0 x.0 p.1 seg.3 in
              let own : entry_of eq (held_entries p.0.records) x.0 ≡ Some held.0 = ap (λ k. entry_of eq (held_entries p.0.records) k) (sym held.2) ∙ own-entry eq laws (held_entries p.0.records) held.0 (spread.apart seg.0 p.0 p.1) held.1 in
              let pass = passed (is_visible answers p.0 now) (entry_of eq (held_entries p.0.records) x.0) seen.0 (sym (visible_as p.0 x.0) ∙ seen.1) in
              let both : Some seen.0 ≡ Some held.0 = sym pass.0 ∙ own in
              let one : held.0 ≡ seen.0 = cc in
              (p.0, there, (seen.0, seen.1, ap (λ (e : Entry K V). e.key) (sym one) ∙ held.2, seen.2));
          all = λ s key e low there is.
              let place = part_of f.bits (hash key) in
              let pass = passed (is_visible answers s now) (entry_of eq (held_entries s.records) key) e (sym (visible_as s key) ∙ is) in
              let held : Has (held_entries s.records) e = entry_of-there eq (held_entries s.records) key e pass.0 in
              let mine : part_of f.bits (hash e.key) ≡ place = spread.belong place s e there held in
              let own = own-entry eq laws (held_entries s.records) e (spread.apart place s there) held in
              let at : part_by_hash f (hash e.key) ≡ Some s = ap (λ n. slice_get f.parts n) mine ∙ there in
              let seen : visible answers eq s now e.key ≡ Some e = visible_as s e.key ∙ ap (λ o. passing (is_visible answers s now) o) own ∙ ap (λ b. cond b (Some e) None) pass.1 in
              let key_there : Has (source.keys_in place) e.key = subst (λ ks. Has ks e.key) (sym (over.keys place s there)) (has-mapped (λ (x : Entry K V). x.key) (held_entries s.records) e held) in
              has-pair source.value_of (keys_from source.keys_in source.segments 0) e.key e.value
              (in-segment source.keys_in source.segments 0 place e.key (omega arith) (omega arith) key_there)
              (over.values e.key s at ∙ ap (λ o. option_map (λ (x : Entry K V). x.value) o) seen);
        }
