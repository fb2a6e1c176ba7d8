-- Cells and the spots of their keys' hashes, as a cell comes, changes or goes.
use Rattle.std.proofs.Common.{◌≡◌, refl, ap, sym, ◌∙◌, subst, ℕ, Bool, true, false, ◌≤◌, arith, List, [], Option, Some, None, inl, inr, eqb, true≢false}
use Rattle.std.specs.List.{fold}
use Rattle.engine_reference.specs.Rules.Hashing.{hash_of_key}
use Rattle.std.specs.Cmp.{IsEquivalence}
use Rattle.std.proofs.lemmas.Bool.{eqb-true, eq-eqb, cases_Bool, and_parts, and_from}
use Rattle.engine_cells.specs.Keys.Spots.{tag_of, Spots, HasEntry, IsUnder, ComesUnder, OnlyGainsSpace}
use Rattle.engine_reference.specs.Records.{held_at}
use Rattle.engine_reference.specs.declared.data.Record.{Record}
use Rattle.engine_cells.specs.Cells.{cell_at, records_by_number}
use Rattle.engine_cells.specs.Spotted.{AreHashed, LeavesIf, is_match, AreSpotted}
use Rattle.engine_cells.proofs.Changes.{Gets, Loses, place_of}
use Rattle.engine_cells.proofs.Held.{held-there}
use Rattle.std.proofs.lemmas.Bool.Decides.{nat_tests}

-- keys that feed a hasher alike have one hash
pub hash-alike : {K S H : Type 0} (finish : H → ℕ) (write : H → List ℕ → H) (build_hasher : S → H) (hash_input : K → List (List ℕ)) (hasher : S) (a b : K) → hash_input a ≡ hash_input b
    → hash_of_key finish write build_hasher hash_input hasher b ≡ hash_of_key finish write build_hasher hash_input hasher a
hash-alike finish write build_hasher hash_input hasher a b same = ap (λ w. finish (fold write (build_hasher hasher) w)) (sym same)

-- what is looked for as a key that compares alike
pub alike-sought : {K : Type 0} (eq : K → K → Bool) (a b key : K) → IsEquivalence eq → eq a b ≡ true → eq key b ≡ eq key a
alike-sought eq a b key laws same = laws.symm key b ∙ sym (laws.congr a b key same) ∙ laws.symm a key

module _ {K V : Type 0} (eq : K → K → Bool) where
  -- a record that is looked for as another is
  pub record IsSoughtAs (c d : Record K V) : Type 0 where
    pub held : d.is_held ≡ c.is_held
    pub hash : d.hash ≡ c.hash
    pub key : (key : K) → eq key d.entry.key ≡ eq key c.entry.key

  -- a cell's record changes, and is looked for as before
  module _ (old new : List (Option (Record K V))) (spots : Spots) (i : ℕ) (c d : Record K V) (there : cell_at old i ≡ Some c) (gets : Gets old new i d) (alike : IsSoughtAs c d) (h : AreSpotted eq old spots) where
    as-before : (key : K) (j : ℕ) (o : Option (Record K V)) → cell_at new j ≡ o → is_match eq key o ≡ true → is_match eq key (cell_at old j) ≡ true
    as-before key j None at m = absurd (true≢false (sym m))
    as-before key j (Some x) at m = elim (place_of old new i j d x gets at) [
      | inl q ↦
          let parts = and_parts _ _ m in
          let held : c.is_held ≡ true = sym alike.held ∙ ap (λ y. y.is_held) (sym q.1) ∙ parts.0 in
          let same : eq key c.entry.key ≡ true = sym (alike.key key) ∙ ap (λ y. eq key y.entry.key) (sym q.1) ∙ parts.1 in
          ap (λ k. is_match eq key (cell_at old k)) q.0 ∙ ap (λ o. is_match eq key o) there ∙ and_from _ _ held same
      | inr f ↦ ap (λ o. is_match eq key o) f ∙ m
    ]

    pub spotted-gets : AreSpotted eq new spots
    spotted-gets = record {
      spotted = λ j x at held. elim (place_of old new i j d x gets at) [
        | inl q ↦
            let was_held = sym alike.held ∙ ap (λ y. y.is_held) (sym q.1) ∙ held in
            let hash : c.hash ≡ x.hash = sym alike.hash ∙ ap (λ y. y.hash) (sym q.1) in
            subst (λ k. IsUnder spots x.hash k) (sym q.0) (subst (λ n. IsUnder spots n i) hash (h.spotted i c there was_held))
        | inr f ↦ h.spotted j x f held
      ];
      only = λ hash j u.
          let o = h.only hash j u in
          elim (cases_Bool (eqb j i)) [
            | inl t ↦
                let same : j ≡ i = eqb-true j i t in
                let e : Some o.cell ≡ Some c = sym o.there ∙ ap (λ k. cell_at old k) same ∙ there in
                let is : o.cell ≡ c = cc in
                record {
                  cell = d;
                  there = ap (λ k. cell_at new k) same ∙ gets.there;
                  held = alike.held ∙ ap (λ y. y.is_held) (sym is) ∙ o.held;
                  tag_is = ap tag_of (alike.hash ∙ ap (λ y. y.hash) (sym is)) ∙ o.tag_is;
                }
            | inr f ↦ record {
              cell = o.cell;
              there = gets.others j (λ same. let t = eq-eqb j i same in absurd (cc)) ∙ o.there;
              held = o.held;
              tag_is = o.tag_is;
            }
          ];
      single = λ key j k a b. h.single key j k (as-before key j (cell_at new j) refl a) (as-before key k (cell_at new k) refl b);
    }

    pub hashed-gets : (hash_of : K → ℕ) → hash_of d.entry.key ≡ hash_of c.entry.key → AreHashed hash_of old → AreHashed hash_of new
    hashed-gets hash_of key hashed j x at held = elim (place_of old new i j d x gets at) [
      | inl q ↦
          let was_held = sym alike.held ∙ ap (λ y. y.is_held) (sym q.1) ∙ held in
          ap (λ y. y.hash) q.1 ∙ alike.hash ∙ hashed i c there was_held ∙ sym key ∙ ap (λ y. hash_of y.entry.key) (sym q.1)
      | inr f ↦ hashed j x f held
    ]

  -- a place no longer has a held record
  pub record Unholds (old new : List (Option (Record K V))) (i : ℕ) : Type 0 where
    pub gone : (c : Record K V) → cell_at new i ≡ Some c → c.is_held ≡ false
    pub others : (j : ℕ) → (j ≡ i → ⊥) → cell_at new j ≡ cell_at old j

  pub unholds-lost : (old new : List (Option (Record K V))) (i : ℕ) → Loses old new i → Unholds old new i
  unholds-lost old new i h = record { gone = λ c at. absurd (let e : None ≡ Some c = sym h.gone ∙ at in cc); others = h.others }

  pub unholds-changed : (old new : List (Option (Record K V))) (i : ℕ) (d : Record K V) → Gets old new i d → d.is_held ≡ false → Unholds old new i
  unholds-changed old new i d h off = record { gone = λ c at. (let e : Some d ≡ Some c = sym h.there ∙ at in let is : d ≡ c = cc in ap (λ y. y.is_held) (sym is) ∙ off); others = h.others }

  module _ (old new : List (Option (Record K V))) (spots after : Spots) (i : ℕ) (c : Record K V) (there : cell_at old i ≡ Some c) (unholds : Unholds old new i) (leaves : LeavesIf c.is_held spots after c.hash i) (h : AreSpotted eq old spots) where
    -- a held record stands elsewhere
    elsewhere : (j : ℕ) (x : Record K V) → cell_at new j ≡ Some x → x.is_held ≡ true → j ≡ i → ⊥
    elsewhere j x at held same = true≢false (sym held ∙ unholds.gone x (ap (λ k. cell_at new k) (sym same) ∙ at))

    stood : (j : ℕ) (x : Record K V) → cell_at new j ≡ Some x → x.is_held ≡ true → cell_at old j ≡ Some x
    stood j x at held = sym (unholds.others j (elsewhere j x at held)) ∙ at

    matched : (key : K) (j : ℕ) (o : Option (Record K V)) → cell_at new j ≡ o → is_match eq key o ≡ true → is_match eq key (cell_at old j) ≡ true
    matched key j None at m = absurd (true≢false (sym m))
    matched key j (Some x) at m = ap (λ o. is_match eq key o) (stood j x at (and_parts _ _ m).0) ∙ m

    stays : (b : Bool) → c.is_held ≡ b → LeavesIf b spots after c.hash i → (hash j : ℕ) → IsUnder spots hash j → (j ≡ i → ⊥) → IsUnder after hash j
    stays true e l hash j u off = l.others hash j u (λ _ same. off same)
    stays false e l hash j u off = subst (λ s. IsUnder s hash j) (sym l) u

    before : (b : Bool) → c.is_held ≡ b → LeavesIf b spots after c.hash i → (hash j : ℕ) → IsUnder after hash j → IsUnder spots hash j
    before true e l hash j u = l.only hash j u
    before false e l hash j u = subst (λ s. IsUnder s hash j) l u

    apart : (b : Bool) → c.is_held ≡ b → LeavesIf b spots after c.hash i → (hash j : ℕ) → IsUnder after hash j → j ≡ i → ⊥
    apart true e l hash j u same =
        let o = h.only hash j (l.only hash j u) in
        let f : Some o.cell ≡ Some c = sym o.there ∙ ap (λ k. cell_at old k) same ∙ there in
        let is : o.cell ≡ c = cc in
        let tag_is : tag_of hash ≡ tag_of c.hash = sym o.tag_is ∙ ap (λ y. tag_of y.hash) is in
        l.gone (subst (λ k. IsUnder after c.hash k) same (subst (λ t. HasEntry after.entries t j) tag_is u))
    apart false e l hash j u same =
        let o = h.only hash j (subst (λ s. IsUnder s hash j) l u) in
        let f : Some o.cell ≡ Some c = sym o.there ∙ ap (λ k. cell_at old k) same ∙ there in
        let is : o.cell ≡ c = cc in
        true≢false (sym o.held ∙ ap (λ y. y.is_held) is ∙ e)

    pub spotted-unholds : AreSpotted eq new after
    spotted-unholds = record {
      spotted = λ j x at held. stays c.is_held refl leaves x.hash j (h.spotted j x (stood j x at held) held) (elsewhere j x at held);
      only = λ hash j u.
          let o = h.only hash j (before c.is_held refl leaves hash j u) in
          record { cell = o.cell; there = unholds.others j (apart c.is_held refl leaves hash j u) ∙ o.there; held = o.held; tag_is = o.tag_is };
      single = λ key j k a b. h.single key j k (matched key j (cell_at new j) refl a) (matched key k (cell_at new k) refl b);
    }

    pub hashed-unholds : (hash_of : K → ℕ) → AreHashed hash_of old → AreHashed hash_of new
    hashed-unholds hash_of hashed j x at held = hashed j x (stood j x at held) held

    -- where it was held its place stood under its hash
    pub space-unholds : spots.space ≤ after.space
    space-unholds = grind (arith, nat_tests, leaves)

  -- a key that is not held matches nowhere
  pub none-matches : (cells : List (Option (Record K V))) (spots : Spots) (key : K) → AreSpotted eq cells spots → held_at eq (records_by_number cells) key ≡ None → (j : ℕ) → is_match eq key (cell_at cells j) ≡ false
  none-matches cells spots key h none j = elim (cases_Bool (is_match eq key (cell_at cells j))) [
    | inl m ↦ absurd (some j m (cell_at cells j) refl)
    | inr f ↦ f
  ]
    where
      some : (j : ℕ) → is_match eq key (cell_at cells j) ≡ true → (o : Option (Record K V)) → cell_at cells j ≡ o → ⊥
      some j m None at = true≢false (sym m ∙ ap (λ o. is_match eq key o) at)
      some j m (Some x) at = let e : None ≡ Some x = sym none ∙ held-there eq cells j key m (λ k n. h.single key j k m n) ∙ at in cc

  -- a held record comes whose key was not held
  module _ (old new : List (Option (Record K V))) (spots after : Spots) (i : ℕ) (c : Record K V) (laws : IsEquivalence eq) (vacant : cell_at old i ≡ None) (gets : Gets old new i c) (held : c.is_held ≡ true) (comes : ComesUnder spots after c.hash i)
      (alone : (j : ℕ) → is_match eq c.entry.key (cell_at old j) ≡ false) (h : AreSpotted eq old spots) where
    -- one that matches is the new one, or was there and then has another key
    mine : (key : K) (j : ℕ) (x : Record K V) → cell_at old j ≡ Some x → is_match eq key (Some x) ≡ true → eq key c.entry.key ≡ true → ⊥
    mine key j x at m same =
        let parts = and_parts _ _ m in
        let other : eq c.entry.key x.entry.key ≡ true = sym (laws.congr key c.entry.key x.entry.key same) ∙ parts.1 in
        true≢false (sym (and_from _ _ parts.0 other) ∙ sym (ap (λ o. is_match eq c.entry.key o) at) ∙ alone j)

    one : (key : K) (j k : ℕ) (o p : Option (Record K V)) → cell_at new j ≡ o → cell_at new k ≡ p → is_match eq key o ≡ true → is_match eq key p ≡ true → j ≡ k
    one key j k None p at to m n = absurd (true≢false (sym m))
    one key j k (Some x) None at to m n = absurd (true≢false (sym n))
    one key j k (Some x) (Some y) at to m n = elim (place_of old new i j c x gets at) [
      | inl a ↦ elim (place_of old new i k c y gets to) [
        | inl b ↦ a.0 ∙ sym b.0
        | inr g ↦ absurd (mine key k y g n (ap (λ z. eq key z.entry.key) (sym a.1) ∙ (and_parts _ _ m).1))
      ]
      | inr f ↦ elim (place_of old new i k c y gets to) [
        | inl b ↦ absurd (mine key j x f m (ap (λ z. eq key z.entry.key) (sym b.1) ∙ (and_parts _ _ n).1))
        | inr g ↦ h.single key j k (ap (λ o. is_match eq key o) f ∙ m) (ap (λ o. is_match eq key o) g ∙ n)
      ]
    ]

    pub spotted-inserted : AreSpotted eq new after
    spotted-inserted = record {
      spotted = λ j x at is_held. elim (place_of old new i j c x gets at) [
        | inl q ↦ subst (λ k. IsUnder after x.hash k) (sym q.0) (subst (λ n. IsUnder after n i) (ap (λ y. y.hash) (sym q.1)) comes.there)
        | inr f ↦ comes.others x.hash j (h.spotted j x f is_held)
      ];
      only = λ hash j u. elim (comes.only hash j u) [
        | inl v ↦
            let o = h.only hash j v in
            record {
              cell = o.cell;
              there = gets.others j (λ same. let e : Some o.cell ≡ None = sym o.there ∙ ap (λ k. cell_at old k) same ∙ vacant in cc) ∙ o.there;
              held = o.held;
              tag_is = o.tag_is;
            }
        | inr q ↦ record { cell = c; there = ap (λ k. cell_at new k) q.1 ∙ gets.there; held = held; tag_is = sym q.0 }
      ];
      single = λ key j k a b. one key j k (cell_at new j) (cell_at new k) refl refl a b;
    }

    pub hashed-inserted : (hash_of : K → ℕ) → c.hash ≡ hash_of c.entry.key → AreHashed hash_of old → AreHashed hash_of new
    hashed-inserted hash_of mine hashed j x at is_held = elim (place_of old new i j c x gets at) [
      | inl q ↦ ap (λ y. y.hash) q.1 ∙ mine ∙ ap (λ y. hash_of y.entry.key) (sym q.1)
      | inr f ↦ hashed j x f is_held
    ]

  -- more room changes nothing
  pub spotted-roomier : (cells : List (Option (Record K V))) (spots after : Spots) → OnlyGainsSpace spots after → AreSpotted eq cells spots → AreSpotted eq cells after
  spotted-roomier cells spots after gains h =
      record {
        spotted = λ i c at held. gains.others c.hash i (h.spotted i c at held);
        only = λ hash i u. h.only hash i (gains.only hash i u);
        single = h.single;
      }

  pub none-spotted : (spots : Spots) → ((hash place : ℕ) → IsUnder spots hash place → ⊥) → AreSpotted {K = K} {V = V} eq [] spots
  none-spotted spots none = record {
    spotted = λ i c at held. absurd (cc);
    only = λ hash i u. absurd (none hash i u);
    single = λ key i j a b. absurd (cc);
  }
