-- What comes into a table of slots, and what is looked for there.
use Rattle.std.proofs.Common.{◌≡◌, ap, sym, ◌∙◌, subst, ℕ, ◌+◌, ◌<◌, ◌≤◌, ◌⊎◌, inl, inr, arith, List, length, set, take, length-set}
use Rattle.std.proofs.lemmas.Bool.{cases_lt, cases_eq, lt-ltb, le-ltb}
use Rattle.std.proofs.lemmas.List.Sums.{count_by_more_yes, count_by_more_no}
use Rattle.std.proofs.lemmas.List.{take_all}
use Rattle.std.specs.Prelude.{nat_lt, Option, Some, None, IfNone}
use Rattle.engine_cells.specs.declared.keys.Slot.{Slot}
use Rattle.engine_cells.specs.Keys.Spots.{tag_of, ComesUnder, LeavesFrom, OnlyGainsSpace}
use Rattle.engine_cells.specs.Keys.Slots.{entries_in, nowhere, vacant_slot, slot_at, HoldsPlace, taken_in, home_of, steps_on, steps_to, IsOnWay, Has, HasAll, AreFound, IsFirstVacant, Adds, Loses}
use Rattle.engine_cells.proofs.keys.Around.{home-below, to-below, on-to, reaches}
use Rattle.engine_cells.proofs.keys.Tables.{at-set, off-set, taken-within, taken-more, all-taken, has-among, among-has, both}

-- what is so of each slot within so many steps from a home is so of each slot
pub all-seen : (many home : ℕ) (P : ℕ → Type 0) → home < many → ((t : ℕ) → t < many → P (steps_on many home t)) → (k : ℕ) → k < many → P k
all-seen many home P within each k less = subst P (on-to many home k within less) (each (steps_to many home k) (to-below many home k within less))

-- the first vacant slot of a walk
pub first-vacant : (xs : List Slot) (tag n home steps at : ℕ) → n ≡ length xs → home ≡ home_of tag n → steps < length xs → at ≡ steps_on n home steps
    → ((t : ℕ) → t < steps → HoldsPlace xs (steps_on n home t)) → nowhere ≤ (slot_at xs at).place → IsFirstVacant xs tag at
first-vacant xs tag n home steps at many is less on before none =
    let home_is : home ≡ home_of tag (length xs) = is ∙ ap (λ k. home_of tag k) many in
    let f : home < length xs = omega (arith, home_is, home-below tag (length xs) (omega arith)) in
    let here = reaches n (length xs) home steps at many f less on in
    record {
      within = here.1;
      vacant = none;
      before = λ k within nearer.
          let e : steps_to (length xs) (home_of tag (length xs)) k ≡ steps_to (length xs) home k = ap (λ h. steps_to (length xs) h k) (sym home_is) in
          let e' : steps_to (length xs) (home_of tag (length xs)) at ≡ steps_to (length xs) home at = ap (λ h. steps_to (length xs) h at) (sym home_is) in
          subst (λ i. HoldsPlace xs i) (ap (λ m. steps_on m home (steps_to (length xs) home k)) many ∙ on-to (length xs) home k f within) (before (steps_to (length xs) home k) (omega (arith, here.0)));
    }

-- there is a vacant slot
pub never-full : (xs : List Slot) (tag n home steps : ℕ) → n ≡ length xs → home ≡ home_of tag n → taken_in xs < length xs → length xs ≤ steps → ((t : ℕ) → t < steps → HoldsPlace xs (steps_on n home t)) → ⊥
never-full xs tag n home steps many is loose all seen =
    let f : home < length xs = omega (arith, is ∙ ap (λ k. home_of tag k) many, home-below tag (length xs) (omega arith)) in
    let full = all-taken xs (all-seen (length xs) home (λ k. HoldsPlace xs k) f (λ t less. subst (λ k. HoldsPlace xs (steps_on k home t)) many (seen t (omega arith)))) in
    omega arith

-- what is so of the places under a tag that come before a vacant slot is so of all
pub before-vacant : (xs : List Slot) (tag n home steps at : ℕ) → n ≡ length xs → home ≡ home_of tag n → steps < length xs → at ≡ steps_on n home steps → AreFound xs → nowhere ≤ (slot_at xs at).place
    → (P : ℕ → Type 0) → ((t : ℕ) → t < steps → (slot_at xs (steps_on n home t)).tag ≡ tag → P (slot_at xs (steps_on n home t)).place) → (place : ℕ) → Has xs tag place → P place
before-vacant xs tag n home steps at many is less on found none P each place (k, there, fits) =
    let home_is : home ≡ home_of tag (length xs) = is ∙ ap (λ i. home_of tag i) many in
    let f : home < length xs = omega (arith, home_is, home-below tag (length xs) (omega arith)) in
    let here = reaches n (length xs) home steps at many f less on in
    let taken : HoldsPlace xs k = omega (arith, ap (λ s. s.place) there) in
    let within = taken-within xs k taken in
    let stop : steps_on n home (steps_to (length xs) home k) ≡ k = ap (λ m. steps_on m home (steps_to (length xs) home k)) many ∙ on-to (length xs) home k f within in
    elim (cases_lt (steps_to (length xs) home k) steps) [
      | inl near ↦
          let slot : slot_at xs (steps_on n home (steps_to (length xs) home k)) ≡ record { tag = tag; place = place } = ap (slot_at xs) stop ∙ there in
          subst (λ (s : Slot). P s.place) slot (each (steps_to (length xs) home k) near (ap (λ (s : Slot). s.tag) slot))
      | inr far ↦
          let way : IsOnWay (length xs) (slot_at xs k).tag k at = subst (λ h. steps_to (length xs) h at ≤ steps_to (length xs) h k) (home_is ∙ ap (λ (s : Slot). home_of s.tag (length xs)) (sym there)) (omega (arith, here.0)) in
          absurd (let t = found.reached k at taken here.1 way in omega arith)
    ]

-- so is it where all slots were seen
pub before-end : (xs : List Slot) (tag n home steps : ℕ) → n ≡ length xs → (0 < n → home < n) → length xs ≤ steps
    → (P : ℕ → Type 0) → ((t : ℕ) → t < steps → (slot_at xs (steps_on n home t)).tag ≡ tag → P (slot_at xs (steps_on n home t)).place) → (place : ℕ) → Has xs tag place → P place
before-end xs tag n home steps many f all P each place (k, there, fits) =
    let taken : HoldsPlace xs k = omega (arith, ap (λ s. s.place) there) in
    let within = taken-within xs k taken in
    let inside : home < length xs = omega (arith, many, f) in
    let slot : slot_at xs (steps_on n home (steps_to (length xs) home k)) ≡ record { tag = tag; place = place } = ap (slot_at xs) (ap (λ m. steps_on m home (steps_to (length xs) home k)) many ∙ on-to (length xs) home k inside within) ∙ there in
    subst (λ (s : Slot). P s.place) slot (each (steps_to (length xs) home k) (omega (arith, to-below (length xs) home k inside within)) (ap (λ (s : Slot). s.tag) slot))

-- a place comes into the first vacant slot
module _ (old : List Slot) (tag place at : ℕ) (room : taken_in old < length old) (found : AreFound old) (absent : Has old tag place → ⊥) (fits : place < nowhere) (first : IsFirstVacant old tag at) where
  new : List Slot
  new = set old at (record { tag = tag; place = place })

  here : slot_at (set old at (record { tag = tag; place = place })) at ≡ record { tag = tag; place = place }
  here = at-set old at (record { tag = tag; place = place }) first.within

-- what there is once a place came
module _ (old new : List Slot) (tag place : ℕ) (fits : place < nowhere) (adds : Adds old new tag place) where
  written : (k : ℕ) → slot_at new k ≡ slot_at (set old adds.at (record { tag = tag; place = place })) k
  written k = ap (λ xs. slot_at xs k) adds.is

  pub added-length : length new ≡ length old
  added-length = ap length adds.is ∙ length-set old adds.at (record { tag = tag; place = place })

  pub added-count : taken_in new ≡ taken_in old + 1
  added-count = ap taken_in adds.is ∙ taken-more old adds.at (record { tag = tag; place = place }) adds.within adds.was fits

  pub added-there : Has new tag place
  added-there = (adds.at, written adds.at ∙ at-set old adds.at (record { tag = tag; place = place }) adds.within, fits)

  pub added-others : (h p : ℕ) → Has old h p → Has new h p
  added-others h p (k, is, less) = (k, written k ∙ off-set old adds.at k (record { tag = tag; place = place }) other ∙ is, less)
    where
      other : k ≡ adds.at → ⊥
      other e = absurd (let was = adds.was in omega (arith, ap (λ i. (slot_at old i).place) e, ap (λ s. s.place) is))

  pub added-only : (h p : ℕ) → Has new h p → Has old h p ⊎ ((h ≡ tag) × (p ≡ place))
  added-only h p (k, is, less) = elim (cases_eq k adds.at) [
    | inl e ↦
        let same : record { tag = h; place = p } ≡ record { tag = tag; place = place } = sym is ∙ written k ∙ ap (λ i. slot_at (set old adds.at (record { tag = tag; place = place })) i) e ∙ at-set old adds.at (record { tag = tag; place = place }) adds.within in
        inr (ap (λ (s : Slot). s.tag) same, ap (λ (s : Slot). s.place) same)
    | inr ne ↦ inl (k, sym (off-set old adds.at k (record { tag = tag; place = place }) ne) ∙ sym (written k) ∙ is, less)
  ]

-- what there is once a place went
module _ (old new : List Slot) (from tag place : ℕ) (found : AreFound old) (at : slot_at old from ≡ record { tag = tag; place = place }) (fits : place < nowhere) (loses : Loses old new from) where
  pub lost-gone : Has new tag place → ⊥
  lost-gone (j, is, less) =
      let o = loses.only j (omega (arith, ap (λ s. s.place) is)) in
      o.1 (found.once from o.0 (omega (arith, ap (λ s. s.place) at)) (o.2 ∙ is ∙ sym at))

  pub lost-others : (h p : ℕ) → Has old h p → (h ≡ tag → p ≡ place → ⊥) → Has new h p
  lost-others h p (k, is, less) other =
      let o = loses.others k (omega (arith, ap (λ s. s.place) is)) elsewhere in
      (o.0, o.1 ∙ is, less)
    where
      elsewhere : k ≡ from → ⊥
      elsewhere e =
          let same : record { tag = h; place = p } ≡ record { tag = tag; place = place } = sym is ∙ ap (λ i. slot_at old i) e ∙ at in
          other (ap (λ (s : Slot). s.tag) same) (ap (λ (s : Slot). s.place) same)

  pub lost-only : (h p : ℕ) → Has new h p → Has old h p
  lost-only h p (j, is, less) = let o = loses.only j (omega (arith, ap (λ s. s.place) is)) in (o.0, o.2 ∙ is, less)

-- the same, as callers see it
pub put-comes : (old new : List Slot) (hash place : ℕ) → place < nowhere → Adds old new (tag_of hash) place → (s t : ℕ) → s ≤ t + 1
    → ComesUnder (record { entries = entries_in old; space = s }) (record { entries = entries_in new; space = t }) hash place
put-comes old new hash place fits adds s t le = record {
  there = has-among new (tag_of hash) place (added-there old new (tag_of hash) place fits adds);
  others = λ h p u. has-among new (tag_of h) p (added-others old new (tag_of hash) place fits adds (tag_of h) p (among-has old (tag_of h) p u));
  only = λ h p u. elim (added-only old new (tag_of hash) place fits adds (tag_of h) p (among-has new (tag_of h) p u)) [ inl v ↦ inl (has-among old (tag_of h) p v) | inr e ↦ inr e ];
  space = le;
}

pub take-leaves : (old new : List Slot) (from hash place : ℕ) → AreFound old → slot_at old from ≡ record { tag = tag_of hash; place = place } → place < nowhere → Loses old new from → (s t : ℕ) → s ≤ t
    → LeavesFrom (record { entries = entries_in old; space = s }) (record { entries = entries_in new; space = t }) hash place
take-leaves old new from hash place found at fits loses s t le = record {
  gone = λ u. lost-gone old new from (tag_of hash) place found at fits loses (among-has new (tag_of hash) place u);
  others = λ h p u other. has-among new (tag_of h) p (lost-others old new from (tag_of hash) place found at fits loses (tag_of h) p (among-has old (tag_of h) p u) other);
  only = λ h p u. has-among old (tag_of h) p (lost-only old new from (tag_of hash) place found at fits loses (tag_of h) p (among-has new (tag_of h) p u));
  space = le;
}

pub all-gain : (old new : List Slot) → HasAll old new → (s t : ℕ) → s ≤ t → OnlyGainsSpace (record { entries = entries_in old; space = s }) (record { entries = entries_in new; space = t })
all-gain old new same s t le = record {
  others = λ h p u. has-among new (tag_of h) p (same.others (tag_of h) p (among-has old (tag_of h) p u));
  only = λ h p u. has-among old (tag_of h) p (same.only (tag_of h) p (among-has new (tag_of h) p u));
  space = le;
}

-- the places of the first slots of a table came into another
pub record HasFirst (others now : List Slot) (many k : ℕ) : Type 0 where
  pub found : AreFound now
  pub long : length now ≡ many
  pub count : taken_in now ≡ taken_in (take k others)
  pub has : (j : ℕ) → j < k → HoldsPlace others j → Has now (slot_at others j).tag (slot_at others j).place
  pub only : (h p : ℕ) → Has now h p → (j : ℕ) × (j < k) × (slot_at others j ≡ record { tag = h; place = p })

module _ (others now : List Slot) (many k : ℕ) (whole : AreFound others) (first : HasFirst others now many k) (within : k < length others) where
  pub first-absent : HoldsPlace others k → Has now (slot_at others k).tag (slot_at others k).place → ⊥
  first-absent t u =
      let o = first.only (slot_at others k).tag (slot_at others k).place u in
      let e : o.0 ≡ k = whole.once k o.0 t o.2 in
      let less = o.1 in
      absurd (omega arith)

  pub first-no : nowhere ≤ (slot_at others k).place → HasFirst others now many (k + 1)
  first-no none = record {
    found = first.found;
    long = first.long;
    count = first.count ∙ sym (count_by_more_no (λ q. nat_lt q.place nowhere) others k vacant_slot within (le-ltb (slot_at others k).place nowhere none));
    has = λ j less t. elim (cases_eq j k) [
      | inl e ↦ absurd (omega (arith, ap (λ i. (slot_at others i).place) e))
      | inr ne ↦ first.has j (omega (arith, ne)) t
    ];
    only = λ h p u. let o = first.only h p u in let less = o.1 in (o.0, omega arith, o.2);
  }

  pub first-yes : (new : List Slot) → HoldsPlace others k → AreFound new → Adds now new (slot_at others k).tag (slot_at others k).place → HasFirst others new many (k + 1)
  first-yes new t found adds = record {
    found = found;
    long = added-length now new (slot_at others k).tag (slot_at others k).place t adds ∙ first.long;
    count = omega (
      arith,
      added-count now new (slot_at others k).tag (slot_at others k).place t adds,
      first.count,
      count_by_more_yes (λ q. nat_lt q.place nowhere) others k vacant_slot within (lt-ltb (slot_at others k).place nowhere t),
    );
    has = λ j less u. elim (cases_eq j k) [
      | inl e ↦ subst (λ i. Has new (slot_at others i).tag (slot_at others i).place) (sym e) (added-there now new (slot_at others k).tag (slot_at others k).place t adds)
      | inr ne ↦ added-others now new (slot_at others k).tag (slot_at others k).place t adds (slot_at others j).tag (slot_at others j).place (first.has j (omega (arith, ne)) u)
    ];
    only = λ h p u. elim (added-only now new (slot_at others k).tag (slot_at others k).place t adds h p u) [
      | inl v ↦ let o = first.only h p v in let less = o.1 in (o.0, omega arith, o.2)
      | inr e ↦ (k, omega arith, both (slot_at others k) h p (sym e.0) (sym e.1))
    ];
  }

-- the same, of what is read of the next slot
module _ (others now : List Slot) (many k : ℕ) (whole : AreFound others) (first : HasFirst others now many k) (within : k < length others) (x : Slot) (is_read : x ≡ slot_at others k) where
  pub read-absent : x.place < nowhere → Has now x.tag x.place → ⊥
  read-absent t = subst (λ (s : Slot). s.place < nowhere → Has now s.tag s.place → ⊥) (sym is_read) (λ u. first-absent others now many k whole first within u) t

  pub read-no : nowhere ≤ x.place → HasFirst others now many (k + 1)
  read-no none = first-no others now many k whole first within (omega (arith, ap (λ s. s.place) is_read))

  pub read-yes : (new : List Slot) → x.place < nowhere → AreFound new → Adds now new x.tag x.place → HasFirst others new many (k + 1)
  read-yes new t found adds = first-yes others now many k whole first within new (omega (arith, ap (λ s. s.place) is_read)) found (subst (λ (s : Slot). Adds now new s.tag s.place) is_read adds)

pub first-end : (others now : List Slot) (many k : ℕ) → length others ≤ k → HasFirst others now many k → HasAll others now × (taken_in now ≡ taken_in others)
first-end others now many k all first = (
  record {
    others = λ h p u.
        let t : HoldsPlace others u.0 = (let at = u.1 in let less = u.2 in omega (arith, ap (λ s. s.place) at)) in
        let e : slot_at others u.0 ≡ record { tag = h; place = p } = u.1 in
        subst (λ (s : Slot). Has now s.tag s.place) e (first.has u.0 (omega (arith, taken-within others u.0 t)) t);
    only = λ h p u. let o = first.only h p u in (o.0, o.2, u.2);
  },
  first.count ∙ ap taken_in (take_all k others all),
)

-- what follows where nothing is found
pub none-maps : {X : Type 0} {P Q : Type 0} (o : Option X) → (P → Q) → IfNone o P → IfNone o Q
none-maps None f h = f h
none-maps (Some x) f h = h
