-- What moves up where a place is taken out.
use Rattle.std.proofs.Common.{◌≡◌, ◌≢◌, refl, ap, sym, ◌∙◌, subst, ℕ, ◌+◌, ◌<◌, ◌≤◌, inl, inr, arith, List, length, set, length-set}
use Rattle.std.proofs.lemmas.Bool.{cases_lt, cases_eq}
use Rattle.engine_cells.specs.declared.keys.Slot.{Slot}
use Rattle.engine_cells.specs.Keys.Slots.{nowhere, vacant_slot, slot_at, HoldsPlace, taken_in, home_of, steps_to, IsOnWay, AreFound, AreFoundIn, IsHoled, LeavesOut, Loses}
use Rattle.engine_cells.proofs.keys.Around.{home-below, to-below, one_to, passes, ahead, around}
use Rattle.engine_cells.proofs.keys.Tables.{at-set, off-set, taken-within, along, still-taken, taken-same, taken-less, all-taken}

-- so many steps on from where a place goes: all slots before are taken, and the free one is on the way of none behind it
pub record AreMoved (old now : List Slot) (from hole steps : ℕ) : Type 0 where
  pub holed : IsHoled old now from hole
  pub before : steps_to (length old) from hole < steps
  pub seen : (k : ℕ) → k < length old → steps_to (length old) from k < steps → HoldsPlace now k
  pub behind : (k : ℕ) → k < length old → steps_to (length old) from hole < steps_to (length old) from k → steps_to (length old) from k < steps
      → IsOnWay (length old) (slot_at now k).tag k hole → ⊥

module _ (old now : List Slot) (from hole steps at : ℕ) (f : from < length old) (moved : AreMoved old now from hole steps) (is : steps_to (length old) from at ≡ steps) (within : at < length old) where
  other-slot : (k : ℕ) → k < length old → steps_to (length old) from k < steps + 1 → (k ≡ at → ⊥) → steps_to (length old) from k < steps
  other-slot k less near off = elim (cases_eq (steps_to (length old) from k) steps) [
    | inl e ↦ absurd (off (one_to (length old) from k at f less within (e ∙ sym is)))
    | inr ne ↦ omega (arith, ne)
  ]

  -- the place of the next slot stays where it is
  pub moved-stays : HoldsPlace now at → (IsOnWay (length old) (slot_at now at).tag at hole → ⊥) → AreMoved old now from hole (steps + 1)
  moved-stays taken off = record {
    holed = moved.holed;
    before = omega (arith, moved.before);
    seen = λ k less near. elim (cases_eq k at) [
      | inl e ↦ subst (λ i. HoldsPlace now i) (sym e) taken
      | inr ne ↦ moved.seen k less (other-slot k less near ne)
    ];
    behind = λ k less far near way. elim (cases_eq k at) [
      | inl e ↦ off (subst (λ i. IsOnWay (length old) (slot_at now i).tag i hole) e way)
      | inr ne ↦ moved.behind k less far (other-slot k less near ne) way
    ];
  }

  apart : at ≢ hole
  apart e = absurd (omega (arith, moved.before, ap (λ k. steps_to (length old) from k) e))

  -- or moves up into the free one, and its own is the free one then
  module _ (taken : HoldsPlace now at) (way : IsOnWay (length old) (slot_at now at).tag at hole) where
    inside : hole < length now
    inside = omega (arith, moved.holed.long, moved.holed.within)

    here : slot_at (set now hole (slot_at now at)) hole ≡ slot_at now at
    here = at-set now hole (slot_at now at) inside

    off : (k : ℕ) → k ≢ hole → slot_at (set now hole (slot_at now at)) k ≡ slot_at now k
    off k ne = off-set now hole k (slot_at now at) ne

    stays : (x : ℕ) → HoldsPlace now x → HoldsPlace (set now hole (slot_at now at)) x
    stays x t = still-taken now hole (slot_at now at) inside taken x t

    -- where each slot's place stood before
    source : (k : ℕ) → k ≢ at → (j : ℕ) × (j ≢ hole) × (slot_at (set now hole (slot_at now at)) k ≡ slot_at now j) × (j ≡ at → k ≡ hole) × ((j ≡ at → ⊥) → j ≡ k)
    source k ne = elim (cases_eq k hole) [
      | inl e ↦ (at, apart, ap (λ i. slot_at (set now hole (slot_at now at)) i) e ∙ here, λ _. e, λ n. absurd (n refl))
      | inr other ↦ (k, other, off k other, λ e. absurd (ne e), λ _. refl)
    ]

    pub moved-up : AreMoved old (set now hole (slot_at now at)) from at (steps + 1)
    moved-up = record {
      holed = record {
        long = length-set now hole (slot_at now at) ∙ moved.holed.long;
        within = within;
        full = stays at taken;
        count = taken-same now hole (slot_at now at) inside moved.holed.full taken ∙ moved.holed.count;
        others = λ k t ne.
            let o = moved.holed.others k t ne in
            elim (cases_eq o.0 at) [
              | inl e ↦ (hole, (λ h. apart (sym h)), here ∙ ap (λ i. slot_at now i) (sym e) ∙ o.2)
              | inr other ↦ (o.0, other, off o.0 o.1 ∙ o.2)
            ];
        only = λ j ne t.
            let s = source j ne in
            let o = moved.holed.only s.0 s.1 (along now (set now hole (slot_at now at)) s.0 j (sym s.2) t) in
            (o.0, o.1, o.2 ∙ sym s.2);
        once = λ k j nk nj t same.
            let a = source k nk in
            let b = source j nj in
            let e : b.0 ≡ a.0 = moved.holed.once a.0 b.0 a.1 b.1 (along now (set now hole (slot_at now at)) a.0 k (sym a.2) t) (sym b.2 ∙ same ∙ a.2) in
            elim (cases_eq a.0 at) [
              | inl q ↦ b.3 (e ∙ q) ∙ sym (a.3 q)
              | inr n ↦ sym (b.4 (λ q. n (sym e ∙ q))) ∙ e ∙ a.4 n
            ];
        reached = λ k x ne t less w. stays x (
            elim (cases_eq k hole) [
              | inl e ↦
                  let tag : (slot_at (set now hole (slot_at now at)) k).tag ≡ (slot_at now at).tag = ap (λ i. (slot_at (set now hole (slot_at now at)) i).tag) e ∙ ap (λ s. s.tag) here in
                  let w' : IsOnWay (length old) (slot_at now at).tag hole x = subst (λ i. IsOnWay (length old) (slot_at now at).tag i x) e (subst (λ h. IsOnWay (length old) h k x) tag w) in
                  moved.holed.reached at x apart taken less (omega (arith, w', way))
              | inr other ↦
                  let tag : (slot_at (set now hole (slot_at now at)) k).tag ≡ (slot_at now k).tag = ap (λ s. s.tag) (off k other) in
                  moved.holed.reached k x other (along now (set now hole (slot_at now at)) k k (sym (off k other)) t) less (subst (λ h. IsOnWay (length old) h k x) tag w)
            ]
            );
      };
      before = omega arith;
      seen = λ k less near. stays k (
          elim (cases_eq k at) [
            | inl e ↦ subst (λ i. HoldsPlace now i) (sym e) taken
            | inr ne ↦ moved.seen k less (other-slot k less near ne)
          ]
          );
      behind = λ k less far near w. omega arith;
    }

  -- the same, of what is read of the next slot
  module _ (x : Slot) (n : ℕ) (is_read : x ≡ slot_at now at) (place : x.place < nowhere) (many : n ≡ length old) where
    next-taken : HoldsPlace now at
    next-taken = omega (arith, ap (λ s. s.place) is_read)

    pub moved-yes : IsOnWay n x.tag at hole → AreMoved old (set now hole x) from at (steps + 1)
    moved-yes way = subst (λ s. AreMoved old (set now hole s) from at (steps + 1)) (sym is_read) (
        moved-up next-taken (subst (λ k. IsOnWay k (slot_at now at).tag at hole) many (subst (λ s. IsOnWay n s.tag at hole) is_read way))
        )

    pub moved-no : (IsOnWay n x.tag at hole → ⊥) → AreMoved old now from hole (steps + 1)
    moved-no off_way = moved-stays next-taken (λ way. off_way (subst (λ s. IsOnWay n s.tag at hole) (sym is_read) (subst (λ k. IsOnWay k (slot_at now at).tag at hole) (sym many) way)))

  farther : (k : ℕ) → k < length old → (k ≡ hole → ⊥) → steps_to (length old) from hole ≤ steps_to (length old) from k → steps_to (length old) from hole < steps_to (length old) from k
  farther k less other late = elim (cases_eq (steps_to (length old) from k) (steps_to (length old) from hole)) [
    | inl e ↦ absurd (other (one_to (length old) from k hole f less moved.holed.within e))
    | inr ne ↦ omega (arith, ne)
  ]

  -- up to a vacant slot
  pub moved-end : nowhere ≤ (slot_at now at).place → LeavesOut now hole
  moved-end none k ne t w0 =
      let less : k < length old = omega (arith, taken-within now k t, moved.holed.long) in
      let h : ℕ = home_of (slot_at now k).tag (length old) in
      let hb : h < length old = home-below (slot_at now k).tag (length old) (omega arith) in
      let w : IsOnWay (length old) (slot_at now k).tag k hole = subst (λ n. IsOnWay n (slot_at now k).tag k hole) moved.holed.long w0 in
      let in_hole = moved.holed.within in
      let before = moved.before in
      let reached : steps_to (length old) hole at ≤ steps_to (length old) hole k → ⊥ = λ le.
      let t' : HoldsPlace now at = moved.holed.reached k at ne t within (passes (length old) h hole at k hb in_hole within less w le) in
      omega arith
      in
      let to_at = ahead (length old) from hole at f in_hole within (omega arith) in
      elim (cases_lt (steps_to (length old) from k) (steps_to (length old) from hole)) [
        | inl early ↦ reached (omega (arith, around (length old) from hole k f in_hole less early, to-below (length old) from at f within))
        | inr late ↦
            let to_k = ahead (length old) from hole k f in_hole less late in
            elim (cases_eq k hole) [
              | inl same ↦ ne same
              | inr other ↦ elim (cases_lt (steps_to (length old) from k) steps) [
                | inl near ↦ moved.behind k less (farther k less other late) near w
                | inr past ↦ reached (omega arith)
              ]
            ]
      ]

-- all slots cannot be taken
pub moved-never : (old now : List Slot) (from hole steps : ℕ) → from < length old → taken_in old < length old → length old ≤ steps → AreMoved old now from hole steps → ⊥
moved-never old now from hole steps f loose all moved =
    let full = all-taken now (λ k less. moved.seen k (omega (arith, moved.holed.long)) (omega (arith, to-below (length old) from k f (omega (arith, moved.holed.long))))) in
    omega (arith, moved.holed.long, moved.holed.count)

-- the free slot is made vacant
module _ (old now : List Slot) (from hole : ℕ) (there : HoldsPlace old from) (found : AreFound old) (holed : IsHoled old now from hole) (leaves : LeavesOut now hole) where
  room : hole < length now
  room = omega (arith, holed.long, holed.within)

  -- what is still taken
  stood : (k : ℕ) → HoldsPlace (set now hole vacant_slot) k → (k ≢ hole) × (slot_at (set now hole vacant_slot) k ≡ slot_at now k)
  stood k t = elim (cases_eq k hole) [
    | inl e ↦ absurd (omega (arith, ap (λ i. (slot_at (set now hole vacant_slot) i).place) e, ap (λ s. s.place) (at-set now hole vacant_slot room)))
    | inr ne ↦ (ne, off-set now hole k vacant_slot ne)
  ]

  pub taken-found : AreFound (set now hole vacant_slot)
  taken-found = subst (λ n. AreFoundIn n (set now hole vacant_slot)) (sym (length-set now hole vacant_slot)) (record {
    reached = λ k x t less w.
        let s = stood k t in
        let t' = along now (set now hole vacant_slot) k k (sym s.1) t in
        let w' : IsOnWay (length now) (slot_at now k).tag k x = subst (λ h. IsOnWay (length now) h k x) (ap (λ q. q.tag) s.1) w in
        let r = holed.reached k x s.0 t' (omega (arith, holed.long)) (subst (λ n. IsOnWay n (slot_at now k).tag k x) holed.long w') in
        let ne : x ≢ hole = λ e. leaves k s.0 t' (subst (λ i. IsOnWay (length now) (slot_at now k).tag k i) e w') in
        along (set now hole vacant_slot) now x x (off-set now hole x vacant_slot ne) r;
    once = λ k j t same.
        let a = stood k t in
        let b = stood j (along (set now hole vacant_slot) (set now hole vacant_slot) j k same t) in
        holed.once k j a.0 b.0 (along now (set now hole vacant_slot) k k (sym a.1) t) (sym b.1 ∙ same ∙ a.1);
  })

  pub taken-lost : Loses old (set now hole vacant_slot) from
  taken-lost = record {
    long = length-set now hole vacant_slot ∙ holed.long;
    count = omega (arith, taken-less now hole room holed.full, holed.count);
    others = λ k t ne. let o = holed.others k t ne in (o.0, off-set now hole o.0 vacant_slot o.1 ∙ o.2);
    only = λ j t.
        let s = stood j t in
        let o = holed.only j s.0 (along now (set now hole vacant_slot) j j (sym s.1) t) in
        (o.0, o.1, o.2 ∙ sym s.1);
  }
