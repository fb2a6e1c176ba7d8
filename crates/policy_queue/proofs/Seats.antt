-- The seats of indices in an array of places.
use Rattle.std.proofs.Common.{◌≡◌, ◌≢◌, ℕ, zero, suc, ◌+◌, ◌-◌, ◌^◌, ◌<◌, ◌≤◌, true, false, List, [], ◌∷◌, ◌++◌, length, get_or, set, take, drop, refl, sym, ap, ◌∙◌, inl, inr, arith, subst}
use Rattle.std.proofs.lemmas.Bool.{cases_lt, cases_eq}
use Rattle.std.proofs.lemmas.List.{get_or_past, get_or-set_same, get_or-set_other, get_or_append_left, get_or_at, get_or-take, length_push, length-set, length-take}
use Rattle.policy_queue.specs.Indices.{vacant, order, Lacks, IndicesDiffer, AreSeated, IsSeatedAt, has_index}
use Rattle.policy_queue.proofs.Order.{within, order_empty, order_taken, order_at, Lacks-order, Lacks-at}
use Rattle.policy_queue.proofs.Listed.{has_at, has_lacked}

-- the places read the same
pub seated_alike : (ps qs ss : List ℕ) → ((k : ℕ) → get_or qs k vacant ≡ get_or ps k vacant) → AreSeated ps ss → AreSeated qs ss
seated_alike ps qs ss same h = record {
  placed = λ k d. ap (λ i. get_or ss i vacant) (same k) ∙ h.placed k (λ e. d (same k ∙ e));
  seated = λ i d. same (get_or ss i vacant) ∙ h.seated i d;
}

-- what stands in one place each differs
pub apart_order : (ps : List ℕ) → ((j k : ℕ) → get_or ps j vacant ≢ vacant → get_or ps j vacant ≡ get_or ps k vacant → j ≡ k) → IndicesDiffer (order ps)
apart_order [] h = tt
apart_order (p ∷ ps) h =
    let rest = apart_order ps (λ j k d e. let s : suc j ≡ suc k = h (suc j) (suc k) d e in omega arith) in
    elim (cases_eq p vacant) [
      | inl e ↦ subst IndicesDiffer (sym (order_empty p ps e)) rest
      | inr d ↦ subst IndicesDiffer (sym (order_taken p ps d)) (Lacks-order ps p (λ j taken same. let s : suc j ≡ zero = h (suc j) zero taken same in absurd (omega arith)), rest)
    ]

module _ (ps ss : List ℕ) (h : AreSeated ps ss) where
  -- an index stands in one place
  pub one_place : (j k : ℕ) → get_or ps j vacant ≢ vacant → get_or ps j vacant ≡ get_or ps k vacant → j ≡ k
  one_place j k d same = sym (h.placed j d) ∙ ap (λ i. get_or ss i vacant) same ∙ h.placed k (λ e. d (same ∙ e))

  pub apart_front : (k : ℕ) → get_or ps k vacant ≢ vacant → Lacks (get_or ps k vacant) (order (take k ps))
  apart_front k d = Lacks-order (take k ps) (get_or ps k vacant) (λ j taken same.
      let lt = within (take k ps) j taken in
      let before : j < k = omega (arith, length-take k ps) in
      let at = get_or-take k ps j vacant before in
      let e : j ≡ k = one_place j k (λ f. taken (at ∙ f)) (sym at ∙ same) in
      omega arith)

  -- the index of a place that is taken has a seat
  pub seat_within : (k : ℕ) → length ps ≤ 2 ^ 32 - 1 → get_or ps k vacant ≢ vacant → get_or ps k vacant < length ss
  seat_within k fits d =
      let lt = within ps k d in
      within ss (get_or ps k vacant) (λ e. let f : k ≡ vacant = sym (h.placed k d) ∙ e in absurd (omega arith))

  -- an index that has a seat stands there
  pub has_seat : (x : ℕ) → length ss ≤ 2 ^ 32 - 1 → get_or ss x vacant ≢ vacant → IsSeatedAt ps ss x (get_or ss x vacant)
  has_seat x few d =
      let lt = within ss x d in
      record { place = h.seated x d; seat = refl; named = λ e. absurd (omega arith) }

  -- and an index without one does not
  pub lacks_seat : (x : ℕ) → length ps ≤ 2 ^ 32 - 1 → get_or ss x vacant ≡ vacant → Lacks x (order ps)
  lacks_seat x fits e = Lacks-order ps x (λ j taken same.
      let lt = within ps j taken in
      let f : j ≡ vacant = sym (h.placed j taken) ∙ ap (λ i. get_or ss i vacant) same ∙ e in
      omega arith)

  pub has_seated : (x : ℕ) → length ss ≤ 2 ^ 32 - 1 → get_or ss x vacant ≢ vacant → has_index x (order ps) ≡ true
  has_seated x few d =
      let at = has_seat x few d in
      let taken : get_or ps (get_or ss x vacant) vacant ≢ vacant = λ e. at.named (sym at.place ∙ e) in
      ap (has_index x) (order_at ps (get_or ss x vacant) taken)
      ∙ ap (λ i. has_index x (order (take (get_or ss x vacant) ps) ++ i ∷ order (drop (get_or ss x vacant + 1) ps))) at.place
      ∙ has_at x _ _

  pub has_unseated : (x : ℕ) → length ps ≤ 2 ^ 32 - 1 → get_or ss x vacant ≡ vacant → has_index x (order ps) ≡ false
  has_unseated x fits e = has_lacked x (order ps) (lacks_seat x fits e)

  -- an index left its place
  pub seated_emptied : (x k : ℕ) → IsSeatedAt ps ss x k → AreSeated (set ps k vacant) (set ss x vacant)
  seated_emptied x k at =
      let taken : get_or ps k vacant ≢ vacant = λ e. at.named (sym at.place ∙ e) in
      let lt = within ps k taken in
      record {
        placed = λ j d. elim (cases_eq j k) [
          | inl e ↦ absurd (d (ap (λ i. get_or (set ps k vacant) i vacant) e ∙ get_or-set_same ps k vacant vacant lt))
          | inr other ↦
              let was = get_or-set_other ps k j vacant vacant other in
              let there : get_or ps j vacant ≢ vacant = λ e. d (was ∙ e) in
              let differs : get_or ps j vacant ≢ x = λ e. other (one_place j k there (e ∙ sym at.place)) in
              ap (λ i. get_or (set ss x vacant) i vacant) was ∙ get_or-set_other ss x (get_or ps j vacant) vacant vacant differs ∙ h.placed j there
        ];
        seated = λ i d. elim (cases_eq i x) [
          | inl e ↦ elim (cases_lt x (length ss)) [
            | inl less ↦ absurd (d (ap (λ j. get_or (set ss x vacant) j vacant) e ∙ get_or-set_same ss x vacant vacant less))
            | inr past ↦ absurd (d (get_or_past (set ss x vacant) i vacant (omega (arith, length-set ss x vacant))))
          ]
          | inr other ↦
              let was = get_or-set_other ss x i vacant vacant other in
              let there : get_or ss i vacant ≢ vacant = λ e. d (was ∙ e) in
              let stands = h.seated i there in
              let differs : get_or ss i vacant ≢ k = λ e. other (sym stands ∙ ap (λ j. get_or ps j vacant) e ∙ at.place) in
              ap (λ j. get_or (set ps k vacant) j vacant) was ∙ get_or-set_other ps k (get_or ss i vacant) vacant vacant differs ∙ stands
        ];
      }

  -- an index came to the back
  pub seated_pushed : (x : ℕ) → Lacks x (order ps) → x < length ss → length ss ≤ 2 ^ 32 - 1 → AreSeated (ps ++ x ∷ []) (set ss x (length ps))
  seated_pushed x apart bound few = record {
    placed = λ k d. elim (cases_lt k (length ps)) [
      | inl lt ↦
          let at = get_or_append_left ps (x ∷ []) vacant k lt in
          let there : get_or ps k vacant ≢ vacant = λ e. d (at ∙ e) in
          ap (λ i. get_or (set ss x (length ps)) i vacant) at ∙ get_or-set_other ss x (get_or ps k vacant) (length ps) vacant (Lacks-at ps x k apart there) ∙ h.placed k there
      | inr ge ↦
          let inside = within (ps ++ x ∷ []) k d in
          let e : k ≡ length ps = omega (arith, length_push ps x) in
          ap (λ i. get_or (set ss x (length ps)) i vacant) (get_or_at ps x [] vacant k (sym e)) ∙ get_or-set_same ss x (length ps) vacant bound ∙ sym e
    ];
    seated = λ i d. elim (cases_eq i x) [
      | inl e ↦
          let seat = ap (λ j. get_or (set ss x (length ps)) j vacant) e ∙ get_or-set_same ss x (length ps) vacant bound in
          ap (λ k. get_or (ps ++ x ∷ []) k vacant) seat ∙ get_or_at ps x [] vacant (length ps) refl ∙ sym e
      | inr other ↦
          let was = get_or-set_other ss x i (length ps) vacant other in
          let there : get_or ss i vacant ≢ vacant = λ e. d (was ∙ e) in
          let at = has_seat i few there in
          let lt = within ps (get_or ss i vacant) (λ e. at.named (sym at.place ∙ e)) in
          ap (λ k. get_or (ps ++ x ∷ []) k vacant) was ∙ get_or_append_left ps (x ∷ []) vacant (get_or ss i vacant) lt ∙ at.place
    ];
  }

  -- an index went down to an empty place, or stayed where it was
  pub seated_carried : (x to from : ℕ) → get_or ps from vacant ≡ x → x ≢ vacant → to ≤ from → (to < from → get_or ps to vacant ≡ vacant) → length ps ≤ 2 ^ 32 - 1 → length ss ≤ 2 ^ 32 - 1 → AreSeated (set (set ps from vacant) to x) (set ss x to)
  seated_carried x to from there named le free fits few =
      let taken : get_or ps from vacant ≢ vacant = λ e. named (sym there ∙ e) in
      let below = within ps from taken in
      let bound : x < length ss = subst (λ i. i < length ss) there (seat_within from fits taken) in
      let qs : List ℕ = set (set ps from vacant) to x in
      let len₁ = length-set ps from vacant in
      let here : get_or qs to vacant ≡ x = get_or-set_same (set ps from vacant) to x vacant (omega arith) in
      let else_where : (k : ℕ) → k ≢ to → k ≢ from → get_or qs k vacant ≡ get_or ps k vacant = λ k d e. get_or-set_other (set ps from vacant) to k x vacant d ∙ get_or-set_other ps from k vacant vacant e in
      record {
        placed = λ k d. elim (cases_eq k to) [
          | inl e ↦ ap (λ i. get_or (set ss x to) i vacant) (ap (λ j. get_or qs j vacant) e ∙ here) ∙ get_or-set_same ss x to vacant bound ∙ sym e
          | inr f ↦ elim (cases_eq k from) [
            | inl e ↦ absurd (d (get_or-set_other (set ps from vacant) to k x vacant f ∙ ap (λ j. get_or (set ps from vacant) j vacant) e ∙ get_or-set_same ps from vacant vacant below))
            | inr g ↦
                let was = else_where k f g in
                let stands : get_or ps k vacant ≢ vacant = λ e. d (was ∙ e) in
                let differs : get_or ps k vacant ≢ x = λ e. g (one_place k from stands (e ∙ sym there)) in
                ap (λ i. get_or (set ss x to) i vacant) was ∙ get_or-set_other ss x (get_or ps k vacant) to vacant differs ∙ h.placed k stands
          ]
        ];
        seated = λ i d. elim (cases_eq i x) [
          | inl e ↦ ap (λ k. get_or qs k vacant) (ap (λ j. get_or (set ss x to) j vacant) e ∙ get_or-set_same ss x to vacant bound) ∙ here ∙ sym e
          | inr other ↦
              let was = get_or-set_other ss x i to vacant other in
              let at = has_seat i few (λ e. d (was ∙ e)) in
              let not_from : get_or ss i vacant ≢ from = λ e. other (sym at.place ∙ ap (λ k. get_or ps k vacant) e ∙ there) in
              let not_to : get_or ss i vacant ≢ to = λ e. elim (cases_lt to from) [
                | inl lt ↦ at.named (sym at.place ∙ ap (λ k. get_or ps k vacant) e ∙ free lt)
                | inr ge ↦ let same : to ≡ from = omega arith in not_from (e ∙ same)
              ] in
              ap (λ k. get_or qs k vacant) was ∙ else_where (get_or ss i vacant) not_to not_from ∙ at.place
        ];
      }
