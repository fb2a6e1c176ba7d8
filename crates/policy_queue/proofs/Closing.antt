-- Closing up: indices are carried down over empty places.
use Rattle.std.proofs.Common.{◌≡◌, ◌≢◌, ℕ, ◌+◌, ◌-◌, ◌^◌, ◌<◌, ◌≤◌, List, length, get_or, set, take, max, sym, ap, ◌∙◌, subst, inl, inr, arith}
use Rattle.std.proofs.lemmas.Bool.{cases_lt, cases_eq}
use Rattle.std.proofs.lemmas.List.{get_or_past, get_or-set_same, get_or-set_other, get_or-take, length-set, length-take, length-take-le}
use Rattle.policy_queue.specs.declared.index_queue.Cursors.{Cursors}
use Rattle.policy_queue.specs.Indices.{vacant, order, AreArranged, Carries}
use Rattle.policy_queue.proofs.Order.{within, order_carried, order_take_all, all_taken}
use Rattle.policy_queue.proofs.Seats.{seated_alike, seated_carried}

module _ (ps : List ℕ) (to from : ℕ) (le : to ≤ from) where
  module _ (qs ts : List ℕ) (k next : ℕ) (h : Carries ps qs ts to from k next) where
    -- an empty place is passed over
    pub Carries-none : get_or qs k vacant ≡ vacant → Carries ps qs ts to from (k + 1) next
    Carries-none empty = record {
      same = h.same;
      seated = h.seated;
      low = h.low;
      high = omega (arith, h.high);
      before = h.before;
      taken = h.taken;
      gap = λ j low high. elim (cases_eq j k) [ inl e ↦ ap (λ i. get_or qs i vacant) e ∙ empty | inr d ↦ h.gap j low (omega arith) ];
      behind = λ j low. h.behind j (omega arith);
      moved = λ j low high some. elim (cases_eq j k) [
        | inl e ↦ absurd (some (sym (h.behind j (omega arith)) ∙ ap (λ i. get_or qs i vacant) e ∙ empty))
        | inr d ↦ h.moved j low (omega arith) some
      ];
    }

    -- an index goes down to the first empty place
    pub Carries-some : (x : ℕ) → get_or qs k vacant ≡ x → x ≢ vacant → length qs ≤ 2 ^ 32 - 1 → length ts ≤ 2 ^ 32 - 1 → Carries ps (set (set qs k vacant) next x) (set ts x next) to from (k + 1) (next + 1)
    Carries-some x there named fits few =
        let high = h.high in
        let low = h.low in
        let down : next ≤ k = omega arith in
        let below : k < length qs = within qs k (λ e. named (sym there ∙ e)) in
        let len₁ = length-set qs k vacant in
        let qs' : List ℕ = set (set qs k vacant) next x in
        let other : (j : ℕ) → j ≢ next → j ≢ k → get_or qs' j vacant ≡ get_or qs j vacant = λ j d e. get_or-set_other (set qs k vacant) next j x vacant d ∙ get_or-set_other qs k j vacant vacant e in
        let here : get_or qs' next vacant ≡ x = get_or-set_same (set qs k vacant) next x vacant (omega arith) in
        record {
          same = order_carried qs next k x down h.gap there named ∙ h.same;
          seated = seated_carried qs ts h.seated x next k there named down (λ lt. h.gap next (omega arith) lt) fits few;
          low = omega arith;
          high = omega arith;
          before = λ j lt. other j (omega arith) (omega arith) ∙ h.before j lt;
          taken = λ j ge lt. elim (cases_eq j next) [
            | inl e ↦ λ f. named (sym here ∙ ap (λ i. get_or qs' i vacant) (sym e) ∙ f)
            | inr d ↦ λ f. h.taken j ge (omega arith) (sym (other j d (omega arith)) ∙ f)
          ];
          gap = λ j ge lt. elim (cases_eq j k) [
            | inl e ↦ get_or-set_other (set qs k vacant) next j x vacant (omega arith) ∙ ap (λ i. get_or (set qs k vacant) i vacant) e ∙ get_or-set_same qs k vacant vacant below
            | inr d ↦ other j (omega arith) d ∙ h.gap j (omega arith) (omega arith)
          ];
          behind = λ j ge. other j (omega arith) (omega arith) ∙ h.behind j (omega arith);
          moved = λ j ge lt some. omega arith;
        }

-- a front of the places, with no index behind it, reads as all of them
pub take_alike : (ps : List ℕ) (n : ℕ) → ((j : ℕ) → n ≤ j → get_or ps j vacant ≡ vacant) → (k : ℕ) → get_or (take n ps) k vacant ≡ get_or ps k vacant
take_alike ps n none k = elim (cases_lt k n) [
  | inl lt ↦ get_or-take n ps k vacant lt
  | inr ge ↦ get_or_past (take n ps) k vacant (omega (arith, length-take n ps)) ∙ sym (none k ge)
]

pub arranged_same : (ps qs ss ts : List ℕ) (cs : Cursors) → ps ≡ qs → ss ≡ ts → AreArranged qs ts cs → AreArranged ps ss cs
arranged_same ps qs ss ts cs e f h = subst (λ (xs : List ℕ). AreArranged xs ss cs) (sym e) (subst (λ (xs : List ℕ). AreArranged qs xs cs) (sym f) h)

-- where reading begins
module _ (ps ss : List ℕ) (cs : Cursors) (h : AreArranged ps ss cs) (some : 0 < length ps) (from : ℕ) (is : from ≡ max cs.unread cs.front) where
  pub from_within : from < length ps
  from_within =
      let first = (h.ends.first some).0 in
      elim (cases_lt 0 cs.unread) [ inl lt ↦ (let l = h.gap.within lt in omega arith) | inr ge ↦ omega arith ]

  -- the front is among the carried places or the first that is read
  pub front_side : cs.front ≢ from → cs.front < cs.carried
  front_side d = elim (cases_lt cs.front cs.carried) [
    | inl lt ↦ lt
    | inr ge ↦ absurd ((h.ends.first some).1 (h.gap.empty cs.front ge (omega arith)))
  ]

  module _ (qs ts : List ℕ) (end next : ℕ) (c : Carries ps qs ts cs.carried from end next) (len : length qs ≡ length ps) (more : from < end) (high : end ≤ length ps) where
    -- where the first index stands then
    pub record IsFront (f : ℕ) : Type 0 where
      pub before : (j : ℕ) → j < f → get_or qs j vacant ≡ vacant
      pub first : get_or qs f vacant ≢ vacant
      pub below : f < next

    pub front_carried : cs.front ≡ from → IsFront cs.carried
    front_carried e =
        let ordered = h.gap.ordered in
        let down : cs.carried < next = c.moved from (omega arith) more (λ f. (h.ends.first some).1 (ap (λ i. get_or ps i vacant) e ∙ f)) in
        record {
          before = λ j lt. c.before j lt ∙ h.ends.before j (omega arith);
          first = c.taken cs.carried (omega arith) down;
          below = down;
        }

    pub front_stays : cs.front ≢ from → IsFront cs.front
    front_stays d =
        let side = front_side d in
        let low = c.low in
        record {
          before = λ j lt. c.before j (omega arith) ∙ h.ends.before j lt;
          first = λ e. (h.ends.first some).1 (sym (c.before cs.front side) ∙ e);
          below = omega arith;
        }

    next_high : next ≤ end
    next_high = let up = c.high in let ordered = h.gap.ordered in omega arith

    -- some places are still to be read
    pub closing_goes_on : (f : ℕ) → IsFront f → end ≢ length ps → length ts ≡ length ss → AreArranged qs ts (record { front = f; carried = next; unread = end })
    closing_goes_on f at less seats =
        let up = next_high in
        let below = at.below in
        let fits = h.fits in
        let few = h.few in
        record {
          seated = c.seated;
          ends = record {
            before = at.before;
            first = λ _. (omega arith, at.first);
            last = λ _ e. h.ends.last some (sym (c.behind (length ps - 1) (omega arith)) ∙ ap (λ (n : ℕ). get_or qs (n - 1) vacant) (sym len) ∙ e);
            none = λ e. absurd (omega arith);
          };
          gap = record { empty = c.gap; ordered = up; within = λ _. omega arith };
          fits = omega arith;
          few = omega arith;
        }

    none_behind : end ≡ length ps → (j : ℕ) → next ≤ j → get_or qs j vacant ≡ vacant
    none_behind all j ge = elim (cases_lt j end) [ inl lt ↦ c.gap j ge lt | inr past ↦ get_or_past qs j vacant (omega arith) ]

    pub order_closed : end ≡ length ps → order (take next qs) ≡ order ps
    order_closed all = order_take_all qs next (none_behind all) ∙ c.same

    -- all places were read
    pub closing_ends : (f : ℕ) → IsFront f → end ≡ length ps → length ts ≡ length ss → AreArranged (take next qs) ts (record { front = f; carried = 0; unread = 0 })
    closing_ends f at all seats =
        let up = next_high in
        let below = at.below in
        let fits = h.fits in
        let few = h.few in
        let short : length (take next qs) ≡ next = length-take-le next qs (omega arith) in
        let same = take_alike qs next (none_behind all) in
        let down : cs.carried < next = c.moved (length ps - 1) (omega arith) (omega arith) (h.ends.last some) in
        record {
          seated = seated_alike qs (take next qs) ts same c.seated;
          ends = record {
            before = λ j lt. same j ∙ at.before j lt;
            first = λ _. (omega arith, λ e. at.first (sym (same f) ∙ e));
            last = λ _ e. c.taken (next - 1) (omega arith) (omega arith) (sym (same (next - 1)) ∙ ap (λ (n : ℕ). get_or (take next qs) (n - 1) vacant) (sym short) ∙ e);
            none = λ e. absurd (omega arith);
          };
          gap = record { empty = λ k low lt. absurd (omega arith); ordered = omega arith; within = λ lt. absurd (omega arith) };
          fits = omega arith;
          few = omega arith;
        }

    -- and no empty one is left where all of them were unread
    pub closed_whole : end ≡ length ps → cs.carried ≡ 0 → length (take next qs) ≡ length (order ps)
    closed_whole all zero =
        let up = next_high in
        let short : length (take next qs) ≡ next = length-take-le next qs (omega arith) in
        let same = take_alike qs next (none_behind all) in
        sym (all_taken (take next qs) (λ k lt e. c.taken k (omega arith) (omega arith) (sym (same k) ∙ e))) ∙ ap length (order_closed all)
