-- An array of places that an index leaves and that one comes to.
use Rattle.std.proofs.Common.{◌≡◌, ◌≢◌, ℕ, zero, suc, ◌+◌, ◌-◌, ◌/◌, ◌^◌, ◌<◌, ◌≤◌, true, false, List, [], ◌∷◌, ◌++◌, length, get_or, set, take, drop, replicate, min, Some, None, refl, sym, ap, ◌∙◌, inl, inr, arith, subst}
use Rattle.std.proofs.lemmas.Bool.{cases_lt, cases_eq, true≢false, cond-true, cond-false, lt-ltb, le-ltb}
use Rattle.std.proofs.lemmas.List.{get_or_past, get_or-set_same, get_or-set_other, get_or_append_left, get_or-append_right, get_or-replicate, append-nil, drop_all, length_push, length-set, length-append, length-replicate}
use Rattle.policy_queue.specs.declared.index_queue.Cursors.{Cursors}
use Rattle.policy_queue.specs.Queue.{head, tail, final}
use Rattle.policy_queue.specs.Indices.{vacant, order, Lacks, has_index, without_index, from_index, index_moved_to_back, AreSeated, AreArranged, Ends, EndsBut, IsGap, IsSeatedAt, IsCutShort, Trims, indices_for}
use Rattle.policy_queue.proofs.Order.{within, order_at, order_drop_some, order_drop_front, order_emptied, order_skip, order_push, Lacks-order}
use Rattle.policy_queue.proofs.Listed.{without_at, from_at}
use Rattle.policy_queue.proofs.Seats.{seated_alike, seated_emptied, seated_pushed, has_seat, has_seated, has_unseated, apart_front}
use Rattle.policy_queue.proofs.Ends.{Ends-emptied, Ends-push, order_last, final-push}

-- of two writes of a seat the second stays
set_again : (ss : List ℕ) (x a b : ℕ) → set (set ss x a) x b ≡ set ss x b
set_again [] x a b = refl
set_again (s ∷ ss) zero a b = refl
set_again (s ∷ ss) (suc x) a b = ap (λ r. s ∷ r) (set_again ss x a b)

pub no_gap : (ps : List ℕ) → IsGap ps 0 0
no_gap ps = record { empty = λ k low lt. absurd (omega arith); ordered = omega arith; within = λ lt. absurd (omega arith) }

-- an index comes to the back
pub arranged_pushed : (ps ss : List ℕ) (cs : Cursors) (x : ℕ) → AreArranged ps ss cs → Lacks x (order ps) → x < length ss → length ps < 2 ^ 32 - 1 → AreArranged (ps ++ x ∷ []) (set ss x (length ps)) cs
arranged_pushed ps ss cs x h apart bound room =
    let len = length_push ps x in
    let few = h.few in
    record {
      seated = seated_pushed ps ss h.seated x apart bound few;
      ends = Ends-push ps cs.front x (λ e. absurd (omega arith)) h.ends;
      gap = record {
        empty = λ k low lt. let l = h.gap.within (omega arith) in get_or_append_left ps (x ∷ []) vacant k (omega arith) ∙ h.gap.empty k low lt;
        ordered = h.gap.ordered;
        within = λ some. let l = h.gap.within some in omega arith;
      };
      fits = omega arith;
      few = omega (arith, length-set ss x (length ps));
    }

-- an index leaves its place
module _ (ps ss : List ℕ) (cs : Cursors) (x k : ℕ) (h : AreArranged ps ss cs) (at : IsSeatedAt ps ss x k) where
  pub taken_at : get_or ps k vacant ≢ vacant
  taken_at e = at.named (sym at.place ∙ e)

  pub within_at : k < length ps
  within_at = within ps k taken_at

  pub left_seated : AreSeated (set ps k vacant) (set ss x vacant)
  left_seated = seated_emptied ps ss h.seated x k at

  len_left : length (set ps k vacant) ≡ length ps
  len_left = length-set ps k vacant

  left_empty : (j : ℕ) → get_or ps j vacant ≡ vacant → get_or (set ps k vacant) j vacant ≡ vacant
  left_empty j e = elim (cases_eq j k) [
    | inl same ↦ ap (λ i. get_or (set ps k vacant) i vacant) same ∙ get_or-set_same ps k vacant vacant within_at
    | inr other ↦ get_or-set_other ps k j vacant vacant other ∙ e
  ]

  left_gap : IsGap (set ps k vacant) cs.carried cs.unread
  left_gap = record { empty = λ j low lt. left_empty j (h.gap.empty j low lt); ordered = h.gap.ordered; within = λ some. let l = h.gap.within some in omega (arith, len_left) }

  pub left_ends-but : EndsBut (set ps k vacant) cs.front k
  left_ends-but = Ends-emptied ps cs.front k h.ends taken_at

  few_left : length (set ss x vacant) ≤ 2 ^ 32 - 1
  few_left = let few = h.few in omega (arith, length-set ss x vacant)

  pub arranged_trimmed : (qs : List ℕ) (ds : Cursors) → Trims (set ps k vacant) qs → Ends qs ds.front → IsCutShort (length qs) cs ds → length qs ≤ length ps → AreArranged qs (set ss x vacant) ds
  arranged_trimmed qs ds trims ends cut le = record {
    seated = seated_alike (set ps k vacant) qs (set ss x vacant) trims.places left_seated;
    ends = ends;
    gap = elim (cases_lt cs.unread (length qs)) [
      | inl lt ↦
          let same = cut.more lt in
          rw (same.0, same.1) (record { empty = λ j low below. trims.places j ∙ left_empty j (h.gap.empty j low below); ordered = h.gap.ordered; within = λ some. lt })
      | inr ge ↦ let zero = cut.done ge in rw (zero.0, zero.1) (no_gap qs)
    ];
    fits = let fits = h.fits in omega arith;
    few = few_left;
  }

  pub arranged_fronted : (g : ℕ) → Ends (set ps k vacant) g → AreArranged (set ps k vacant) (set ss x vacant) (record { front = g; carried = cs.carried; unread = cs.unread })
  arranged_fronted g ends = record { seated = left_seated; ends = ends; gap = left_gap; fits = let fits = h.fits in omega (arith, len_left); few = few_left }

  order_left : order (set ps k vacant) ≡ order (take k ps) ++ order (drop (k + 1) ps)
  order_left = order_emptied ps k within_at

  order_there : order ps ≡ order (take k ps) ++ x ∷ order (drop (k + 1) ps)
  order_there = order_at ps k taken_at ∙ ap (λ i. order (take k ps) ++ i ∷ order (drop (k + 1) ps)) at.place

  apart_there : Lacks x (order (take k ps))
  apart_there = subst (λ i. Lacks i (order (take k ps))) at.place (apart_front ps ss h.seated k taken_at)

  without_there : without_index x (order ps) ≡ order (take k ps) ++ order (drop (k + 1) ps)
  without_there = ap (without_index x) order_there ∙ without_at x _ _ apart_there

  pub left_without : order (set ps k vacant) ≡ without_index x (order ps)
  left_without = order_left ∙ sym without_there

  pub behind_there : tail (from_index x (order ps)) ≡ order (drop (k + 1) ps)
  behind_there = ap (λ r. tail (from_index x r)) order_there ∙ ap tail (from_at x _ _ apart_there)

  -- the index is gone then
  lacks_left : Lacks x (order (set ps k vacant))
  lacks_left = Lacks-order (set ps k vacant) x (λ j some same. elim (cases_eq j k) [
    | inl here ↦ some (ap (λ i. get_or (set ps k vacant) i vacant) here ∙ get_or-set_same ps k vacant vacant within_at)
    | inr other ↦
        let was = get_or-set_other ps k j vacant vacant other in
        other (sym (h.seated.placed j (λ f. some (was ∙ f))) ∙ ap (λ i. get_or ss i vacant) (sym was ∙ same) ∙ at.seat)
  ])

  -- and comes to the back
  pub arranged_moved : (g : ℕ) → Ends (set ps k vacant) g → x < length ss → length ps < 2 ^ 32 - 1 → AreArranged (set ps k vacant ++ x ∷ []) (set ss x (length (set ps k vacant))) (record { front = g; carried = cs.carried; unread = cs.unread })
  arranged_moved g ends bound room =
      let ds : Cursors = record { front = g; carried = cs.carried; unread = cs.unread } in
      subst (λ (ts : List ℕ). AreArranged (set ps k vacant ++ x ∷ []) ts ds) (set_again ss x vacant (length (set ps k vacant))) (arranged_pushed (set ps k vacant) (set ss x vacant) ds x (arranged_fronted g ends) lacks_left (omega (arith, length-set ss x vacant)) (omega (arith, len_left)))

  pub order_moved : order (set ps k vacant ++ x ∷ []) ≡ index_moved_to_back x (order ps)
  order_moved = order_push (set ps k vacant) x at.named ∙ ap (λ r. r ++ x ∷ []) left_without

  -- the last index is at the back already
  pub moved_last : length ps ≤ k + 1 → index_moved_to_back x (order ps) ≡ order ps
  moved_last last =
      let none : order (drop (k + 1) ps) ≡ [] = ap order (drop_all (k + 1) ps last) in
      ap (λ r. r ++ x ∷ []) (without_there ∙ ap (λ r. order (take k ps) ++ r) none ∙ append-nil (order (take k ps))) ∙ sym (order_there ∙ ap (λ r. order (take k ps) ++ x ∷ r) none)

module _ (ps ss : List ℕ) (cs : Cursors) (h : AreArranged ps ss cs) where
  pub has_taken : (x : ℕ) → get_or ss x vacant ≢ vacant → has_index x (order ps) ≡ true
  has_taken x d = has_seated ps ss h.seated x h.few d

  pub has_vacant : (x : ℕ) → get_or ss x vacant ≡ vacant → has_index x (order ps) ≡ false
  has_vacant x e = has_unseated ps ss h.seated x h.fits e

  -- an index that is there has a seat
  pub seat_taken : (x : ℕ) → has_index x (order ps) ≡ true → get_or ss x vacant ≢ vacant
  seat_taken x has e = true≢false (sym has ∙ has_vacant x e)

  pub seat_there : (x : ℕ) → has_index x (order ps) ≡ true → x < length ss
  seat_there x has = within ss x (seat_taken x has)

  pub seated_there : (x k : ℕ) → has_index x (order ps) ≡ true → k ≡ get_or ss x vacant → IsSeatedAt ps ss x k
  seated_there x k has e = subst (λ j. IsSeatedAt ps ss x j) (sym e) (has_seat ps ss h.seated x h.few (seat_taken x has))

  -- and a place
  pub place_there : (x : ℕ) → has_index x (order ps) ≡ true → get_or ss x vacant < length ps
  place_there x has = within_at ps ss cs x (get_or ss x vacant) h (seated_there x (get_or ss x vacant) has refl)

  pub head_front : 0 < length ps → head (order ps) ≡ Some (get_or ps cs.front vacant)
  head_front some = ap head (sym (order_drop_front ps cs.front h.ends.before) ∙ order_drop_some ps cs.front (h.ends.first some).1)

  pub final_last : 0 < length ps → final (order ps) ≡ Some (get_or ps (length ps - 1) vacant)
  final_last some = ap final (order_last ps cs.front h.ends some) ∙ final-push (order (take (length ps - 1) ps)) (get_or ps (length ps - 1) vacant)

-- the first index from a place on
pub head_from : (ps : List ℕ) (from k : ℕ) → from ≤ k → ((j : ℕ) → from ≤ j → j < k → get_or ps j vacant ≡ vacant) → get_or ps k vacant ≢ vacant → head (order (drop from ps)) ≡ Some (get_or ps k vacant)
head_from ps from k le empty d = ap head (order_skip ps from k le empty ∙ order_drop_some ps k d)

pub none_from : (ps : List ℕ) (from k : ℕ) → from ≤ k → length ps ≤ k → ((j : ℕ) → from ≤ j → j < k → get_or ps j vacant ≡ vacant) → head (order (drop from ps)) ≡ None
none_from ps from k le past empty = ap head (order_skip ps from k le empty ∙ ap order (drop_all k ps past))

-- for how many indices places are enough
indices_for_small : (cap : ℕ) → cap < 2 ^ 32 - 1 → indices_for cap ≡ cap / 2
indices_for_small cap lt = cond-true _ _ _ (lt-ltb cap (2 ^ 32 - 1) lt)

indices_for_large : (cap : ℕ) → 2 ^ 32 - 1 ≤ cap → indices_for cap ≡ 2 ^ 32 - 2
indices_for_large cap le = cond-false _ _ _ (le-ltb cap (2 ^ 32 - 1) le)

pub indices_for-below : (cap : ℕ) → 0 < indices_for cap → indices_for cap < min cap (2 ^ 32 - 1)
indices_for-below cap some = elim (cases_lt cap (2 ^ 32 - 1)) [
  | inl lt ↦ omega (arith, indices_for_small cap lt)
  | inr ge ↦ omega (arith, indices_for_large cap ge)
]

-- more seats, which are vacant
pub seats_more : (ss : List ℕ) (n : ℕ) (k : ℕ) → get_or (ss ++ replicate n vacant) k vacant ≡ get_or ss k vacant
seats_more ss n k = elim (cases_lt k (length ss)) [
  | inl lt ↦ get_or_append_left ss (replicate n vacant) vacant k lt
  | inr ge ↦ elim (cases_lt k (length ss + n)) [
    | inl less ↦ get_or-append_right ss (replicate n vacant) (length ss) k vacant refl ge ∙ get_or-replicate n (k - length ss) vacant vacant (omega arith) ∙ sym (get_or_past ss k vacant ge)
    | inr past ↦ get_or_past (ss ++ replicate n vacant) k vacant (omega (arith, length-append ss (replicate n vacant), length-replicate n vacant)) ∙ sym (get_or_past ss k vacant ge)
  ]
]
