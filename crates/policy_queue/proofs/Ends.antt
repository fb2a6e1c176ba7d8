-- The first and the last index of an array of places.
use Rattle.std.proofs.Common.{◌≡◌, ◌≢◌, ℕ, ◌+◌, ◌-◌, ◌<◌, ◌≤◌, List, [], ◌∷◌, ◌++◌, length, get_or, set, take, drop, refl, sym, ap, ◌∙◌, inl, inr, arith, Some}
use Rattle.std.proofs.lemmas.Bool.{cases_lt, cases_eq}
use Rattle.std.proofs.lemmas.List.{drop_all, length-set, get_or-set_same, get_or-set_other, get_or_append_left, get_or_at, length_push}
use Rattle.policy_queue.specs.Queue.{final}
use Rattle.policy_queue.specs.Indices.{vacant, order, Ends, EndsBut}
use Rattle.policy_queue.proofs.Order.{within, order_at}

pub final-push : {X : Type 0} (xs : List X) (x : X) → final (xs ++ x ∷ []) ≡ Some x
final-push [] x = refl
final-push (y ∷ []) x = refl
final-push (y ∷ z ∷ rest) x = final-push (z ∷ rest) x

-- the last index stands in the last place
pub order_last : (ps : List ℕ) (f : ℕ) → Ends ps f → 0 < length ps → order ps ≡ order (take (length ps - 1) ps) ++ get_or ps (length ps - 1) vacant ∷ []
order_last ps f h some =
    let none : order (drop (length ps - 1 + 1) ps) ≡ [] = ap order (drop_all (length ps - 1 + 1) ps (omega arith)) in
    order_at ps (length ps - 1) (h.last some) ∙ ap (λ r. order (take (length ps - 1) ps) ++ get_or ps (length ps - 1) vacant ∷ r) none

pub Ends-emptied : (ps : List ℕ) (f k : ℕ) → Ends ps f → get_or ps k vacant ≢ vacant → EndsBut (set ps k vacant) f k
Ends-emptied ps f k h there =
    let lt = within ps k there in
    let le : f ≤ k = elim (cases_lt k f) [ inl below ↦ absurd (there (h.before k below)) | inr ge ↦ ge ] in
    let len = length-set ps k vacant in
    record {
      before = λ j below. get_or-set_other ps k j vacant vacant (omega arith) ∙ h.before j below;
      behind = le;
      within = omega arith;
      empty = get_or-set_same ps k vacant vacant lt;
      first = λ other e. (h.first (omega arith)).1 (sym (get_or-set_other ps k f vacant vacant (λ e. other (sym e))) ∙ e);
      last = λ other e. h.last (omega arith) (sym (ap (λ i. get_or (set ps k vacant) (i - 1) vacant) len ∙ get_or-set_other ps k (length ps - 1) vacant vacant (omega arith)) ∙ e);
    }

-- the front moves on to the next index
pub Ends-advanced : (ps : List ℕ) (f k g : ℕ) → EndsBut ps f k → k ≡ f → k + 1 ≢ length ps → ((j : ℕ) → k + 1 ≤ j → j < g → get_or ps j vacant ≡ vacant) → (g < length ps → get_or ps g vacant ≢ vacant) → k + 1 ≤ g → g ≤ length ps → Ends ps g
Ends-advanced ps f k g h at_front more none first low high =
    let within_k = h.within in
    let last = h.last more in
    let lt : g < length ps = elim (cases_lt g (length ps)) [ inl lt ↦ lt | inr ge ↦ absurd (last (none (length ps - 1) (omega arith) (omega arith))) ] in
    record {
      before = λ j below. elim (cases_lt j f) [
        | inl early ↦ h.before j early
        | inr late ↦ elim (cases_eq j k) [ inl e ↦ ap (λ i. get_or ps i vacant) e ∙ h.empty | inr other ↦ none j (omega arith) below ]
      ];
      first = λ some. (lt, first lt);
      last = λ some. last;
      none = λ e. absurd (omega arith);
    }

-- a place in between was emptied
pub Ends-between : (ps : List ℕ) (f k : ℕ) → EndsBut ps f k → k ≢ f → k + 1 ≢ length ps → Ends ps f
Ends-between ps f k h other more =
    let behind = h.behind in
    let within_k = h.within in
    record {
      before = h.before;
      first = λ some. (omega arith, h.first other);
      last = λ some. h.last more;
      none = λ e. absurd (omega arith);
    }

pub Ends-push : (ps : List ℕ) (f s : ℕ) → s ≢ vacant → Ends ps f → Ends (ps ++ s ∷ []) f
Ends-push ps f s d h =
    let len = length_push ps s in
    let at : get_or (ps ++ s ∷ []) (length ps) vacant ≡ s = get_or_at ps s [] vacant (length ps) refl in
    let e : length (ps ++ s ∷ []) - 1 ≡ length ps = omega arith in
    let last : get_or (ps ++ s ∷ []) (length (ps ++ s ∷ []) - 1) vacant ≢ vacant = λ g. d (sym (ap (λ i. get_or (ps ++ s ∷ []) i vacant) e ∙ at) ∙ g) in
    elim (cases_lt 0 (length ps)) [
      | inl some ↦
          let first = h.first some in
          let lt = first.0 in
          record {
            before = λ j below. get_or_append_left ps (s ∷ []) vacant j (omega arith) ∙ h.before j below;
            first = λ _. (omega arith, λ g. first.1 (sym (get_or_append_left ps (s ∷ []) vacant f lt) ∙ g));
            last = λ _. last;
            none = λ e. absurd (omega arith);
          }
      | inr past ↦
          let zero_f : f ≡ 0 = h.none (omega arith) in
          let here : f ≡ length ps = omega arith in
          record {
            before = λ j below. absurd (omega arith);
            first = λ _. (omega arith, λ g. d (sym (ap (λ i. get_or (ps ++ s ∷ []) i vacant) here ∙ at) ∙ g));
            last = λ _. last;
            none = λ e. absurd (omega arith);
          }
    ]
