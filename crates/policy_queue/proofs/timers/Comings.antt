-- Timers that come into a row of places, and leave it.
use Rattle.std.proofs.Common.{◌≡◌, ◌≢◌, ℕ, zero, suc, ◌+◌, ◌-◌, ◌<◌, ◌≤◌, true, false, List, [], ◌∷◌, ◌++◌, length, get_or, set, take, drop, refl, sym, ap, ◌∙◌, arith, subst, append_assoc, inl, inr}
use Rattle.std.specs.List.{All, insert}
use Rattle.std.proofs.lemmas.Bool.{true≢false, cases_Bool}
use Rattle.std.proofs.lemmas.List.{take-append-drop, drop_more, drop-set, drop-set-lt, drop-append-le, drop_all, drop-drop, drop-take, length-append, length-take-le, length-drop, get_or-drop, get_or-take, get_or_default, drop-set-add, set_split, length-set, take_all}
use Rattle.std.proofs.lemmas.List.Elements.{All-nil, All-cons, All-append}
use Rattle.policy_base.specs.declared.name.NodeId.{NodeId}
use Rattle.policy_queue.specs.declared.timers.array.Timer.{Timer}
use Rattle.policy_queue.specs.declared.timers.places.Place.{Place}
use Rattle.policy_queue.specs.Timers.Array.{key_of}
use Rattle.policy_queue.specs.Timers.Places.{timer_at, key_in, height_in, height_at, with_timer, taken, AreAbove, IsSpread, AreUnder, AreFrom, LacksKey, StartsTaken, IsFirst, IsSpare, IsTaken, IsNamed, Comes, Goes, IsRow}
use Rattle.policy_queue.proofs.timers.Spreads.{spare, taken-append, taken-spare, taken-timer, height_le, IsSpread-remove, IsSpread-insert, IsSpread-spare, IsSpread-drop}

LacksKey-right : (key : ℕ) (xs ys : List Timer) → LacksKey key (xs ++ ys) → LacksKey key ys
LacksKey-right key [] ys h = h
LacksKey-right key (x ∷ xs) ys h = LacksKey-right key xs ys h.1

AreFrom-remove : (low : ℕ) (front : List Place) (n : Place) (back : List Place) → AreFrom low (front ++ n ∷ back) → AreFrom low (front ++ back)
AreFrom-remove low [] n back h = h.1
AreFrom-remove low (m ∷ front) n back h = (h.0, AreFrom-remove low front n back h.1)

AreUnder-remove : (high : ℕ) (front : List Place) (n : Place) (back : List Place) → AreUnder high (front ++ n ∷ back) → AreUnder high (front ++ back)
AreUnder-remove high [] n back h = h.1
AreUnder-remove high (m ∷ front) n back h = (h.0, AreUnder-remove high front n back h.1)

strictly : (p : Place) (low : ℕ) (ps : List Place) → low ≤ key_in p → LacksKey low (taken (p ∷ ps)) → (low < height_in p) × LacksKey low (taken ps)
strictly p low ps le h = elim (cases_Bool p.is_taken) [
  | inl e ↦ let lacks = rw e at h in rw e ((let ne : key_in p ≢ low = lacks.0 in omega arith), lacks.1)
  | inr e ↦ let lacks = rw e at h in rw e (omega arith, lacks)
]

-- behind a new key
above_from : (low : ℕ) (ps : List Place) → AreFrom low ps → LacksKey low (taken ps) → AreAbove low ps
above_from low [] f l = tt
above_from low (p ∷ ps) f l = let s = strictly p low ps f.0 l in (s.0, above_from low ps f.1 s.1)

-- a timer comes between places
pub came : (a b : List Place) (p : Place) → p.is_taken ≡ true → IsSpread (a ++ b) → AreUnder (key_in p) a → AreFrom (key_in p) b → LacksKey (key_in p) (taken (a ++ b)) → IsSpread (a ++ p ∷ b) × Comes (taken (a ++ b)) (taken (a ++ p ∷ b)) (timer_at p)
came a b p held h under from lacks =
    let key = key_in p in
    let right = LacksKey-right key (taken a) (taken b) (subst (λ ts. LacksKey key ts) (taken-append a b) lacks) in (
      IsSpread-insert a p b h held under (above_from key b from right),
      record { before = taken a; after = taken b; was = taken-append a b; is = taken-timer a p b held },
    )

-- a timer came, and the first place is taken if it was
pub record IsCome (old new : List Place) (t : Timer) : Type 0 where
  pub spread : IsSpread new
  pub comes : Comes (taken old) (taken new) t
  pub starts : StartsTaken old → StartsTaken new

split_list : (xs : List Place) (j : ℕ) (x : Place) → j < length xs → x ≡ get_or xs j x → xs ≡ take j xs ++ x ∷ drop (j + 1) xs
split_list xs j x lt e = sym (take-append-drop j xs) ∙ ap (λ r. take j xs ++ r) (drop_more xs j x lt) ∙ ap (λ (y : Place). take j xs ++ y ∷ drop (j + 1) xs) (sym e)

starts_up : (a b d : List Place) (x p : Place) → p.is_taken ≡ true → StartsTaken (a ++ (b ++ x ∷ d)) → StartsTaken (a ++ p ∷ (b ++ d))
starts_up [] b d x p held h = held
starts_up (m ∷ a) b d x p held h = h

starts_down : (a b d : List Place) (x p : Place) → x.is_taken ≡ false → StartsTaken (a ++ x ∷ (b ++ d)) → StartsTaken (a ++ (b ++ p ∷ d))
starts_down [] b d x p free h = absurd (true≢false (sym h ∙ free))
starts_down (m ∷ a) b d x p free h = h

pub fits_up : (ps new : List Place) (at sp : ℕ) (p : Place) → at ≤ sp → IsSpread ps → IsSpare ps sp → at ≤ length ps → AreUnder (key_in p) (take at ps) → AreFrom (key_in p) (drop at ps) → LacksKey (key_in p) (taken ps) → p.is_taken ≡ true
    → ((a b d : List Place) (x : Place) → ps ≡ a ++ (b ++ x ∷ d) → length a ≡ at → at + length b ≡ sp → new ≡ a ++ (p ∷ (b ++ d))) → IsCome ps new (timer_at p)
fits_up ps new at sp p le h free inside under from lacks held moved =
    let key = key_in p in
    let a : List Place = take at ps in
    let back : List Place = drop at ps in
    let j : ℕ = sp - at in
    let x : Place = get_or ps sp p in
    let b : List Place = take j back in
    let d : List Place = drop (j + 1) back in
    let lt = free.0 in
    let in_back : j < length back = let len = length-drop at ps in omega arith in
    let here : at + j ≡ sp = omega arith in
    let is_x : x ≡ get_or back j x = ap (λ i. get_or ps i p) (sym here) ∙ sym (get_or-drop at ps j p) ∙ get_or_default back j p x in_back in
    let parts : back ≡ b ++ x ∷ d = split_list back j x in_back is_x in
    let whole : ps ≡ a ++ (b ++ x ∷ d) = sym (take-append-drop at ps) ∙ ap (λ r. a ++ r) parts in
    let len_a : length a ≡ at = length-take-le at ps inside in
    let len_b : length b ≡ j = length-take-le j back (omega arith) in
    let is_new = moved a b d x whole len_a (omega arith) in
    let spare_x : x.is_taken ≡ false = free.1 p in
    let whole' : ps ≡ (a ++ b) ++ x ∷ d = whole ∙ sym (append_assoc a b (x ∷ d)) in
    let left : IsSpread (a ++ (b ++ d)) = subst (λ l. IsSpread l) (append_assoc a b d) (IsSpread-remove (a ++ b) x d (subst (λ l. IsSpread l) whole' h)) in
    let same : taken ps ≡ taken (a ++ (b ++ d)) = ap taken whole' ∙ taken-spare (a ++ b) x d spare_x ∙ ap taken (append_assoc a b d) in
    let from' : AreFrom key (b ++ d) = AreFrom-remove key b x d (subst (λ l. AreFrom key l) parts from) in
    let both = came a (b ++ d) p held left under from' (subst (λ ts. LacksKey key ts) same lacks) in
    record {
      spread = subst (λ l. IsSpread l) (sym is_new) both.0;
      comes = subst (λ l. Comes (taken ps) (taken l) (timer_at p)) (sym is_new) (subst (λ ts. Comes ts (taken (a ++ p ∷ (b ++ d))) (timer_at p)) (sym same) both.1);
      starts = λ s. subst (λ l. StartsTaken l) (sym is_new) (starts_up a b d x p held (subst (λ l. StartsTaken l) whole s));
    }

pub fits_down : (ps new : List Place) (at sp : ℕ) (p : Place) → sp < at → IsSpread ps → IsSpare ps sp → at ≤ length ps → AreUnder (key_in p) (take at ps) → AreFrom (key_in p) (drop at ps) → LacksKey (key_in p) (taken ps) → p.is_taken ≡ true
    → ((a b d : List Place) (x : Place) → ps ≡ a ++ (x ∷ (b ++ d)) → length a ≡ sp → sp + 1 + length b ≡ at → new ≡ a ++ (b ++ p ∷ d)) → IsCome ps new (timer_at p)
fits_down ps new at sp p le h free inside under from lacks held moved =
    let key = key_in p in
    let front : List Place = take at ps in
    let d : List Place = drop at ps in
    let x : Place = get_or ps sp p in
    let a : List Place = take sp front in
    let b : List Place = drop (sp + 1) front in
    let len_front : length front ≡ at = length-take-le at ps inside in
    let in_front : sp < length front = omega arith in
    let is_x : x ≡ get_or front sp x = sym (get_or-take at ps sp p le) ∙ get_or_default front sp p x in_front in
    let parts : front ≡ a ++ x ∷ b = split_list front sp x in_front is_x in
    let whole : ps ≡ a ++ x ∷ (b ++ d) = sym (take-append-drop at ps) ∙ ap (λ l. l ++ d) parts ∙ append_assoc a (x ∷ b) d in
    let len_a : length a ≡ sp = length-take-le sp front (omega arith) in
    let len_b : length b ≡ length front - (sp + 1) = length-drop (sp + 1) front in
    let is_new = moved a b d x whole len_a (omega arith) ∙ sym (append_assoc a b (p ∷ d)) in
    let spare_x : x.is_taken ≡ false = free.1 p in
    let assoc = append_assoc a b d in
    let left : IsSpread (a ++ b ++ d) = subst (λ l. IsSpread l) (sym assoc) (IsSpread-remove a x (b ++ d) (subst (λ l. IsSpread l) whole h)) in
    let same : taken ps ≡ taken (a ++ b ++ d) = ap taken whole ∙ taken-spare a x (b ++ d) spare_x ∙ ap taken (sym assoc) in
    let under' : AreUnder key (a ++ b) = AreUnder-remove key a x b (subst (λ l. AreUnder key l) parts under) in
    let both = came (a ++ b) d p held left under' from (subst (λ ts. LacksKey key ts) same lacks) in
    record {
      spread = subst (λ l. IsSpread l) (sym is_new) both.0;
      comes = subst (λ l. Comes (taken ps) (taken l) (timer_at p)) (sym is_new) (subst (λ ts. Comes ts (taken (a ++ b ++ p ∷ d)) (timer_at p)) (sym same) both.1);
      starts = λ s. subst (λ l. StartsTaken l) (sym is_new) (subst (λ l. StartsTaken l) (sym (append_assoc a b (p ∷ d))) (starts_down a b d x p spare_x (subst (λ l. StartsTaken l) whole s)));
    }

-- a key's timer
abbrev pub IsOther : ℕ → NodeId → Timer → Type 0
IsOther bound id t = key_of t ≡ bound → t.id ≢ id

all_with : (bound : ℕ) (id : NodeId) (p : Place) (ps : List Place) → (p.is_taken ≡ true → IsOther bound id (timer_at p)) → All (IsOther bound id) (taken ps) → All (IsOther bound id) (taken (p ∷ ps))
all_with bound id p ps head h = elim (cases_Bool p.is_taken) [
  | inl e ↦ rw e (All-cons (IsOther bound id) (timer_at p) (taken ps) (head e) h)
  | inr e ↦ rw e h
]

under_others : (bound : ℕ) (id : NodeId) (ps : List Place) → AreUnder bound ps → All (IsOther bound id) (taken ps)
under_others bound id [] h = All-nil (IsOther bound id)
under_others bound id (p ∷ ps) h = all_with bound id p ps (λ held e. let lt = h.0 in let same : key_in p ≡ bound = e in absurd (omega arith)) (under_others bound id ps h.1)

above_others : (bound low : ℕ) (id : NodeId) (ps : List Place) → bound ≤ low → AreAbove low ps → All (IsOther bound id) (taken ps)
above_others bound low id [] le h = All-nil (IsOther bound id)
above_others bound low id (p ∷ ps) le h = all_with bound id p ps (λ held e. let lt : low < height_at true (key_in p) = subst (λ b. low < height_at b (key_in p)) held h.0 in let same : key_in p ≡ bound = e in absurd (omega arith)) (above_others bound low id ps le h.1)

from_others : (bound : ℕ) (id : NodeId) (ps : List Place) → IsSpread ps → AreFrom bound ps → ((d : Place) → 0 < length ps → (get_or ps 0 d).is_taken ≡ true → (timer_at (get_or ps 0 d)).id ≢ id) → All (IsOther bound id) (taken ps)
from_others bound id [] h from other = All-nil (IsOther bound id)
from_others bound id (p ∷ ps) h from other = all_with bound id p ps (λ held e. other p (omega arith) held) (above_others bound (key_in p) id ps from.0 h.0)

pub sought : (ps : List Place) (k bound : ℕ) (id : NodeId) → IsSpread ps → AreUnder bound (take k ps) → AreFrom bound (drop k ps) → ((d : Place) → k < length ps → (get_or ps k d).is_taken ≡ true → (timer_at (get_or ps k d)).id ≢ id) → All (λ (t : Timer). key_of t ≡ bound → t.id ≢ id) (taken ps)
sought ps k bound id h under from other =
    let back : List Place = drop k ps in
    let plus : k + 0 ≡ k = omega arith in
    let at_0 : (d : Place) → get_or back 0 d ≡ get_or ps k d = λ d. get_or-drop k ps 0 d ∙ ap (λ i. get_or ps i d) plus in
    let first : (d : Place) → 0 < length back → (get_or back 0 d).is_taken ≡ true → (timer_at (get_or back 0 d)).id ≢ id = λ d lt held. let len = length-drop k ps in subst (λ (p : Place). (timer_at p).id ≢ id) (sym (at_0 d)) (other d (omega arith) (ap (λ (p : Place). p.is_taken) (sym (at_0 d)) ∙ held)) in
    let both = All-append (IsOther bound id) (taken (take k ps)) (taken back) (under_others bound id (take k ps) under) (from_others bound id back (IsSpread-drop k ps h) from first) in
    subst (λ ts. All (IsOther bound id) ts) (sym (taken-append (take k ps) back) ∙ ap taken (take-append-drop k ps)) both

-- as many timers as places
pub taken_fewer : (ps : List Place) → length (taken ps) ≤ length ps
taken_fewer [] = omega arith
taken_fewer (p ∷ ps) =
    let less = taken_fewer ps in
    elim (cases_Bool p.is_taken) [
      | inl e ↦ rw e (omega arith)
      | inr e ↦ rw e (omega arith)
    ]

pub starts_all : (ps : List Place) → length (taken ps) ≡ length ps → StartsTaken ps
starts_all [] e = tt
starts_all (p ∷ ps) e = elim (cases_Bool p.is_taken) [
  | inl held ↦ held
  | inr free ↦ let less = taken_fewer ps in let all = rw free at e in absurd (omega arith)
]

-- a timer leaves the place of this number behind the front
live_parts : (items : List Place) (front k : ℕ) (x : Place) → front + k < length items → x ≡ get_or items (front + k) x → drop front items ≡ take k (drop front items) ++ x ∷ drop (k + 1) (drop front items)
live_parts items front k x lt e = let len = length-drop front items in split_list (drop front items) k x (omega arith) (e ∙ sym (get_or-drop front items k x))

left_parts : (items : List Place) (front k : ℕ) (y : Place) → front + k < length items → drop front (set items (front + k) y) ≡ take k (drop front items) ++ y ∷ drop (k + 1) (drop front items)
left_parts items front k y lt =
    let len = length-drop front items in
    let live : List Place = drop front items in
    let next : suc k ≡ k + 1 = omega arith in
    drop-set-add front items k y ∙ set_split live k y (omega arith) ∙ ap (λ n. take k live ++ y ∷ drop n live) next

pub goes_at : (items : List Place) (front k : ℕ) (x : Place) (new : List Timer) → front + k < length items → x ≡ get_or items (front + k) x → x.is_taken ≡ true → new ≡ taken (take k (drop front items)) ++ taken (drop (k + 1) (drop front items)) → Goes k (taken (drop front items)) new (timer_at x)
goes_at items front k x new lt e held is =
    let live : List Place = drop front items in
    record {
      before = taken (take k live);
      after = taken (drop (k + 1) live);
      first = λ zero_k. ap (λ n. taken (take n live)) zero_k;
      was = ap taken (live_parts items front k x lt e) ∙ taken-timer (take k live) x (drop (k + 1) live) held;
      is = is;
    }

pub left_at : (items : List Place) (front k : ℕ) (x : Place) → front + k < length items → taken (drop front (set items (front + k) (spare x))) ≡ taken (take k (drop front items)) ++ taken (drop (k + 1) (drop front items))
left_at items front k x lt =
    let live : List Place = drop front items in
    ap taken (left_parts items front k (spare x) lt) ∙ taken-spare (take k live) (spare x) (drop (k + 1) live) refl ∙ taken-append (take k live) (drop (k + 1) live)

starts_set : (ps : List Place) (k : ℕ) (y : Place) → k ≢ 0 → StartsTaken ps → StartsTaken (set ps k y)
starts_set [] k y ne h = tt
starts_set (p ∷ ps) zero y ne h = absurd (ne refl)
starts_set (p ∷ ps) (suc k) y ne h = h

pub IsRow-left : (items : List Place) (front k : ℕ) (x : Place) → IsRow front items → k ≢ 0 → front + k < length items → x ≡ get_or items (front + k) x → IsRow front (set items (front + k) (spare x))
IsRow-left items front k x h ne lt e =
    let live : List Place = drop front items in
    record {
      within = let w = h.within in let len = length-set items (front + k) (spare x) in omega arith;
      spread = subst (λ l. IsSpread l) (sym (left_parts items front k (spare x) lt)) (IsSpread-spare (take k live) x (drop (k + 1) live) (subst (λ l. IsSpread l) (live_parts items front k x lt e) h.spread));
      starts = subst (λ l. StartsTaken l) (sym (drop-set-add front items k (spare x))) (starts_set live k (spare x) ne h.starts);
    }

-- the first timer leaves
dropped_more : (items : List Place) (front at first : ℕ) (y : Place) → at < first → front ≤ first → drop first (set items at y) ≡ drop (first - front) (drop front items)
dropped_more items front at first y lt le =
    let e : front + (first - front) ≡ first = omega arith in
    drop-set-lt first items at y lt ∙ ap (λ n. drop n items) (sym e) ∙ sym (drop-drop (first - front) front items)

pub IsRow-first : (items : List Place) (front at first : ℕ) (y : Place) → IsRow front items → at < first → front ≤ first → first ≤ length items → StartsTaken (drop first (set items at y)) → IsRow first (set items at y)
IsRow-first items front at first y h lt le inside starts = record {
  within = let len = length-set items at y in omega arith;
  spread = subst (λ l. IsSpread l) (sym (dropped_more items front at first y lt le)) (IsSpread-drop (first - front) (drop front items) h.spread);
  starts = starts;
}

pub first_left : (items : List Place) (front k first : ℕ) (y : Place) → k ≡ 0 → taken (drop first (set items (front + k) y)) ≡ taken (drop (front + k + 1) (set items (front + k) y)) → taken (drop first (set items (front + k) y)) ≡ taken (take k (drop front items)) ++ taken (drop (k + 1) (drop front items))
first_left items front k first y zero_k same =
    let live : List Place = drop front items in
    let e : front + k + 1 - front ≡ k + 1 = omega arith in
    same ∙ ap taken (dropped_more items front (front + k) (front + k + 1) y (omega arith) (omega arith)) ∙ ap (λ n. taken (drop n live)) e ∙ sym (ap (λ n. taken (take n live) ++ taken (drop (k + 1) live)) zero_k)

pub fewer_left : (items : List Place) (front k : ℕ) (x : Place) (new : List Timer) → front + k < length items → x ≡ get_or items (front + k) x → x.is_taken ≡ true → new ≡ taken (take k (drop front items)) ++ taken (drop (k + 1) (drop front items)) → length new < length items
fewer_left items front k x new lt e held is =
    let live : List Place = drop front items in
    let g = goes_at items front k x new lt e held is in
    let all = taken_fewer live in
    let len = length-drop front items in
    let was = ap length g.was ∙ length-append g.before (timer_at x ∷ g.after) in
    let now = ap length g.is ∙ length-append g.before g.after in
    omega arith

pub inside_at : (items : List Place) (front k : ℕ) → IsTaken (drop front items) k → front + k < length items
inside_at items front k h = let lt = h.0 in let len = length-drop front items in omega arith

pub held_at : (items : List Place) (front k : ℕ) (x : Place) → IsTaken (drop front items) k → x ≡ get_or items (front + k) x → x.is_taken ≡ true
held_at items front k x h e = ap (λ (p : Place). p.is_taken) (e ∙ sym (get_or-drop front items k x)) ∙ h.1 x

-- a timer comes before the front
pub IsRow-front : (items : List Place) (front : ℕ) (p : Place) → 0 < front → IsRow front items → p.is_taken ≡ true → AreFrom (key_in p) (drop front items) → LacksKey (key_in p) (taken (drop front items)) → IsRow (front - 1) (set items (front - 1) p)
IsRow-front items front p some h held from lacks =
    let back : front - 1 + 1 ≡ front = omega arith in
    let w = h.within in
    let is : drop (front - 1) (set items (front - 1) p) ≡ p ∷ drop front items = drop-set items (front - 1) p (omega arith) ∙ ap (λ n. p ∷ drop n items) back in
    record {
      within = let len = length-set items (front - 1) p in omega arith;
      spread = subst (λ l. IsSpread l) (sym is) (above_from (key_in p) (drop front items) from lacks, h.spread);
      starts = subst (λ l. StartsTaken l) (sym is) held;
    }

starts_came : (a b : List Place) (p : Place) → p.is_taken ≡ true → StartsTaken (a ++ b) → StartsTaken (a ++ p ∷ b)
starts_came [] b p held h = held
starts_came (m ∷ a) b p held h = h

-- a timer comes behind the front
pub row_came : (items new : List Place) (front at : ℕ) (p : Place) → IsRow front items → front ≤ length new → drop front new ≡ take at (drop front items) ++ p ∷ drop at (drop front items) → p.is_taken ≡ true → AreUnder (key_in p) (take at (drop front items)) → AreFrom (key_in p) (drop at (drop front items)) → LacksKey (key_in p) (taken (drop front items))
    → IsRow front new × Comes (taken (drop front items)) (taken (drop front new)) (timer_at p)
row_came items new front at p h within is held under from lacks =
    let live : List Place = drop front items in
    let a : List Place = take at live in
    let b : List Place = drop at live in
    let parts : live ≡ a ++ b = sym (take-append-drop at live) in
    let both = came a b p held (subst (λ l. IsSpread l) parts h.spread) under from (subst (λ l. LacksKey (key_in p) (taken l)) parts lacks) in (
      record {
        within = within;
        spread = subst (λ l. IsSpread l) (sym is) both.0;
        starts = subst (λ l. StartsTaken l) (sym is) (starts_came a b p held (subst (λ l. StartsTaken l) parts h.starts));
      },
      subst (λ l. Comes (taken live) (taken l) (timer_at p)) (sym is) (subst (λ l. Comes (taken l) (taken (a ++ p ∷ b)) (timer_at p)) (sym parts) both.1),
    )

pub pushed_is : (items : List Place) (front at : ℕ) (p : Place) → front ≤ length items → at ≡ length (drop front items) → drop front (items ++ p ∷ []) ≡ take at (drop front items) ++ p ∷ drop at (drop front items)
pushed_is items front at p le e =
    let live : List Place = drop front items in
    drop-append-le front items (p ∷ []) le ∙ ap (λ l. l ++ p ∷ []) (sym (take_all at live (omega arith))) ∙ ap (λ r. take at live ++ p ∷ r) (sym (drop_all at live (omega arith)))

pub inserted_is : (items : List Place) (front at : ℕ) (p : Place) → front + at ≤ length items → drop front (insert items (front + at) p) ≡ take at (drop front items) ++ p ∷ drop at (drop front items)
inserted_is items front at p le =
    let len = length-take-le (front + at) items le in
    drop-append-le front (take (front + at) items) (p ∷ drop (front + at) items) (omega arith)
    ∙ ap (λ l. l ++ p ∷ drop (front + at) items) (drop-take front at items)
    ∙ ap (λ r. take at (drop front items) ++ p ∷ r) (sym (drop-drop at front items))

pub goes_of : (items : List Place) (front k : ℕ) (x : Place) (new : List Timer) (t : Timer) → IsTaken (drop front items) k → x ≡ get_or items (front + k) x → t ≡ timer_at x → new ≡ taken (take k (drop front items)) ++ taken (drop (k + 1) (drop front items)) → Goes k (taken (drop front items)) new t
goes_of items front k x new t h e same is = subst (λ (u : Timer). Goes k (taken (drop front items)) new u) (sym same) (goes_at items front k x new (inside_at items front k h) e (held_at items front k x h e) is)

-- the first timer's key is least
above_keys : (low : ℕ) (ps : List Place) → AreAbove low ps → All (λ (u : Timer). low ≤ key_of u) (taken ps)
above_keys low [] h = All-nil (λ (u : Timer). low ≤ key_of u)
above_keys low (p ∷ ps) h =
    let key = height_le p low h.0 in
    elim (cases_Bool p.is_taken) [
      | inl e ↦ rw e (All-cons (λ (u : Timer). low ≤ key_of u) (timer_at p) (taken ps) key (above_keys low ps h.1))
      | inr e ↦ rw e (above_keys low ps h.1)
    ]

pub first_least : (ps : List Place) (t : Timer) → IsSpread ps → IsFirst ps t → All (λ (u : Timer). key_of t ≤ key_of u) (taken ps)
first_least [] t h first = absurd first
first_least (p ∷ ps) t h first = subst (λ (v : Timer). All (λ (u : Timer). key_of v ≤ key_of u) (taken (p ∷ ps))) (sym first.1) (subst (λ b. All (λ (u : Timer). key_in p ≤ key_of u) (with_timer b (timer_at p) (taken ps))) (sym first.0) (All-cons (λ (u : Timer). key_in p ≤ key_of u) (timer_at p) (taken ps) (omega arith) (above_keys (key_in p) ps h.0)))

pub first_is : (ps : List Place) (t : Timer) → IsFirst ps t → IsTaken ps 0 × (0 < length (taken ps)) × (t ≡ get_or (taken ps) 0 t)
first_is [] t first = absurd first
first_is (p ∷ ps) t first =
    let all : taken (p ∷ ps) ≡ timer_at p ∷ taken ps = ap (λ b. with_timer b (timer_at p) (taken ps)) first.0 in (
      (omega arith, λ d. first.0),
      (let len = ap length all in omega arith),
      first.1 ∙ sym (ap (λ ts. get_or ts 0 t) all),
    )

pub first_of : (items : List Place) (front : ℕ) (x : Place) (t : Timer) → IsRow front items → front < length items → x ≡ get_or items front x → t ≡ timer_at x → IsFirst (drop front items) t × All (λ (u : Timer). key_of t ≤ key_of u) (taken (drop front items))
first_of items front x t h lt e same =
    let live : List Place = drop front items in
    let is : live ≡ x ∷ drop (front + 1) items = drop_more items front x lt ∙ ap (λ (y : Place). y ∷ drop (front + 1) items) (sym e) in
    let first : IsFirst live t = subst (λ l. IsFirst l t) (sym is) (subst (λ l. StartsTaken l) is h.starts, same) in
    (first, first_least live t h.spread first)

pub named_id : (ps : List Place) (id : NodeId) (k : ℕ) (t : Timer) → IsNamed ps id k → ((d : Place) → t ≡ timer_at (get_or ps k d)) → t.id ≡ id
named_id ps id k t h is =
    let d : Place = record { placed = 0; serial = 0; entry = 0; slot = 0; expiry_gen = 0; is_taken = true } in
    ap (λ (u : Timer). u.id) (is d) ∙ (h.1 d).1

pub same_timer : (ps : List Place) (k : ℕ) (t u : Timer) → ((d : Place) → t ≡ timer_at (get_or ps k d)) → ((d : Place) → u ≡ timer_at (get_or ps k d)) → t ≡ u
same_timer ps k t u is_t is_u =
    let d : Place = record { placed = 0; serial = 0; entry = 0; slot = 0; expiry_gen = 0; is_taken = true } in
    is_t d ∙ sym (is_u d)
