-- Places with spare ones between them.
use Rattle.std.proofs.Common.{◌≡◌, ℕ, zero, suc, ◌+◌, ◌-◌, ◌<◌, ◌≤◌, true, false, List, [], ◌∷◌, ◌++◌, length, get_or, set, take, drop, refl, sym, ap, ◌∙◌, arith, subst, append_assoc, inl, inr}
use Rattle.std.specs.List.Sorted.{IsNonDecreasingBy}
use Rattle.std.proofs.lemmas.Bool.{cases_Bool}
use Rattle.std.proofs.lemmas.List.{take_more, take_more_set, drop_more, drop-set-lt, drop-set, take-set-le, length-append}
use Rattle.policy_queue.specs.declared.timers.array.Timer.{Timer}
use Rattle.policy_queue.specs.declared.timers.places.Place.{Place}
use Rattle.policy_queue.specs.Timers.Places.{timer_at, key_in, height_in, with_timer, taken, AreAbove, IsSpread, AreUnder, AreFrom, StartsTaken}

-- the place without its timer
abbrev pub spare : Place → Place
spare p = record p { is_taken = false }

pub taken-append : (xs ys : List Place) → taken (xs ++ ys) ≡ taken xs ++ taken ys
taken-append [] ys = refl
taken-append (p ∷ xs) ys = elim (cases_Bool p.is_taken) [
  | inl e ↦ rw e (ap (λ ts. timer_at p ∷ ts) (taken-append xs ys))
  | inr e ↦ rw e (taken-append xs ys)
]

pub taken-spare : (front : List Place) (n : Place) (back : List Place) → n.is_taken ≡ false → taken (front ++ n ∷ back) ≡ taken (front ++ back)
taken-spare front n back free = taken-append front (n ∷ back) ∙ ap (λ b. taken front ++ with_timer b (timer_at n) (taken back)) free ∙ sym (taken-append front back)

pub taken-timer : (front : List Place) (n : Place) (back : List Place) → n.is_taken ≡ true → taken (front ++ n ∷ back) ≡ taken front ++ timer_at n ∷ taken back
taken-timer front n back held = taken-append front (n ∷ back) ∙ ap (λ b. taken front ++ with_timer b (timer_at n) (taken back)) held

pub height_le : (p : Place) (low : ℕ) → low < height_in p → low ≤ key_in p
height_le p low h = elim (cases_Bool p.is_taken) [
  | inl e ↦ let under = rw e at h in omega arith
  | inr e ↦ let under = rw e at h in omega arith
]

height_ge : (p : Place) (low : ℕ) → low < key_in p → low < height_in p
height_ge p low h = elim (cases_Bool p.is_taken) [
  | inl e ↦ rw e h
  | inr e ↦ rw e (omega arith)
]

AreAbove-remove : (low : ℕ) (front : List Place) (n : Place) (back : List Place) → AreAbove low (front ++ n ∷ back) → AreAbove low (front ++ back)
AreAbove-remove low [] n back h = h.1
AreAbove-remove low (m ∷ front) n back h = (h.0, AreAbove-remove low front n back h.1)

AreAbove-insert : (low : ℕ) (front : List Place) (n : Place) (back : List Place) → AreAbove low (front ++ back) → low < height_in n → AreAbove low (front ++ n ∷ back)
AreAbove-insert low [] n back h lt = (lt, h)
AreAbove-insert low (m ∷ front) n back h lt = (h.0, AreAbove-insert low front n back h.1 lt)

pub IsSpread-remove : (front : List Place) (n : Place) (back : List Place) → IsSpread (front ++ n ∷ back) → IsSpread (front ++ back)
IsSpread-remove [] n back h = h.1
IsSpread-remove (m ∷ front) n back h = (AreAbove-remove (key_in m) front n back h.0, IsSpread-remove front n back h.1)

pub IsSpread-insert : (front : List Place) (n : Place) (back : List Place) → IsSpread (front ++ back) → n.is_taken ≡ true → AreUnder (key_in n) front → AreAbove (key_in n) back → IsSpread (front ++ n ∷ back)
IsSpread-insert [] n back h held under above = (above, h)
IsSpread-insert (m ∷ front) n back h held under above = (
  AreAbove-insert (key_in m) front n back h.0 (height_ge n (key_in m) under.0),
  IsSpread-insert front n back h.1 held under.1 above,
)

-- a place becomes spare
AreAbove-spare : (low : ℕ) (front : List Place) (n : Place) (back : List Place) → AreAbove low (front ++ n ∷ back) → AreAbove low (front ++ spare n ∷ back)
AreAbove-spare low [] n back h = ((let le = height_le n low h.0 in omega arith), h.1)
AreAbove-spare low (m ∷ front) n back h = (h.0, AreAbove-spare low front n back h.1)

pub IsSpread-spare : (front : List Place) (n : Place) (back : List Place) → IsSpread (front ++ n ∷ back) → IsSpread (front ++ spare n ∷ back)
IsSpread-spare [] n back h = h
IsSpread-spare (m ∷ front) n back h = (AreAbove-spare (key_in m) front n back h.0, IsSpread-spare front n back h.1)

-- a spare place of the same key comes behind a place
AreAbove-copy : (low : ℕ) (front : List Place) (n : Place) (back : List Place) → AreAbove low (front ++ n ∷ back) → AreAbove low (front ++ n ∷ (spare n ∷ back))
AreAbove-copy low [] n back h = (h.0, ((let le = height_le n low h.0 in omega arith), h.1))
AreAbove-copy low (m ∷ front) n back h = (h.0, AreAbove-copy low front n back h.1)

IsSpread-copy : (front : List Place) (n : Place) (back : List Place) → IsSpread (front ++ n ∷ back) → IsSpread (front ++ n ∷ (spare n ∷ back))
IsSpread-copy [] n back h = ((omega arith, h.0), (h.0, h.1))
IsSpread-copy (m ∷ front) n back h = (AreAbove-copy (key_in m) front n back h.0, IsSpread-copy front n back h.1)

pub IsSpread-drop : (k : ℕ) (ps : List Place) → IsSpread ps → IsSpread (drop k ps)
IsSpread-drop zero ps h = h
IsSpread-drop (suc k) [] h = tt
IsSpread-drop (suc k) (p ∷ ps) h = IsSpread-drop k ps h.1

-- keys rise
above_at : (low : ℕ) (ps : List Place) (k : ℕ) (d : Place) → AreAbove low ps → k < length ps → low ≤ key_in (get_or ps k d)
above_at low [] k d h lt = absurd (omega arith)
above_at low (p ∷ ps) zero d h lt = height_le p low h.0
above_at low (p ∷ ps) (suc k) d h lt = above_at low ps k d h.1 (omega arith)

pub rises : (ps : List Place) → IsSpread ps → IsNonDecreasingBy key_in ps
rises [] h i j d le lt = absurd (omega arith)
rises (p ∷ ps) h zero zero d le lt = omega arith
rises (p ∷ ps) h zero (suc j) d le lt = above_at (key_in p) ps j d h.0 (omega arith)
rises (p ∷ ps) h (suc i) zero d le lt = absurd (omega arith)
rises (p ∷ ps) h (suc i) (suc j) d le lt = rises ps h.1 i j d (omega arith) (omega arith)

pub under_all : (bound : ℕ) (ps : List Place) (r : ℕ) → ((k : ℕ) (d : Place) → k < r → k < length ps → key_in (get_or ps k d) < bound) → AreUnder bound (take r ps)
under_all bound ps zero f = tt
under_all bound [] (suc r) f = tt
under_all bound (p ∷ ps) (suc r) f = (f 0 p (omega arith) (omega arith), under_all bound ps r (λ k d lt inside. f (suc k) d (omega arith) (omega arith)))

pub from_all : (bound : ℕ) (ps : List Place) (r : ℕ) → ((k : ℕ) (d : Place) → r ≤ k → k < length ps → bound ≤ key_in (get_or ps k d)) → AreFrom bound (drop r ps)
from_all bound [] zero f = tt
from_all bound [] (suc r) f = tt
from_all bound (p ∷ ps) zero f = (f 0 p (omega arith) (omega arith), from_all bound ps zero (λ k d le inside. f (suc k) d (omega arith) (omega arith)))
from_all bound (p ∷ ps) (suc r) f = from_all bound ps r (λ k d le inside. f (suc k) d (omega arith) (omega arith))

-- places that move together
pub moved_down : (xs : List Place) (filled from : ℕ) (x : Place) → filled ≤ from → from < length xs → x ≡ get_or xs from x → take (filled + 1) (set xs filled x) ++ drop (from + 1) (set xs filled x) ≡ take filled xs ++ drop from xs
moved_down xs filled from x le lt e =
    ap (λ l. l ++ drop (from + 1) (set xs filled x)) (take_more_set xs filled x (omega arith))
    ∙ ap (λ r. (take filled xs ++ x ∷ []) ++ r) (drop-set-lt (from + 1) xs filled x (omega arith))
    ∙ append_assoc (take filled xs) (x ∷ []) (drop (from + 1) xs)
    ∙ ap (λ (y : Place). take filled xs ++ y ∷ drop (from + 1) xs) e
    ∙ ap (λ r. take filled xs ++ r) (sym (drop_more xs from x lt))

-- places that move apart
split_end : (xs : List Place) (left : ℕ) (x : Place) (back : List Place) → left < length xs → x ≡ get_or xs left x → take (left + 1) xs ++ back ≡ take left xs ++ x ∷ back
split_end xs left x back lt e =
    ap (λ l. l ++ back) (take_more xs left x lt) ∙ append_assoc (take left xs) (get_or xs left x ∷ []) back ∙ ap (λ (y : Place). take left xs ++ y ∷ back) (sym e)

put_end : (xs : List Place) (n end : ℕ) (y : Place) → n ≤ end → end < length xs → take n (set xs end y) ++ drop end (set xs end y) ≡ take n xs ++ y ∷ drop (end + 1) xs
put_end xs n end y le lt =
    ap (λ l. l ++ drop end (set xs end y)) (take-set-le n xs end y le) ∙ ap (λ r. take n xs ++ r) (drop-set xs end y lt)

pub moved_up : (xs : List Place) (left end : ℕ) (x : Place) → left ≤ end → end < length xs → x ≡ get_or xs left x → take left (set xs end x) ++ drop end (set xs end x) ≡ take (left + 1) xs ++ drop (end + 1) xs
moved_up xs left end x le lt e = put_end xs left end x le lt ∙ sym (split_end xs left x (drop (end + 1) xs) (omega arith) e)

spared_up : (xs : List Place) (left end : ℕ) (x : Place) → left < end → end < length xs → x ≡ get_or xs left x → take (left + 1) (set xs end (spare x)) ++ drop end (set xs end (spare x)) ≡ take left xs ++ x ∷ (spare x ∷ drop (end + 1) xs)
spared_up xs left end x le lt e = put_end xs (left + 1) end (spare x) (omega arith) lt ∙ split_end xs left x (spare x ∷ drop (end + 1) xs) (omega arith) e

-- what stays as places move apart
pub record IsDealt (ps : List Place) (ts : List Timer) : Type 0 where
  pub spread : IsSpread ps
  pub same : taken ps ≡ ts
  pub starts : StartsTaken ps

starts_copy : (front : List Place) (n : Place) (back : List Place) → StartsTaken (front ++ n ∷ back) → StartsTaken (front ++ n ∷ (spare n ∷ back))
starts_copy [] n back h = h
starts_copy (m ∷ front) n back h = h

pub IsDealt-timer : (xs : List Place) (left end : ℕ) (x : Place) (ts : List Timer) → left ≤ end → end < length xs → x ≡ get_or xs left x → IsDealt (take (left + 1) xs ++ drop (end + 1) xs) ts → IsDealt (take left (set xs end x) ++ drop end (set xs end x)) ts
IsDealt-timer xs left end x ts le lt e h = subst (λ ps. IsDealt ps ts) (sym (moved_up xs left end x le lt e)) h

pub IsDealt-spare : (xs : List Place) (left end : ℕ) (x : Place) (ts : List Timer) → left < end → end < length xs → x ≡ get_or xs left x → IsDealt (take (left + 1) xs ++ drop (end + 1) xs) ts → IsDealt (take (left + 1) (set xs end (spare x)) ++ drop end (set xs end (spare x))) ts
IsDealt-spare xs left end x ts le lt e h =
    let front : List Place = take left xs in
    let back : List Place = drop (end + 1) xs in
    let was = subst (λ ps. IsDealt ps ts) (split_end xs left x back (omega arith) e) h in
    let now : IsDealt (front ++ x ∷ (spare x ∷ back)) ts = record {
      spread = IsSpread-copy front x back was.spread;
      same = taken-append front (x ∷ (spare x ∷ back)) ∙ sym (taken-append front (x ∷ back)) ∙ was.same;
      starts = starts_copy front x back was.starts;
    } in
    subst (λ ps. IsDealt ps ts) (sym (spared_up xs left end x le lt e)) now

pub dealt_timer : (xs : List Place) (left end : ℕ) (x : Place) (ts : List Timer) → 1 ≤ left → left ≤ end → end ≤ length xs → x ≡ get_or xs (left - 1) x → IsDealt (take left xs ++ drop end xs) ts → IsDealt (take (left - 1) (set xs (end - 1) x) ++ drop (end - 1) (set xs (end - 1) x)) ts
dealt_timer xs left end x ts some le inside e h =
    let l : left - 1 + 1 ≡ left = omega arith in
    let r : end - 1 + 1 ≡ end = omega arith in
    IsDealt-timer xs (left - 1) (end - 1) x ts (omega arith) (omega arith) e (rw (l, r) h)

pub dealt_spare : (xs : List Place) (left end : ℕ) (x : Place) (ts : List Timer) → 1 ≤ left → left < end → end ≤ length xs → x ≡ get_or xs (left - 1) x → IsDealt (take left xs ++ drop end xs) ts → IsDealt (take left (set xs (end - 1) (spare x)) ++ drop (end - 1) (set xs (end - 1) (spare x))) ts
dealt_spare xs left end x ts some lt inside e h =
    let l : left - 1 + 1 ≡ left = omega arith in
    let r : end - 1 + 1 ≡ end = omega arith in
    let P : ℕ → Type 0 = λ n. IsDealt (take n (set xs (end - 1) (spare x)) ++ drop (end - 1) (set xs (end - 1) (spare x))) ts in
    subst P l (IsDealt-spare xs (left - 1) (end - 1) x ts (omega arith) (omega arith) e (rw (l, r) h))

-- what stays as places move together
pub record IsCompact (xs : List Place) (filled from : ℕ) (ts : List Timer) : Type 0 where
  pub spread : IsSpread (take filled xs ++ drop from xs)
  pub same : taken (take filled xs ++ drop from xs) ≡ ts
  pub all : length (taken (take filled xs)) ≡ filled

pub IsCompact-timer : (xs : List Place) (filled from : ℕ) (x : Place) (ts : List Timer) → filled ≤ from → from < length xs → x ≡ get_or xs from x → x.is_taken ≡ true → IsCompact xs filled from ts → IsCompact (set xs filled x) (filled + 1) (from + 1) ts
IsCompact-timer xs filled from x ts le lt e held h =
    let same = moved_down xs filled from x le lt e in
    record {
      spread = subst (λ ps. IsSpread ps) (sym same) h.spread;
      same = ap taken same ∙ h.same;
      all =
          ap (λ ps. length (taken ps)) (take_more_set xs filled x (omega arith))
          ∙ ap length (taken-timer (take filled xs) x [] held)
          ∙ length-append (taken (take filled xs)) (timer_at x ∷ [])
          ∙ ap (λ n. n + 1) h.all;
    }

pub IsCompact-spare : (xs : List Place) (filled from : ℕ) (x : Place) (ts : List Timer) → from < length xs → x ≡ get_or xs from x → x.is_taken ≡ false → IsCompact xs filled from ts → IsCompact xs filled (from + 1) ts
IsCompact-spare xs filled from x ts lt e free h =
    let front : List Place = take filled xs in
    let back : List Place = drop (from + 1) xs in
    let was : front ++ drop from xs ≡ front ++ x ∷ back = ap (λ r. front ++ r) (drop_more xs from x lt) ∙ ap (λ (y : Place). front ++ y ∷ back) (sym e) in
    record {
      spread = IsSpread-remove front x back (subst (λ ps. IsSpread ps) was h.spread);
      same = sym (taken-spare front x back free) ∙ sym (ap taken was) ∙ h.same;
      all = h.all;
    }
