-- The timers of a wheel.
use Rattle.std.proofs.Common.{◌≡◌, ◌≢◌, ℕ, zero, suc, ◌+◌, ◌<◌, ◌≤◌, List, [], ◌∷◌, ◌++◌, length, get_or, refl, sym, ap, ◌∙◌, arith, subst}
use Rattle.std.specs.List.{All}
use Rattle.std.specs.List.Sorted.{IsPermutation}
use Rattle.std.proofs.lemmas.List.{length-append}
use Rattle.std.proofs.lemmas.List.Sorted.{IsPermutation-middle, IsPermutation-sym}
use Rattle.slab.specs.Slab.{Slab, get, slab_len}
use Rattle.policy_base.specs.declared.name.NodeId.{NodeId}
use Rattle.policy_queue.specs.declared.timers.array.Timer.{Timer}
use Rattle.policy_queue.specs.Timers.Timers.{moved}
use Rattle.policy_queue.specs.Timers.Places.{Comes, Goes}
use Rattle.policy_queue.specs.Timers.Array.{key_of, LacksSerial, AreBelow, AreStored, IsArranged, IsWheel, MovesTo}
use Rattle.policy_queue.proofs.timers.Arrays.{fits_at, AreBelow-remove, AreBelow-at, AreBelow-insert}

AreStored-same : (s s' : Slab (ℕ × ℕ)) (ts : List Timer) → ((k : ℕ) → get s' k ≡ get s k) → AreStored s ts → AreStored s' ts
AreStored-same s s' [] same h = tt
AreStored-same s s' (t ∷ ts) same h = (same t.id.slot ∙ h.0, AreStored-same s s' ts same h.1)

-- more room changes nothing
pub IsWheel-same : (ts : List Timer) (s s' : Slab (ℕ × ℕ)) (next : ℕ) → s' ≡ record s { capacity = s'.capacity } → IsWheel ts s next → IsWheel ts s' next
IsWheel-same ts s s' next same h = record {
  arranged = record {
    apart = h.arranged.apart;
    stored = AreStored-same s s' ts (λ k. ap (λ (x : Slab (ℕ × ℕ)). get x k) same) h.arranged.stored;
    counted = ap slab_len same ∙ h.arranged.counted;
  };
  below = h.below;
}

-- a timer came
pub below_came : (next : ℕ) (old new : List Timer) (t : Timer) → Comes old new t → AreBelow next old → t.id.serial < next → AreBelow next new
below_came next old new t h below lt = subst (λ ts. AreBelow next ts) (sym h.is) (AreBelow-insert next h.before t h.after (subst (λ ts. AreBelow next ts) h.was below) lt)

pub one_more : (old new : List Timer) (t : Timer) → Comes old new t → length new ≡ length old + 1
one_more old new t h =
    let was = ap length h.was ∙ length-append h.before h.after in
    let is = ap length h.is ∙ length-append h.before (t ∷ h.after) in
    omega arith

pub permutes_came : (old new : List Timer) (t : Timer) → Comes old new t → IsPermutation (t ∷ old) new
permutes_came old new t h =
    let middle = IsPermutation-sym (h.before ++ t ∷ h.after) (t ∷ (h.before ++ h.after)) (IsPermutation-middle h.before t h.after) in
    subst (λ ts. IsPermutation (t ∷ old) ts) (sym h.is) (subst (λ ts. IsPermutation (t ∷ ts) (h.before ++ t ∷ h.after)) (sym h.was) middle)

-- a timer left
pub below_left : (next k : ℕ) (old new : List Timer) (t : Timer) → Goes k old new t → AreBelow next old → AreBelow next new
below_left next k old new t h below = subst (λ ts. AreBelow next ts) (sym h.is) (AreBelow-remove next h.before t h.after (subst (λ ts. AreBelow next ts) h.was below))

pub one_fewer : (k : ℕ) (old new : List Timer) (t : Timer) → Goes k old new t → length new + 1 ≡ length old
one_fewer k old new t h =
    let was = ap length h.was ∙ length-append h.before (t ∷ h.after) in
    let is = ap length h.is ∙ length-append h.before h.after in
    omega arith

pub permutes_left : (k : ℕ) (old new : List Timer) (t : Timer) → Goes k old new t → IsPermutation old (t ∷ new)
permutes_left k old new t h =
    subst (λ ts. IsPermutation ts (t ∷ new)) (sym h.was) (subst (λ ts. IsPermutation (h.before ++ t ∷ h.after) (t ∷ ts)) (sym h.is) (IsPermutation-middle h.before t h.after))

-- a timer was put at another time
pub MovesTo-both : (k time generation : ℕ) (old middle new : List Timer) (t : Timer) → Goes k old middle t → Comes middle new (moved t time generation) → MovesTo k old new t time generation
MovesTo-both k time generation old middle new t g h = record { before = g.before; after = g.after; first = g.first; was = g.was; low = h.before; high = h.after; others = sym g.is ∙ h.was; is = h.is }

pub below_moved : (next k time generation : ℕ) (old new : List Timer) (t : Timer) → MovesTo k old new t time generation → AreBelow next old → AreBelow next new
below_moved next k time generation old new t h below =
    let whole = subst (λ ts. AreBelow next ts) h.was below in
    let left = subst (λ ts. AreBelow next ts) h.others (AreBelow-remove next h.before t h.after whole) in
    subst (λ ts. AreBelow next ts) (sym h.is) (AreBelow-insert next h.low (moved t time generation) h.high left (AreBelow-at next h.before t h.after whole))

pub as_many : (k time generation : ℕ) (old new : List Timer) (t : Timer) → MovesTo k old new t time generation → length new ≡ length old
as_many k time generation old new t h =
    let was = ap length h.was ∙ length-append h.before (t ∷ h.after) in
    let others = sym (length-append h.before h.after) ∙ ap length h.others ∙ length-append h.low h.high in
    let is = ap length h.is ∙ length-append h.low (moved t time generation ∷ h.high) in
    omega arith

pub permutes_from : (k time generation : ℕ) (old new : List Timer) (t : Timer) (h : MovesTo k old new t time generation) → IsPermutation old (t ∷ (h.before ++ h.after))
permutes_from k time generation old new t h = subst (λ ts. IsPermutation ts (t ∷ (h.before ++ h.after))) (sym h.was) (IsPermutation-middle h.before t h.after)

pub permutes_to : (k time generation : ℕ) (old new : List Timer) (t : Timer) (h : MovesTo k old new t time generation) → IsPermutation (moved t time generation ∷ (h.before ++ h.after)) new
permutes_to k time generation old new t h =
    let u = moved t time generation in
    let middle = IsPermutation-sym (h.low ++ u ∷ h.high) (u ∷ (h.low ++ h.high)) (IsPermutation-middle h.low u h.high) in
    subst (λ ts. IsPermutation (u ∷ (h.before ++ h.after)) ts) (sym h.is) (subst (λ ts. IsPermutation (u ∷ ts) (h.low ++ u ∷ h.high)) (sym h.others) middle)

pub first_moved : (time generation : ℕ) (old new : List Timer) (t : Timer) (h : MovesTo 0 old new t time generation) → old ≡ t ∷ (h.before ++ h.after)
first_moved time generation old new t h = h.was ∙ ap (λ l. l ++ t ∷ h.after) (h.first refl) ∙ ap (λ l. t ∷ (l ++ h.after)) (sym (h.first refl))

-- no timer has a name of another serial
pub lacks_named : (ts : List Timer) (id : NodeId) → LacksSerial id.serial ts → All (λ (t : Timer). t.id ≢ id) ts
lacks_named [] id h k d lt = absurd (omega arith)
lacks_named (t ∷ ts) id h zero d lt = λ e. h.0 (ap (λ (i : NodeId). i.serial) e)
lacks_named (t ∷ ts) id h (suc k) d lt = lacks_named ts id h.1 k d (omega arith)

-- where the first timer was placed behind now, all were
pub all_later : (ts : List Timer) (s : Slab (ℕ × ℕ)) (now : ℕ) (first : Timer) → IsArranged ts s → All (λ (t : Timer). key_of first ≤ key_of t) ts → now < first.placed → All (λ (t : Timer). now < t.placed) ts
all_later ts s now first h up late k d lt =
    let le = up k d lt in
    let fits = fits_at ts k d h.apart lt in
    omega arith

-- the timer of the least key was placed first
pub all_behind : (ts : List Timer) (s : Slab (ℕ × ℕ)) (first : Timer) → IsArranged ts s → All (λ (t : Timer). key_of first ≤ key_of t) ts → All (λ (t : Timer). first.placed ≤ t.placed) ts
all_behind ts s first h up k d lt =
    let le = up k d lt in
    let fits = fits_at ts k d h.apart lt in
    omega arith

-- a list that begins with a timer, and with one before these others
pub leads : (ts rest after : List Timer) (t u : Timer) → ts ≡ t ∷ rest → ts ≡ u ∷ after → ts ≡ t ∷ after
leads ts rest after t u e f = f ∙ ap (λ (v : Timer). v ∷ after) (sym (ap (λ xs. get_or xs 0 t) (sym e ∙ f)))

pub leads_same : (ts rest after : List Timer) (t u : Timer) → ts ≡ t ∷ rest → ts ≡ u ∷ after → u ≡ t
leads_same ts rest after t u e f = sym (ap (λ xs. get_or xs 0 t) (sym e ∙ f))
