-- The array of timers.
use Rattle.std.proofs.Common.{◌≡◌, ◌≢◌, ℕ, zero, suc, ◌+◌, ◌<◌, ◌^◌, true, List, [], ◌∷◌, ◌++◌, length, get_or, Option, Some, None, is_some, sym, ap, ◌∙◌, arith}
use Rattle.std.specs.List.{All}
use Rattle.std.proofs.lemmas.List.{length-append}
use Rattle.std.proofs.lemmas.Option.{none-some, same_Some}
use Rattle.slab.specs.Slab.{Slab, get, Updates, slab_len}
use Rattle.policy_base.specs.declared.name.NodeId.{NodeId}
use Rattle.policy_queue.specs.declared.timers.array.Timer.{Timer}
use Rattle.policy_queue.specs.Timers.Places.{LacksKey}
use Rattle.policy_queue.specs.Timers.Array.{key_at, key_of, stored_of, LacksSerial, SerialsDiffer, AreBelow, AreStored, IsArranged}

LacksSerial-remove : (s : ℕ) (front : List Timer) (n : Timer) (back : List Timer) → LacksSerial s (front ++ n ∷ back) → LacksSerial s (front ++ back)
LacksSerial-remove s [] n back h = h.1
LacksSerial-remove s (m ∷ front) n back h = (h.0, LacksSerial-remove s front n back h.1)

LacksSerial-insert : (s : ℕ) (front : List Timer) (n : Timer) (back : List Timer) → LacksSerial s (front ++ back) → n.id.serial ≢ s → LacksSerial s (front ++ n ∷ back)
LacksSerial-insert s [] n back h d = (d, h)
LacksSerial-insert s (m ∷ front) n back h d = (h.0, LacksSerial-insert s front n back h.1 d)

LacksSerial-at : (s : ℕ) (front : List Timer) (n : Timer) (back : List Timer) → LacksSerial s (front ++ n ∷ back) → n.id.serial ≢ s
LacksSerial-at s [] n back h = h.0
LacksSerial-at s (m ∷ front) n back h = LacksSerial-at s front n back h.1

SerialsDiffer-remove : (front : List Timer) (n : Timer) (back : List Timer) → SerialsDiffer (front ++ n ∷ back) → SerialsDiffer (front ++ back)
SerialsDiffer-remove [] n back h = h.2
SerialsDiffer-remove (m ∷ front) n back h = (h.0, LacksSerial-remove m.id.serial front n back h.1, SerialsDiffer-remove front n back h.2)

SerialsDiffer-others : (front : List Timer) (n : Timer) (back : List Timer) → SerialsDiffer (front ++ n ∷ back) → LacksSerial n.id.serial (front ++ back)
SerialsDiffer-others [] n back h = h.1
SerialsDiffer-others (m ∷ front) n back h = ((λ e. LacksSerial-at m.id.serial front n back h.1 (sym e)), SerialsDiffer-others front n back h.2)

SerialsDiffer-insert : (front : List Timer) (n : Timer) (back : List Timer) → SerialsDiffer (front ++ back) → n.id.serial < 2 ^ 64 → LacksSerial n.id.serial (front ++ back) → SerialsDiffer (front ++ n ∷ back)
SerialsDiffer-insert [] n back h f l = (f, l, h)
SerialsDiffer-insert (m ∷ front) n back h f l = (h.0, LacksSerial-insert m.id.serial front n back h.1 (λ e. l.0 (sym e)), SerialsDiffer-insert front n back h.2 f l.1)

pub AreBelow-remove : (next : ℕ) (front : List Timer) (n : Timer) (back : List Timer) → AreBelow next (front ++ n ∷ back) → AreBelow next (front ++ back)
AreBelow-remove next [] n back h = h.1
AreBelow-remove next (m ∷ front) n back h = (h.0, AreBelow-remove next front n back h.1)

pub AreBelow-at : (next : ℕ) (front : List Timer) (n : Timer) (back : List Timer) → AreBelow next (front ++ n ∷ back) → n.id.serial < next
AreBelow-at next [] n back h = h.0
AreBelow-at next (m ∷ front) n back h = AreBelow-at next front n back h.1

pub AreBelow-insert : (next : ℕ) (front : List Timer) (n : Timer) (back : List Timer) → AreBelow next (front ++ back) → n.id.serial < next → AreBelow next (front ++ n ∷ back)
AreBelow-insert next [] n back h lt = (lt, h)
AreBelow-insert next (m ∷ front) n back h lt = (h.0, AreBelow-insert next front n back h.1 lt)

pub AreBelow-more : (next : ℕ) (ts : List Timer) → AreBelow next ts → AreBelow (next + 1) ts
AreBelow-more next [] h = tt
AreBelow-more next (t ∷ ts) h = ((let lt = h.0 in omega arith), AreBelow-more next ts h.1)

pub LacksSerial-next : (next : ℕ) (ts : List Timer) → AreBelow next ts → LacksSerial next ts
LacksSerial-next next [] h = tt
LacksSerial-next next (t ∷ ts) h = ((λ e. let lt = h.0 in absurd (omega arith)), LacksSerial-next next ts h.1)

AreStored-update : (s s' : Slab (ℕ × ℕ)) (t : Timer) (o : Option (ℕ × ℕ)) (ts : List Timer) → Updates s s' t.id.slot o → get s t.id.slot ≡ Some (stored_of t) → LacksSerial t.id.serial ts → AreStored s ts → AreStored s' ts
AreStored-update s s' t o [] u at l h = tt
AreStored-update s s' t o (m ∷ ts) u at l h = (
  u.others m.id.slot (λ e. l.0 (ap (λ (p : ℕ × ℕ). p.1) (same_Some (stored_of m) (stored_of t) (sym h.0 ∙ ap (get s) e ∙ at)))) ∙ h.0,
  AreStored-update s s' t o ts u at l.1 h.1,
)

AreStored-at : (s : Slab (ℕ × ℕ)) (front : List Timer) (n : Timer) (back : List Timer) → AreStored s (front ++ n ∷ back) → get s n.id.slot ≡ Some (stored_of n)
AreStored-at s [] n back h = h.0
AreStored-at s (m ∷ front) n back h = AreStored-at s front n back h.1

AreStored-drop : (s : Slab (ℕ × ℕ)) (front : List Timer) (n : Timer) (back : List Timer) → AreStored s (front ++ n ∷ back) → AreStored s (front ++ back)
AreStored-drop s [] n back h = h.1
AreStored-drop s (m ∷ front) n back h = (h.0, AreStored-drop s front n back h.1)

AreStored-new : (s s' : Slab (ℕ × ℕ)) (slot : ℕ) (o : Option (ℕ × ℕ)) (ts : List Timer) → Updates s s' slot o → get s slot ≡ None → AreStored s ts → AreStored s' ts
AreStored-new s s' slot o [] u vacant h = tt
AreStored-new s s' slot o (m ∷ ts) u vacant h =
    (u.others m.id.slot (λ e. none-some (stored_of m) (sym vacant ∙ ap (get s) (sym e) ∙ h.0)) ∙ h.0, AreStored-new s s' slot o ts u vacant h.1)

AreStored-insert : (s : Slab (ℕ × ℕ)) (front : List Timer) (n : Timer) (back : List Timer) → AreStored s (front ++ back) → get s n.id.slot ≡ Some (stored_of n) → AreStored s (front ++ n ∷ back)
AreStored-insert s [] n back h at = (at, h)
AreStored-insert s (m ∷ front) n back h at = (h.0, AreStored-insert s front n back h.1 at)

-- a timer leaves
pub IsArranged-taken : (a b : List Timer) (s s' : Slab (ℕ × ℕ)) (t : Timer) → IsArranged (a ++ t ∷ b) s → Updates s s' t.id.slot None → slab_len s' + 1 ≡ slab_len s → IsArranged (a ++ b) s' × LacksSerial t.id.serial (a ++ b)
IsArranged-taken a b s s' t h updates fewer =
    let lacks = SerialsDiffer-others a t b h.apart in
    let left = SerialsDiffer-remove a t b h.apart in
    let was = h.counted in (
      record {
        apart = left;
        stored = AreStored-update s s' t None (a ++ b) updates (AreStored-at s a t b h.stored) lacks (AreStored-drop s a t b h.stored);
        counted = let old = length-append a (t ∷ b) in let new = length-append a b in omega arith;
      },
      lacks,
    )

-- a timer comes
pub IsArranged-added : (a b : List Timer) (s s' : Slab (ℕ × ℕ)) (t : Timer) → IsArranged (a ++ b) s → t.id.serial < 2 ^ 64 → LacksSerial t.id.serial (a ++ b) → get s t.id.slot ≡ None → Updates s s' t.id.slot (Some (stored_of t)) → slab_len s' ≡ slab_len s + 1 → IsArranged (a ++ t ∷ b) s'
IsArranged-added a b s s' t h fits lacks vacant updates more =
    let was = h.counted in
    record {
      apart = SerialsDiffer-insert a t b h.apart fits lacks;
      stored = AreStored-insert s' a t b (AreStored-new s s' t.id.slot _ (a ++ b) updates vacant h.stored) updates.changed;
      counted = let old = length-append a b in let new = length-append a (t ∷ b) in omega arith;
    }

pub contains : (a b : List Timer) (s : Slab (ℕ × ℕ)) (t : Timer) → IsArranged (a ++ t ∷ b) s → is_some (get s t.id.slot) ≡ true
contains a b s t h = ap is_some (AreStored-at s a t b h.stored)

-- a new serial makes a new key
pub lacks_key : (ts : List Timer) (placed serial : ℕ) → SerialsDiffer ts → serial < 2 ^ 64 → LacksSerial serial ts → LacksKey (key_at placed serial) ts
lacks_key [] placed serial h fits lacks = tt
lacks_key (t ∷ ts) placed serial h fits lacks = ((λ e. lacks.0 (let f = h.0 in omega arith)), lacks_key ts placed serial h.2 fits lacks.1)

pub fits_at : (ts : List Timer) (k : ℕ) (d : Timer) → SerialsDiffer ts → k < length ts → (get_or ts k d).id.serial < 2 ^ 64
fits_at [] k d h lt = absurd (omega arith)
fits_at (t ∷ ts) zero d h lt = h.0
fits_at (t ∷ ts) (suc k) d h lt = fits_at ts k d h.2 (omega arith)

stored_at : (s : Slab (ℕ × ℕ)) (ts : List Timer) (k : ℕ) (d : Timer) → AreStored s ts → k < length ts → get s (get_or ts k d).id.slot ≡ Some (stored_of (get_or ts k d))
stored_at s [] k d h lt = absurd (omega arith)
stored_at s (t ∷ ts) zero d h lt = h.0
stored_at s (t ∷ ts) (suc k) d h lt = stored_at s ts k d h.1 (omega arith)

pub unknown : (ts : List Timer) (s : Slab (ℕ × ℕ)) (id : NodeId) → IsArranged ts s → get s id.slot ≡ None → All (λ (t : Timer). t.id ≢ id) ts
unknown ts s id h none k d lt = λ e. none-some _ (sym none ∙ ap (λ (i : NodeId). get s i.slot) (sym e) ∙ stored_at s ts k d h.stored lt)

-- no timer has the name, where none with its key has
pub unnamed : (ts : List Timer) (s : Slab (ℕ × ℕ)) (id : NodeId) (placed serial : ℕ) → IsArranged ts s → get s id.slot ≡ Some (placed, serial) → All (λ (t : Timer). key_of t ≡ key_at placed serial → t.id ≢ id) ts → All (λ (t : Timer). t.id ≢ id) ts
unnamed ts s id placed serial h at other k d lt = λ e. other k d lt (ap (λ (p : ℕ × ℕ). key_at p.0 p.1) (same_Some (stored_of (get_or ts k d)) (placed, serial) (sym (stored_at s ts k d h.stored lt) ∙ ap (λ (i : NodeId). get s i.slot) e ∙ at))) e
