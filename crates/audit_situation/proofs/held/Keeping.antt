-- What a change of the values held does to their representation.
use Rattle.std.proofs.Common.{inr, inl, ◌≡◌, refl, ap, ◌∙◌, sym, subst, ℕ, zero, suc, ◌+◌, ◌-◌, ◌<◌, ◌≤◌, ◌==◌, Bool, true, false, cond, not, ◌&&◌, ◌||◌, nat_lt, nat_le, nat_eq, List, [], ◌∷◌, ◌++◌, map, length, get_or, set, replicate, Option, option_map, Some, None, Result, Ok, Err, OnOk, OnErr, if◌then◌else◌, arith, true≢false}
use Rattle.std.specs.List.{find, list_all, starts_with, sum_by}
use Rattle.std.proofs.lemmas.Bool.{cond_both, cases_Bool, and_parts, and_from, eqb-true, eq-eqb}
use Rattle.std.proofs.lemmas.Bool.Decides.{nat_tests}
use Rattle.std.proofs.lemmas.List.{map-append, length-set, get_or-set_same, get_or-set_other}
use Rattle.std.proofs.lemmas.List.Folds.{list_all-append}
use Rattle.std.proofs.lemmas.List.Sums.{sum_by_push}
use Rattle.std.proofs.lemmas.Option.{none-some}
use Rattle.std.proofs.lemmas.Slice.Eq.{bytes_eq-Decides}
use Rattle.audit_model.specs.Bytewise.{same}
use Rattle.audit_model.specs.History.{Value}
use Rattle.audit_model.specs.Situation.{HeldValue}
use Rattle.audit_model.specs.Values.{without_key}
use Rattle.audit_situation.specs.Held.Slots.{HeldSlot, slot_of_key, slots_without}
use Rattle.audit_situation.specs.Held.Slots.{slot_used_at as used_slot}
use Rattle.audit_situation.specs.Held.Weights.{weight_of_part, values_of}
use Rattle.audit_situation.specs.Held.Holds.{Open, is_open_key, held_by, are_sound, are_past_marks, values_in, value_used_at, value_covered_by, marked_in, RepresentsHeld}
use Rattle.audit_situation.proofs.held.Pushing.{without-none}
use Rattle.audit_situation.proofs.held.Weighing.{weight-push, weight-without, sum-without}

-- ---- lists

pub find-map : {X Y : Type 0} (f : X → Y) (p : Y → Bool) (xs : List X) → find p (map f xs) ≡ option_map f (find (λ x. p (f x)) xs)
find-map f p [] = refl
find-map f p (x ∷ xs) = let next = find-map f p xs in grind (arith, next)

pub without-map : {X Y : Type 0} (f : X → Y) (key_of : Y → List ℕ) (key : List ℕ) (xs : List X) → without_key key_of key (map f xs) ≡ map f (without_key (λ x. key_of (f x)) key xs)
without-map f key_of key [] = refl
without-map f key_of key (x ∷ xs) = let next = without-map f key_of key xs in grind (arith, next)

all-without : {X : Type 0} (p : X → Bool) (key_of : X → List ℕ) (key : List ℕ) (xs : List X) → list_all p xs ≡ true → list_all p (without_key key_of key xs) ≡ true
all-without p key_of key [] h = refl
all-without p key_of key (x ∷ xs) h =
    cond_both (same key (key_of x)) _ _ (λ z. list_all p z ≡ true) (λ _. (and_parts (p x) (list_all p xs) h).1) (λ _. and_from _ _ (and_parts (p x) (list_all p xs) h).0 (all-without p key_of key xs (and_parts (p x) (list_all p xs) h).1))

-- two changes that agree on all that pass
map-all : {X Y : Type 0} (p : X → Bool) (f g : X → Y) (xs : List X) → list_all p xs ≡ true → ((x : X) → p x ≡ true → f x ≡ g x) → map f xs ≡ map g xs
map-all p f g [] h k = refl
map-all p f g (x ∷ xs) h k = let parts = and_parts (p x) (list_all p xs) h in ap (λ y. y ∷ map f xs) (k x parts.0) ∙ ap (λ ys. g x ∷ ys) (map-all p f g xs parts.1 k)

map-through : {X Y Z : Type 0} (f : X → Y) (g : Y → Z) (xs : List X) → map g (map f xs) ≡ map (λ x. g (f x)) xs
map-through f g [] = refl
map-through f g (x ∷ xs) = ap (λ ys. g (f x) ∷ ys) (map-through f g xs)

found-all : {X : Type 0} (p q : X → Bool) (xs : List X) (x : X) → list_all p xs ≡ true → find q xs ≡ Some x → p x ≡ true
found-all p q [] x h e = absurd (none-some x e)
found-all p q (y ∷ xs) x h e =
    elim (cases_Bool (q y)) [
      | inl t ↦ let is : y ≡ x = cc in subst (λ z. p z ≡ true) is (and_parts (p y) (list_all p xs) h).0
      | inr t ↦ (found-all p q xs x (and_parts (p y) (list_all p xs) h).1) (rw t at e)
    ]

all-more : {X : Type 0} (p q : X → Bool) (xs : List X) → ((x : X) → p x ≡ true → q x ≡ true) → list_all p xs ≡ true → list_all q xs ≡ true
all-more p q [] k h = refl
all-more p q (x ∷ xs) k h = let parts = and_parts (p x) (list_all p xs) h in and_from _ _ (k x parts.0) (all-more p q xs k parts.1)

-- ---- numbers

lt-lt : (a b : ℕ) → nat_lt a b ≡ true → a < b
lt-lt a b h = grind (arith, nat_tests)

lt-of : (a b : ℕ) → a < b → nat_lt a b ≡ true
lt-of a b h = grind (arith, nat_tests)

not-lt : (a b : ℕ) → b ≤ a → nat_lt a b ≡ false
not-lt a b h = grind (arith, nat_tests)

le-le : (a b : ℕ) → nat_le a b ≡ true → a ≤ b
le-le a b h = grind (arith, nat_tests)

le-of : (a b : ℕ) → a ≤ b → nat_le a b ≡ true
le-of a b h = grind (arith, nat_tests)

lt-suc : (n a : ℕ) → nat_lt a n ≡ true → nat_lt a (n + 1) ≡ true
lt-suc n a h = grind (arith, nat_tests)

le-suc : (n a : ℕ) → nat_le a n ≡ true → nat_le a (n + 1) ≡ true
le-suc n a h = grind (arith, nat_tests)

-- ---- values

pub values-by : (opens : Open) (marks : List ℕ) (slots : List HeldSlot) → values_of (map (held_by opens marks) slots) ≡ values_in slots
values-by opens marks slots = map-through (held_by opens marks) (λ h. h.value) slots

value-without : (key : List ℕ) (slots : List HeldSlot) → values_in (slots_without key slots) ≡ without_key (λ v. v.key) key (values_in slots)
value-without key slots = sym (without-map (λ s. s.value) (λ (v : Value). v.key) key slots)

value-found : (key : List ℕ) (slots : List HeldSlot) (s : HeldSlot) → slot_of_key key slots ≡ Some s → find (λ (v : Value). same key v.key) (values_in slots) ≡ Some s.value
value-found key slots s e = find-map (λ (s : HeldSlot). s.value) (λ (v : Value). same key v.key) slots ∙ ap (option_map (λ (s : HeldSlot). s.value)) e

-- ---- what holds of all values

pub small-view : (next : ℕ) (opens : Open) (marks : List ℕ) (slots : List HeldSlot) → are_sound next slots ≡ true → list_all (λ h. nat_lt h.value.part 256) (map (held_by opens marks) slots) ≡ true
small-view next opens marks [] h = refl
small-view next opens marks (s ∷ slots) h =
    let parts = and_parts (nat_lt s.stamp next && nat_lt s.value.part 256) (are_sound next slots) h in
    and_from _ _ (and_parts (nat_lt s.stamp next) (nat_lt s.value.part 256) parts.0).1 (small-view next opens marks slots parts.1)

-- ---- none at first

pub keeps-none : (marks weights : List ℕ) → marks ≡ replicate 256 zero → weights ≡ replicate 256 zero → RepresentsHeld 0 marks weights 0 []
keeps-none marks weights m w = record {
  sound = refl;
  marked = ap (are_past_marks 0) m ∙ zeros 256;
  marks_of_all = ap length m ∙ many 256;
  weights_of_all = ap length w ∙ many 256;
  weighed = λ part. ap (λ ws. get_or ws part 0) w ∙ zero-at 256 part;
  sum = refl;
}
  where
    many : (n : ℕ) → length (replicate n zero) ≡ n
    many zero = refl
    many (suc n) = ap suc (many n)

    zeros : (n : ℕ) → are_past_marks 0 (replicate n zero) ≡ true
    zeros zero = refl
    zeros (suc n) = zeros n

    zero-at : (n part : ℕ) → get_or (replicate n zero) part 0 ≡ zero
    zero-at zero part = refl
    zero-at (suc n) zero = refl
    zero-at (suc n) (suc part) = zero-at n part

-- ---- a use

used-sound : (next : ℕ) (key : List ℕ) (now : ℕ) (slots : List HeldSlot) → are_sound next (map (used_slot key now) slots) ≡ are_sound next slots
used-sound next key now [] = refl
used-sound next key now (s ∷ slots) = let ih = used-sound next key now slots in grind (arith, ih)

used-values : (key : List ℕ) (now : ℕ) (slots : List HeldSlot) → values_in (map (used_slot key now) slots) ≡ values_in slots
used-values key now [] = refl
used-values key now (s ∷ slots) = let ih = used-values key now slots in grind (arith, ih)

pub view-used : (opens : Open) (marks : List ℕ) (key : List ℕ) (now : ℕ) (slots : List HeldSlot)
    → map (held_by opens marks) (map (used_slot key now) slots) ≡ map (value_used_at key now) (map (held_by opens marks) slots)
view-used opens marks key now [] = refl
view-used opens marks key now (s ∷ slots) = let ih = view-used opens marks key now slots in grind (arith, ih)

module _ (next : ℕ) (opens : Open) (marks weights : List ℕ) (total : ℕ) (slots : List HeldSlot) (k : RepresentsHeld next marks weights total slots) where
  pub keeps-used : (key : List ℕ) (now : ℕ) → RepresentsHeld next marks weights total (map (used_slot key now) slots)
  keeps-used key now = record {
    sound = used-sound next key now slots ∙ k.sound;
    marked = k.marked;
    marks_of_all = k.marks_of_all;
    weights_of_all = k.weights_of_all;
    weighed = λ part. k.weighed part ∙ ap (weight_of_part part) (sym (used-values key now slots));
    sum = k.sum ∙ ap (sum_by (λ v. v.weight)) (sym (used-values key now slots));
  }

  -- ---- a value taken

  pub part-small : (key : List ℕ) (s : HeldSlot) → slot_of_key key slots ≡ Some s → s.value.part < 256
  part-small key s e =
      let sound = found-all (λ (s : HeldSlot). nat_lt s.stamp next && nat_lt s.value.part 256) (λ s. same key s.value.key) slots s k.sound e in
      lt-lt _ _ (and_parts (nat_lt s.stamp next) (nat_lt s.value.part 256) sound).1

  weights-split : (key : List ℕ) (s : HeldSlot) (part : ℕ) → slot_of_key key slots ≡ Some s → cond (s.value.part == part) s.value.weight 0 + weight_of_part part (values_in (slots_without key slots)) ≡ get_or weights part 0
  weights-split key s part e =
      ap (λ vs. cond (s.value.part == part) s.value.weight 0 + weight_of_part part vs) (value-without key slots)
      ∙ weight-without key part (values_in slots) s.value (value-found key slots s e) ∙ sym (k.weighed part)

  own-weight : (key : List ℕ) (s : HeldSlot) → slot_of_key key slots ≡ Some s → s.value.weight + weight_of_part s.value.part (values_in (slots_without key slots)) ≡ get_or weights s.value.part 0
  own-weight key s e = ap (λ b. cond b s.value.weight 0 + weight_of_part s.value.part (values_in (slots_without key slots))) (sym (eq-eqb s.value.part s.value.part refl)) ∙ weights-split key s s.value.part e

  all-weight : (key : List ℕ) (s : HeldSlot) → slot_of_key key slots ≡ Some s → s.value.weight + sum_by (λ v. v.weight) (values_in (slots_without key slots)) ≡ total
  all-weight key s e =
      ap (λ vs. s.value.weight + sum_by (λ v. v.weight) vs) (value-without key slots) ∙ sum-without key (values_in slots) s.value (value-found key slots s e) ∙ sym k.sum

  pub enough-weight : (key : List ℕ) (s : HeldSlot) → slot_of_key key slots ≡ Some s → s.value.weight ≤ get_or weights s.value.part 0
  enough-weight key s e = let o = own-weight key s e in omega arith

  pub enough-total : (key : List ℕ) (s : HeldSlot) → slot_of_key key slots ≡ Some s → s.value.weight ≤ total
  enough-total key s e = let o = all-weight key s e in omega arith

  pub keeps-taken : (key : List ℕ) (s : HeldSlot) → slot_of_key key slots ≡ Some s
      → RepresentsHeld next marks (set weights s.value.part (get_or weights s.value.part 0 - s.value.weight)) (total - s.value.weight) (slots_without key slots)
  keeps-taken key s e = record {
    sound = all-without (λ (s : HeldSlot). nat_lt s.stamp next && nat_lt s.value.part 256) (λ s. s.value.key) key slots k.sound;
    marked = k.marked;
    marks_of_all = k.marks_of_all;
    weights_of_all = length-set weights s.value.part _ ∙ k.weights_of_all;
    weighed = λ part. elim (cases_Bool (s.value.part == part)) [ inl h ↦ own-part part h | inr h ↦ other-part part h ];
    sum = let a = all-weight key s e in omega arith;
  }
    where
      Weighs : ℕ → Type 0
      Weighs part = get_or (set weights s.value.part (get_or weights s.value.part 0 - s.value.weight)) part 0 ≡ weight_of_part part (values_in (slots_without key slots))

      own-part : (part : ℕ) → (s.value.part == part) ≡ true → Weighs part
      own-part part h =
          let is = eqb-true s.value.part part h in
          let own = own-weight key s e in
          subst Weighs is (get_or-set_same weights s.value.part _ 0 (let l = k.weights_of_all in let p = part-small key s e in omega arith) ∙ omega arith)

      other-part : (part : ℕ) → (s.value.part == part) ≡ false → Weighs part
      other-part part h =
          get_or-set_other weights s.value.part part _ 0 (λ same_part. true≢false (sym (eq-eqb s.value.part part (sym same_part)) ∙ h))
          ∙ sym (weights-split key s part e) ∙ ap (λ b. cond b s.value.weight 0 + weight_of_part part (values_in (slots_without key slots))) h ∙ omega arith

  pub keeps-missed : (key : List ℕ) → slot_of_key key slots ≡ None → slots_without key slots ≡ slots
  keeps-missed key e = without-none (λ s. s.value.key) key slots e

  -- ---- a value added

  get-past : (xs : List ℕ) (i : ℕ) → are_past_marks next xs ≡ true → get_or xs i 0 ≤ next
  get-past [] i h = omega arith
  get-past (x ∷ xs) zero h = le-le x next (and_parts (nat_le x next) (are_past_marks next xs) h).0
  get-past (x ∷ xs) (suc i) h = get-past xs i (and_parts (nat_le x next) (are_past_marks next xs) h).1

  pub new-view : (s : HeldSlot) (held : HeldValue) → s.stamp ≡ next → s.value ≡ held.value → s.last_use ≡ held.last_use → is_open_key s.value.key opens ≡ true → held.covered ≡ false → held.evictable ≡ false
      → held_by opens marks s ≡ held
  new-view s held e v u o c m =
      let mark = get-past marks s.value.part k.marked in
      let not_marked = not-lt s.stamp (get_or marks s.value.part 0) (omega arith) in
      ap (λ b. record (held_by opens marks s) { covered = b }) (ap not o ∙ sym c)
      ∙ ap (λ b. record (held_by opens marks s) { covered = held.covered; evictable = b }) (not_marked ∙ sym m)
      ∙ ap (λ x. record { value = x; last_use = s.last_use; covered = held.covered; evictable = held.evictable }) v
      ∙ ap (λ x. record { value = held.value; last_use = x; covered = held.covered; evictable = held.evictable }) u

  pub keeps-added : (s : HeldSlot) → s.stamp ≡ next → s.value.part < 256
      → RepresentsHeld (next + 1) marks (set weights s.value.part (get_or weights s.value.part 0 + s.value.weight)) (total + s.value.weight) (slots ++ s ∷ [])
  keeps-added s e small = record {
    sound =
        list_all-append (λ (s : HeldSlot). nat_lt s.stamp (next + 1) && nat_lt s.value.part 256) slots (s ∷ [])
        ∙ and_from _ _ (all-more (λ (s : HeldSlot). nat_lt s.stamp next && nat_lt s.value.part 256) (λ (s : HeldSlot). nat_lt s.stamp (next + 1) && nat_lt s.value.part 256) slots older k.sound)
        (and_from _ _ (and_from _ _ (lt-of s.stamp (next + 1) (omega arith)) (lt-of s.value.part 256 small)) refl);
    marked = all-more (λ m. nat_le m next) (λ m. nat_le m (next + 1)) marks (λ m h. le-suc next m h) k.marked;
    marks_of_all = k.marks_of_all;
    weights_of_all = length-set weights s.value.part _ ∙ k.weights_of_all;
    weighed = λ part. elim (cases_Bool (s.value.part == part)) [ inl h ↦ own-part part h | inr h ↦ other-part part h ];
    sum = ap (λ n. n + s.value.weight) k.sum ∙ sym (sum_by_push (λ v. v.weight) (values_in slots) s.value) ∙ ap (sum_by (λ v. v.weight)) values_more;
  }
    where
      values_more : values_in slots ++ s.value ∷ [] ≡ values_in (slots ++ s ∷ [])
      values_more = sym (map-append (λ (s : HeldSlot). s.value) slots (s ∷ []))

      older : (s : HeldSlot) → (nat_lt s.stamp next && nat_lt s.value.part 256) ≡ true → (nat_lt s.stamp (next + 1) && nat_lt s.value.part 256) ≡ true
      older s h = let parts = and_parts (nat_lt s.stamp next) (nat_lt s.value.part 256) h in and_from _ _ (lt-suc next s.stamp parts.0) parts.1

      pushed : (part : ℕ) → get_or weights part 0 + cond (s.value.part == part) s.value.weight 0 ≡ weight_of_part part (values_in (slots ++ s ∷ []))
      pushed part = ap (λ n. n + cond (s.value.part == part) s.value.weight 0) (k.weighed part) ∙ sym (weight-push part (values_in slots) s.value) ∙ ap (weight_of_part part) values_more

      Weighs : ℕ → Type 0
      Weighs part = get_or (set weights s.value.part (get_or weights s.value.part 0 + s.value.weight)) part 0 ≡ weight_of_part part (values_in (slots ++ s ∷ []))

      own-part : (part : ℕ) → (s.value.part == part) ≡ true → Weighs part
      own-part part h =
          let is = eqb-true s.value.part part h in
          subst Weighs is
          (get_or-set_same weights s.value.part _ 0 (let l = k.weights_of_all in omega arith)
          ∙ ap (λ b. get_or weights s.value.part 0 + cond b s.value.weight 0) (sym (eq-eqb s.value.part s.value.part refl)) ∙ pushed s.value.part)

      other-part : (part : ℕ) → (s.value.part == part) ≡ false → Weighs part
      other-part part h =
          get_or-set_other weights s.value.part part _ 0 (λ same_part. true≢false (sym (eq-eqb s.value.part part (sym same_part)) ∙ h))
          ∙ plus_none (get_or weights part 0) ∙ ap (λ b. get_or weights part 0 + cond b s.value.weight 0) (sym h) ∙ pushed part
        where
          plus_none : (n : ℕ) → n ≡ n + 0
          plus_none n = omega arith

  -- ---- a part marked

  set-past : (xs : List ℕ) (i m : ℕ) → are_past_marks next xs ≡ true → m ≤ next → are_past_marks next (set xs i m) ≡ true
  set-past [] i m h le = refl
  set-past (x ∷ xs) zero m h le = and_from _ _ (le-of m next le) (and_parts (nat_le x next) (are_past_marks next xs) h).1
  set-past (x ∷ xs) (suc i) m h le = let parts = and_parts (nat_le x next) (are_past_marks next xs) h in and_from _ _ parts.0 (set-past xs i m parts.1 le)

  module _ (part : ℕ) (over anew : Bool) (small : part < 256) where
    abbrev pub mark_then : ℕ
    mark_then = if over then next else (if anew then 0 else get_or marks part 0)

    mark-past : mark_then ≤ next
    mark-past = let past = get-past marks part k.marked in grind (arith, past)

    pub keeps-marked : RepresentsHeld next (set marks part mark_then) weights total slots
    keeps-marked = record {
      sound = k.sound;
      marked = set-past marks part mark_then k.marked mark-past;
      marks_of_all = length-set marks part mark_then ∙ k.marks_of_all;
      weights_of_all = k.weights_of_all;
      weighed = k.weighed;
      sum = k.sum;
    }

    pub view-marked : map (held_by opens (set marks part mark_then)) slots ≡ map (marked_in part over anew) (map (held_by opens marks) slots)
    view-marked =
        map-all (λ (s : HeldSlot). nat_lt s.stamp next && nat_lt s.value.part 256) (held_by opens (set marks part mark_then)) (λ s. marked_in part over anew (held_by opens marks s)) slots k.sound
        (λ s h. elim (cases_Bool (s.value.part == part)) [ inl is ↦ here s (and_parts (nat_lt s.stamp next) (nat_lt s.value.part 256) h).0 is | inr is ↦ there s is ])
        ∙ sym (map-through (held_by opens marks) (marked_in part over anew) slots)
      where
        by_cases : (stamp old : ℕ) (o a : Bool) → nat_lt stamp next ≡ true → nat_lt stamp (if o then next else (if a then 0 else old)) ≡ (o || (not a && nat_lt stamp old))
        by_cases stamp old o a h = grind (arith, nat_tests, h)

        here : (s : HeldSlot) → nat_lt s.stamp next ≡ true → (s.value.part == part) ≡ true → held_by opens (set marks part mark_then) s ≡ marked_in part over anew (held_by opens marks s)
        here s h is =
            let e = eqb-true s.value.part part is in
            ap (λ m. record (held_by opens marks s) { evictable = nat_lt s.stamp m })
            (ap (λ p. get_or (set marks part mark_then) p 0) e ∙ get_or-set_same marks part mark_then 0 (let l = k.marks_of_all in omega arith))
            ∙ ap (λ b. record (held_by opens marks s) { evictable = b })
            (by_cases s.stamp (get_or marks part 0) over anew h ∙ ap (λ p. over || (not anew && nat_lt s.stamp (get_or marks p 0))) (sym e))
            ∙ sym (ap (λ b. if b then record (held_by opens marks s) { evictable = over || (not anew && nat_lt s.stamp (get_or marks s.value.part 0)) } else held_by opens marks s) is)

        there : (s : HeldSlot) → (s.value.part == part) ≡ false → held_by opens (set marks part mark_then) s ≡ marked_in part over anew (held_by opens marks s)
        there s is =
            ap (λ m. record (held_by opens marks s) { evictable = nat_lt s.stamp m })
            (get_or-set_other marks part s.value.part mark_then 0 (λ same_part. true≢false (sym (eq-eqb s.value.part part same_part) ∙ is)))
            ∙ sym (ap (λ b. if b then record (held_by opens marks s) { evictable = over || (not anew && nat_lt s.stamp (get_or marks s.value.part 0)) } else held_by opens marks s) is)

-- ---- values by key

pub find-held : (opens : Open) (marks : List ℕ) (key : List ℕ) (slots : List HeldSlot) → find (λ h. same key h.value.key) (map (held_by opens marks) slots) ≡ option_map (held_by opens marks) (slot_of_key key slots)
find-held opens marks key slots = find-map (held_by opens marks) (λ (h : HeldValue). same key h.value.key) slots

pub without-held : (opens : Open) (marks : List ℕ) (key : List ℕ) (slots : List HeldSlot) → without_key (λ h. h.value.key) key (map (held_by opens marks) slots) ≡ map (held_by opens marks) (slots_without key slots)
without-held opens marks key slots = without-map (held_by opens marks) (λ (h : HeldValue). h.value.key) key slots

none-of : {X Y : Type 0} (f : X → Y) (o : Option X) → option_map f o ≡ None → o ≡ None
none-of f None e = refl
none-of f (Some x) e = absurd (none-some (f x) (sym e))

-- no slot has the key where no value does
pub absent-slot : (opens : Open) (marks : List ℕ) (key : List ℕ) (slots : List HeldSlot) → find (λ h. same key h.value.key) (map (held_by opens marks) slots) ≡ None → slot_of_key key slots ≡ None
absent-slot opens marks key slots e = none-of (held_by opens marks) (slot_of_key key slots) (sym (find-held opens marks key slots) ∙ e)

pub on-ok : {T E : Type 0} (r : Result T E) {A B : Type 0} → (A → B) → OnOk r A → OnOk r B
on-ok (Ok x) f a = f a
on-ok (Err e) f a = a

pub either : {T E : Type 0} (r : Result T E) {A B C : Type 0} → (A → C) → (B → C) → OnOk r A → OnErr r B → C
either (Ok x) f g a b = f a
either (Err e) f g a b = g b

-- one value more, as it is kept
pub keeps-more : (next : ℕ) (opens : Open) (marks weights : List ℕ) (total : ℕ) (slots : List HeldSlot) → RepresentsHeld next marks weights total slots
    → (s : HeldSlot) (held : HeldValue) (after more : ℕ) (sums : List ℕ) (sum : ℕ) → s ≡ record { value = held.value; last_use = held.last_use; stamp = next } → held.value.part < 256
    → after ≡ next + 1 → sum ≡ get_or weights held.value.part 0 + held.value.weight → sums ≡ set weights held.value.part sum → more ≡ total + held.value.weight
    → RepresentsHeld after marks sums more (slots ++ s ∷ [])
keeps-more next opens marks weights total slots k s held after more sums sum is small a b w m =
    let t : HeldSlot = record { value = held.value; last_use = held.last_use; stamp = next } in
    subst (λ x. RepresentsHeld after marks sums more (slots ++ x ∷ [])) (sym is)
    (subst (λ n. RepresentsHeld n marks sums more (slots ++ t ∷ [])) (sym a)
    (subst (λ ws. RepresentsHeld (next + 1) marks ws more (slots ++ t ∷ [])) (sym (w ∙ ap (set weights held.value.part) b))
    (subst (λ n. RepresentsHeld (next + 1) marks (set weights held.value.part (get_or weights held.value.part 0 + held.value.weight)) n (slots ++ t ∷ [])) (sym m)
    (keeps-added next opens marks weights total slots k t refl small))))

-- what stands beside a key is seen as before where no other key was opened or closed
pub view-beside : (after before : Open) (marks : List ℕ) (key : List ℕ) (slots : List HeldSlot) → ((q : List ℕ) → same key q ≡ false → is_open_key q after ≡ is_open_key q before) → slot_of_key key slots ≡ None
    → map (held_by after marks) slots ≡ map (held_by before marks) slots
view-beside after before marks key [] others e = refl
view-beside after before marks key (s ∷ slots) others e = let next = view-beside after before marks key slots others in grind (arith, e, next)

-- where the keys that begin so were closed, their values are covered
pub view-covered : (after before : Open) (marks : List ℕ) (prefix : List ℕ) (slots : List HeldSlot) → ((q : List ℕ) → is_open_key q after ≡ (not (starts_with nat_eq q prefix) && is_open_key q before))
    → map (held_by after marks) slots ≡ map (value_covered_by prefix) (map (held_by before marks) slots)
view-covered after before marks prefix [] closed = refl
view-covered after before marks prefix (s ∷ slots) closed =
    let ih = view-covered after before marks prefix slots closed in
    let own = closed s.value.key in
    grind (arith, ih, own)

pub view-more : (next : ℕ) (after before : Open) (marks weights : List ℕ) (total : ℕ) (slots : List HeldSlot) → RepresentsHeld next marks weights total slots
    → (s : HeldSlot) (held : HeldValue) → s ≡ record { value = held.value; last_use = held.last_use; stamp = next } → slot_of_key held.value.key slots ≡ None
    → ((q : List ℕ) → is_open_key q after ≡ cond (same held.value.key q) true (is_open_key q before)) → held.covered ≡ false → held.evictable ≡ false
    → map (held_by after marks) (slots ++ s ∷ []) ≡ map (held_by before marks) slots ++ held ∷ []
view-more next after before marks weights total slots k s held is absent opened c m =
    map-append (held_by after marks) slots (s ∷ [])
    ∙ ap (λ hs. hs ++ held_by after marks s ∷ []) (view-beside after before marks held.value.key slots (λ q e. opened q ∙ ap (λ b. cond b true (is_open_key q before)) e) absent)
    ∙ ap (λ h. map (held_by before marks) slots ++ h ∷ [])
    (new-view next after marks weights total slots k s held (ap (λ (x : HeldSlot). x.stamp) is) (ap (λ (x : HeldSlot). x.value) is) (ap (λ (x : HeldSlot). x.last_use) is)
    (ap (λ (x : HeldSlot). is_open_key x.value.key after) is ∙ opened held.value.key ∙ ap (λ b. cond b true (is_open_key held.value.key before)) ((bytes_eq-Decides held.value.key held.value.key).1 refl)) c m)

-- the slot that is found is the key's own
pub found-key : (key : List ℕ) (slots : List HeldSlot) (s : HeldSlot) → slot_of_key key slots ≡ Some s → key ≡ s.value.key
found-key key slots s e = (bytes_eq-Decides key s.value.key).0 (go slots e)
  where
    go : (xs : List HeldSlot) → slot_of_key key xs ≡ Some s → same key s.value.key ≡ true
    go [] e = absurd (none-some s e)
    go (x ∷ xs) e = let next = go xs in grind (arith, e, next)
