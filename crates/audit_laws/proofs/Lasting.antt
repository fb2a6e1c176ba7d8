-- What a deed leaves of a key's live value, where nothing is told `Size`: no part, share or note counts.
use Rattle.std.proofs.Common.{◌≡◌, refl, ap, ◌∙◌, sym, subst, ℕ, ◌≤◌, Bool, true, false, true≢false, not, ◌&&◌, ◌||◌, cond, List, [], ◌∷◌, ◌++◌, map, Option, Some, None, nat_le, ◌⊎◌, inl, inr, arith}
use Rattle.std.specs.Prelude.{IsTrue}
use Rattle.std.specs.List.{find, filter}
use Rattle.std.specs.Option.{option_map, option_to_list}
use Rattle.std.proofs.lemmas.Bool.{cond_both, cases_Bool, and_parts, or_parts, or_right}
use Rattle.std.proofs.lemmas.Bool.Decides.{nat_tests}
use Rattle.std.proofs.lemmas.List.{map-append}
use Rattle.std.proofs.lemmas.List.Elements.{filter-append}
use Rattle.std.proofs.lemmas.Simd.{map-map}
use Rattle.std.proofs.Math.Bool.{and-false}
use Rattle.audit_model.specs.Bytewise.{same}
use Rattle.audit_model.specs.Changes.{newly_held, left_held, use_after, held_after, all_held_after}
use Rattle.audit_model.specs.Commands.{Deed, is_this, covers_key}
use Rattle.audit_model.specs.History.{Value}
use Rattle.audit_model.specs.Notes.{same_cause, newcomer, candidates_of, is_succeeded, is_true_cause, is_told_first, is_true_note, first_with_key, are_true_notes}
use Rattle.audit_model.specs.Situation.{HeldValue, is_dead_at, is_live_at, candidate_at}
use Rattle.audit_model.specs.Values.{earlier_deadline, after_ms, deadline, deadline_has_come, is_value_of, without_key, untold}
use Rattle.audit_model.specs.View.{Candidate}
use Rattle.audit_model.specs.declared.config.Config.{Config}
use Rattle.audit_model.specs.declared.transcript.Note.{Note}
use Rattle.audit_model.specs.declared.transcript.RemovalCause.{RemovalCause}
use Rattle.audit_model.specs.declared.transcript.RemovalCause.TheVariants.{Expired, Explicit, Replaced, Size}
use Rattle.audit_laws.specs.Telling.{none_with_size}
use Rattle.audit_laws.proofs.HeldAll.{none_succeeded}
use Rattle.audit_laws.proofs.Pairs.{Pairs, Differ}
use Rattle.audit_laws.proofs.Told.{each-passed, each-filter, Each, each-more, each_of_map, each_passing, without_key-map, untold-map}
use Rattle.audit_laws.proofs.Views.{same-true}

-- ---- lists

-- the first element
abbrev pub first : {X : Type 0} → List X → Option X
first [] = None
first (x ∷ xs) = Some x

-- those behind it
abbrev pub behind : {X : Type 0} → List X → List X
behind [] = []
behind (x ∷ xs) = xs

-- the first of a list that a function made
pub first-map : {X Y : Type 0} (f : X → Y) (xs : List X) → first (map f xs) ≡ option_map f (first xs)
first-map f [] = refl
first-map f (x ∷ xs) = refl

-- what is found first is first of those that pass
pub find-first : {X : Type 0} (p : X → Bool) (xs : List X) → find p xs ≡ first (filter p xs)
find-first p [] = refl
find-first p (x ∷ xs) = elim (cases_Bool (p x)) [ inl is ↦ rw is | inr is ↦ rw is (find-first p xs) ]

-- those that pass of a list that a function made
pub filter-mapped : {X Y : Type 0} (p : Y → Bool) (f : X → Y) (xs : List X) → filter p (map f xs) ≡ map f (filter (λ x. p (f x)) xs)
filter-mapped p f [] = refl
filter-mapped p f (x ∷ xs) = elim (cases_Bool (p (f x))) [ inl is ↦ rw is (ap (λ ys. f x ∷ ys) (filter-mapped p f xs)) | inr is ↦ rw is (filter-mapped p f xs) ]

filter-none : {X : Type 0} (p : X → Bool) (xs : List X) → Each (λ x. p x ≡ false) xs → filter p xs ≡ []
filter-none p [] h = refl
filter-none p (x ∷ xs) (e, h) = ap (λ b. cond b (x ∷ filter p xs) (filter p xs)) e ∙ filter-none p xs h

-- at most one element is left of some
pub data AtMostOne {X : Type 0} (xs : List X) : Type 0 where
  Nobody : xs ≡ [] → AtMostOne xs
  Lone : (x : X) → xs ≡ x ∷ [] → AtMostOne xs

-- the second list is the first one without some front, of which this is true
abbrev pub Pops : {X : Type 0} → (X → Type 0) → List X → List X → Type 0
Pops P [] ys = ys ≡ []
Pops P (x ∷ xs) ys = (ys ≡ x ∷ xs) ⊎ (P x × Pops P xs ys)

pops-none : {X : Type 0} (P : X → Type 0) (xs : List X) → Pops P xs xs
pops-none P [] = refl
pops-none P (x ∷ xs) = inl refl

-- ---- what is live

-- what counts of a key's live value
pub record Living : Type 0 where
  pub bytes : List ℕ
  pub accepted_at : ℕ
  pub own_deadline : Option ℕ
  pub last_use : ℕ

-- what counts of a held value
abbrev pub living_of : HeldValue → Living
living_of h = record { bytes = h.value.bytes; accepted_at = h.value.accepted_at; own_deadline = h.value.own_deadline; last_use = h.last_use }

-- its deadline
abbrev pub ends_at : Config → Living → Option ℕ
ends_at config l = earlier_deadline l.own_deadline (earlier_deadline (option_map (after_ms l.accepted_at) config.live_ms) (option_map (after_ms l.last_use) config.idle_ms))

-- it, unless its deadline has come
abbrev pub still : Config → ℕ → Living → Option Living
still config now l = cond (deadline_has_come (ends_at config l) now) None (Some l)

-- the same of what there may be
abbrev pub still_some : Config → ℕ → Option Living → Option Living
still_some config now None = None
still_some config now (Some l) = still config now l

-- what is live of a held value
abbrev pub alive : Config → ℕ → Option HeldValue → Option Living
alive config now None = None
alive config now (Some h) = cond h.covered None (still config now (living_of h))

-- what a deed leaves of what was live: deleted or covered, or used perhaps
abbrev pub left_by : Config → ℕ → (deletes covers uses : Bool) → Option Living → Option Living
left_by config now deletes covers uses None = None
left_by config now deletes covers uses (Some l) = cond (deletes || covers) None (still config now (record l { last_use = cond uses now l.last_use }))

-- a value that it accepts takes the place
abbrev pub accepted_by : Config → ℕ → List ℕ → Option Value → Option Living → Option Living
accepted_by config now key None rest = rest
accepted_by config now key (Some v) rest = cond (same key v.key) (still config now (living_of (newly_held v))) rest

-- what is live of a key after a deed
abbrev pub living_after : Config → ℕ → List ℕ → Deed → Option Living → Option Living
living_after config now key deed before =
    accepted_by config now key deed.value (left_by config now (is_this key deed.deletes) (covers_key key deed.covers) (is_this key deed.uses) before)

-- a value is accepted now, and not deleted or covered by its own deed
abbrev pub IsFresh : ℕ → Deed → Type 0
IsFresh now deed = (v : Value) → deed.value ≡ Some v → (covers_key v.key deed.covers ≡ false) × (is_this v.key deed.deletes ≡ false) × (v.accepted_at ≡ now)

-- those held of a key
abbrev pub of_key : List ℕ → List HeldValue → List HeldValue
of_key key held = filter (λ h. same key h.value.key) held

-- what is live of a key
abbrev pub lasting : Config → ℕ → List HeldValue → List ℕ → Option Living
lasting config now held key = alive config now (first (of_key key held))

-- at most one is held of a key
pub one-of_key : (key : List ℕ) (held : List HeldValue) → Pairs (λ g h. Differ g.value.key h.value.key) held → AtMostOne (of_key key held)
one-of_key key [] h = Nobody refl
one-of_key key (g ∷ gs) (e, h) = cond_both (same key g.value.key) _ _ AtMostOne (λ is. Lone g (ap (λ xs. g ∷ xs) (others is))) (λ _. one-of_key key gs h)
  where
    others : same key g.value.key ≡ true → of_key key gs ≡ []
    others s = filter-none (λ k. same key k.value.key) gs (each-more _ _ gs (λ k d. ap (λ x. same x k.value.key) (same-true key g.value.key s) ∙ d) e)

-- ---- time passes

come-on : (d : Option ℕ) (now later : ℕ) → now ≤ later → deadline_has_come d now ≡ true → deadline_has_come d later ≡ true
come-on None now later h e = e
come-on (Some moment) now later h e = after moment now later h e
  where
    after : (moment now later : ℕ) → now ≤ later → nat_le moment now ≡ true → nat_le moment later ≡ true
    after moment now later h e = grind (arith, nat_tests)

-- later the same is live, unless its deadline has come
pub alive-later : (config : Config) (now later : ℕ) (o : Option HeldValue) → now ≤ later → alive config later o ≡ still_some config later (alive config now o)
alive-later config now later None le = refl
alive-later config now later (Some h) le = go h.covered (deadline_has_come (ends_at config (living_of h)) now) refl
  where
    go : (c d : Bool) → deadline_has_come (ends_at config (living_of h)) now ≡ d
        → cond c None (still config later (living_of h)) ≡ still_some config later (cond c None (cond d None (Some (living_of h))))
    go true d e = refl
    go false true e = ap (λ b. cond b None (Some (living_of h))) (come-on (ends_at config (living_of h)) now later le e)
    go false false e = refl

-- ---- a held value and what is seen of it

record Paired : Type 0 where
  value : Value
  last_use : ℕ
  covered : Bool
  evictable : Bool
  dead : Bool
  new : Bool

abbrev held_of : Paired → HeldValue
held_of z = record { value = z.value; last_use = z.last_use; covered = z.covered; evictable = z.evictable }

abbrev seen_of : Paired → Candidate
seen_of z = record { value = z.value; dead = z.dead; covered = z.covered; evictable = z.evictable; new = z.new }

abbrev key_of : Paired → List ℕ
key_of z = z.value.key

-- ---- notes, key by key

module _ (key : List ℕ) where
  abbrev mine : Paired → Bool
  mine z = same key z.value.key

  without_other : (k : List ℕ) (zs : List Paired) → same key k ≡ false → filter mine (without_key key_of k zs) ≡ filter mine zs
  without_other k [] e = refl
  without_other k (z ∷ zs) e =
      elim (cases_Bool (same k z.value.key)) [
        | inl is ↦ rw is (sym (ap (λ b. cond b (z ∷ filter mine zs) (filter mine zs)) (ap (same key) (sym (same-true k z.value.key is)) ∙ e)))
        | inr is ↦ rw is (ap (λ xs. cond (mine z) (z ∷ xs) xs) (without_other k zs e))
      ]

  without_mine : (zs : List Paired) → filter mine (without_key key_of key zs) ≡ behind (filter mine zs)
  without_mine [] = refl
  without_mine (z ∷ zs) =
      elim (cases_Bool (same key z.value.key)) [
        | inl e ↦ rw e
        | inr e ↦ rw e (ap (λ b. cond b (z ∷ filter mine (without_key key_of key zs)) (filter mine (without_key key_of key zs))) e ∙ (without_mine zs))
      ]

  module _ (config : Config) (olds : List Candidate) (deed : Deed) where
    -- it may leave with another cause than `Size`
    abbrev gone : Paired → Bool
    gone z = z.dead || z.covered || is_succeeded deed (seen_of z)

    gone-by : (cause : RemovalCause) (z : Paired) → same_cause cause Size ≡ false → is_true_cause config olds deed (seen_of z) cause ≡ true → gone z ≡ true
    gone-by Expired z other e = ap (λ b. b || z.covered || is_succeeded deed (seen_of z)) e
    gone-by Explicit z other e = grind (arith, e)
    gone-by Replaced z other e = grind (arith, e)
    gone-by Size z other e = absurd (true≢false other)

    gone-told : (note : Note) (z : Paired) → same_cause note.cause Size ≡ false → is_true_note config olds deed note (Some (seen_of z)) ≡ true → gone z ≡ true
    gone-told note z other e =
        elim (cases_Bool (is_told_first deed (seen_of z))) [
          | inl is ↦ or_right (z.dead || z.covered) _ (and_parts (is_succeeded deed (seen_of z)) _ is).0
          | inr is ↦ gone-by note.cause z other (rw is at (and_parts (same note.value z.value.bytes) _ e).1)
        ]

    first-seen : (k : List ℕ) (zs : List Paired) → same key k ≡ true → first_with_key k (map seen_of zs) ≡ option_map seen_of (first (filter mine zs))
    first-seen k zs e =
        find-first (λ c. same k c.value.key) (map seen_of zs)
        ∙ ap first (filter-mapped (λ c. same k c.value.key) seen_of zs)
        ∙ first-map seen_of (filter (λ z. same k z.value.key) zs)
        ∙ ap (λ x. option_map seen_of (first (filter (λ z. same x z.value.key) zs))) (sym (same-true key k e))

    popped : (note : Note) (left zs : List Paired) → same_cause note.cause Size ≡ false → is_true_note config olds deed note (option_map seen_of (first zs)) ≡ true
        → Pops (λ z. gone z ≡ true) (behind zs) left → Pops (λ z. gone z ≡ true) zs left
    popped note left [] other e h = absurd (true≢false (sym e))
    popped note left (z ∷ zs) other e h = inr (gone-told note z other e, h)

    none-of_size : (note : Note) (notes : List Note) → none_with_size (note ∷ notes) ≡ true → (same_cause note.cause Size ≡ false) × (none_with_size notes ≡ true)
    none-of_size note notes e =
        let p = and_parts (not (same_cause note.cause Size)) (none_with_size notes) e in ((elim (cases_Bool (same_cause note.cause Size)) [ inl is ↦ rw is (absurd (true≢false (sym (rw is at p.0)))) | inr is ↦ rw is ]), p.1)

    -- what the notes tell of the key is gone
    pops : (notes : List Note) (zs : List Paired) → are_true_notes config olds deed (map seen_of zs) notes ≡ true → none_with_size notes ≡ true
        → Pops (λ z. gone z ≡ true) (filter mine zs) (filter mine (untold key_of notes zs))
    pops [] zs e n = pops-none (λ z. gone z ≡ true) (filter mine zs)
    pops (note ∷ notes) zs e n =
        let told = and_parts (is_true_note config olds deed note (first_with_key note.key (map seen_of zs))) _ e in
        let sizes = none-of_size note notes n in
        elim (cases_Bool (same key note.key)) [
          | inl is ↦ popped note (filter mine (untold key_of notes (without_key key_of note.key zs))) (filter mine zs) sizes.0 (ap (is_true_note config olds deed note) (sym (first-seen note.key zs is)) ∙ told.0) (subst (λ xs. Pops (λ z. gone z ≡ true) xs (filter mine (untold key_of notes (without_key key_of note.key zs)))) (ap (λ k. filter mine (without_key key_of k zs)) (sym (same-true key note.key is)) ∙ without_mine zs) (pops notes (without_key key_of note.key zs) (ap (λ cs. are_true_notes config olds deed cs notes) (sym (without_key-map seen_of (λ (c : Candidate). c.value.key) note.key zs)) ∙ told.1) sizes.1))
          | inr is ↦ subst (λ xs. Pops (λ z. gone z ≡ true) xs (filter mine (untold key_of notes (without_key key_of note.key zs)))) (without_other note.key zs is) (pops notes (without_key key_of note.key zs) (ap (λ cs. are_true_notes config olds deed cs notes) (sym (without_key-map seen_of (λ (c : Candidate). c.value.key) note.key zs)) ∙ told.1) sizes.1)
        ]

-- ---- what a deed leaves

abbrev old_of : Config → ℕ → HeldValue → Paired
old_of config now h =
    record { value = h.value; last_use = h.last_use; covered = h.covered; evictable = h.evictable; dead = is_dead_at config now h; new = false }

abbrev new_of : Config → Value → Paired
new_of config v =
    record { value = v; last_use = v.accepted_at; covered = false; evictable = false; dead = deadline_has_come (deadline config v v.accepted_at) v.accepted_at; new = true }

module _ (config : Config) (now : ℕ) (key : List ℕ) where
  left-cases : (h : HeldValue) (c d x u del : Bool) → deadline_has_come (ends_at config (living_of h)) now ≡ d → del ≡ false
      → cond (c || x) None (still config now (record (living_of h) { last_use = cond (u && (not c && not d)) now h.last_use }))
      ≡ left_by config now del x u (cond c None (cond d None (Some (living_of h))))
  left-cases h true d x u del e k = refl
  left-cases h false true true u del e k = refl
  left-cases h false true false u del e k =
      ap (λ b. still config now (record (living_of h) { last_use = cond b now h.last_use })) (and-false u)
      ∙ ap (λ b. cond b None (Some (living_of h))) e
  left-cases h false false x true del e k = ap (λ b. cond (b || x) None (still config now (record (living_of h) { last_use = now }))) (sym k)
  left-cases h false false x false del e k = ap (λ b. cond (b || x) None (still config now (living_of h))) (sym k)

  gone-cases : (h : HeldValue) (c d x u del : Bool) → (d || c || (false || del)) ≡ true → left_by config now del x u (cond c None (cond d None (Some (living_of h)))) ≡ None
  gone-cases h true d x u del e = refl
  gone-cases h false true x u del e = refl
  gone-cases h false false x u true e = refl
  gone-cases h false false x u false e = absurd (true≢false (sym e))

  module _ (held : List HeldValue) (deed : Deed) (notes : List Note) where
    abbrev olds : List Candidate
    olds = map (candidate_at config now) held

    abbrev zs : List Paired
    zs = map (old_of config now) held ++ option_to_list (option_map (new_of config) deed.value)

    abbrev left : List Paired
    left = filter (mine key) (untold key_of notes zs)

    abbrev values : List Value
    values = map (λ h. h.value) (left_held held deed notes)

    abbrev then_held : HeldValue → HeldValue
    then_held h = held_after config now held deed notes values h

    back : (hs : List HeldValue) → map held_of (map (old_of config now) hs) ≡ hs
    back [] = refl
    back (h ∷ hs) = ap (λ xs. h ∷ xs) (back hs)

    new-held : (o : Option Value) → map held_of (option_to_list (option_map (new_of config) o)) ≡ option_to_list (option_map newly_held o)
    new-held None = refl
    new-held (Some v) = refl

    new-seen : (o : Option Value) → map seen_of (option_to_list (option_map (new_of config) o)) ≡ option_to_list (option_map (newcomer config) o)
    new-seen None = refl
    new-seen (Some v) = refl

    as_held : map held_of zs ≡ held ++ option_to_list (option_map newly_held deed.value)
    as_held =
        map-append held_of (map (old_of config now) held) (option_to_list (option_map (new_of config) deed.value))
        ∙ ap (λ xs. xs ++ map held_of (option_to_list (option_map (new_of config) deed.value))) (back held)
        ∙ ap (λ xs. held ++ xs) (new-held deed.value)

    as_seen : map seen_of zs ≡ candidates_of config olds deed
    as_seen =
        map-append seen_of (map (old_of config now) held) (option_to_list (option_map (new_of config) deed.value))
        ∙ ap (λ xs. xs ++ map seen_of (option_to_list (option_map (new_of config) deed.value))) (map-map seen_of (old_of config now) held)
        ∙ ap (λ xs. olds ++ xs) (new-seen deed.value)

    -- what is left of the key, and what is live of it
    lasting-left : lasting config now (all_held_after config now held deed notes) key ≡ alive config now (option_map then_held (option_map held_of (first left)))
    lasting-left =
        ap (λ xs. alive config now (first xs)) (filter-mapped (λ (h : HeldValue). same key h.value.key) then_held (left_held held deed notes))
        ∙ ap (alive config now) (first-map then_held (of_key key (left_held held deed notes)))
        ∙ ap (λ xs. alive config now (option_map then_held (first (of_key key xs)))) (ap (untold (λ (h : HeldValue). h.value.key) notes) (sym as_held) ∙ untold-map held_of (λ (h : HeldValue). h.value.key) notes zs)
        ∙ ap (λ xs. alive config now (option_map then_held (first xs))) (filter-mapped (λ (h : HeldValue). same key h.value.key) held_of (untold key_of notes zs))
        ∙ ap (λ o. alive config now (option_map then_held o)) (first-map held_of left)

    module _ (told : IsTrue (are_true_notes config olds deed (candidates_of config olds deed) notes)) (no_size : none_with_size notes ≡ true) (is_fresh : IsFresh now deed) where
      abbrev Gone : Paired → Type 0
      Gone z = gone key config olds deed z ≡ true

      spared : Each (λ z. is_succeeded deed (seen_of z) ≡ false) left
      spared =
          each-filter (λ z. is_succeeded deed (seen_of z) ≡ false) (mine key) (untold key_of notes zs)
          (each_of_map (λ (c : Candidate). is_succeeded deed c ≡ false) seen_of (untold key_of notes zs)
          (subst (Each (λ c. is_succeeded deed c ≡ false)) (ap (untold (λ (c : Candidate). c.value.key) notes) (sym as_seen) ∙ untold-map seen_of (λ (c : Candidate). c.value.key) notes zs)
          (each-more _ _ (untold (λ c. c.value.key) notes (candidates_of config olds deed)) (λ c e. (elim (cases_Bool (is_succeeded deed c)) [ inl is ↦ rw is (absurd (true≢false (sym (rw is at e)))) | inr is ↦ rw is ]))
          (each_passing (λ c. not (is_succeeded deed c)) (untold (λ c. c.value.key) notes (candidates_of config olds deed)) (none_succeeded config olds deed (candidates_of config olds deed) notes told)))))

      popped-off : Pops Gone (filter (mine key) zs) left
      popped-off = pops key config olds deed notes zs (ap (λ cs. are_true_notes config olds deed cs notes) as_seen ∙ told) no_size

      sorted_zs : filter (mine key) zs ≡ map (old_of config now) (of_key key held) ++ filter (mine key) (option_to_list (option_map (new_of config) deed.value))
      sorted_zs =
          filter-append (mine key) (map (old_of config now) held) (option_to_list (option_map (new_of config) deed.value))
          ∙ ap (λ xs. xs ++ filter (mine key) (option_to_list (option_map (new_of config) deed.value))) (filter-mapped (mine key) (old_of config now) held)

      -- ---- the deed does not write the key

      abbrev kept : Option Living → Option Living
      kept before = left_by config now (is_this key deed.deletes) (covers_key key deed.covers) (is_this key deed.uses) before

      unwritten-after : (o : Option Value) → is_value_of key o ≡ false → (before : Option Living) → accepted_by config now key o before ≡ before
      unwritten-after None e before = refl
      unwritten-after (Some v) e before = ap (λ b. cond b (still config now (living_of (newly_held v))) before) e

      none-new : (o : Option Value) → is_value_of key o ≡ false → filter (mine key) (option_to_list (option_map (new_of config) o)) ≡ []
      none-new None e = refl
      none-new (Some v) e = ap (λ b. cond b (new_of config v ∷ []) []) e

      kept-one : (h : HeldValue) → same key h.value.key ≡ true → is_this h.value.key deed.deletes ≡ false → alive config now (Some (then_held h)) ≡ kept (alive config now (Some h))
      kept-one h k spare =
          left-cases h h.covered (deadline_has_come (ends_at config (living_of h)) now) (covers_key h.value.key deed.covers) (is_this h.value.key deed.uses) (is_this h.value.key deed.deletes) refl spare
          ∙ ap (λ x. left_by config now (is_this x deed.deletes) (covers_key x deed.covers) (is_this x deed.uses) (alive config now (Some h))) (sym (same-true key h.value.key k))

      gone-one : (h : HeldValue) → same key h.value.key ≡ true → is_value_of key deed.value ≡ false → Gone (old_of config now h) → None ≡ kept (alive config now (Some h))
      gone-one h k unwritten g =
          sym (gone-cases h h.covered (deadline_has_come (ends_at config (living_of h)) now) (covers_key key deed.covers) (is_this key deed.uses) (is_this key deed.deletes)
          (ap (λ b. deadline_has_come (ends_at config (living_of h)) now || h.covered || (b || is_this key deed.deletes)) (sym unwritten)
          ∙ ap (λ x. deadline_has_come (ends_at config (living_of h)) now || h.covered || (is_value_of x deed.value || is_this x deed.deletes)) (same-true key h.value.key k) ∙ g))

      unwritten-left : (hs : List HeldValue) → Each (λ h. same key h.value.key ≡ true) hs → is_value_of key deed.value ≡ false → AtMostOne hs
          → (xs : List Paired) → Each (λ z. is_succeeded deed (seen_of z) ≡ false) xs → Pops Gone (map (old_of config now) hs ++ []) xs
          → alive config now (option_map then_held (option_map held_of (first xs))) ≡ kept (alive config now (first hs))
      unwritten-left hs own e (Nobody n) xs spare p =
          let none : xs ≡ [] = subst (λ ys. Pops Gone (map (old_of config now) ys ++ []) xs) n p in
          ap (λ ys. alive config now (option_map then_held (option_map held_of (first ys)))) none ∙ sym (ap (λ ys. kept (alive config now (first ys))) n)
      unwritten-left hs own e (Lone h n) xs spare p =
          go (subst (λ ys. Pops Gone (map (old_of config now) ys ++ []) xs) n p) ∙ sym (ap (λ ys. kept (alive config now (first ys))) n)
        where
          k : same key h.value.key ≡ true
          k = (subst (Each (λ x. same key x.value.key ≡ true)) n own).0

          go : Pops Gone (old_of config now h ∷ []) xs → alive config now (option_map then_held (option_map held_of (first xs))) ≡ kept (alive config now (Some h))
          go (inl is) =
              ap (λ ys. alive config now (option_map then_held (option_map held_of (first ys)))) is
              ∙ kept-one h k (or_parts (is_value_of h.value.key deed.value) (is_this h.value.key deed.deletes) (subst (Each (λ z. is_succeeded deed (seen_of z) ≡ false)) is spare).0).1
          go (inr g) = ap (λ ys. alive config now (option_map then_held (option_map held_of (first ys)))) g.1 ∙ gone-one h k e g.0

      -- ---- the deed writes the key

      module _ (v : Value) (value : deed.value ≡ Some v) (own : same key v.key ≡ true) where
        newest : alive config now (Some (then_held (newly_held v))) ≡ still config now (living_of (newly_held v))
        newest =
            ap (λ b. cond b None (still config now (record (living_of (newly_held v)) { last_use = use_after config now deed (newly_held v) }))) (is_fresh v value).0
            ∙ ap (λ u. still config now (record (living_of (newly_held v)) { last_use = u }))
            (ap (cond (is_this v.key deed.uses && is_live_at config now (newly_held v)) now) (is_fresh v value).2
            ∙ cond_both (is_this v.key deed.uses && is_live_at config now (newly_held v)) now now (λ n. n ≡ now) (λ _. refl) (λ _. refl) ∙ sym (is_fresh v value).2)

        newest-gone : Gone (new_of config v) → None ≡ still config now (living_of (newly_held v))
        newest-gone g =
            sym (ap (λ b. cond b None (Some (living_of (newly_held v))))
            (ap (deadline_has_come (deadline config v v.accepted_at)) (sym (is_fresh v value).2)
            ∙ only (deadline_has_come (deadline config v v.accepted_at) v.accepted_at) (is_this v.key deed.deletes) (is_fresh v value).1 g))
          where
            only : (d del : Bool) → del ≡ false → (d || false || (false || del)) ≡ true → d ≡ true
            only true del e k = refl
            only false true e k = absurd (true≢false e)
            only false false e k = k

        written-one : (xs : List Paired) → Pops Gone (new_of config v ∷ []) xs → alive config now (option_map then_held (option_map held_of (first xs))) ≡ still config now (living_of (newly_held v))
        written-one xs (inl is) = ap (λ ys. alive config now (option_map then_held (option_map held_of (first ys)))) is ∙ newest
        written-one xs (inr g) = ap (λ ys. alive config now (option_map then_held (option_map held_of (first ys)))) g.1 ∙ newest-gone g.0

        written-left : (hs : List HeldValue) → Each (λ h. same key h.value.key ≡ true) hs → AtMostOne hs
            → (xs : List Paired) → Each (λ z. is_succeeded deed (seen_of z) ≡ false) xs → Pops Gone (map (old_of config now) hs ++ new_of config v ∷ []) xs
            → alive config now (option_map then_held (option_map held_of (first xs))) ≡ still config now (living_of (newly_held v))
        written-left hs mine_too (Nobody n) xs spare p = written-one xs (subst (λ ys. Pops Gone (map (old_of config now) ys ++ new_of config v ∷ []) xs) n p)
        written-left hs mine_too (Lone h n) xs spare p = go (subst (λ ys. Pops Gone (map (old_of config now) ys ++ new_of config v ∷ []) xs) n p)
          where
            k : same key h.value.key ≡ true
            k = (subst (Each (λ x. same key x.value.key ≡ true)) n mine_too).0

            rewritten : is_value_of h.value.key deed.value ≡ true
            rewritten = ap (is_value_of h.value.key) value ∙ ap (λ x. same x v.key) (sym (same-true key h.value.key k)) ∙ own

            go : Pops Gone (old_of config now h ∷ new_of config v ∷ []) xs → alive config now (option_map then_held (option_map held_of (first xs))) ≡ still config now (living_of (newly_held v))
            go (inl is) =
                absurd (true≢false (sym (ap (λ b. b || is_this h.value.key deed.deletes) rewritten) ∙ (subst (Each (λ z. is_succeeded deed (seen_of z) ≡ false)) is spare).0))
            go (inr g) = written-one xs g.1

      -- what is live of the key after the deed
      pub lasting-deed : Pairs (λ g h. Differ g.value.key h.value.key) held
          → lasting config now (all_held_after config now held deed notes) key ≡ living_after config now key deed (lasting config now held key)
      lasting-deed distinct = lasting-left ∙ (elim (cases_Bool (is_value_of key deed.value)) [ inl w ↦ written deed.value refl w | inr w ↦ unwritten w ])
        where
          own : Each (λ h. same key h.value.key ≡ true) (of_key key held)
          own = each-passed (λ h. same key h.value.key) held

          off : Pops Gone (map (old_of config now) (of_key key held) ++ filter (mine key) (option_to_list (option_map (new_of config) deed.value))) left
          off = subst (λ xs. Pops Gone xs left) sorted_zs popped-off

          unwritten : is_value_of key deed.value ≡ false → alive config now (option_map then_held (option_map held_of (first left))) ≡ living_after config now key deed (lasting config now held key)
          unwritten w =
              unwritten-left (of_key key held) own w (one-of_key key held distinct) left spared
              (subst (λ xs. Pops Gone (map (old_of config now) (of_key key held) ++ xs) left) (none-new deed.value w) off)
              ∙ sym (unwritten-after deed.value w (kept (lasting config now held key)))

          written : (o : Option Value) → deed.value ≡ o → is_value_of key deed.value ≡ true
              → alive config now (option_map then_held (option_map held_of (first left))) ≡ living_after config now key deed (lasting config now held key)
          written None e w = absurd (true≢false (sym w ∙ ap (is_value_of key) e))
          written (Some v) e w =
              let s : same key v.key ≡ true = sym (ap (is_value_of key) e) ∙ w in
              written-left v e s (of_key key held) own (one-of_key key held distinct) left spared
              (subst (λ xs. Pops Gone (map (old_of config now) (of_key key held) ++ xs) left)
              (ap (λ x. filter (mine key) (option_to_list (option_map (new_of config) x))) e ∙ ap (λ b. cond b (new_of config v ∷ []) []) s) off)
              ∙ sym (ap (λ x. accepted_by config now key x (kept (lasting config now held key))) e ∙ ap (λ b. cond b (still config now (living_of (newly_held v))) (kept (lasting config now held key))) s)
