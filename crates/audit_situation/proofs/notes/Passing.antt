-- What a step does to the values that stay.
use Rattle.std.proofs.Common.{inr, inl, ◌≡◌, refl, ap, ◌∙◌, sym, ℕ, ◌+◌, Bool, true, false, cond, not, ◌&&◌, ◌||◌, List, [], ◌∷◌, ◌++◌, map, is_some, Option, Some, None, option_map, nat_lt, if◌then◌else◌, true≢false, arith}
use Rattle.std.specs.Prelude.{IfSome}
use Rattle.std.specs.List.{find, list_all}
use Rattle.std.specs.Option.{option_to_list, option_copied}
use Rattle.std.proofs.Math.Path.{fun_ext}
use Rattle.std.proofs.lemmas.Bool.{cases_Bool, and_parts}
use Rattle.std.proofs.lemmas.Bool.Decides.{nat_tests}
use Rattle.std.proofs.lemmas.Option.{none-some}
use Rattle.std.proofs.lemmas.Simd.{map-map}
use denote.Bor.{Bor}
use Rattle.audit_model.specs.Bytewise.{same}
use Rattle.audit_model.specs.Changes.{newly_held, left_held, all_held_after}
use Rattle.audit_model.specs.Commands.{Deed}
use Rattle.audit_model.specs.History.{Value}
use Rattle.audit_model.specs.Notes.{is_over, candidates_of}
use Rattle.audit_model.specs.Situation.{HeldValue, candidate_at, is_live_at}
use Rattle.audit_model.specs.Values.{without_key}
use Rattle.audit_model.specs.declared.config.Config.{Config}
use Rattle.audit_model.specs.declared.transcript.Note.{Note}
use Rattle.audit_situation.specs.Held.Weights.{values_of}
use Rattle.audit_situation.specs.Held.Holds.{value_used_at, marked_in}
use Rattle.audit_situation.proofs.held.Keeping.{find-map}
use Rattle.audit_situation.specs.Notes.After.{AreSized, IsJustAccepted, values_to_tell, is_among, used_in, covered_in, marked_by, passed_on_by}
use Rattle.audit_situation.specs.Notes.Scenes.{may_be_told, new_candidate_at}
use Rattle.audit_situation.proofs.notes.Judging.{first-here, first-there}

-- ---- the live value of a key

module _ (key : List ℕ) (q : HeldValue → Bool) where
  abbrev one : List HeldValue → Option HeldValue
  one hs = find (λ h. same key h.value.key) hs

  abbrev good : List HeldValue → Option HeldValue
  good hs = find (λ h. same key h.value.key && q h) hs

  pub none-good : (hs : List HeldValue) → one hs ≡ None → good hs ≡ None
  none-good [] e = refl
  none-good (h ∷ hs) e = let next = none-good hs in grind (arith, nat_tests, e, next)

  pub one-good : (hs : List HeldValue) (h : HeldValue) → one (without_key (λ h. h.value.key) key hs) ≡ None → one hs ≡ Some h → good hs ≡ (if q h then Some h else None)
  one-good [] h a e = absurd (none-some h e)
  one-good (x ∷ hs) h a e =
      elim (cases_Bool (same key x.value.key)) [
        | inl t ↦ rw t (let is : x ≡ h = cc in ap (λ o. cond (q x) (Some x) o) (none-good hs (rw t at a)) ∙ ap (λ (y : HeldValue). cond (q y) (Some y) None) is)
        | inr t ↦ rw t ((one-good hs h) (sym (ap (λ b. cond b (Some x) (one (without_key (λ h. h.value.key) key hs))) t) ∙ (rw t at a)) (rw t at e))
      ]

-- ---- a use

module _ (config : Config) (now : ℕ) (key : List ℕ) where
  abbrev live : HeldValue → Bool
  live h = is_live_at config now h

  -- none of the key
  unused : (hs : List HeldValue) → find (λ h. same key h.value.key) hs ≡ None → map (value_used_at key now) hs ≡ map (used_in config now (Some key)) hs
  unused [] e = refl
  unused (h ∷ hs) e = let next = unused hs in grind (arith, nat_tests, e, next)

  pub used-live : (hs : List HeldValue) → find (λ h. same key h.value.key) (without_key (λ h. h.value.key) key hs) ≡ None → is_some (find (λ h. same key h.value.key && live h) hs) ≡ true
      → map (value_used_at key now) hs ≡ map (used_in config now (Some key)) hs
  used-live [] a e = refl
  used-live (h ∷ hs) a e =
      elim (cases_Bool (same key h.value.key)) [
        | inl is ↦ rw is (ap (λ b. record h { last_use = if b then now else h.last_use } ∷ map (value_used_at key now) hs) (sym (by_live (live h) (rw is at e) (none-good key live hs (rw is at a)))) ∙ ap (λ hs. record h { last_use = if live h then now else h.last_use } ∷ hs) (unused hs (rw is at a)))
        | inr is ↦ rw is (ap (λ hs. h ∷ hs) ((used-live hs) (sym (ap (λ b. cond b (Some h) (find (λ h. same key h.value.key) (without_key (λ h. h.value.key) key hs))) is) ∙ (rw is at a)) (rw is at e)))
      ]
    where
      by_live : (l : Bool) → is_some (cond l (Some h) (find (λ h. same key h.value.key && live h) hs)) ≡ true → find (λ h. same key h.value.key && live h) hs ≡ None → l ≡ true
      by_live true e f = refl
      by_live false e f = absurd (true≢false (sym e ∙ ap is_some f))

  pub used-dead : (hs : List HeldValue) → is_some (find (λ h. same key h.value.key && live h) hs) ≡ false → hs ≡ map (used_in config now (Some key)) hs
  used-dead [] e = refl
  used-dead (h ∷ hs) e = let next = used-dead hs in grind (arith, nat_tests, e, next)

pub used-none : (config : Config) (now : ℕ) (hs : List HeldValue) → hs ≡ map (used_in config now None) hs
used-none config now [] = refl
used-none config now (h ∷ hs) = ap (λ hs. h ∷ hs) (used-none config now hs)

-- ---- coverage

pub covers-none : (f : HeldValue → HeldValue) (hs : List HeldValue) → ((h : HeldValue) → f h ≡ h) → hs ≡ map f hs
covers-none f [] k = refl
covers-none f (h ∷ hs) k = ap (λ x. x ∷ hs) (sym (k h)) ∙ ap (λ hs. f h ∷ hs) (covers-none f hs k)

pub same-map : (f g : HeldValue → HeldValue) (hs : List HeldValue) → ((h : HeldValue) → f h ≡ g h) → map f hs ≡ map g hs
same-map f g [] k = refl
same-map f g (h ∷ hs) k = ap (λ x. x ∷ map f hs) (k h) ∙ ap (λ hs. g h ∷ hs) (same-map f g hs k)

-- ---- marks, part by part

module _ (config : Config) (syncs : Bool) (sized : List ℕ) (values : List Value) where
  abbrev marked : HeldValue → HeldValue
  marked = marked_by config syncs sized values

  -- the parts below that one are done
  abbrev pub marked_below : ℕ → HeldValue → HeldValue
  marked_below n h = if nat_lt h.value.part n then marked h else h

  next : (n : ℕ) (over anew : Bool) (h : HeldValue) → over ≡ is_over config n values → anew ≡ (syncs || is_among sized n) → marked_in n over anew (marked_below n h) ≡ marked_below (n + 1) h
  next n over anew h o a = grind (arith, nat_tests, o, a)

  pub mark-next : (n : ℕ) (over anew : Bool) (held hs : List HeldValue) → over ≡ is_over config n values → anew ≡ (syncs || is_among sized n)
      → held ≡ map (marked_below n) hs → map (marked_in n over anew) held ≡ map (marked_below (n + 1)) hs
  mark-next n over anew held hs o a e =
      ap (map (marked_in n over anew)) e ∙ map-map (marked_in n over anew) (marked_below n) hs
      ∙ same-map (λ h. marked_in n over anew (marked_below n h)) (marked_below (n + 1)) hs (λ h. next n over anew h o a)

  pub mark-none : (hs : List HeldValue) → hs ≡ map (marked_below 0) hs
  mark-none hs = covers-none (marked_below 0) hs (λ h. ap (λ b. if b then marked h else h) (none h.value.part))
    where
      none : (n : ℕ) → nat_lt n 0 ≡ false
      none n = grind (arith, nat_tests)

  pub mark-done : (hs : List HeldValue) → list_all (λ h. nat_lt h.value.part 256) hs ≡ true → map (marked_below 256) hs ≡ map marked hs
  mark-done [] e = refl
  mark-done (h ∷ hs) e =
      let parts = and_parts (nat_lt h.value.part 256) (list_all (λ h. nat_lt h.value.part 256) hs) e in
      ap (λ b. (if b then marked h else h) ∷ map (marked_below 256) hs) parts.0 ∙ ap (λ hs. marked h ∷ hs) (mark-done hs parts.1)

  value-below : (n : ℕ) (h : HeldValue) → (marked_below n h).value ≡ h.value
  value-below n h = grind (arith, nat_tests)

  pub values-below : (n : ℕ) (held hs : List HeldValue) → held ≡ map (marked_below n) hs → values_of held ≡ values_of hs
  values-below n held hs e = ap values_of e ∙ go hs
    where
      go : (hs : List HeldValue) → values_of (map (marked_below n) hs) ≡ values_of hs
      go [] = refl
      go (h ∷ hs) = ap (λ v. v ∷ values_of (map (marked_below n) hs)) (value-below n h) ∙ ap (λ vs. h.value ∷ vs) (go hs)

-- ---- all of it

pub all-passed-on : (config : Config) (now : ℕ) (deed : Deed) (sized : List ℕ) (hs used covered after : List HeldValue)
    → used ≡ map (used_in config now deed.uses) hs → covered ≡ map (covered_in deed.covers) used → after ≡ map (marked_by config deed.syncs sized (values_of covered)) covered
    → after ≡ map (passed_on_by config now deed sized (values_of hs)) hs
all-passed-on config now deed sized hs used covered after u c m =
    let both : covered ≡ map (λ h. covered_in deed.covers (used_in config now deed.uses h)) hs = c ∙ ap (map (covered_in deed.covers)) u ∙ map-map (covered_in deed.covers) (used_in config now deed.uses) hs in
    let values : values_of covered ≡ values_of hs = ap values_of both ∙ map-map (λ h. h.value) (λ h. covered_in deed.covers (used_in config now deed.uses h)) hs in
    m ∙ ap (λ vs. map (marked_by config deed.syncs sized vs) covered) values ∙ ap (map (marked_by config deed.syncs sized (values_of hs))) both
    ∙ map-map (marked_by config deed.syncs sized (values_of hs)) (λ h. covered_in deed.covers (used_in config now deed.uses h)) hs

pub copied : (r : Option (Bor HeldValue)) → option_map (λ h. h.now.value) r ≡ option_map (λ h. h.value) (option_copied r)
copied None = refl
copied (Some x) = refl

pub copied-held : (r : Option (Bor HeldValue)) → option_map (λ h. h.now) r ≡ option_copied r
copied-held None = refl
copied-held (Some x) = refl

pub new-list : (now : ℕ) (o : Option HeldValue) → IfSome o (IsJustAccepted now) → option_to_list o ≡ option_to_list (option_map newly_held (option_map (λ h. h.value) o))
new-list now None h = refl
new-list now (Some x) h = ap (λ y. y ∷ []) h.held

-- what stays is what the definition says, where the parts are those that the notes tell `Size` of
pub all-passed : (config : Config) (now : ℕ) (held : List HeldValue) (deed : Deed) (notes : List Note) (parts : List ℕ) → AreSized config now held deed notes parts
    → map (passed_on_by config now deed parts (values_of (left_held held deed notes))) (left_held held deed notes) ≡ all_held_after config now held deed notes
all-passed config now held deed notes parts sized =
    ap (λ f. map f (left_held held deed notes))
    (fun_ext (λ h. ap (λ b. record { value = h.value; last_use = (used_in config now deed.uses h).last_use; covered = (covered_in deed.covers h).covered; evictable = is_over config h.value.part (values_of (left_held held deed notes)) || (not (deed.syncs || b) && h.evictable) }) (sized h.value.part)))

-- ---- the part of a note that tells `Size`

pub size-old : (key : List ℕ) (held : List HeldValue) (newcomer : Option HeldValue) (h : HeldValue) → find (λ h. same key h.value.key) held ≡ Some h
    → option_map (λ (v : Value). v.part) (find (λ v. same key v.key) (values_to_tell held newcomer)) ≡ Some h.value.part
size-old key held newcomer h e =
    ap (option_map (λ (v : Value). v.part)) (find-map (λ (h : HeldValue). h.value) (λ (v : Value). same key v.key) (held ++ option_to_list newcomer)
    ∙ ap (option_map (λ (h : HeldValue). h.value)) (first-here (λ h. h.value.key) key held (option_to_list newcomer) h e))

pub size-new : (key : List ℕ) (held : List HeldValue) (newcomer : Option HeldValue) → find (λ h. same key h.value.key) held ≡ None
    → option_map (λ (v : Value). v.part) (find (λ v. same key v.key) (values_to_tell held newcomer)) ≡ option_map (λ h. h.value.part) (find (λ h. same key h.value.key) (option_to_list newcomer))
size-new key held newcomer e =
    ap (option_map (λ (v : Value). v.part)) (find-map (λ (h : HeldValue). h.value) (λ (v : Value). same key v.key) (held ++ option_to_list newcomer)
    ∙ ap (option_map (λ (h : HeldValue). h.value)) (first-there (λ h. h.value.key) key held (option_to_list newcomer) e))
    ∙ twice (find (λ h. same key h.value.key) (option_to_list newcomer))
  where
    twice : (o : Option HeldValue) → option_map (λ (v : Value). v.part) (option_map (λ (h : HeldValue). h.value) o) ≡ option_map (λ h. h.value.part) o
    twice None = refl
    twice (Some h) = refl

-- ---- the values that may be told are those of the definition

module _ (config : Config) (now : ℕ) (held : List HeldValue) (deed : Deed) (newcomer : Option HeldValue) (is : deed.value ≡ option_map (λ h. h.value) newcomer) (new : IfSome newcomer (IsJustAccepted now)) where
  pub told-all : may_be_told config now held (option_to_list newcomer) ≡ candidates_of config (map (candidate_at config now) held) deed
  told-all = go newcomer new ∙ ap (λ o. candidates_of config (map (candidate_at config now) held) (record deed { value = o })) (sym is)
    where
      go : (n : Option HeldValue) → IfSome n (IsJustAccepted now) → may_be_told config now held (option_to_list n) ≡ candidates_of config (map (candidate_at config now) held) (record deed { value = option_map (λ h. h.value) n })
      go None k = refl
      go (Some h) k =
          ap (λ x. map (candidate_at config now) held ++ new_candidate_at config now x ∷ []) k.held
          ∙ ap (λ t. map (candidate_at config now) held ++ new_candidate_at config t (newly_held h.value) ∷ []) (sym k.moment)

  pub values-all : values_to_tell held newcomer ≡ map (λ c. c.value) (candidates_of config (map (candidate_at config now) held) deed)
  values-all = sym (ap (map (λ c. c.value)) (sym told-all) ∙ go held)
    where
      news : (n : Option HeldValue) → map (λ c. c.value) (map (new_candidate_at config now) (option_to_list n)) ≡ values_of (option_to_list n)
      news None = refl
      news (Some h) = refl

      go : (hs : List HeldValue) → map (λ c. c.value) (may_be_told config now hs (option_to_list newcomer)) ≡ values_of (hs ++ option_to_list newcomer)
      go [] = news newcomer
      go (h ∷ hs) = ap (λ vs. h.value ∷ vs) (go hs)
