-- Notes judged one after another.
use Rattle.std.proofs.Common.{arith, ◌≡◌, refl, ap, ◌∙◌, sym, ℕ, Bool, true, false, cond, List, [], ◌∷◌, ◌++◌, map, is_none, not, ◌&&◌, ◌||◌, true≢false, Option, Some, None, option_map, if◌then◌else◌}
use Rattle.std.specs.Prelude.{IfSome}
use Rattle.std.specs.List.{find, list_all}
use Rattle.std.proofs.lemmas.List.Folds.{list_all-append}
use Rattle.std.proofs.lemmas.Option.{none-some}
use Rattle.std.proofs.lemmas.Slice.Eq.{bytes_eq-Decides}
use Rattle.audit_model.specs.Bytewise.{same}
use Rattle.audit_model.specs.Commands.{Deed, is_this}
use Rattle.audit_model.specs.Notes.{first_with_key, is_true_note, is_succeeded, is_told_first, same_cause, first_cause, is_true_cause}
use Rattle.audit_model.specs.Situation.{HeldValue, candidate_at}
use Rattle.audit_model.specs.Values.{without_key, is_value_of}
use Rattle.audit_model.specs.View.{Candidate}
use Rattle.audit_model.specs.declared.config.Config.{Config}
use Rattle.audit_model.specs.declared.transcript.Note.{Note}
use Rattle.audit_situation.proofs.held.Keeping.{find-map, without-map}
use Rattle.audit_situation.specs.Notes.Scenes.{new_candidate_at, newcomer_in, newcomer_left, may_be_told, candidates_in, TakesFirstValue}
use Rattle.audit_situation.specs.declared.notes.notes.Scene.{Scene}
use Rattle.std.proofs.lemmas.Bool.Decides.{nat_tests}

-- ---- the same bytes

pub same-either : (a b : List ℕ) → same a b ≡ same b a
same-either a b = let one = bytes_eq-Decides a b in let other = bytes_eq-Decides b a in grind (arith, one, other)

-- ---- the first of a key in two lists

module _ {X : Type 0} (key_of : X → List ℕ) (key : List ℕ) where
  abbrev first : List X → Option X
  first xs = find (λ x. same key (key_of x)) xs

  pub first-here : (xs ys : List X) (x : X) → first xs ≡ Some x → first (xs ++ ys) ≡ Some x
  first-here [] ys x e = absurd (none-some x e)
  first-here (y ∷ xs) ys x e = let next = first-here xs ys x in grind (arith, nat_tests, e, next)

  pub first-there : (xs ys : List X) → first xs ≡ None → first (xs ++ ys) ≡ first ys
  first-there [] ys e = refl
  first-there (y ∷ xs) ys e = let next = first-there xs ys in grind (arith, nat_tests, e, next)

  pub without-here : (xs ys : List X) (x : X) → first xs ≡ Some x → without_key key_of key (xs ++ ys) ≡ without_key key_of key xs ++ ys
  without-here [] ys x e = absurd (none-some x e)
  without-here (y ∷ xs) ys x e = let next = without-here xs ys x in grind (arith, nat_tests, e, next)

  pub without-there : (xs ys : List X) → first xs ≡ None → without_key key_of key (xs ++ ys) ≡ xs ++ without_key key_of key ys
  without-there [] ys e = refl
  without-there (y ∷ xs) ys e = let next = without-there xs ys in grind (arith, nat_tests, e, next)

-- ---- the values that may be told

module _ (config : Config) (now : ℕ) (key : List ℕ) (held rest : List HeldValue) where
  abbrev first_held : Option HeldValue
  first_held = find (λ h. same key h.value.key) held

  in-view : find (λ c. same key c.value.key) (map (candidate_at config now) held) ≡ option_map (candidate_at config now) first_held
  in-view = find-map (candidate_at config now) (λ c. same key c.value.key) held

  pub told-old : (h : HeldValue) → first_held ≡ Some h → first_with_key key (may_be_told config now held rest) ≡ Some (candidate_at config now h)
  told-old h e = first-here (λ c. c.value.key) key (map (candidate_at config now) held) (map (new_candidate_at config now) rest) (candidate_at config now h) (in-view ∙ ap (option_map (candidate_at config now)) e)

  pub told-new : first_held ≡ None → first_with_key key (may_be_told config now held rest) ≡ find (λ c. same key c.value.key) (map (new_candidate_at config now) rest)
  told-new e = first-there (λ c. c.value.key) key (map (candidate_at config now) held) (map (new_candidate_at config now) rest) (in-view ∙ ap (option_map (candidate_at config now)) e)

  pub left-old : (h : HeldValue) → first_held ≡ Some h
      → may_be_told config now (without_key (λ h. h.value.key) key held) rest ≡ without_key (λ c. c.value.key) key (may_be_told config now held rest)
  left-old h e =
      ap (λ cs. cs ++ map (new_candidate_at config now) rest) (sym (without-map (candidate_at config now) (λ c. c.value.key) key held))
      ∙ sym (without-here (λ c. c.value.key) key (map (candidate_at config now) held) (map (new_candidate_at config now) rest) (candidate_at config now h) (in-view ∙ ap (option_map (candidate_at config now)) e))

  pub left-new : first_held ≡ None → without_key (λ h. h.value.key) key rest ≡ []
      → may_be_told config now held [] ≡ without_key (λ c. c.value.key) key (may_be_told config now held rest)
  left-new e f =
      ap (λ hs. map (candidate_at config now) held ++ map (new_candidate_at config now) hs) (sym f)
      ∙ ap (λ cs. map (candidate_at config now) held ++ cs) (sym (without-map (new_candidate_at config now) (λ c. c.value.key) key rest))
      ∙ sym (without-there (λ c. c.value.key) key (map (candidate_at config now) held) (map (new_candidate_at config now) rest) (in-view ∙ ap (option_map (candidate_at config now)) e))

pub taken-old : (scene : Scene) (key : List ℕ) (held : List HeldValue) (left : Bool) (h : HeldValue) (others : List HeldValue)
    → find (λ h. same key h.value.key) held ≡ Some h → others ≡ without_key (λ h. h.value.key) key held → TakesFirstValue scene key held left others left
taken-old scene key held left h others e o = record {
  told = ap (λ hs. candidates_in scene hs left) o ∙ left-old scene.config.now scene.moment key held (newcomer_left left (newcomer_in scene)) h e;
  all = ap (λ hs. hs ++ newcomer_left left (newcomer_in scene)) o ∙ sym (without-here (λ h. h.value.key) key held (newcomer_left left (newcomer_in scene)) h e);
}

pub taken-new : (scene : Scene) (key : List ℕ) (held : List HeldValue) (left leaves : Bool) (others : List HeldValue)
    → find (λ h. same key h.value.key) held ≡ None → others ≡ held → without_key (λ h. h.value.key) key (newcomer_left left (newcomer_in scene)) ≡ [] → leaves ≡ false
    → TakesFirstValue scene key held left others leaves
taken-new scene key held left leaves others e o w l = record {
  told =
      ap (λ hs. candidates_in scene hs leaves) o ∙ ap (λ b. candidates_in scene held b) l
      ∙ left-new scene.config.now scene.moment key held (newcomer_left left (newcomer_in scene)) e w;
  all =
      ap (λ hs. hs ++ newcomer_left leaves (newcomer_in scene)) o ∙ ap (λ b. held ++ newcomer_left b (newcomer_in scene)) l
      ∙ ap (λ hs. held ++ hs) (sym w) ∙ sym (without-there (λ h. h.value.key) key held (newcomer_left left (newcomer_in scene)) e);
}

pub without-none : (key : List ℕ) (held : List HeldValue) → find (λ h. same key h.value.key) held ≡ None → without_key (λ h. h.value.key) key held ≡ held
without-none key [] e = refl
without-none key (h ∷ held) e = let next = without-none key held in grind (arith, nat_tests, e, next)

-- ---- one note after another

-- one that tells an older value with its first cause
pub first-true : (config : Config) (held : List Candidate) (deed : Deed) (note : Note) (c : Candidate)
    → same note.value c.value.bytes ≡ true → is_told_first deed c ≡ true → same_cause note.cause (first_cause config held deed c) ≡ is_true_note config held deed note (Some c)
first-true config held deed note c s t =
    sym (ap (λ x. x && (if is_told_first deed c then same_cause note.cause (first_cause config held deed c) else is_true_cause config held deed c note.cause)) s
    ∙ ap (λ x. if x then same_cause note.cause (first_cause config held deed c) else is_true_cause config held deed c note.cause) t)

-- the newcomer is found where it is left
pub new-found : (config : Config) (now : ℕ) (key : List ℕ) (left : Bool) (o : Option HeldValue) (h : HeldValue) → o ≡ Some h → left ≡ true → same key h.value.key ≡ true
    → Some (new_candidate_at config now h) ≡ find (λ c. same key c.value.key) (map (new_candidate_at config now) (newcomer_left left o))
new-found config now key left o h is l s =
    sym (ap (λ b. find (λ c. same key c.value.key) (map (new_candidate_at config now) (newcomer_left b o))) l
    ∙ ap (λ o. find (λ c. same key c.value.key) (map (new_candidate_at config now) (newcomer_left true o))) is
    ∙ ap (λ b. cond b (Some (new_candidate_at config now h)) None) s)

pub none-map : {X Y : Type 0} (f : X → Y) (o : Option X) → is_none o ≡ is_none (option_map f o)
none-map f None = refl
none-map f (Some x) = refl

-- ---- behind the last note

abbrev pub spared : Option (List ℕ) → List HeldValue → Bool
spared key held = list_all (λ h. not (is_this h.value.key key)) held

pub absent-all : (key : List ℕ) (held : List HeldValue) → is_none (find (λ h. same key h.value.key) held) ≡ spared (Some key) held
absent-all key [] = refl
absent-all key (h ∷ held) = let next = absent-all key held in grind (arith, nat_tests, next)

pub all-absent : (key : List ℕ) (held : List HeldValue) → spared (Some key) held ≡ true → find (λ h. same key h.value.key) held ≡ None
all-absent key held e = go (find (λ h. same key h.value.key) held) (absent-all key held ∙ e)
  where
    go : (o : Option HeldValue) → is_none o ≡ true → o ≡ None
    go None f = refl
    go (Some h) f = absurd (true≢false (sym f))

pub absent-new : (newcomer : Option HeldValue) (held : List HeldValue) → spared (option_map (λ h. h.value.key) newcomer) held ≡ true
    → IfSome newcomer (λ n. find (λ h. same n.value.key h.value.key) held ≡ None)
absent-new None held e = tt
absent-new (Some n) held e = all-absent n.value.key held e

pub spared-none : (held : List HeldValue) → spared None held ≡ true
spared-none [] = refl
spared-none (h ∷ held) = spared-none held

abbrev key_in : Option HeldValue → Option (List ℕ)
key_in newcomer = option_map (λ h. h.value.key) newcomer

module _ (config : Config) (now : ℕ) (deed : Deed) (newcomer : Option HeldValue) (is : deed.value ≡ option_map (λ h. h.value) newcomer) where
  old-spared : (h : HeldValue) → not (is_succeeded deed (candidate_at config now h)) ≡ (not (is_this h.value.key (key_in newcomer)) && not (is_this h.value.key deed.deletes))
  old-spared h = ap (λ o. not (is_value_of h.value.key o || is_this h.value.key deed.deletes)) is ∙ by_newcomer newcomer
    where
      split : (a b : Bool) → not (a || b) ≡ (not a && not b)
      split a b = grind arith

      by_newcomer : (n : Option HeldValue) → not (is_value_of h.value.key (option_map (λ h. h.value) n) || is_this h.value.key deed.deletes) ≡ (not (is_this h.value.key (key_in n)) && not (is_this h.value.key deed.deletes))
      by_newcomer None = refl
      by_newcomer (Some n) =
          split (same h.value.key n.value.key) (is_this h.value.key deed.deletes)
          ∙ ap (λ b. not b && not (is_this h.value.key deed.deletes)) (same-either h.value.key n.value.key)

  all-old : (held : List HeldValue) → list_all (λ c. not (is_succeeded deed c)) (map (candidate_at config now) held) ≡ (spared (key_in newcomer) held && spared deed.deletes held)
  all-old [] = refl
  all-old (h ∷ held) = ap (λ b. b && list_all (λ c. not (is_succeeded deed c)) (map (candidate_at config now) held)) (old-spared h)
      ∙ ap (λ b. (not (is_this h.value.key (key_in newcomer)) && not (is_this h.value.key deed.deletes)) && b) (all-old held)
      ∙ shuffle (not (is_this h.value.key (key_in newcomer))) (not (is_this h.value.key deed.deletes)) (spared (key_in newcomer) held) (spared deed.deletes held)
    where
      shuffle : (a b c d : Bool) → ((a && b) && (c && d)) ≡ ((a && c) && (b && d))
      shuffle a b c d = grind arith

  all-new : (rest : List HeldValue) → list_all (λ c. not (is_succeeded deed c)) (map (new_candidate_at config now) rest) ≡ spared deed.deletes rest
  all-new [] = refl
  all-new (h ∷ rest) = ap (λ b. not (is_this h.value.key deed.deletes) && b) (all-new rest)

  pub none-succeeded : (held rest : List HeldValue) (a b c : Bool) → a ≡ spared (key_in newcomer) held → b ≡ spared deed.deletes held → c ≡ spared deed.deletes rest
      → ((a && b) && c) ≡ list_all (λ c. not (is_succeeded deed c)) (may_be_told config now held rest)
  none-succeeded held rest a b c p q r =
      ap (λ x. (x && b) && c) p ∙ ap (λ x. (spared (key_in newcomer) held && x) && c) q ∙ ap (λ x. (spared (key_in newcomer) held && spared deed.deletes held) && x) r
      ∙ ap (λ x. x && spared deed.deletes rest) (sym (all-old held)) ∙ ap (λ x. list_all (λ c. not (is_succeeded deed c)) (map (candidate_at config now) held) && x) (sym (all-new rest))
      ∙ sym (list_all-append (λ c. not (is_succeeded deed c)) (map (candidate_at config now) held) (map (new_candidate_at config now) rest))
