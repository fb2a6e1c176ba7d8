-- Values held: without that of a key.
use Rattle.std.proofs.Common.{◌≡◌, ℕ, suc, ◌≤◌, Bool, true, not, List, [], ◌∷◌, length, Some, None, refl, arith, cond, false, ◌&&◌, ◌++◌, map, Option, option_map, IsPermutation, sym, ap, ◌∙◌, subst}
use Rattle.std.proofs.lemmas.Bool.{not-true, not_from_false, and_parts, and_from}
use Rattle.std.proofs.lemmas.List.Folds.{list_all-append}
use Rattle.std.proofs.lemmas.List.Sorted.{IsPermutation-refl, IsPermutation-cons, IsPermutation-trans, IsPermutation-map, IsPermutation-middle}
use Rattle.std.proofs.lemmas.Option.{none-some}
use Rattle.std.specs.List.{list_all}
use Rattle.audit_model.specs.Bytewise.{same}
use Rattle.audit_model.specs.History.{Value}
use Rattle.audit_model.specs.Notes.{is_true_note, first_with_key}
use Rattle.audit_model.specs.Situation.{HeldValue}
use Rattle.audit_model.specs.Values.{without_key, untold}
use Rattle.audit_model.specs.View.{Candidate}
use Rattle.audit_model.specs.declared.config.Config.{Config}
use Rattle.audit_model.specs.declared.transcript.Note.{Note}
use Rattle.cache_commands.proofs.SameKeys.{equal_from_same, same-refl, same-flip_false, same_along, same_from_equal}
use Rattle.cache_commands.specs.Held.{value_at, items_without, is_absent, have_own_keys, plain, Corresponds, cause_of_replaced, cause_of_deleted}
use Rattle.cache_commands.specs.Promises.{accepting, deleting}

abbrev pub key_of : HeldValue → List ℕ
key_of h = h.value.key

-- ---- where the key is absent

pub absent_from_none : (key : List ℕ) (items : List HeldValue) → value_at items key ≡ None → is_absent key items ≡ true
absent_from_none key [] e = refl
absent_from_none key (h ∷ items) e = grind (arith, absent_from_none key items, none-some h)

pub none_from_absent : (key : List ℕ) (items : List HeldValue) → is_absent key items ≡ true → value_at items key ≡ None
none_from_absent key [] a = refl
none_from_absent key (h ∷ items) a = grind (arith, and_parts (not (same key h.value.key)) (is_absent key items) a, not-true (same key h.value.key), none_from_absent key items)

pub items_without-absent : (key : List ℕ) (items : List HeldValue) → is_absent key items ≡ true → items_without key items ≡ items
items_without-absent key [] a = refl
items_without-absent key (h ∷ items) a = grind (arith, and_parts (not (same key h.value.key)) (is_absent key items) a, not-true (same key h.value.key), items_without-absent key items)

-- ---- where it is present

-- the value that is found has the key
pub key_from_some : (key : List ℕ) (items : List HeldValue) (h : HeldValue) → value_at items key ≡ Some h → h.value.key ≡ key
key_from_some key [] h e = absurd (none-some h e)
key_from_some key (g ∷ items) h e = grind (arith, key_from_some key items h, equal_from_same key g.value.key)

-- ---- without the key

pub all-without_key : {A : Type 0} (p : A → Bool) (of : A → List ℕ) (key : List ℕ) (xs : List A) → list_all p xs ≡ true → list_all p (without_key of key xs) ≡ true
all-without_key p of key [] h = refl
all-without_key p of key (x ∷ xs) h = grind (arith, all-without_key p of key xs (and_parts (p x) (list_all p xs) h).1, and_parts (p x) (list_all p xs) h, and_from)

pub absent-items_without : (key : List ℕ) (items : List HeldValue) → have_own_keys items ≡ true → is_absent key (items_without key items) ≡ true
absent-items_without key [] a = refl
absent-items_without key (h ∷ items) a = grind (arith, and_parts (is_absent h.value.key items) (have_own_keys items) a, absent-items_without key items, equal_from_same key h.value.key, and_from, not_from_false (same key h.value.key))

pub apart-items_without : (key : List ℕ) (items : List HeldValue) → have_own_keys items ≡ true → have_own_keys (items_without key items) ≡ true
apart-items_without key [] a = refl
apart-items_without key (h ∷ items) a = grind (arith, and_parts (is_absent h.value.key items) (have_own_keys items) a, apart-items_without key items, and_from, all-without_key (λ (g : HeldValue). not (same h.value.key g.value.key)) key_of key items)

pub length-items_without : (key : List ℕ) (items : List HeldValue) (h : HeldValue) → value_at items key ≡ Some h → suc (length (items_without key items)) ≡ length items
length-items_without key [] h e = absurd (none-some h e)
length-items_without key (g ∷ items) h e = grind (arith, length-items_without key items h)

pub length-without_at_most : (key : List ℕ) (items : List HeldValue) → length (items_without key items) ≤ length items
length-without_at_most key [] = omega arith
length-without_at_most key (g ∷ items) = grind (arith, length-without_at_most key items)

-- Values held that are those of some items.

abbrev pub left : List Note → List HeldValue → List HeldValue
left notes items = untold key_of notes items

-- ---- lists without those that notes tell

pub left-append : (xs ys : List Note) (items : List HeldValue) → left (xs ++ ys) items ≡ left ys (left xs items)
left-append [] ys items = refl
left-append (n ∷ xs) ys items = left-append xs ys (items_without n.key items)

-- ---- one key less

value_at-other : (key q : List ℕ) (items : List HeldValue) → same q key ≡ false → value_at (items_without key items) q ≡ value_at items q
value_at-other key q [] other = refl
value_at-other key q (h ∷ items) other = grind (arith, value_at-other key q items other, same_along q key h.value.key)

pub value_at-items_without : (key q : List ℕ) (items : List HeldValue) → have_own_keys items ≡ true → value_at (items_without key items) q ≡ cond (same q key) None (value_at items q)
value_at-items_without key q items a = grind (arith, none_from_absent q (items_without key items), equal_from_same q key, absent-items_without key items a, value_at-other key q items)

pub corresponds-items_without : (key : List ℕ) (items held : List HeldValue) → have_own_keys items ≡ true → Corresponds items held → Corresponds (items_without key items) (items_without key held)
corresponds-items_without key items held a c = grind (arith, value_at-items_without key, apart-items_without key held c.apart, items_without-absent key held, absent_from_none key held, items_without-absent key items, absent_from_none key items, length-items_without key held, length-items_without key items)

pub corresponds-left : (notes : List Note) (items held : List HeldValue) → have_own_keys items ≡ true → Corresponds items held → Corresponds (left notes items) (left notes held)
corresponds-left [] items held a c = c
corresponds-left (n ∷ notes) items held a c = corresponds-left notes (items_without n.key items) (items_without n.key held) (apart-items_without n.key items a) (corresponds-items_without n.key items held a c)

pub apart-left : (notes : List Note) (items : List HeldValue) → have_own_keys items ≡ true → have_own_keys (left notes items) ≡ true
apart-left [] items a = a
apart-left (n ∷ notes) items a = apart-left notes (items_without n.key items) (apart-items_without n.key items a)

-- ---- each changed

pub value_at-map : (f : HeldValue → HeldValue) (items : List HeldValue) (key : List ℕ) → ((h : HeldValue) → (f h).value.key ≡ h.value.key)
    → value_at (map f items) key ≡ option_map f (value_at items key)
value_at-map f [] key e = refl
value_at-map f (h ∷ items) key e = grind (arith, value_at-map f items key e)

pub absent-map : (f : HeldValue → HeldValue) (items : List HeldValue) (key : List ℕ) → ((h : HeldValue) → (f h).value.key ≡ h.value.key) → is_absent key (map f items) ≡ is_absent key items
absent-map f [] key e = refl
absent-map f (h ∷ items) key e = ap (λ k. not (same key k) && is_absent key (map f items)) (e h) ∙ ap (λ b. not (same key h.value.key) && b) (absent-map f items key e)

pub apart-map : (f : HeldValue → HeldValue) (items : List HeldValue) → ((h : HeldValue) → (f h).value.key ≡ h.value.key) → have_own_keys (map f items) ≡ have_own_keys items
apart-map f [] e = refl
apart-map f (h ∷ items) e = grind (arith, absent-map f items h.value.key e, apart-map f items e)

-- ---- one more

pub apart-append : (held : List HeldValue) (n : HeldValue) → have_own_keys held ≡ true → is_absent n.value.key held ≡ true → have_own_keys (held ++ n ∷ []) ≡ true
apart-append [] n a absent = refl
apart-append (h ∷ held) n a absent =
    let parts = and_parts (is_absent h.value.key held) (have_own_keys held) a in
    let parts2 = and_parts (not (same n.value.key h.value.key)) (is_absent n.value.key held) absent in
    let append = list_all-append (λ (g : HeldValue). not (same h.value.key g.value.key)) held (n ∷ []) in
    grind (arith, parts, parts2, same-flip_false n.value.key h.value.key, not-true (same n.value.key h.value.key), and_from, append, not_from_false (same h.value.key n.value.key), apart-append held n)

pub value_at-append : (held : List HeldValue) (n : HeldValue) (q : List ℕ) → is_absent n.value.key held ≡ true
    → value_at (held ++ n ∷ []) q ≡ cond (same q n.value.key) (Some n) (value_at held q)
value_at-append [] n q absent = refl
value_at-append (h ∷ held) n q absent = grind (arith, and_parts (not (same n.value.key h.value.key)) (is_absent n.value.key held) absent, value_at-append held n q, not-true (same n.value.key h.value.key), equal_from_same q n.value.key)

-- ---- permutations

pub taken : (key : List ℕ) (held : List HeldValue) (h : HeldValue) → value_at held key ≡ Some h → IsPermutation held (h ∷ items_without key held)
taken key [] h e = absurd (none-some h e)
taken key (g ∷ held) h e = grind (arith, taken key held h, IsPermutation-refl (g ∷ held), IsPermutation-trans (g ∷ held) (g ∷ h ∷ items_without key held) (h ∷ g ∷ items_without key held), IsPermutation-cons g held (h ∷ items_without key held), IsPermutation-middle (g ∷ []) h (items_without key held))

pub permutation : (items held : List HeldValue) → have_own_keys items ≡ true → Corresponds items held → IsPermutation (map plain held) items
permutation [] [] a c = IsPermutation-refl []
permutation [] (h ∷ held) a c = absurd (let n : suc (length held) ≡ 0 = c.number in omega arith)
permutation (t ∷ items) held a c =
    go (value_at held t.value.key) refl
    (permutation items (items_without t.value.key held) (and_parts (is_absent t.value.key items) (have_own_keys items) a).1
    (subst (λ xs. Corresponds xs (items_without t.value.key held)) rest (corresponds-items_without t.value.key (t ∷ items) held a c)))
  where
    first : value_at (t ∷ items) t.value.key ≡ Some t
    first = ap (λ b. cond b (Some t) (value_at items t.value.key)) (same-refl t.value.key)

    rest : items_without t.value.key (t ∷ items) ≡ items
    rest = ap (λ b. cond b items (t ∷ items_without t.value.key items)) (same-refl t.value.key)

    go : (o : Option HeldValue) → value_at held t.value.key ≡ o → IsPermutation (map plain (items_without t.value.key held)) items → IsPermutation (map plain held) (t ∷ items)
    go None e less = absurd (none-some t (ap (option_map plain) (sym e) ∙ c.found t.value.key ∙ first))
    go (Some h) e less =
        let both : Some (plain h) ≡ Some t = ap (option_map plain) (sym e) ∙ c.found t.value.key ∙ first in
        let is_plain : plain h ≡ t = cc in
        IsPermutation-trans (map plain held) (plain h ∷ map plain (items_without t.value.key held)) (t ∷ items)
        (IsPermutation-map plain held (h ∷ items_without t.value.key held) (taken t.value.key held h e))
        (subst (λ x. IsPermutation (plain h ∷ map plain (items_without t.value.key held)) (x ∷ items)) is_plain
        (IsPermutation-cons (plain h) (map plain (items_without t.value.key held)) items less))

-- What a call tells is told truly.

-- ---- candidates

module _ (cand : HeldValue → Candidate) (same_value : (h : HeldValue) → (cand h).value ≡ h.value) where
  pub first_with_key-map : (key : List ℕ) (held : List HeldValue) → first_with_key key (map cand held) ≡ option_map cand (value_at held key)
  first_with_key-map key [] = refl
  first_with_key-map key (h ∷ held) = grind (arith, first_with_key-map key held)

  pub items_without-map : (key : List ℕ) (held : List HeldValue) → without_key (λ (c : Candidate). c.value.key) key (map cand held) ≡ map cand (items_without key held)
  items_without-map key [] = refl
  items_without-map key (h ∷ held) = grind (arith, items_without-map key held)

  -- the value held that is this item
  pub record Stood (held : List HeldValue) (key : List ℕ) (item : HeldValue) : Type 0 where
    pub value : HeldValue
    pub found : value_at held key ≡ Some value
    pub is : plain value ≡ item

  pub stood : (items held : List HeldValue) (key : List ℕ) (item : HeldValue) → Corresponds items held → value_at items key ≡ Some item → Stood held key item
  stood items held key item c e = grind (arith, none-some item)

-- ---- a value whose key is written or deleted

-- an older value that is written over is told truly
pub replaced_truly : (config : Config) (before : List Candidate) (value v : Value) (evictable dead covered : Bool) (used : Option (List ℕ)) → same v.key value.key ≡ true
    → is_true_note config before (accepting used value) (record { cause = cause_of_replaced dead covered; key = v.key; value = v.bytes })
    (Some (record { value = v; dead = dead; covered = covered; evictable = evictable; new = false })) ≡ true
replaced_truly config before value v evictable dead covered used k = grind (arith, and_from, same-refl v.bytes, k)

-- a value that is deleted is told truly
pub deleted_truly : (config : Config) (before : List Candidate) (key : List ℕ) (v : Value) (evictable dead covered : Bool) → same v.key key ≡ true
    → is_true_note config before (deleting key) (record { cause = cause_of_deleted dead; key = v.key; value = v.bytes })
    (Some (record { value = v; dead = dead; covered = covered; evictable = evictable; new = false })) ≡ true
deleted_truly config before key v evictable dead covered k = grind (arith, and_from, same-refl v.bytes, same_from_equal key v.key (sym (equal_from_same v.key key k)), equal_from_same v.key key k)
