-- Keys in byte order, and which of them are live.
use Rattle.std.proofs.Common.{inl, inr, ◌≡◌, ℕ, suc, Bool, cond, true, false, List, [], ◌∷◌, ◌++◌, length, Some, if◌then◌else◌, refl, sym, ap, ◌∙◌, arith, true≢false, not, ◌&&◌, ◌||◌}
use Rattle.std.proofs.lemmas.Bool.{and_parts, and_from, cases_Bool, not-true}
use Rattle.std.proofs.lemmas.Cmp.{nat_list_cmp_total}
use Rattle.std.proofs.lemmas.Map.Text.{is_eq-slice_cmp}
use Rattle.std.proofs.lemmas.Option.{none-some}
use Rattle.std.specs.Cmp.Lexicographic.{slice_cmp}
use Rattle.std.specs.Option.{option_map_or}
use Rattle.std.specs.Ordering.{nat_cmp, is_lt, is_eq, ordering_reverse}
use Rattle.std.specs.declared.cmp.Ordering.{Ordering}
use Rattle.std.specs.declared.cmp.Ordering.TheVariants.{Less, Equal, Greater}
use Rattle.audit_model.specs.Bytewise.{same, is_before}
use Rattle.audit_model.specs.Recency.{keys_without}
use Rattle.audit_model.specs.Situation.{HeldValue, is_live_at, live_keys_at}
use Rattle.audit_model.specs.Values.{put_sorted, sorted}
use Rattle.audit_model.specs.declared.config.Config.{Config}
use Rattle.cache_commands.proofs.Held.{corresponds-items_without, none_from_absent}
use Rattle.cache_commands.proofs.SameKeys.{equal_from_same, same-refl, same-flip_false, same_from_equal}
use Rattle.cache_commands.specs.Among.{are_distinct, has_live, is_among_keys}
use Rattle.cache_commands.specs.Held.{value_at, items_without, is_absent, have_own_keys, Corresponds}

abbrev pub order : List ℕ → List ℕ → Ordering
order a b = slice_cmp nat_cmp a b

-- how two keys stand to one another
data Stand (a b : List ℕ) : Type 0 where
  Before : is_before a b ≡ true → is_before b a ≡ false → Stand a b
  Same : a ≡ b → Stand a b
  Behind : is_before a b ≡ false → is_before b a ≡ true → Stand a b

stand : (a b : List ℕ) → Stand a b
stand a b = go (order a b) refl
  where
    flip_order : order b a ≡ ordering_reverse (order a b)
    flip_order = nat_list_cmp_total.antisymm b a

    go : (o : Ordering) → order a b ≡ o → Stand a b
    go Less e = Before (ap is_lt e) (ap is_lt (flip_order ∙ ap ordering_reverse e))
    go Equal e = Same (equal_from_same a b (sym (is_eq-slice_cmp a b) ∙ ap is_eq e))
    go Greater e = Behind (ap is_lt e) (ap is_lt (flip_order ∙ ap ordering_reverse e))

less_from : (a b : List ℕ) → is_before a b ≡ true → order a b ≡ Less
less_from a b e = grind arith

before_trans : (a b c : List ℕ) → is_before a b ≡ true → is_before b c ≡ true → is_before a c ≡ true
before_trans a b c e f = ap is_lt (nat_list_cmp_total.trans a b c (less_from a b e) (less_from b c f))

pub put_before : (a x : List ℕ) (xs : List (List ℕ)) → is_before a x ≡ true → put_sorted a (x ∷ xs) ≡ a ∷ x ∷ xs
put_before a x xs e = ap (λ b. if b then a ∷ x ∷ xs else x ∷ put_sorted a xs) e

pub put_behind : (a x : List ℕ) (xs : List (List ℕ)) → is_before a x ≡ false → put_sorted a (x ∷ xs) ≡ x ∷ put_sorted a xs
put_behind a x xs e = ap (λ b. if b then a ∷ x ∷ xs else x ∷ put_sorted a xs) e

two : (a b : List ℕ) (rest : List (List ℕ)) → put_sorted a rest ≡ a ∷ rest → put_sorted b rest ≡ b ∷ rest → put_sorted a (b ∷ rest) ≡ put_sorted b (a ∷ rest)
two a b rest e f = grind (arith, stand a b, put_before a b rest, put_behind b a rest, put_behind a b rest, put_before b a rest)

-- two keys may be put in either order
pub put_either : (a b : List ℕ) (xs : List (List ℕ)) → put_sorted a (put_sorted b xs) ≡ put_sorted b (put_sorted a xs)
put_either a b [] = two a b [] refl refl
put_either a b (x ∷ xs) =
    let trans = before_trans a b x in
    let two2 = two a b (x ∷ xs) in
    let before = put_before a x (put_sorted b xs) in
    let behind = put_behind b a (x ∷ xs) in
    let put = put_behind a b (x ∷ xs) in
    let put2 = put_before b x (put_sorted a xs) in
    let put3 = put_behind a x (put_sorted b xs) in
    let put4 = put_behind b x (put_sorted a xs) in
    grind (arith, put_either a b xs, stand b a, before_trans b a x, stand a b, trans, put_before b x xs, two2, put_before a x xs, put_behind b x xs, before, behind, put, put_behind a x xs, put2, put3, put4)

-- a key at the end
pub sorted-push : (xs : List (List ℕ)) (k : List ℕ) → sorted (xs ++ k ∷ []) ≡ put_sorted k (sorted xs)
sorted-push [] k = refl
sorted-push (x ∷ xs) k = ap (put_sorted x) (sorted-push xs k) ∙ put_either x k (sorted xs)

length-put : (k : List ℕ) (xs : List (List ℕ)) → length (put_sorted k xs) ≡ suc (length xs)
length-put k [] = refl
length-put k (x ∷ xs) = grind (arith, length-put k xs)

pub length-sorted : (xs : List (List ℕ)) → length (sorted xs) ≡ length xs
length-sorted [] = refl
length-sorted (x ∷ xs) = length-put x (sorted xs) ∙ ap suc (length-sorted xs)

-- ---- live keys

abbrev pub put_if : Bool → List ℕ → List (List ℕ) → List (List ℕ)
put_if live key keys = if live then put_sorted key keys else keys

pub live-cons : (config : Config) (now : ℕ) (h : HeldValue) (items : List HeldValue) → live_keys_at config now (h ∷ items) ≡ put_if (is_live_at config now h) h.value.key (live_keys_at config now items)
live-cons config now h items = grind arith

pub put_if-either : (b c : Bool) (k l : List ℕ) (xs : List (List ℕ)) → put_if b k (put_if c l xs) ≡ put_if c l (put_if b k xs)
put_if-either b c k l xs = grind (arith, put_either k l xs)

live-taken : (config : Config) (now : ℕ) (key : List ℕ) (held : List HeldValue) (h : HeldValue) → value_at held key ≡ Some h
    → live_keys_at config now held ≡ put_if (is_live_at config now h) h.value.key (live_keys_at config now (items_without key held))
live-taken config now key [] h e = absurd (none-some h e)
live-taken config now key (g ∷ held) h e =
    let either = put_if-either (is_live_at config now g) (is_live_at config now h) g.value.key h.value.key (live_keys_at config now (items_without key held)) in
    grind (arith, live-taken config now key held h, live-cons config now g held, live-cons config now g (items_without key held), either)

-- the live keys are those of the items
pub live_keys_are : (config : Config) (now : ℕ) (items held : List HeldValue) → have_own_keys items ≡ true → Corresponds items held → live_keys_at config now held ≡ live_keys_at config now items
live_keys_are config now [] [] a c = refl
live_keys_are config now [] (h ∷ held) a c = absurd (let n : suc (length held) ≡ 0 = c.number in omega arith)
live_keys_are config now (t ∷ items) held a c =
    let are = live_keys_are config now items (items_without t.value.key held) (and_parts (is_absent t.value.key items) (have_own_keys items) a).1 in
    let parts = and_parts (is_absent t.value.key items) (have_own_keys items) a in
    grind (arith, are, parts, corresponds-items_without t.value.key (t ∷ items) held a c, same-refl t.value.key, none-some t, live-taken config now t.value.key held, live-cons config now t items)

-- The live keys in byte order are those of any list that has each of them once.

-- ---- keys without one

-- which keys are among the others
among-without : (key q : List ℕ) (keys : List (List ℕ)) → is_among_keys q (keys_without key keys) ≡ (not (same q key) && is_among_keys q keys)
among-without key q [] = grind arith
among-without key q (k ∷ keys) = grind (arith, among-without key q keys, equal_from_same k key, equal_from_same q key, same-flip_false k key)

distinct-without : (key : List ℕ) (keys : List (List ℕ)) → are_distinct keys ≡ true → are_distinct (keys_without key keys) ≡ true
distinct-without key [] d = refl
distinct-without key (k ∷ keys) d = grind (arith, and_parts (not (is_among_keys k keys)) (are_distinct keys) d, distinct-without key keys, and_from, among-without key k keys)

-- where it is not there the others are all
without-none : (key : List ℕ) (keys : List (List ℕ)) → is_among_keys key keys ≡ false → keys_without key keys ≡ keys
without-none key [] e = refl
without-none key (k ∷ keys) e = grind (arith, without-none key keys, true≢false, same-flip_false key k)

-- a key that is there may be put last
sorted-taken : (key : List ℕ) (keys : List (List ℕ)) → are_distinct keys ≡ true → is_among_keys key keys ≡ true → sorted keys ≡ put_sorted key (sorted (keys_without key keys))
sorted-taken key [] d there = absurd (true≢false (sym there))
sorted-taken key (k ∷ keys) d there =
    let parts = and_parts (not (is_among_keys k keys)) (are_distinct keys) d in
    grind (arith, parts, sorted-taken key keys, equal_from_same key k, without-none key keys, not-true (is_among_keys k keys), same_from_equal k key, put_either k key (sorted (keys_without key keys)), same-flip_false key k)

-- ---- the live keys

module _ (config : Config) (now : ℕ) where
  none-live : (keys : List (List ℕ)) → ((q : List ℕ) → is_among_keys q keys ≡ false) → keys ≡ []
  none-live [] none = refl
  none-live (k ∷ keys) none = absurd (true≢false (ap (λ b. b || is_among_keys k keys) (sym (same-refl k)) ∙ none k))

  pub live_keys_from : (items : List HeldValue) (keys : List (List ℕ)) → have_own_keys items ≡ true → are_distinct keys ≡ true → ((q : List ℕ) → is_among_keys q keys ≡ has_live config now items q) → live_keys_at config now items ≡ sorted keys
  live_keys_from [] keys a d among = sym (ap sorted (none-live keys among))
  live_keys_from (h ∷ items) keys a d among =
      let parts = and_parts (is_absent h.value.key items) (have_own_keys items) a in
      live-cons config now h items ∙ elim (cases_Bool (is_live_at config now h)) [
        | inl live ↦ rw live
            (ap (put_sorted h.value.key) (live_keys_from items (keys_without h.value.key keys) parts.1 (distinct-without h.value.key keys d) (others parts.0))
            ∙ sym (sorted-taken h.value.key keys d (own ∙ live)))
        | inr dead ↦ rw dead (live_keys_from items keys parts.1 d (alike parts.0 dead))
      ]
    where
      own : is_among_keys h.value.key keys ≡ is_live_at config now h
      own = among h.value.key ∙ ap (λ b. option_map_or (is_live_at config now) (cond b (Some h) (value_at items h.value.key)) false) (same-refl h.value.key)

      -- the key's own value is the only one
      gone : (q : List ℕ) → is_absent h.value.key items ≡ true → same q h.value.key ≡ true → has_live config now items q ≡ false
      gone q absent e = ap (λ o. option_map_or (is_live_at config now) o false) (ap (value_at items) (equal_from_same q h.value.key e) ∙ none_from_absent h.value.key items absent)

      other : (q : List ℕ) → same q h.value.key ≡ false → is_among_keys q keys ≡ has_live config now items q
      other q e = among q ∙ ap (λ b. option_map_or (is_live_at config now) (cond b (Some h) (value_at items q)) false) e

      others : is_absent h.value.key items ≡ true → (q : List ℕ) → is_among_keys q (keys_without h.value.key keys) ≡ has_live config now items q
      others absent q = grind (arith, among-without h.value.key q keys, gone q absent, other q)

      alike : is_absent h.value.key items ≡ true → is_live_at config now h ≡ false → (q : List ℕ) → is_among_keys q keys ≡ has_live config now items q
      alike absent dead q = grind (arith, gone q absent, other q, own, equal_from_same q h.value.key)
