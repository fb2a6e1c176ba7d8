-- Which keys are open, and what closing those that begin so does.
use Rattle.std.proofs.Common.{inr, inl, ◌≡◌, refl, ap, ◌∙◌, sym, subst, ℕ, ◌<◌, ◌≤◌, ◌==◌, Bool, true, false, cond, ◌||◌, nat_lt, nat_eq, List, [], ◌∷◌, ◌+◌, if◌then◌else◌, slice_get, IfSome, arith}
use Rattle.std.specs.List.{starts_with, list_any}
use Rattle.std.specs.BTreeSet.{insert_key, IsKeyRangeOf, IsKeyInRange}
use Rattle.std.specs.BTreeMap.Range.{IsLeBy}
use Rattle.std.specs.Set.{remove_key}
use Rattle.std.specs.declared.ops.Bound.TheVariants.{Included, Unbounded}
use Rattle.std.specs.declared.vec.Vec.{Vec}
use Rattle.std.specs.declared.alloc.Global.{Global}
use Rattle.std.specs.Cmp.Lexicographic.{slice_cmp}
use Rattle.std.specs.Ordering.{nat_cmp, is_gt, is_eq, ordering_then, match_ordering}
use Rattle.std.specs.declared.cmp.Ordering.{Ordering}
use Rattle.std.specs.declared.cmp.Ordering.TheVariants.{Less, Equal, Greater}
use Rattle.std.proofs.lemmas.Bool.{cond_both, cases_Bool, and_parts, and_from, eq-eqb}
use Rattle.std.proofs.lemmas.Bool.Decides.{nat_tests}
use Rattle.std.proofs.lemmas.Map.Text.{is_eq-slice_cmp}
use Rattle.std.proofs.lemmas.Slice.Eq.{bytes_eq-Decides}
use Rattle.audit_model.specs.Bytewise.{same}
use Rattle.audit_situation.specs.Held.Holds.{Open, is_open_key}

-- ---- bytes in order

not-lt : (a b : ℕ) → b ≤ a → nat_lt a b ≡ false
not-lt a b h = grind (arith, nat_tests)

equal-of : (a b : ℕ) → nat_eq a b ≡ true → a ≡ b
equal-of a b h = grind (arith, nat_tests)

of-equal : (a b : ℕ) → a ≡ b → nat_eq a b ≡ true
of-equal a b h = grind (arith, nat_tests)

cmp-same : (a : ℕ) → nat_cmp a a ≡ Equal
cmp-same a = ap (λ b. cond b Less (cond (a == a) Equal Greater)) (not-lt a a (omega arith)) ∙ ap (λ b. cond b Equal Greater) (eq-eqb a a refl)

-- a text that is not above another has no greater first byte
first-le : (a b : ℕ) (o : Ordering) → is_gt (ordering_then (nat_cmp a b) o) ≡ false → a ≤ b
first-le a b o h = grind (arith, nat_tests, h)

rest-le : (a b : ℕ) (o : Ordering) → a ≡ b → is_gt (ordering_then (nat_cmp a b) o) ≡ false → is_gt o ≡ false
rest-le a b o is h = subst (λ c. is_gt (ordering_then c o) ≡ false) (ap (nat_cmp a) (sym is) ∙ cmp-same a) h

-- what begins so is not below
pub prefix-le : (prefix key : List ℕ) → starts_with nat_eq key prefix ≡ true → is_gt (slice_cmp nat_cmp prefix key) ≡ false
prefix-le [] [] h = refl
prefix-le [] (x ∷ key) h = refl
prefix-le (p ∷ prefix) [] h = let no : false ≡ true = h in cc
prefix-le (p ∷ prefix) (x ∷ key) h =
    let parts = and_parts (nat_eq p x) (starts_with nat_eq key prefix) h in
    ap (λ c. is_gt (ordering_then c (slice_cmp nat_cmp prefix key))) (ap (nat_cmp p) (sym (equal-of p x parts.0)) ∙ cmp-same p) ∙ prefix-le prefix key parts.1

-- what stands between a prefix and what begins with it begins with it
pub between : (prefix low key : List ℕ) → is_gt (slice_cmp nat_cmp prefix low) ≡ false → is_gt (slice_cmp nat_cmp low key) ≡ false → starts_with nat_eq key prefix ≡ true
    → starts_with nat_eq low prefix ≡ true
between [] low key a b h = refl
between (p ∷ prefix) [] key a b h = let no : true ≡ false = a in cc
between (p ∷ prefix) (l ∷ low) [] a b h = let no : false ≡ true = h in cc
between (p ∷ prefix) (l ∷ low) (x ∷ key) a b h =
    let parts = and_parts (nat_eq p x) (starts_with nat_eq key prefix) h in
    let is = equal-of p x parts.0 in
    let low_le = first-le p l (slice_cmp nat_cmp prefix low) a in
    let high_le = first-le l x (slice_cmp nat_cmp low key) b in
    let first : p ≡ l = omega arith in
    let second : l ≡ x = omega arith in
    and_from _ _ (of-equal p l first) (between prefix low key (rest-le p l _ first a) (rest-le l x _ second b) parts.1)

-- ---- keys

abbrev Word : Type 0
Word = Vec ℕ Global

abbrev at : List ℕ → Word → Bool
at q k = is_eq (slice_cmp nat_cmp q k.items)

at-same : (q : List ℕ) (k : Word) → at q k ≡ true → q ≡ k.items
at-same q k h = (bytes_eq-Decides q k.items).0 (sym (is_eq-slice_cmp q k.items) ∙ h)

at-other : (q : List ℕ) (k : Word) → same k.items q ≡ false → at q k ≡ false
at-other q k h = elim (cases_Bool (at q k)) [ inl is ↦ rw is (let no : true ≡ false = sym ((bytes_eq-Decides k.items q).1 (sym (at-same q k is))) ∙ h in cc) | inr is ↦ rw is ]

-- ---- a key closed

closed-other : (key q : List ℕ) (ks : List Word) → same key q ≡ false → list_any (at q) (remove_key (at key) ks) ≡ list_any (at q) ks
closed-other key q [] h = refl
closed-other key q (k ∷ ks) h =
    cond_both (at key k) _ _ (λ z. list_any (at q) z ≡ (at q k || list_any (at q) ks)) (λ is. sym (ap (λ b. b || list_any (at q) ks) (at-other q k (ap (λ t. same t q) (sym (at-same key k is)) ∙ h)))) (λ _. ap (λ b. at q k || b) (closed-other key q ks h))

pub closed : (key q : List ℕ) (before after : Open) → after.keys ≡ remove_key (at key) before.keys → is_open_key key after ≡ false → is_open_key q after ≡ cond (same key q) false (is_open_key q before)
closed key q before after e none =
    cond_both (same key q) _ _ (λ z. is_open_key q after ≡ z) (λ is. ap (λ t. is_open_key t after) (sym ((bytes_eq-Decides key q).0 is)) ∙ none) (λ is. ap (list_any (at q)) e ∙ closed-other key q before.keys is)

pub one-fewer : (less more : ℕ) (was had : Bool) → was ≡ had → had ≡ true → less + (if was then 1 else 0) ≡ more → less < more
one-fewer less more true had e h l = omega arith
one-fewer less more false had e h l = let no : false ≡ true = e ∙ h in cc

-- ---- a key opened

opened-other : (key : Word) (q : List ℕ) (ks : List Word) → same key.items q ≡ false → list_any (at q) (insert_key (λ x y. slice_cmp nat_cmp x.items y.items) ks key) ≡ list_any (at q) ks
opened-other key q [] h = ap (λ b. b || false) (at-other q key h)
opened-other key q (k ∷ ks) h = go (slice_cmp nat_cmp key.items k.items) (opened-other key q ks h)
  where
    go : (o : Ordering) → list_any (at q) (insert_key (λ x y. slice_cmp nat_cmp x.items y.items) ks key) ≡ list_any (at q) ks
        → list_any (at q) (match_ordering o (key ∷ k ∷ ks) (k ∷ ks) (k ∷ insert_key (λ x y. slice_cmp nat_cmp x.items y.items) ks key)) ≡ (at q k || list_any (at q) ks)
    go Less ih = ap (λ b. b || (at q k || list_any (at q) ks)) (at-other q key h)
    go Equal ih = refl
    go Greater ih = ap (λ b. at q k || b) ih

pub opened : (key : Word) (q : List ℕ) (before after : Open) → after.keys ≡ insert_key (λ x y. slice_cmp nat_cmp x.items y.items) before.keys key → is_open_key key.items after ≡ true
    → is_open_key q after ≡ cond (same key.items q) true (is_open_key q before)
opened key q before after e has =
    cond_both (same key.items q) _ _ (λ z. is_open_key q after ≡ z) (λ is. ap (λ t. is_open_key t after) (sym ((bytes_eq-Decides key.items q).0 is)) ∙ has) (λ is. ap (list_any (at q)) e ∙ opened-other key q before.keys is)

-- ---- the keys that begin so

witness : {X : Type 0} (p : X → Bool) (xs : List X) → list_any p xs ≡ true → (x : X) × (p x ≡ true)
witness p [] h = let no : false ≡ true = h in cc
witness {X} p (x ∷ xs) h = let next = witness p xs in grind (arith, nat_tests, h, next)

-- where no key that is open begins so, none that begins so is open
none-open : (prefix : List ℕ) (before : Open) → ((k : Word) → is_open_key k.items before ≡ true → starts_with nat_eq k.items prefix ≡ true → ⊥) → (q : List ℕ) → starts_with nat_eq q prefix ≡ true
    → is_open_key q before ≡ false
none-open prefix before never q s =
    elim (cases_Bool (is_open_key q before)) [
      | inl h ↦ rw h (let found = witness (at q) before.keys h in let is = at-same q found.0 found.1 in absurd (never found.0 (ap (λ t. is_open_key t before) (sym is) ∙ h) (ap (λ t. starts_with nat_eq t prefix) (sym is) ∙ s)))
      | inr h ↦ rw h
    ]

module _ (prefix : Word) (before : Open) (r : List Word) (range : IsKeyRangeOf (λ (x y : Word). slice_cmp nat_cmp x.items y.items) (Included prefix) Unbounded before r) where
  pub none-there : r ≡ [] → (q : List ℕ) → starts_with nat_eq q prefix.items ≡ true → is_open_key q before ≡ false
  none-there e = none-open prefix.items before (λ k o s. let no : true ≡ false = sym o ∙ range.5 e k (prefix-le prefix.items k.items s, tt) in cc)

  pub none-first : (first : Word) (rest : List Word) → r ≡ first ∷ rest → starts_with nat_eq first.items prefix.items ≡ false → (q : List ℕ) → starts_with nat_eq q prefix.items ≡ true → is_open_key q before ≡ false
  none-first first rest e differs =
      none-open prefix.items before
      (λ k o s.
      let low : IsKeyInRange (λ (x y : Word). slice_cmp nat_cmp x.items y.items) (Included prefix) Unbounded before first = subst (λ (ks : List Word). IfSome (slice_get ks 0) (IsKeyInRange (λ (x y : Word). slice_cmp nat_cmp x.items y.items) (Included prefix) Unbounded before)) e range.1 in
      let high : IsLeBy (λ (x y : Word). slice_cmp nat_cmp x.items y.items) first k = subst (λ (ks : List Word). IfSome (slice_get ks 0) (λ f. IsLeBy (λ (x y : Word). slice_cmp nat_cmp x.items y.items) f k)) e (range.2 k (prefix-le prefix.items k.items s, tt) o) in
      let no : true ≡ false = sym (between prefix.items first.items k.items low.0.0 high s) ∙ differs in cc)
