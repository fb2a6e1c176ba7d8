-- Turns at their numbers, and their numbers by hash.
use Rattle.std.proofs.Common.{◌≡◌, refl, sym, ap, ◌∙◌, subst, ℕ, ◌<◌, ◌≤◌, ◌==◌, Bool, true, false, cond, ◌&&◌, ◌||◌, List, [], ◌∷◌, ◌++◌, Option, option_map, Some, None, arith, Bor}
use Rattle.std.specs.Prelude.{nat_lt, All}
use Rattle.std.specs.List.{AllByRecursion, list_any}
use Rattle.std.specs.List.Sorted.{IsStrictlySortedBy}
use Rattle.std.specs.Map.{keys_of, lookup, remove_entry}
use Rattle.std.specs.BTreeMap.{insert_entry}
use Rattle.std.specs.BTreeSet.{BTreeSet, contains}
use Rattle.std.specs.Option.{option_copied}
use Rattle.std.specs.Ordering.{nat_cmp, is_eq, match_ordering, ordering_then}
use Rattle.std.specs.declared.cmp.Ordering.{Ordering}
use Rattle.std.specs.declared.cmp.Ordering.TheVariants.{Less, Equal, Greater}
use Rattle.std.proofs.lemmas.Bool.{eqb-true, eq-eqb, ne_eqb}
use Rattle.std.proofs.lemmas.Bool.Decides.{nat_tests}
use Rattle.std.proofs.lemmas.List.{map-append}
use Rattle.std.proofs.lemmas.List.Elements.{recursion_from_All}
use Rattle.std.proofs.lemmas.Map.Keys.{sorted_head, sorted_tail}
use Rattle.std.proofs.lemmas.Option.{none-some, same_Some}
use Rattle.front_reference.specs.Fronts.{same_kind, turn_at, turn_of, without_turn}
use Rattle.front_reference.specs.declared.data.OpenTurn.{OpenTurn}
use Rattle.front_reference.specs.declared.data.TurnKind.{TurnKind}
use Rattle.front_parts.specs.Places.Indexing.{AreIndexed, has_hash, pair_cmp, turns_of}

-- ---- numbers and pairs in order

pub lt-lt : (a b : ℕ) → nat_lt a b ≡ true → a < b
lt-lt a b h = grind (arith, nat_tests)

pub not-lt : (a b : ℕ) → nat_lt a b ≡ false → b ≤ a
not-lt a b h = grind (arith, nat_tests)

at-number : (a b : ℕ) → is_eq (nat_cmp a b) ≡ (a == b)
at-number a b = go (nat_lt a b) (a == b) refl refl
  where
    go : (l e : Bool) → nat_lt a b ≡ l → (a == b) ≡ e → is_eq (cond l Less (cond e Equal Greater)) ≡ e
    go true true l e = let lt = lt-lt a b l in let is = eqb-true a b e in absurd (omega (arith, lt, is))
    go true false l e = refl
    go false true l e = refl
    go false false l e = refl

greater : (a b : ℕ) → b < a → nat_cmp a b ≡ Greater
greater a b low = go (nat_lt a b) (a == b) refl refl
  where
    go : (l e : Bool) → nat_lt a b ≡ l → (a == b) ≡ e → cond l Less (cond e Equal Greater) ≡ Greater
    go true e l is = let lt = lt-lt a b l in absurd (omega (arith, lt))
    go false true l is = let same = eqb-true a b is in absurd (omega (arith, same))
    go false false l is = refl

less-lt : (a b : ℕ) → nat_cmp a b ≡ Less → a < b
less-lt a b h = go (nat_lt a b) (a == b) refl h
  where
    go : (l e : Bool) → nat_lt a b ≡ l → cond l Less (cond e Equal Greater) ≡ Less → a < b
    go true e l h = lt-lt a b l
    go false true l h = absurd (let no : ⊥ = cc in no)
    go false false l h = absurd (let no : ⊥ = cc in no)

-- the first of a pair does not fall
pub firsts-rise : (x y : ℕ × ℕ) → pair_cmp x y ≡ Less → x.0 ≤ y.0
firsts-rise x y h = go (nat_lt x.0 y.0) (x.0 == y.0) refl refl h
  where
    go : (l e : Bool) → nat_lt x.0 y.0 ≡ l → (x.0 == y.0) ≡ e → ordering_then (cond l Less (cond e Equal Greater)) (nat_cmp x.1 y.1) ≡ Less → x.0 ≤ y.0
    go true e l is h = let lt = lt-lt x.0 y.0 l in omega (arith, lt)
    go false true l is h = let same = eqb-true x.0 y.0 is in omega (arith, same)
    go false false l is h = absurd (let no : ⊥ = cc in no)

-- and of pairs with the same first the second rises
pub seconds-rise : (x y : ℕ × ℕ) → x.0 ≡ y.0 → pair_cmp x y ≡ Less → x.1 < y.1
seconds-rise x y same h = less-lt x.1 y.1 (go (nat_lt x.0 y.0) (x.0 == y.0) refl refl h)
  where
    go : (l e : Bool) → nat_lt x.0 y.0 ≡ l → (x.0 == y.0) ≡ e → ordering_then (cond l Less (cond e Equal Greater)) (nat_cmp x.1 y.1) ≡ Less → nat_cmp x.1 y.1 ≡ Less
    go true e l is h = let lt = lt-lt x.0 y.0 l in absurd (omega (arith, lt, same))
    go false true l is h = h
    go false false l is h = absurd (let no : ⊥ = cc in no)

then-eq : (a b : Ordering) → is_eq (ordering_then a b) ≡ (is_eq a && is_eq b)
then-eq Less b = refl
then-eq Equal b = refl
then-eq Greater b = refl

pub at-pair : (x y : ℕ × ℕ) → is_eq (pair_cmp x y) ≡ (x.0 == y.0 && x.1 == y.1)
at-pair x y = then-eq (nat_cmp x.0 y.0) (nat_cmp x.1 y.1) ∙ ap (λ b. b && is_eq (nat_cmp x.1 y.1)) (at-number x.0 y.0) ∙ ap (λ b. x.0 == y.0 && b) (at-number x.1 y.1)

-- another pair
pub apart-firsts : (x y : ℕ × ℕ) → (x.0 ≡ y.0 → ⊥) → is_eq (pair_cmp x y) ≡ false
apart-firsts x y ne = at-pair x y ∙ ap (λ b. b && x.1 == y.1) (ne_eqb x.0 y.0 ne)

pub apart-seconds : (x y : ℕ × ℕ) → (x.1 ≡ y.1 → ⊥) → is_eq (pair_cmp x y) ≡ false
apart-seconds x y ne = at-pair x y ∙ ap (λ b. x.0 == y.0 && b) (ne_eqb x.1 y.1 ne) ∙ go (x.0 == y.0)
  where
    go : (b : Bool) → (b && false) ≡ false
    go true = refl
    go false = refl

-- ---- lists

module _ {X : Type 0} where
  pub all-any : (p : X → Bool) (xs : List X) → AllByRecursion (λ x. p x ≡ false) xs → list_any p xs ≡ false
  all-any p [] a = refl
  all-any p (x ∷ xs) a = ap (λ b. b || list_any p xs) a.0 ∙ all-any p xs a.1

  pub all-to : (P Q : X → Type 0) → ((x : X) → P x → Q x) → (xs : List X) → AllByRecursion P xs → AllByRecursion Q xs
  all-to P Q go [] a = tt
  all-to P Q go (x ∷ xs) a = (go x a.0, all-to P Q go xs a.1)

abbrev at : ℕ → ℕ → Bool
at n k = is_eq (nat_cmp n k)

module _ {K : Type 0} where
  -- ---- turns by number

  abbrev IsOwn : ℕ × OpenTurn K → Type 0
  IsOwn e = e.0 ≡ e.1.number

  hit : (n : ℕ) (e : ℕ × OpenTurn K) → IsOwn e → at n e.0 ≡ (e.1.number == n)
  hit n e own = at-number n e.0 ∙ ap (λ m. n == m) own ∙ flip n e.1.number
    where
      flip : (a b : ℕ) → (a == b) ≡ (b == a)
      flip a b = grind (arith, nat_tests)

  -- what a look-up lends
  pub shown : (r : Option (Bor (OpenTurn K))) → option_map (λ turn. turn.now) r ≡ option_copied r
  shown None = refl
  shown (Some x) = refl

  pub found-at : (n : ℕ) (es : List (ℕ × OpenTurn K)) → AllByRecursion IsOwn es → lookup (at n) es ≡ turn_at (turns_of es) n
  found-at n [] own = refl
  found-at n (e ∷ es) own = ap (λ b. cond b (Some e.1) (lookup (at n) es)) (hit n e own.0) ∙ ap (λ o. cond (e.1.number == n) (Some e.1) o) (found-at n es own.1)

  pub removed-is : (n : ℕ) (es : List (ℕ × OpenTurn K)) → AllByRecursion IsOwn es → turns_of (remove_entry (at n) es) ≡ without_turn n (turns_of es)
  removed-is n [] own = refl
  removed-is n (e ∷ es) own = ap (λ b. turns_of (cond b es (e ∷ remove_entry (at n) es))) (hit n e own.0) ∙ go (e.1.number == n) (removed-is n es own.1)
    where
      go : (b : Bool) → turns_of (remove_entry (at n) es) ≡ without_turn n (turns_of es) → turns_of (cond b es (e ∷ remove_entry (at n) es)) ≡ cond b (turns_of es) (e.1 ∷ without_turn n (turns_of es))
      go true next = refl
      go false next = ap (λ ts. e.1 ∷ ts) next

  removed-own : (n : ℕ) (es : List (ℕ × OpenTurn K)) → AllByRecursion IsOwn es → AllByRecursion IsOwn (remove_entry (at n) es)
  removed-own n [] own = tt
  removed-own n (e ∷ es) own = go (at n e.0) (removed-own n es own.1)
    where
      go : (b : Bool) → AllByRecursion IsOwn (remove_entry (at n) es) → AllByRecursion IsOwn (cond b es (e ∷ remove_entry (at n) es))
      go true next = own.1
      go false next = (own.0, next)

  -- ---- a turn that comes last

  abbrev AreBelow : ℕ → List (OpenTurn K) → Type 0
  AreBelow n ts = AllByRecursion (λ (t : OpenTurn K). t.number < n) ts

  put-last : (t : OpenTurn K) (es : List (ℕ × OpenTurn K)) → AllByRecursion IsOwn es → AreBelow t.number (turns_of es) → insert_entry nat_cmp es t.number t ≡ es ++ (t.number, t) ∷ []
  put-last t [] own below = refl
  put-last t (e ∷ es) own below =
      ap (λ o. match_ordering o ((t.number, t) ∷ e ∷ es) ((e.0, t) ∷ es) (e ∷ insert_entry nat_cmp es t.number t)) (greater t.number e.0 (let low = below.0 in let is = own.0 in omega (arith, low, is)))
      ∙ ap (λ es. e ∷ es) (put-last t es own.1 below.1)

  pub added-is : (t : OpenTurn K) (es new : List (ℕ × OpenTurn K)) → AllByRecursion IsOwn es → All (λ (u : OpenTurn K). u.number < t.number) (turns_of es) → new ≡ insert_entry nat_cmp es t.number t → turns_of new ≡ turns_of es ++ t ∷ []
  added-is t es new own below is = ap turns_of (is ∙ put-last t es own (recursion_from_All _ _ below)) ∙ map-append (λ (e : ℕ × OpenTurn K). e.1) es ((t.number, t) ∷ [])

  own-last : (t : OpenTurn K) (es : List (ℕ × OpenTurn K)) → AllByRecursion IsOwn es → AllByRecursion IsOwn (es ++ (t.number, t) ∷ [])
  own-last t [] own = (refl, tt)
  own-last t (e ∷ es) own = (own.0, own-last t es own.1)

  at-last : (t : OpenTurn K) (ts : List (OpenTurn K)) (n : ℕ) → AreBelow t.number ts → turn_at (ts ++ t ∷ []) n ≡ cond (t.number == n) (Some t) (turn_at ts n)
  at-last t [] n below = refl
  at-last t (x ∷ xs) n below = ap (λ o. cond (x.number == n) (Some x) o) (at-last t xs n below.1) ∙ go (x.number == n) (t.number == n) refl refl
    where
      go : (b c : Bool) → (x.number == n) ≡ b → (t.number == n) ≡ c → cond b (Some x) (cond c (Some t) (turn_at xs n)) ≡ cond c (Some t) (cond b (Some x) (turn_at xs n))
      go true true f g = let one = eqb-true x.number n f in let other = eqb-true t.number n g in let low = below.0 in absurd (omega (arith, one, other, low))
      go true false f g = refl
      go false true f g = refl
      go false false f g = refl

  none-above : (ts : List (OpenTurn K)) (n : ℕ) → AreBelow n ts → turn_at ts n ≡ None
  none-above [] n below = refl
  none-above (x ∷ xs) n below = ap (λ b. cond b (Some x) (turn_at xs n)) (ne_eqb x.number n (λ same. let low = below.0 in absurd (omega (arith, same, low)))) ∙ none-above xs n below.1

  -- ---- hashes

  abbrev AreHashed : List (OpenTurn K) → BTreeSet (ℕ × ℕ) → Type 0
  AreHashed ts hashes = (hash number : ℕ) → contains pair_cmp hashes (hash, number) ≡ has_hash hash (turn_at ts number)

  hashed-last : (t : OpenTurn K) (ts : List (OpenTurn K)) (old new : BTreeSet (ℕ × ℕ)) → AreBelow t.number ts → ((q : ℕ × ℕ) → contains pair_cmp new q ≡ cond (is_eq (pair_cmp (t.hash, t.number) q)) true (contains pair_cmp old q))
      → AreHashed ts old → AreHashed (ts ++ t ∷ []) new
  hashed-last t ts old new below puts hashed hash number =
      puts (hash, number)
      ∙ ap (λ b. cond b true (contains pair_cmp old (hash, number))) (at-pair (t.hash, t.number) (hash, number))
      ∙ ap (λ b. cond (t.hash == hash && t.number == number) true b) (hashed hash number)
      ∙ go (t.number == number) refl
      ∙ sym (ap (has_hash hash) (at-last t ts number below))
    where
      either : (b : Bool) → cond (b && true) true false ≡ b
      either true = refl
      either false = refl

      neither : (b c : Bool) → cond (b && false) true c ≡ c
      neither true c = refl
      neither false c = refl

      go : (c : Bool) → (t.number == number) ≡ c → cond (t.hash == hash && c) true (has_hash hash (turn_at ts number)) ≡ has_hash hash (cond c (Some t) (turn_at ts number))
      go true is = ap (λ o. cond (t.hash == hash && true) true (has_hash hash o)) (none-above ts number (subst (λ n. AreBelow n ts) (eqb-true t.number number is) below)) ∙ either (t.hash == hash)
      go false is = neither (t.hash == hash) (has_hash hash (turn_at ts number))

  hashed-without : (t : OpenTurn K) (n : ℕ) (ts left : List (OpenTurn K)) (old new : BTreeSet (ℕ × ℕ)) → turn_at ts n ≡ Some t → ((m : ℕ) → turn_at left m ≡ cond (n == m) None (turn_at ts m))
      → ((q : ℕ × ℕ) → contains pair_cmp new q ≡ cond (is_eq (pair_cmp (t.hash, n) q)) false (contains pair_cmp old q)) → AreHashed ts old → AreHashed left new
  hashed-without t n ts left old new found leaves takes hashed hash number =
      takes (hash, number)
      ∙ ap (λ b. cond b false (contains pair_cmp old (hash, number))) (at-pair (t.hash, n) (hash, number))
      ∙ ap (λ b. cond (t.hash == hash && n == number) false b) (hashed hash number)
      ∙ go (n == number) refl
      ∙ sym (ap (has_hash hash) (leaves number))
    where
      either : (b : Bool) → cond (b && true) false b ≡ false
      either true = refl
      either false = refl

      neither : (b c : Bool) → cond (b && false) false c ≡ c
      neither true c = refl
      neither false c = refl

      go : (c : Bool) → (n == number) ≡ c → cond (t.hash == hash && c) false (has_hash hash (turn_at ts number)) ≡ has_hash hash (cond c None (turn_at ts number))
      go true is = ap (λ o. cond (t.hash == hash && true) false (has_hash hash o)) (ap (turn_at ts) (sym (eqb-true n number is)) ∙ found) ∙ either (t.hash == hash)
      go false is = neither (t.hash == hash) (has_hash hash (turn_at ts number))

  -- one that was put and taken out again
  taken-last : (t : OpenTurn K) (es : List (ℕ × OpenTurn K)) → AllByRecursion IsOwn es → AreBelow t.number (turns_of es) → remove_entry (at t.number) (es ++ (t.number, t) ∷ []) ≡ es
  taken-last t [] own below = ap (λ b. cond b [] ((t.number, t) ∷ [])) (at-number t.number t.number ∙ eq-eqb t.number t.number refl)
  taken-last t (e ∷ es) own below =
      ap (λ b. cond b (es ++ (t.number, t) ∷ []) (e ∷ remove_entry (at t.number) (es ++ (t.number, t) ∷ [])))
      (at-number t.number e.0 ∙ ne_eqb t.number e.0 (λ same. let low = below.0 in let is = own.0 in absurd (omega (arith, low, is, same))))
      ∙ ap (λ xs. e ∷ xs) (taken-last t es own.1 below.1)

  -- ---- what the table keeps

  pub none_indexed : (es : List (ℕ × OpenTurn K)) (hashes : BTreeSet (ℕ × ℕ)) → es ≡ [] → hashes.keys ≡ [] → IsStrictlySortedBy nat_cmp (keys_of es) → AreIndexed es hashes
  none_indexed es hashes none no_keys ordered = record {
    ordered = ordered;
    own = subst (AllByRecursion IsOwn) (sym none) tt;
    hashed = λ hash number. ap (list_any (λ q. is_eq (pair_cmp (hash, number) q))) no_keys ∙ sym (ap (λ (xs : List (ℕ × OpenTurn K)). has_hash hash (turn_at (turns_of xs) number)) none);
  }

  pub added_indexed : (t : OpenTurn K) (es new : List (ℕ × OpenTurn K)) (old more : BTreeSet (ℕ × ℕ)) → AreIndexed es old → All (λ (u : OpenTurn K). u.number < t.number) (turns_of es) → new ≡ insert_entry nat_cmp es t.number t
      → IsStrictlySortedBy nat_cmp (keys_of new) → ((q : ℕ × ℕ) → contains pair_cmp more q ≡ cond (is_eq (pair_cmp (t.hash, t.number) q)) true (contains pair_cmp old q)) → AreIndexed new more
  added_indexed t es new old more i below is ordered puts = record {
    ordered = ordered;
    own = subst (AllByRecursion IsOwn) (sym (is ∙ put-last t es i.own (recursion_from_All _ _ below))) (own-last t es i.own);
    hashed = subst (λ ts. AreHashed ts more) (sym (added-is t es new i.own below is)) (hashed-last t (turns_of es) old more (recursion_from_All _ _ below) puts i.hashed);
  }

  pub undone-is : (t : OpenTurn K) (es mid new : List (ℕ × OpenTurn K)) → AllByRecursion IsOwn es → All (λ (u : OpenTurn K). u.number < t.number) (turns_of es) → mid ≡ insert_entry nat_cmp es t.number t → new ≡ remove_entry (at t.number) mid → new ≡ es
  undone-is t es mid new own below put taken = taken ∙ ap (remove_entry (at t.number)) (put ∙ put-last t es own (recursion_from_All _ _ below)) ∙ taken-last t es own (recursion_from_All _ _ below)

  pub undone_indexed : (es new : List (ℕ × OpenTurn K)) (old same : BTreeSet (ℕ × ℕ)) → AreIndexed es old → new ≡ es → same.keys ≡ old.keys → AreIndexed new same
  undone_indexed es new old same i is keys =
      subst (λ xs. AreIndexed xs same) (sym is) (record { ordered = i.ordered; own = i.own; hashed = λ hash number. ap (list_any (λ q. is_eq (pair_cmp (hash, number) q))) keys ∙ i.hashed hash number })

  pub removed_indexed : (t : OpenTurn K) (n : ℕ) (es new : List (ℕ × OpenTurn K)) (old less : BTreeSet (ℕ × ℕ)) → AreIndexed es old → Some t ≡ lookup (at n) es → new ≡ remove_entry (at n) es
      → IsStrictlySortedBy nat_cmp (keys_of new) → ((q : ℕ) → lookup (λ k. is_eq (nat_cmp q k)) new ≡ cond (is_eq (nat_cmp n q)) None (lookup (λ k. is_eq (nat_cmp q k)) es))
      → ((q : ℕ × ℕ) → contains pair_cmp less q ≡ cond (is_eq (pair_cmp (t.hash, n) q)) false (contains pair_cmp old q)) → AreIndexed new less
  removed_indexed t n es new old less i found is ordered leaves takes =
      let own : AllByRecursion IsOwn new = subst (AllByRecursion IsOwn) (sym is) (removed-own n es i.own) in
      record {
        ordered = ordered;
        own = own;
        hashed = hashed-without t n (turns_of es) (turns_of new) old less (sym (found ∙ found-at n es i.own))
            (λ m. sym (found-at m new own) ∙ leaves m ∙ ap (λ b. cond b None (lookup (at m) es)) (at-number n m) ∙ ap (λ o. cond (n == m) None o) (found-at m es i.own)) takes i.hashed;
      }

  -- ---- a turn looked for

  abbrev pub Rise : List (OpenTurn K) → Type 0
  Rise [] = Unit {0}
  Rise (t ∷ ts) = AllByRecursion (λ (u : OpenTurn K). t.number < u.number) ts × Rise ts

  above : (n : ℕ) (e : OpenTurn K) (es : List (ℕ × OpenTurn K)) → n ≡ e.number → AllByRecursion IsOwn es → AllByRecursion (λ k. nat_cmp n k ≡ Less) (keys_of es) → AllByRecursion (λ (u : OpenTurn K). e.number < u.number) (turns_of es)
  above n e [] is own rest = tt
  above n e (x ∷ es) is own rest = (let low = less-lt n x.0 rest.0 in let same = own.0 in omega (arith, low, same, is), above n e es is own.1 rest.1)

  pub rise : (es : List (ℕ × OpenTurn K)) → IsStrictlySortedBy nat_cmp (keys_of es) → AllByRecursion IsOwn es → Rise (turns_of es)
  rise [] ordered own = tt
  rise (e ∷ es) ordered own = (above e.0 e.1 es own.0 own.1 (sorted_head nat_cmp e.0 (keys_of es) ordered), rise es (sorted_tail nat_cmp e.0 (keys_of es) ordered) own.1)

  -- the turn of a number has it, and what holds of all
  pub at-all : (P : OpenTurn K → Type 0) (ts : List (OpenTurn K)) (n : ℕ) (t : OpenTurn K) → AllByRecursion P ts → turn_at ts n ≡ Some t → P t × (t.number ≡ n)
  at-all P [] n t all e = absurd (none-some t e)
  at-all P (x ∷ xs) n t all e = go (x.number == n) refl e (λ h. at-all P xs n t all.1 h)
    where
      go : (b : Bool) → (x.number == n) ≡ b → cond b (Some x) (turn_at xs n) ≡ Some t → (turn_at xs n ≡ Some t → P t × (t.number ≡ n)) → P t × (t.number ≡ n)
      go true f e next = let same : x ≡ t = same_Some x t e in (subst P same all.0, ap (λ (u : OpenTurn K). u.number) (sym same) ∙ eqb-true x.number n f)
      go false f e next = next e

  module _ (eq : K → K → Bool) (kind : TurnKind) (key : K) where
    abbrev is_it : OpenTurn K → Bool
    is_it t = same_kind t.kind kind && eq key t.key

    -- what is further on stands at a number that is not the first one's
    later : (x : OpenTurn K) (xs : List (OpenTurn K)) (m : ℕ) (u : OpenTurn K) → AllByRecursion (λ (v : OpenTurn K). x.number < v.number) xs → turn_at xs m ≡ Some u → (x.number < m) × (turn_at (x ∷ xs) m ≡ Some u)
    later x xs m u higher e =
        let h = at-all (λ (v : OpenTurn K). x.number < v.number) xs m u higher e in
        let low : x.number < m = let a = h.0 in let b = h.1 in omega (arith, a, b) in
        (low, ap (λ b. cond b (Some x) (turn_at xs m)) (ne_eqb x.number m (λ same. absurd (omega (arith, low, same)))) ∙ e)

    here : (x : OpenTurn K) (xs : List (OpenTurn K)) → turn_at (x ∷ xs) x.number ≡ Some x
    here x xs = ap (λ b. cond b (Some x) (turn_at xs x.number)) (eq-eqb x.number x.number refl)

    pub first-of : (ts : List (OpenTurn K)) (n : ℕ) (t : OpenTurn K) → Rise ts → turn_at ts n ≡ Some t → is_it t ≡ true → ((m : ℕ) (u : OpenTurn K) → m < n → turn_at ts m ≡ Some u → is_it u ≡ false) → turn_of eq ts kind key ≡ Some t
    first-of [] n t rises e it before = absurd (none-some t e)
    first-of (x ∷ xs) n t rises e it before = go (x.number == n) refl e (λ h. first-of xs n t rises.1 h it (λ m u low at. before m u low (later x xs m u rises.0 at).1))
      where
        go : (b : Bool) → (x.number == n) ≡ b → cond b (Some x) (turn_at xs n) ≡ Some t → (turn_at xs n ≡ Some t → turn_of eq xs kind key ≡ Some t) → cond (is_it x) (Some x) (turn_of eq xs kind key) ≡ Some t
        go true f e next = let same : x ≡ t = same_Some x t e in ap (λ b. cond b (Some x) (turn_of eq xs kind key)) (ap is_it same ∙ it) ∙ ap (λ y. Some y) same
        go false f e next = ap (λ b. cond b (Some x) (turn_of eq xs kind key)) (before x.number x (later x xs n t rises.0 e).0 (here x xs)) ∙ next e

    pub none-of : (ts : List (OpenTurn K)) → Rise ts → ((m : ℕ) (u : OpenTurn K) → turn_at ts m ≡ Some u → is_it u ≡ false) → turn_of eq ts kind key ≡ None
    none-of [] rises out = refl
    none-of (x ∷ xs) rises out =
        ap (λ b. cond b (Some x) (turn_of eq xs kind key)) (out x.number x (here x xs)) ∙ none-of xs rises.1 (λ m u at. out m u (later x xs m u rises.0 at).1)
