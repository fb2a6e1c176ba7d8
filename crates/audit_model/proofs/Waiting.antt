-- What stands beside the loads under way, when they change.
use Rattle.std.proofs.Common.{◌≡◌, refl, sym, ap, ◌∙◌, subst, ℕ, suc, zero, ◌<◌, ◌≤◌, ◌==◌, Bool, true, false, cond, not, ◌||◌, inl, inr, List, [], ◌∷◌, ◌++◌, map, Option, Some, None, Result, Ok, Err, OnOk, OnErr, if◌then◌else◌, arith, true≢false}
use Rattle.std.specs.Prelude.{is_some, nat_lt, All}
use Rattle.std.specs.List.{find, filter, list_any, AllByRecursion}
use Rattle.std.specs.BTreeMap.{insert_entry}
use Rattle.std.specs.Map.{lookup, remove_entry}
use Rattle.std.specs.Cmp.Lexicographic.{slice_cmp}
use Rattle.std.specs.Ordering.{nat_cmp, is_eq, match_ordering}
use Rattle.std.specs.declared.cmp.Ordering.{Ordering}
use Rattle.std.specs.declared.cmp.Ordering.TheVariants.{Less, Equal, Greater}
use Rattle.std.specs.declared.vec.Vec.{Vec}
use Rattle.std.specs.declared.alloc.Global.{Global}
use Rattle.std.proofs.lemmas.Option.{none-some}
use Rattle.std.proofs.lemmas.Bool.{cond_both, cases_Bool, eqb-true, eqb-false, eq-eqb, ne_eqb, not-true, or_cases, false_from_ne_true}
use Rattle.std.proofs.lemmas.Bool.Decides.{nat_tests}
use Rattle.std.proofs.lemmas.List.Folds.{list_any-append}
use Rattle.std.proofs.lemmas.Map.Text.{is_eq-slice_cmp}
use Rattle.std.proofs.lemmas.Slice.Eq.{bytes_eq-Decides}
use Rattle.audit_model.specs.Bytewise.{same}
use Rattle.audit_model.specs.Situation.{PendingLoad, with_waiting, without_waiting}
use Rattle.audit_model.specs.Numbered.{changed_numbered}
use Rattle.audit_model.specs.Underway.{Keys, Joined, number_at, load_of, has_number, IsKeyed, StandsAtWaiters, KeepsNumbers}

-- ---- lists

module _ {X : Type 0} where
  all-map : (P Q : X → Type 0) (f : X → X) → ((x : X) → P x → Q (f x)) → (xs : List X) → AllByRecursion P xs → AllByRecursion Q (map f xs)
  all-map P Q f go [] a = tt
  all-map P Q f go (x ∷ xs) a = (go x a.0, all-map P Q f go xs a.1)

  all-to : (P Q : X → Type 0) → ((x : X) → P x → Q x) → (xs : List X) → AllByRecursion P xs → AllByRecursion Q xs
  all-to P Q go [] a = tt
  all-to P Q go (x ∷ xs) a = (go x a.0, all-to P Q go xs a.1)

  all-filter : (P Q : X → Type 0) (p : X → Bool) → ((x : X) → p x ≡ true → P x → Q x) → (xs : List X) → AllByRecursion P xs → AllByRecursion Q (filter p xs)
  all-filter P Q p to [] a = tt
  all-filter P Q p to (x ∷ xs) a = let next = all-filter P Q p to xs a.1 in grind (arith, nat_tests, next)

  all-find : (P : X → Type 0) (p : X → Bool) (xs : List X) (x : X) → AllByRecursion P xs → find p xs ≡ Some x → P x
  all-find P p [] x a e = absurd (none-some x e)
  all-find P p (y ∷ ys) x a e = let next = all-find P p ys x a.1 in grind (arith, nat_tests, e, next)

  find-true : (p : X → Bool) (xs : List X) (x : X) → find p xs ≡ Some x → p x ≡ true
  find-true p [] x e = absurd (none-some x e)
  find-true p (y ∷ ys) x e = let next = find-true p ys x in grind (arith, nat_tests, e, next)

  map-same : (f g : X → X) (xs : List X) → AllByRecursion (λ x. f x ≡ g x) xs → map f xs ≡ map g xs
  map-same f g [] a = refl
  map-same f g (x ∷ xs) a = ap (λ y. y ∷ map f xs) a.0 ∙ ap (λ ys. g x ∷ ys) (map-same f g xs a.1)

  map-id : (f : X → X) (xs : List X) → AllByRecursion (λ x. x ≡ f x) xs → xs ≡ map f xs
  map-id f [] a = refl
  map-id f (x ∷ xs) a = ap (λ y. y ∷ xs) a.0 ∙ ap (λ ys. f x ∷ ys) (map-id f xs a.1)

  find-same : (p q : X → Bool) (xs : List X) → AllByRecursion (λ x. p x ≡ q x) xs → find p xs ≡ find q xs
  find-same p q [] a = refl
  find-same p q (x ∷ xs) a = ap (λ b. cond b (Some x) (find p xs)) a.0 ∙ ap (λ o. cond (q x) (Some x) o) (find-same p q xs a.1)

  find-none : (xs : List X) → find (λ x. false) xs ≡ None
  find-none [] = refl
  find-none (x ∷ xs) = find-none xs

  to-rec : (P : X → Type 0) (xs : List X) → All P xs → AllByRecursion P xs
  to-rec P [] a = tt
  to-rec P (x ∷ xs) a = (a 0 x (omega arith), to-rec P xs (λ i d h. a (suc i) d (omega arith)))

  from-rec : (P : X → Type 0) (xs : List X) → AllByRecursion P xs → All P xs
  from-rec P [] a i d h = absurd (none i h)
    where
      none : (n : ℕ) → n < 0 → ⊥
      none n h = omega arith
  from-rec P (x ∷ xs) a zero d h = a.0
  from-rec P (x ∷ xs) a (suc i) d h = from-rec P xs a.1 i d (omega arith)

pub keyed-of : {last : ℕ} {keys : Keys} {joined : Joined} {loads : List PendingLoad} → KeepsNumbers last keys joined loads → AllByRecursion (IsKeyed keys) loads
keyed-of {last} {keys} {joined} {loads} k = to-rec (IsKeyed keys) loads k.keyed

awaited-of : {last : ℕ} {keys : Keys} {joined : Joined} {loads : List PendingLoad} → KeepsNumbers last keys joined loads → AllByRecursion (StandsAtWaiters joined) loads
awaited-of {last} {keys} {joined} {loads} k = to-rec (StandsAtWaiters joined) loads k.awaited

keep : (last : ℕ) (keys : Keys) (joined : Joined) (loads : List PendingLoad) → ((key : List ℕ) (n : ℕ) → number_at key keys ≡ Some n → n ≤ last) → AllByRecursion (IsKeyed keys) loads → AllByRecursion (StandsAtWaiters joined) loads
    → KeepsNumbers last keys joined loads
keep last keys joined loads past keyed awaited = record { past = past; keyed = from-rec (IsKeyed keys) loads keyed; awaited = from-rec (StandsAtWaiters joined) loads awaited }

-- ---- numbers in a list

hit : ℕ → ℕ → Bool
hit q n = n == q

-- what is left of them when one goes
any-left : (conn q : ℕ) (ns : List ℕ) → list_any (λ n. n == q) (filter (λ n. not (n == conn)) ns) ≡ true → (list_any (λ n. n == q) ns ≡ true) × ((conn == q) ≡ false)
any-left conn q [] e = absurd (true≢false (sym e))
any-left conn q (n ∷ ns) e = let next = any-left conn q ns in grind (arith, nat_tests, e, next)
  where
    left : List ℕ
    left = filter (λ m. not (m == conn)) ns

    first : (c : Bool) → (n == q) ≡ c → (n == conn) ≡ false → (c || list_any (λ m. m == q) left) ≡ true → (list_any (λ m. m == q) left ≡ true → (list_any (λ m. m == q) ns ≡ true) × ((conn == q) ≡ false))
        → ((c || list_any (λ m. m == q) ns) ≡ true) × ((conn == q) ≡ false)
    first true s h e ih = (refl, ne_eqb conn q (λ is. eqb-false n conn h (eqb-true n q s ∙ sym is)))
    first false s h e ih = ih e

-- where it is none of them, all stay
none-left : (conn : ℕ) (ns : List ℕ) → list_any (λ n. n == conn) ns ≡ false → filter (λ n. not (n == conn)) ns ≡ ns
none-left conn [] e = refl
none-left conn (n ∷ ns) e = let next = none-left conn ns in grind (arith, nat_tests, e, next)

-- ---- tests of keys

lt-lt : (a b : ℕ) → nat_lt a b ≡ true → a < b
lt-lt a b h = grind (arith, nat_tests)

pub at-number : (a b : ℕ) → is_eq (nat_cmp a b) ≡ (a == b)
at-number a b = go (nat_lt a b) (a == b) refl refl
  where
    go : (l e : Bool) → nat_lt a b ≡ l → (a == b) ≡ e → is_eq (cond l Less (cond e Equal Greater)) ≡ e
    go true true l e = let lt = lt-lt a b l in let is = eqb-true a b e in absurd (omega (arith, lt, is))
    go true false l e = refl
    go false true l e = refl
    go false false l e = refl

abbrev Word : Type 0
Word = Vec ℕ Global

abbrev at : List ℕ → Word → Bool
at q k = is_eq (slice_cmp nat_cmp q k.items)

at-same : (q : List ℕ) (k : Word) → at q k ≡ true → q ≡ k.items
at-same q k h = (bytes_eq-Decides q k.items).0 (sym (is_eq-slice_cmp q k.items) ∙ h)

same-self : (key : List ℕ) → same key key ≡ true
same-self key = (bytes_eq-Decides key key).1 refl

equal : (a b : List ℕ) → same a b ≡ true → a ≡ b
equal a b e = (bytes_eq-Decides a b).0 e

at-other : (q : List ℕ) (k : Word) → same k.items q ≡ false → at q k ≡ false
at-other q k h = elim (cases_Bool (at q k)) [ inl is ↦ rw is (absurd (true≢false (sym ((bytes_eq-Decides k.items q).1 (sym (at-same q k is))) ∙ h))) | inr is ↦ rw is ]

removed-other : (key q : List ℕ) (es : List (Word × ℕ)) → same key q ≡ false → lookup (at q) (remove_entry (at key) es) ≡ lookup (at q) es
removed-other key q [] h = refl
removed-other key q (e ∷ es) h =
    cond_both (at key e.0) _ _ (λ z. lookup (at q) z ≡ cond (at q e.0) (Some e.1) (lookup (at q) es)) (λ is. sym (ap (λ b. cond b (Some e.1) (lookup (at q) es)) (at-other q e.0 (ap (λ t. same t q) (sym (at-same key e.0 is)) ∙ h)))) (λ _. ap (λ o. cond (at q e.0) (Some e.1) o) (removed-other key q es h))

-- a key taken out
pub removed : (key q : List ℕ) (before after : Keys) → after.entries ≡ remove_entry (at key) before.entries → number_at key after ≡ None → number_at q after ≡ cond (same key q) None (number_at q before)
removed key q before after e none =
    elim (cases_Bool (same key q)) [ inl is ↦ rw is (ap (λ t. number_at t after) (sym (equal key q is)) ∙ none) | inr is ↦ rw is (ap (lookup (at q)) e ∙ removed-other key q before.entries is) ]

put-other : (key : Word) (n : ℕ) (q : List ℕ) (es : List (Word × ℕ)) → same key.items q ≡ false → lookup (at q) (insert_entry (λ x y. slice_cmp nat_cmp x.items y.items) es key n) ≡ lookup (at q) es
put-other key n q [] h = ap (λ b. cond b (Some n) None) (at-other q key h)
put-other key n q (e ∷ es) h = go (slice_cmp nat_cmp key.items e.0.items) refl (put-other key n q es h)
  where
    go : (o : Ordering) → slice_cmp nat_cmp key.items e.0.items ≡ o → lookup (at q) (insert_entry (λ x y. slice_cmp nat_cmp x.items y.items) es key n) ≡ lookup (at q) es
        → lookup (at q) (match_ordering o ((key, n) ∷ e ∷ es) ((e.0, n) ∷ es) (e ∷ insert_entry (λ x y. slice_cmp nat_cmp x.items y.items) es key n)) ≡ cond (at q e.0) (Some e.1) (lookup (at q) es)
    go Less f ih = ap (λ b. cond b (Some n) (cond (at q e.0) (Some e.1) (lookup (at q) es))) (at-other q key h)
    go Equal f ih =
        let other : at q e.0 ≡ false = at-other q e.0 (ap (λ t. same t q) (sym (at-same key.items e.0 (ap is_eq f))) ∙ h) in
        ap (λ b. cond b (Some n) (lookup (at q) es)) other ∙ sym (ap (λ b. cond b (Some e.1) (lookup (at q) es)) other)
    go Greater f ih = ap (λ o. cond (at q e.0) (Some e.1) o) ih

-- a number put at a key
pub put : (key : Word) (n : ℕ) (q : List ℕ) (before after : Keys) → after.entries ≡ insert_entry (λ x y. slice_cmp nat_cmp x.items y.items) before.entries key n → number_at key.items after ≡ Some n
    → number_at q after ≡ cond (same key.items q) (Some n) (number_at q before)
put key n q before after e has =
    cond_both (same key.items q) _ _ (λ z. number_at q after ≡ z) (λ is. ap (λ t. number_at t after) (sym (equal key.items q is)) ∙ has) (λ is. ap (lookup (at q)) e ∙ put-other key n q before.entries is)

-- what holds whether a call went well or not
pub either-way : {A E : Type 0} (P : List PendingLoad → Type 0) (r : Result A E) (x y new : List PendingLoad) → OnOk r (new ≡ x) → OnErr r (new ≡ y) → P x → P y → P new
either-way P (Ok v) x y new ok err px py = subst P (sym ok) px
either-way P (Err e) x y new ok err px py = subst P (sym err) py

-- ---- where nothing changes but what stands beside

-- connections that waited still wait for the same
pub more-joined : (last : ℕ) (keys : Keys) (joined after : Joined) (loads : List PendingLoad) → ((q : ℕ) → is_some (load_of q joined) ≡ true → load_of q after ≡ load_of q joined) → KeepsNumbers last keys joined loads → KeepsNumbers last keys after loads
more-joined last keys joined after loads stays k =
    keep last keys after loads k.past (keyed-of k) (all-to (StandsAtWaiters joined) (StandsAtWaiters after) (λ p a conn w. stays conn (ap is_some (a conn w)) ∙ a conn w) loads (awaited-of k))

-- the keys' numbers are the same
pub same-keys : (last : ℕ) (keys after : Keys) (joined : Joined) (loads : List PendingLoad) → ((q : List ℕ) → number_at q after ≡ number_at q keys) → KeepsNumbers last keys joined loads → KeepsNumbers last after joined loads
same-keys last keys after joined loads is k =
    keep last after joined loads (λ key n h. k.past key n (sym (is key) ∙ h))
    (all-to (IsKeyed keys) (IsKeyed after) (λ p f key. f key ∙ ap (λ o. has_number o p) (sym (is key))) loads (keyed-of k)) (awaited-of k)

-- a connection that waited for nothing waits
pub joins : (conn number : ℕ) (joined after : Joined) → is_some (load_of conn joined) ≡ false → ((q : ℕ) → load_of q after ≡ cond (conn == q) (Some number) (load_of q joined))
    → (q : ℕ) → is_some (load_of q joined) ≡ true → load_of q after ≡ load_of q joined
joins conn number joined after free is q h =
    is q ∙ (elim (cases_Bool (conn == q)) [ inl t ↦ rw t (absurd (true≢false (sym h ∙ ap (λ n. is_some (load_of n joined)) (sym (eqb-true conn q t)) ∙ free))) | inr t ↦ rw t ])

is-none : {X : Type 0} (o : Option X) → is_some o ≡ false → o ≡ None
is-none None e = refl
is-none (Some x) e = absurd (true≢false e)

-- ---- a load sent

module _ (last : ℕ) (keys : Keys) where
  -- each load's number is none above the last
  pub below : ((key : List ℕ) (n : ℕ) → number_at key keys ≡ Some n → n ≤ last) → (p : PendingLoad) → IsKeyed keys p → p.number ≤ last
  below past p k = go (number_at p.key keys) refl (sym (k p.key) ∙ same-self p.key)
    where
      go : (o : Option ℕ) → number_at p.key keys ≡ o → has_number o p ≡ true → p.number ≤ last
      go None e h = absurd (true≢false (sym h))
      go (Some n) e h = let is = eqb-true p.number n h in let le = past p.key n e in omega (arith, is, le)

  module _ (after : Keys) (key : List ℕ) (number : ℕ) (higher : last < number) (free : is_some (number_at key keys) ≡ false)
      (puts : (q : List ℕ) → number_at q after ≡ cond (same key q) (Some number) (number_at q keys)) (past : (key : List ℕ) (n : ℕ) → number_at key keys ≡ Some n → n ≤ last) where
    past-after : (q : List ℕ) (n : ℕ) → number_at q after ≡ Some n → n ≤ number
    past-after q n h = let next = sym (puts q) ∙ h in grind (arith, nat_tests, next)

    keyed-after : (p : PendingLoad) → IsKeyed keys p → IsKeyed after p
    keyed-after p k q =
        elim (cases_Bool (same key q)) [
          | inl h ↦ let le = below past p k in k q ∙ ap (λ o. has_number o p) (ap (λ t. number_at t keys) (sym (equal key q h)) ∙ is-none (number_at key keys) free) ∙ sym (ap (λ o. has_number o p) (puts q ∙ ap (λ b. cond b (Some number) (number_at q keys)) h) ∙ ne_eqb p.number number (λ is. omega (arith, is, le)))
          | inr h ↦ k q ∙ sym (ap (λ o. has_number o p) (puts q ∙ ap (λ b. cond b (Some number) (number_at q keys)) h))
        ]

    keyed-new : (waiting : List ℕ) → IsKeyed after (record { number = number; key = key; waiting = waiting })
    keyed-new waiting q = grind (arith, nat_tests)
      where
        load : PendingLoad
        load = record { number = number; key = key; waiting = waiting }

        other : (o : Option ℕ) → number_at q keys ≡ o → has_number o load ≡ false
        other None h = refl
        other (Some n) h = let le = past q n h in ne_eqb number n (λ is. omega (arith, is, le))

    -- the keys know it before it is there
    pub known : (joined : Joined) (loads : List PendingLoad) → KeepsNumbers last keys joined loads → KeepsNumbers number after joined loads
    known joined loads k = keep number after joined loads past-after (all-to (IsKeyed keys) (IsKeyed after) keyed-after loads (keyed-of k)) (awaited-of k)

    pub sent : (conn : ℕ) (joined : Joined) (loads : List PendingLoad) → load_of conn joined ≡ Some number → KeepsNumbers last keys joined loads
        → KeepsNumbers number after joined (record { number = number; key = key; waiting = conn ∷ [] } ∷ loads)
    sent conn joined loads waits k =
        keep number after joined (record { number = number; key = key; waiting = conn ∷ [] } ∷ loads) past-after (keyed-new (conn ∷ []), all-to (IsKeyed keys) (IsKeyed after) keyed-after loads (keyed-of k)) (first, awaited-of k)
      where
        first : (q : ℕ) → ((conn == q) || false) ≡ true → load_of q joined ≡ Some number
        first q h = grind (arith, nat_tests, h)

-- ---- a load looked up

pub of-number : (keys : Keys) (key : List ℕ) (n : ℕ) (loads : List PendingLoad) → All (IsKeyed keys) loads → number_at key keys ≡ Some n → find (λ p. p.number == n) loads ≡ find (λ p. same p.key key) loads
of-number keys key n loads k e =
    find-same (λ p. p.number == n) (λ p. same p.key key) loads (all-to (IsKeyed keys) (λ p. (p.number == n) ≡ same p.key key) (λ p f. sym (f key ∙ ap (λ o. has_number o p) e)) loads (to-rec (IsKeyed keys) loads k))

pub of-none : (keys : Keys) (key : List ℕ) (loads : List PendingLoad) → All (IsKeyed keys) loads → number_at key keys ≡ None → None ≡ find (λ p. same p.key key) loads
of-none keys key loads k e =
    sym (find-same (λ p. same p.key key) (λ p. false) loads (all-to (IsKeyed keys) (λ p. same p.key key ≡ false) (λ p f. f key ∙ ap (λ o. has_number o p) e) loads (to-rec (IsKeyed keys) loads k)) ∙ find-none loads)

-- ---- a load joined

abbrev with_one : ℕ → PendingLoad → PendingLoad
with_one conn p = record p { waiting = p.waiting ++ conn ∷ [] }

pub joined_is : (keys : Keys) (key : List ℕ) (n conn : ℕ) (loads : List PendingLoad) → All (IsKeyed keys) loads → number_at key keys ≡ Some n
    → map (changed_numbered (λ p. p.number) n (with_one conn)) loads ≡ map (with_waiting conn key) loads
joined_is keys key n conn loads k e =
    map-same (changed_numbered (λ p. p.number) n (with_one conn)) (with_waiting conn key) loads
    (all-to (IsKeyed keys) (λ p. changed_numbered (λ p. p.number) n (with_one conn) p ≡ with_waiting conn key p) (λ p f. ap (λ b. if b then with_one conn p else p) (sym (f key ∙ ap (λ o. has_number o p) e))) loads (to-rec (IsKeyed keys) loads k))

pub unjoined_is : (keys : Keys) (key : List ℕ) (conn : ℕ) (loads : List PendingLoad) → All (IsKeyed keys) loads → number_at key keys ≡ None → loads ≡ map (with_waiting conn key) loads
unjoined_is keys key conn loads k e =
    map-id (with_waiting conn key) loads (all-to (IsKeyed keys) (λ p. p ≡ with_waiting conn key p) (λ p f. sym (ap (λ b. if b then with_one conn p else p) (f key ∙ ap (λ o. has_number o p) e))) loads (to-rec (IsKeyed keys) loads k))

-- a load changed in what waits for it stands at the same key
same-place : (keys : Keys) (n : ℕ) (f : PendingLoad → PendingLoad) → ((p : PendingLoad) → IsKeyed keys p → IsKeyed keys (f p)) → (p : PendingLoad) → IsKeyed keys p → IsKeyed keys (changed_numbered (λ p. p.number) n f p)
same-place keys n f to p k = grind (arith, nat_tests)

pub joined-keeps : (last n conn : ℕ) (keys : Keys) (joined after : Joined) (loads : List PendingLoad) → is_some (load_of conn joined) ≡ false → ((q : ℕ) → load_of q after ≡ cond (conn == q) (Some n) (load_of q joined))
    → KeepsNumbers last keys joined loads → KeepsNumbers last keys after (map (changed_numbered (λ p. p.number) n (with_one conn)) loads)
joined-keeps last n conn keys joined after loads free puts k =
    keep last keys after (map (changed_numbered (λ p. p.number) n (with_one conn)) loads) k.past
    (all-map (IsKeyed keys) (IsKeyed keys) (changed_numbered (λ p. p.number) n (with_one conn)) (same-place keys n (with_one conn) (λ p f. f)) loads (keyed-of k))
    (all-map (StandsAtWaiters joined) (StandsAtWaiters after) (changed_numbered (λ p. p.number) n (with_one conn)) one loads (awaited-of k))
  where
    stays : (p : PendingLoad) → StandsAtWaiters joined p → StandsAtWaiters after p
    stays p a q w = joins conn n joined after free puts q (ap is_some (a q w)) ∙ a q w

    one : (p : PendingLoad) → StandsAtWaiters joined p → StandsAtWaiters after (changed_numbered (λ p. p.number) n (with_one conn) p)
    one p a = cond_both (p.number == n) _ _ (StandsAtWaiters after) (λ is. new is) (λ _. stays p a)
      where
        new : (p.number == n) ≡ true → StandsAtWaiters after (with_one conn p)
        new e q w = elim (or_cases (list_any (λ m. m == q) p.waiting) ((conn == q) || false) (sym (list_any-append (λ m. m == q) p.waiting (conn ∷ [])) ∙ w)) [
          | inl h ↦ stays p a q h
          | inr h ↦ own (conn == q) refl h
        ]
          where
            own : (b : Bool) → (conn == q) ≡ b → (b || false) ≡ true → load_of q after ≡ Some p.number
            own true f h = puts q ∙ ap (λ b. cond b (Some n) (load_of q joined)) f ∙ ap (λ m. Some m) (sym (eqb-true p.number n e))
            own false f h = absurd (true≢false (sym h))

-- ---- a connection that waits no more

stays-out : (conn : ℕ) (p : PendingLoad) → list_any (λ n. n == conn) p.waiting ≡ false → p ≡ without_waiting conn p
stays-out conn p e = ap (λ ns. record p { waiting = ns }) (sym (none-left conn p.waiting e))

pub left_is : (conn n : ℕ) (joined : Joined) (loads : List PendingLoad) → All (StandsAtWaiters joined) loads → load_of conn joined ≡ Some n
    → map (changed_numbered (λ p. p.number) n (without_waiting conn)) loads ≡ map (without_waiting conn) loads
left_is conn n joined loads a e =
    map-same (changed_numbered (λ p. p.number) n (without_waiting conn)) (without_waiting conn) loads (all-to (StandsAtWaiters joined) (λ p. changed_numbered (λ p. p.number) n (without_waiting conn) p ≡ without_waiting conn p) one loads (to-rec (StandsAtWaiters joined) loads a))
  where
    one : (p : PendingLoad) → StandsAtWaiters joined p → changed_numbered (λ p. p.number) n (without_waiting conn) p ≡ without_waiting conn p
    one p f =
        cond_both (p.number == n) _ _ (λ z. z ≡ without_waiting conn p) (λ _. refl) (λ t. stays-out conn p (false_from_ne_true _ (λ w. let is : Some p.number ≡ Some n = sym (f conn w) ∙ e in let number : p.number ≡ n = cc in eqb-false p.number n t number)))

pub unleft_is : (conn : ℕ) (joined : Joined) (loads : List PendingLoad) → All (StandsAtWaiters joined) loads → load_of conn joined ≡ None → loads ≡ map (without_waiting conn) loads
unleft_is conn joined loads a e =
    map-id (without_waiting conn) loads
    (all-to (StandsAtWaiters joined) (λ p. p ≡ without_waiting conn p) (λ p f. stays-out conn p (false_from_ne_true _ (λ w. none-some p.number (sym e ∙ f conn w)))) loads (to-rec (StandsAtWaiters joined) loads a))

pub left-keeps : (last conn : ℕ) (keys : Keys) (joined after : Joined) (loads : List PendingLoad) → ((q : ℕ) → load_of q after ≡ cond (conn == q) None (load_of q joined))
    → KeepsNumbers last keys joined loads → KeepsNumbers last keys after (map (without_waiting conn) loads)
left-keeps last conn keys joined after loads rest k =
    keep last keys after (map (without_waiting conn) loads) k.past (all-map (IsKeyed keys) (IsKeyed keys) (without_waiting conn) (λ p f. f) loads (keyed-of k))
    (all-map (StandsAtWaiters joined) (StandsAtWaiters after) (without_waiting conn) one loads (awaited-of k))
  where
    one : (p : PendingLoad) → StandsAtWaiters joined p → StandsAtWaiters after (without_waiting conn p)
    one p a q w = let h = any-left conn q p.waiting w in rest q ∙ ap (λ b. cond b None (load_of q joined)) h.1 ∙ a q h.0

-- ---- a load left out

pub none-removed : (last number : ℕ) (keys : Keys) (joined : Joined) (loads : List PendingLoad) → KeepsNumbers last keys joined loads → KeepsNumbers last keys joined (filter (λ p. not (p.number == number)) loads)
none-removed last number keys joined loads k =
    keep last keys joined (filter (λ p. not (p.number == number)) loads) k.past (all-filter (IsKeyed keys) (IsKeyed keys) (λ p. not (p.number == number)) (λ p e f. f) loads (keyed-of k))
    (all-filter (StandsAtWaiters joined) (StandsAtWaiters joined) (λ p. not (p.number == number)) (λ p e f. f) loads (awaited-of k))

module _ (last number : ℕ) (keys keys_after : Keys) (joined joined_after : Joined) (loads : List PendingLoad) (load : PendingLoad) (found : find (λ p. p.number == number) loads ≡ Some load)
    (less : (q : List ℕ) → number_at q keys_after ≡ cond (same load.key q) None (number_at q keys))
    (fewer : (q : ℕ) → load_of q joined_after ≡ cond (list_any (λ n. n == q) load.waiting) None (load_of q joined)) (k : KeepsNumbers last keys joined loads) where
  own : load.number ≡ number
  own = eqb-true load.number number (find-true (λ p. p.number == number) loads load found)

  key-left : (p : PendingLoad) → not (p.number == number) ≡ true → IsKeyed keys p → IsKeyed keys_after p
  key-left p e f q =
      elim (cases_Bool (same load.key q)) [
        | inl is ↦ f q ∙ not-it (number_at q keys) (sym (all-find (IsKeyed keys) (λ p. p.number == number) loads load (keyed-of k) found q) ∙ is) ∙ sym (ap (λ o. has_number o p) (less q ∙ ap (λ b. cond b None (number_at q keys)) is))
        | inr is ↦ f q ∙ sym (ap (λ o. has_number o p) (less q ∙ ap (λ b. cond b None (number_at q keys)) is))
      ]
    where
      not-it : (o : Option ℕ) → has_number o load ≡ true → has_number o p ≡ false
      not-it None h = refl
      not-it (Some n) h = ap (λ m. p.number == m) (sym (eqb-true load.number n h) ∙ own) ∙ not-true _ e

  past-left : (q : List ℕ) (n : ℕ) → number_at q keys_after ≡ Some n → n ≤ last
  past-left q n h = let next = sym (less q) ∙ h in grind (arith, nat_tests, next)

  waits-left : (p : PendingLoad) → not (p.number == number) ≡ true → StandsAtWaiters joined p → StandsAtWaiters joined_after p
  waits-left p e a conn w =
      elim (cases_Bool (list_any (λ n. n == conn) load.waiting)) [
        | inl t ↦ let is : Some p.number ≡ Some load.number = sym (a conn w) ∙ all-find (StandsAtWaiters joined) (λ p. p.number == number) loads load (awaited-of k) found conn t in let number_is : p.number ≡ load.number = cc in absurd (true≢false (sym (eq-eqb p.number number (number_is ∙ own)) ∙ not-true _ e))
        | inr t ↦ fewer conn ∙ ap (λ b. cond b None (load_of conn joined)) t ∙ a conn w
      ]

  pub removed-keeps : KeepsNumbers last keys_after joined_after (filter (λ p. not (p.number == number)) loads)
  removed-keeps =
      keep last keys_after joined_after (filter (λ p. not (p.number == number)) loads) past-left
      (all-filter (IsKeyed keys) (IsKeyed keys_after) (λ p. not (p.number == number)) key-left loads (keyed-of k))
      (all-filter (StandsAtWaiters joined) (StandsAtWaiters joined_after) (λ p. not (p.number == number)) waits-left loads (awaited-of k))
