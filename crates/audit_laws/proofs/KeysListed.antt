-- The live keys, each once, in byte order.
use Rattle.std.proofs.Common.{inr, inl, arith, ◌≡◌, refl, ap, ◌∙◌, sym, ℕ, Bool, true, false, true≢false, ◌&&◌, ◌||◌, cond, List, [], ◌∷◌, map, Some, is_some}
use Rattle.std.specs.List.{filter, find, list_any}
use Rattle.std.specs.List.Sorted.{IsStrictlySortedBy}
use Rattle.std.specs.Option.{option_map}
use Rattle.std.specs.declared.cmp.Ordering.{Ordering}
use Rattle.std.specs.declared.cmp.Ordering.TheVariants.{Less, Equal, Greater}
use Rattle.std.specs.Ordering.{is_lt, is_eq, ordering_reverse, nat_cmp}
use Rattle.std.specs.Cmp.Lexicographic.{slice_cmp}
use Rattle.std.proofs.lemmas.Cmp.{nat_list_cmp_total}
use Rattle.std.proofs.lemmas.Map.Text.{is_eq-slice_cmp}
use Rattle.audit_model.specs.Bytewise.{same, is_before}
use Rattle.audit_model.specs.Situation.{HeldValue, is_live_at, live_at, live_keys_at}
use Rattle.audit_model.specs.Values.{put_sorted, sorted}
use Rattle.audit_model.specs.declared.config.Config.{Config}
use Rattle.audit_laws.proofs.HeldStep.{same-refl}
use Rattle.audit_laws.proofs.Told.{Each}
use Rattle.audit_laws.proofs.Views.{same-true}
use Rattle.audit_laws.proofs.Pairs.{Pairs, Differ, pairs-map, pairs-filter, all_of_each}
use Rattle.std.proofs.lemmas.Bool.Decides.{nat_tests}
use Rattle.std.proofs.lemmas.Bool.{cond_both, cases_Bool}

-- ---- byte order

abbrev Before : List ℕ → List ℕ → Type 0
Before a b = slice_cmp nat_cmp a b ≡ Less

is_less : (o : Ordering) → is_lt o ≡ true → o ≡ Less
is_less Less e = refl
is_less Equal e = absurd (true≢false (sym e))
is_less Greater e = absurd (true≢false (sym e))

turned : (o p : Ordering) → p ≡ ordering_reverse o → is_lt o ≡ false → is_eq o ≡ false → p ≡ Less
turned Less p r l e = absurd (true≢false l)
turned Equal p r l e = absurd (true≢false e)
turned Greater p r l e = r

before-or : (a b : List ℕ) → is_before a b ≡ false → same a b ≡ false → Before b a
before-or a b l e =
    turned (slice_cmp nat_cmp a b) (slice_cmp nat_cmp b a) (nat_list_cmp_total.antisymm b a) l (is_eq-slice_cmp a b ∙ e)

-- ---- a key put in its place

each-put : (P : List ℕ → Type 0) (x : List ℕ) (ks : List (List ℕ)) → P x → Each P ks → Each P (put_sorted x ks)
each-put P x [] p h = (p, tt)
each-put P x (k ∷ ks) p (q, h) = let next = each-put P x ks p h in grind (arith, nat_tests, next)

each-sorted : (P : List ℕ → Type 0) (ks : List (List ℕ)) → Each P ks → Each P (sorted ks)
each-sorted P [] h = tt
each-sorted P (k ∷ ks) (p, h) = each-put P k (sorted ks) p (each-sorted P ks h)

behind : (x k : List ℕ) (ks : List (List ℕ)) → Before x k → Each (Before k) ks → Each (Before x) ks
behind x k [] b h = tt
behind x k (l ∷ ks) b (p, h) = (nat_list_cmp_total.trans x k l b p, behind x k ks b h)

rising-put : (x : List ℕ) (ks : List (List ℕ)) → Pairs Before ks → Each (Differ x) ks → Pairs Before (put_sorted x ks)
rising-put x [] h d = (tt, tt)
rising-put x (k ∷ ks) (e, h) (n, d) =
    cond_both (is_before x k) _ _ (Pairs Before) (λ is. let first = is_less (slice_cmp nat_cmp x k) is in ((first, behind x k ks first e), (e, h))) (λ is. (each-put (Before k) x ks (before-or x k is n) e, (rising-put x ks h d)))

rising-sorted : (ks : List (List ℕ)) → Pairs Differ ks → Pairs Before (sorted ks)
rising-sorted [] h = tt
rising-sorted (k ∷ ks) (e, h) = rising-put k (sorted ks) (rising-sorted ks h) (each-sorted (Differ k) ks e)

strictly : (ks : List (List ℕ)) → Pairs Before ks → IsStrictlySortedBy (slice_cmp nat_cmp) ks
unfolding IsStrictlySortedBy
strictly [] h = tt
strictly (k ∷ ks) (e, h) = (all_of_each (Before k) ks e, strictly ks h)

pub keys-rise : (config : Config) (now : ℕ) (held : List HeldValue) → Pairs (λ g h. Differ g.value.key h.value.key) held → IsStrictlySortedBy (slice_cmp nat_cmp) (live_keys_at config now held)
keys-rise config now held h =
    strictly (live_keys_at config now held)
    (rising-sorted (map (λ k. k.value.key) (filter (is_live_at config now) held))
    (pairs-map Differ (λ (k : HeldValue). k.value.key) (filter (is_live_at config now) held) (pairs-filter (λ g k. Differ g.value.key k.value.key) (is_live_at config now) held h)))

-- ---- which keys are listed

any-put : (p : List ℕ → Bool) (x : List ℕ) (ks : List (List ℕ)) → list_any p (put_sorted x ks) ≡ (p x || list_any p ks)
any-put p x [] = refl
any-put p x (k ∷ ks) = let next = any-put p x ks in grind (arith, nat_tests, next)

any-sorted : (p : List ℕ → Bool) (ks : List (List ℕ)) → list_any p (sorted ks) ≡ list_any p ks
any-sorted p [] = refl
any-sorted p (k ∷ ks) = any-put p k (sorted ks) ∙ ap (λ b. p k || b) (any-sorted p ks)

listed-found : (key : List ℕ) (live : HeldValue → Bool) (held : List HeldValue)
    → list_any (λ k. same key k) (map (λ h. h.value.key) (filter live held)) ≡ is_some (option_map (λ h. h.value) (find (λ h. same key h.value.key && live h) held))
listed-found key live [] = refl
listed-found key live (h ∷ hs) = go (live h) (same key h.value.key) refl (listed-found key live hs)
  where
    go : (l s : Bool) → same key h.value.key ≡ s
        → list_any (λ k. same key k) (map (λ h. h.value.key) (filter live hs)) ≡ is_some (option_map (λ h. h.value) (find (λ h. same key h.value.key && live h) hs))
        → list_any (λ k. same key k) (map (λ h. h.value.key) (cond l (h ∷ filter live hs) (filter live hs)))
        ≡ is_some (option_map (λ h. h.value) (cond (s && l) (Some h) (find (λ h. same key h.value.key && live h) hs)))
    go true true e ih = ap (λ b. b || list_any (λ k. same key k) (map (λ h. h.value.key) (filter live hs))) e
    go true false e ih = ap (λ b. b || list_any (λ k. same key k) (map (λ h. h.value.key) (filter live hs))) e ∙ ih
    go false true e ih = ih
    go false false e ih = ih

pub keys-live : (config : Config) (now : ℕ) (held : List HeldValue) (key : List ℕ)
    → list_any (λ k. same key k) (live_keys_at config now held) ≡ is_some (live_at config now held key)
keys-live config now held key =
    any-sorted (λ k. same key k) (map (λ h. h.value.key) (filter (is_live_at config now) held)) ∙ listed-found key (is_live_at config now) held

-- ---- two lists in byte order with the same keys

unequal : (o : Ordering) → o ≡ Less → is_eq o ≡ false
unequal o e = ap is_eq e

differ-before : (a b : List ℕ) → Before a b → same a b ≡ false
differ-before a b h = sym (is_eq-slice_cmp a b) ∙ unequal (slice_cmp nat_cmp a b) h

not_listed : (key : List ℕ) (ks : List (List ℕ)) → Each (Before key) ks → list_any (λ k. same key k) ks ≡ false
not_listed key [] h = refl
not_listed key (k ∷ ks) (b, h) = ap (λ x. x || list_any (λ l. same key l) ks) (differ-before key k b) ∙ not_listed key ks h

-- the first key of one list is the first of the other, since each of them would else be listed in the one alone
heads : (k l : List ℕ) (ks ls : List (List ℕ)) → Each (Before k) ks → Each (Before l) ls
    → ((key : List ℕ) → list_any (λ x. same key x) (k ∷ ks) ≡ list_any (λ x. same key x) (l ∷ ls)) → same k l ≡ true
heads k l ks ls hk hl e = go (slice_cmp nat_cmp k l) refl
  where
    go : (o : Ordering) → slice_cmp nat_cmp k l ≡ o → same k l ≡ true
    go Equal c = sym (is_eq-slice_cmp k l) ∙ ap is_eq c
    go Less c =
        absurd (true≢false (sym (ap (λ x. x || list_any (λ y. same k y) ks) (same-refl k)) ∙ e k
        ∙ ap (λ x. x || list_any (λ y. same k y) ls) (differ-before k l c) ∙ not_listed k ls (behind k l ls c hl)))
    go Greater c =
        let b : Before l k = nat_list_cmp_total.antisymm l k ∙ ap ordering_reverse c in
        absurd (true≢false (sym (ap (λ x. x || list_any (λ y. same l y) ls) (same-refl l)) ∙ sym (e l)
        ∙ ap (λ x. x || list_any (λ y. same l y) ks) (differ-before l k b) ∙ not_listed l ks (behind l k ks b hk)))

tails : (key k l : List ℕ) (ks ls : List (List ℕ)) → same k l ≡ true → Each (Before k) ks → Each (Before l) ls
    → list_any (λ x. same key x) (k ∷ ks) ≡ list_any (λ x. same key x) (l ∷ ls) → list_any (λ x. same key x) ks ≡ list_any (λ x. same key x) ls
tails key k l ks ls s hk hl e =
    elim (cases_Bool (same key k)) [
      | inl t ↦ ap (λ y. list_any (λ x. same y x) ks) (same-true key k t) ∙ not_listed k ks hk ∙ sym (ap (λ y. list_any (λ x. same y x) ls) (same-true key k t ∙ is) ∙ not_listed l ls hl)
      | inr t ↦ sym (ap (λ b. b || list_any (λ x. same key x) ks) t) ∙ e ∙ ap (λ b. b || list_any (λ x. same key x) ls) (ap (same key) (sym is) ∙ t)
    ]
  where
    is : k ≡ l
    is = same-true k l s

rise-same : (ks ls : List (List ℕ)) → Pairs Before ks → Pairs Before ls → ((key : List ℕ) → list_any (λ x. same key x) ks ≡ list_any (λ x. same key x) ls) → ks ≡ ls
rise-same [] [] h g e = refl
rise-same [] (l ∷ ls) h g e = absurd (true≢false (sym (e l ∙ ap (λ b. b || list_any (λ x. same l x) ls) (same-refl l))))
rise-same (k ∷ ks) [] h g e = absurd (true≢false (sym (ap (λ b. b || list_any (λ x. same k x) ks) (same-refl k)) ∙ e k))
rise-same (k ∷ ks) (l ∷ ls) (hk, h) (gl, g) e =
    let s = heads k l ks ls hk gl e in
    ap (λ x. x ∷ ks) (same-true k l s) ∙ ap (λ xs. l ∷ xs) (rise-same ks ls h g (λ key. tails key k l ks ls s hk gl (e key)))

live-rising : (config : Config) (now : ℕ) (held : List HeldValue) → Pairs (λ g h. Differ g.value.key h.value.key) held → Pairs Before (live_keys_at config now held)
live-rising config now held h =
    rising-sorted (map (λ k. k.value.key) (filter (is_live_at config now) held))
    (pairs-map Differ (λ (k : HeldValue). k.value.key) (filter (is_live_at config now) held) (pairs-filter (λ g k. Differ g.value.key k.value.key) (is_live_at config now) held h))

-- where the same keys are live, the same are listed
pub keys-same : (config other : Config) (now : ℕ) (held more : List HeldValue) → Pairs (λ g h. Differ g.value.key h.value.key) held → Pairs (λ g h. Differ g.value.key h.value.key) more
    → ((key : List ℕ) → is_some (live_at config now held key) ≡ is_some (live_at other now more key)) → live_keys_at config now held ≡ live_keys_at other now more
keys-same config other now held more h k e =
    rise-same (live_keys_at config now held) (live_keys_at other now more) (live-rising config now held h) (live-rising other now more k)
    (λ key. keys-live config now held key ∙ e key ∙ sym (keys-live other now more key))
