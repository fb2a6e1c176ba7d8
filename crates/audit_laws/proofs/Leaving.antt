-- A connection that runs a step is in no list of a load under way.
use Rattle.std.proofs.Common.{inr, inl, arith, ◌≡◌, refl, ap, ◌∙◌, sym, subst, ℕ, Bool, true, false, true≢false, not, ◌&&◌, ◌||◌, cond, List, [], ◌∷◌, ◌++◌, map, Option, Some, None, is_some}
use Rattle.std.specs.Prelude.{◌==◌}
use Rattle.std.specs.List.{filter, find, list_any}
use Rattle.std.proofs.lemmas.Simd.{map-map}
use Rattle.std.proofs.lemmas.Bool.{not-true, cases_Bool, cond_both, and_parts, or_parts, or_from, false_from_ne_true}
use Rattle.std.proofs.lemmas.List.Folds.{list_any-append}
use Rattle.audit_laws.proofs.Connections.{last_is}
use Rattle.audit_model.specs.Bytewise.{same}
use Rattle.audit_model.specs.History.{Effect, History, Opened, Closed, Fed, Settled, Stored, Ran}
use Rattle.audit_model.specs.Loads.{Sent, key_loaded, sent_by, loads_sent, is_load_settled, loads_under_way, is_key_of, waits_for, sends_for, joined}
use Rattle.audit_model.specs.Situation.{without_waiting}
use Rattle.audit_model.specs.Stream.{last_effect, is_waiting}
use Rattle.audit_laws.proofs.Told.{each-filter, each-passed, Each, each-append, each-more, each-both, map-same}
use Rattle.audit_laws.proofs.HeldStep.{same-refl}
use Rattle.audit_laws.proofs.Views.{same-true}
use Rattle.audit_laws.proofs.Connections.{facts-ran, facts-own}
use Rattle.audit_laws.proofs.ConnectionSteps.{eqb-turned}
use Rattle.audit_laws.proofs.PendingLoads.{pending_by, settled-filter}
use Rattle.std.proofs.lemmas.Bool.Decides.{nat_tests}
use Rattle.std.proofs.lemmas.Option.{same_Some}

abbrev pub is_in : ℕ → List ℕ → Bool
is_in c cs = list_any (λ d. d == c) cs

abbrev pub NotJoined : History → ℕ → Type 0
NotJoined past c = Each (λ sent. is_in c (joined sent.key past) ≡ false) (loads_under_way past)

-- no two loads of one key
abbrev pub Distinct : List Sent → Type 0
Distinct [] = Unit {0}
Distinct (x ∷ xs) = Each (λ y. same y.key x.key ≡ false) xs × Distinct xs

pub distinct-filter : (p : Sent → Bool) (xs : List Sent) → Distinct xs → Distinct (filter p xs)
distinct-filter p [] h = tt
distinct-filter p (x ∷ xs) (h, k) = cond_both (p x) _ _ Distinct (λ _. (each-filter _ p xs h, distinct-filter p xs k)) (λ _. distinct-filter p xs k)

-- ---- who is in a list

-- an element that is in the list has what each has
pub of_each : (P : ℕ → Type 0) (c : ℕ) (cs : List ℕ) → Each P cs → is_in c cs ≡ true → P c
of_each P c [] h e = absurd (true≢false (sym e))
of_each P c (d ∷ cs) (p, h) e = let next = of_each P c cs h in grind (arith, nat_tests, e, next)

-- ---- the keys that waiting connections load

abbrev loads_key : List ℕ → Option Effect → Bool
loads_key key o = last_is (λ effect. is_key_of key (key_loaded effect.action)) o

keys_then : (key : List ℕ) (effect : Effect) (past : History) (s w : Bool) (c : ℕ) (cs : List ℕ) → (w ≡ true → is_key_of key (key_loaded effect.action) ≡ true) → Each (λ d. loads_key key (last_effect d past) ≡ true) cs
    → Each (λ d. loads_key key (last_effect d (Ran c effect ∷ past)) ≡ true) (cond s [] (filter (λ x. not (x == c)) cs) ++ cond w (c ∷ []) [])
keys_then key effect past s w c cs f h = each-append _ (cond s [] (filter (λ x. not (x == c)) cs)) (cond w (c ∷ []) []) (go s) (last w f)
  where
    last : (w : Bool) → (w ≡ true → is_key_of key (key_loaded effect.action) ≡ true) → Each (λ d. loads_key key (last_effect d (Ran c effect ∷ past)) ≡ true) (cond w (c ∷ []) [])
    last true f = (ap (λ x. loads_key key x.effect) (facts-own c effect past) ∙ f refl, tt)
    last false f = tt

    go : (s : Bool) → Each (λ d. loads_key key (last_effect d (Ran c effect ∷ past)) ≡ true) (cond s [] (filter (λ x. not (x == c)) cs))
    go true = tt
    go false =
        each-more _ _ (filter (λ x. not (x == c)) cs) (λ d p. ap (λ x. loads_key key x.effect) (facts-ran d c effect past (eqb-turned c d ∙ not-true (d == c) p.0)) ∙ p.1)
        (each-both _ _ (filter (λ x. not (x == c)) cs) (each-passed (λ x. not (x == c)) cs) (each-filter _ _ cs h))

pub joined-keys : (key : List ℕ) (past : History) → Each (λ d. loads_key key (last_effect d past) ≡ true) (joined key past)
joined-keys key [] = tt
joined-keys key (Ran c effect ∷ past) = keys_then key effect past (sends_for key effect) (waits_for key effect) c (joined key past) (λ e. (and_parts (is_waiting effect) _ e).1) (joined-keys key past)
joined-keys key (Opened c ∷ past) = each-more _ _ (joined key past) (λ d e. e) (joined-keys key past)
joined-keys key (Closed c ∷ past) = each-more _ _ (joined key past) (λ d e. e) (joined-keys key past)
joined-keys key (Fed c piece moment ∷ past) = each-more _ _ (joined key past) (λ d e. e) (joined-keys key past)
joined-keys key (Settled load moment ∷ past) = each-more _ _ (joined key past) (λ d e. e) (joined-keys key past)
joined-keys key (Stored effect ∷ past) = each-more _ _ (joined key past) (λ d e. e) (joined-keys key past)

loads_one : (k j : List ℕ) (o : Option Effect) → loads_key k o ≡ true → loads_key j o ≡ true → k ≡ j
loads_one k j None e f = absurd (true≢false (sym e))
loads_one k j (Some effect) e f = go (key_loaded effect.action) e f
  where
    go : (o : Option (List ℕ)) → is_key_of k o ≡ true → is_key_of j o ≡ true → k ≡ j
    go None e f = absurd (true≢false (sym e))
    go (Some l) e f = same-true k l e ∙ sym (same-true j l f)

-- who waits for one key waits for no other
elsewhere : (c : ℕ) (past : History) (k j : List ℕ) → is_in c (joined k past) ≡ true → (k ≡ j → ⊥) → is_in c (joined j past) ≡ false
elsewhere c past k j e n =
    false_from_ne_true (is_in c (joined j past)) (λ f. n (loads_one k j (last_effect c past) (of_each _ c (joined k past) (joined-keys k past) e) (of_each _ c (joined j past) (joined-keys j past) f)))

differs : (k j : List ℕ) → same k j ≡ false → k ≡ j → ⊥
differs k j e q = true≢false (sym (ap (λ x. same k x) (sym q) ∙ same-refl k) ∙ e)

each_found : (P : Sent → Type 0) (p : Sent → Bool) (xs : List Sent) (s : Sent) → Each P xs → find p xs ≡ Some s → P s
each_found P p [] s h e = absurd (true≢false (sym (ap is_some e)))
each_found P p (x ∷ xs) s (a, h) e = let next = each_found P p xs s h in grind (arith, nat_tests, e, next)

module _ (c load : ℕ) (past : History) where
  settled_one : (xs : List Sent) (s : Sent) → Distinct xs → find (λ sent. sent.number == load) xs ≡ Some s → is_in c (joined s.key past) ≡ true
      → Each (λ sent. is_in c (joined sent.key past) ≡ false) (filter (λ sent. not (sent.number == load)) xs)
  settled_one [] s d e i = tt
  settled_one (x ∷ xs) s (a, d) e i =
      elim (cases_Bool (x.number == load)) [
        | inl is ↦ rw is (each-filter _ _ xs (each-more _ _ xs (λ y n. elsewhere c past s.key y.key i (λ m. differs y.key x.key n (sym m ∙ sym (ap (λ z. z.key) (same_Some x s (rw is at e)))))) a))
        | inr is ↦ let found = rw is at e in rw is (elsewhere c past s.key x.key i (differs s.key x.key (each_found (λ y. same y.key x.key ≡ false) (λ sent. sent.number == load) xs s a found)), settled_one xs s d found i)
      ]

  -- those who waited for a load that is settled are in no list
  pub away-settled : (moment : ℕ) (s : Sent) → Distinct (loads_under_way past) → find (λ sent. sent.number == load) (loads_under_way past) ≡ Some s → is_in c (joined s.key past) ≡ true → NotJoined (Settled load moment ∷ past) c
  away-settled moment s d e i =
      subst (Each (λ sent. is_in c (joined sent.key past) ≡ false)) (sym (settled-filter load past (loads_sent past))) (settled_one (loads_under_way past) s d e i)

-- ---- a step of another connection

in_filter : (d : ℕ) (p : ℕ → Bool) (cs : List ℕ) → is_in d cs ≡ false → is_in d (filter p cs) ≡ false
in_filter d p [] h = refl
in_filter d p (x ∷ xs) h = let next = in_filter d p xs (or_parts (x == d) (is_in d xs) h).1 in grind (arith, nat_tests, next)

in_last : (c d : ℕ) (w : Bool) → (c == d) ≡ false → is_in d (cond w (c ∷ []) []) ≡ false
in_last c d true e = ap (λ b. b || false) e
in_last c d false e = refl

in_then : (c d : ℕ) (s w : Bool) (cs : List ℕ) → (c == d) ≡ false → (s ≡ false → is_in d cs ≡ false) → is_in d (cond s [] (filter (λ x. not (x == c)) cs) ++ cond w (c ∷ []) []) ≡ false
in_then c d true w cs e f = in_last c d w e
in_then c d false w cs e f =
    list_any-append (λ x. x == d) (filter (λ x. not (x == c)) cs) (cond w (c ∷ []) [])
    ∙ or_from _ _ (in_filter d (λ x. not (x == c)) cs (f refl)) (in_last c d w e)

pub away-ran : (c d : ℕ) (effect : Effect) (past : History) → (c == d) ≡ false → NotJoined past d → NotJoined (Ran c effect ∷ past) d
away-ran c d effect past e h = go (key_loaded effect.action) effect.load refl refl
  where
    old : Each (λ sent. is_in d (joined sent.key (Ran c effect ∷ past)) ≡ false) (loads_under_way past)
    old = each-more _ _ (loads_under_way past) (λ sent n. in_then c d (sends_for sent.key effect) (waits_for sent.key effect) (joined sent.key past) e (λ q. n)) h

    sends : (key : List ℕ) (n : ℕ) → key_loaded effect.action ≡ Some key → effect.load ≡ Some n → sends_for key effect ≡ true
    sends key n k l = ap (λ o. is_some o && is_key_of key (key_loaded effect.action)) l ∙ ap (is_key_of key) k ∙ same-refl key

    go : (ko : Option (List ℕ)) (lo : Option ℕ) → key_loaded effect.action ≡ ko → effect.load ≡ lo
        → Each (λ sent. is_in d (joined sent.key (Ran c effect ∷ past)) ≡ false) (filter (λ sent. not (is_load_settled sent.number past)) (sent_by ko lo ++ loads_sent past))
    go None lo k l = old
    go (Some key) None k l = old
    go (Some key) (Some n) k l =
        cond_both (not (is_load_settled n past)) _ _ (Each (λ sent. is_in d (joined sent.key (Ran c effect ∷ past)) ≡ false))
        (λ _. (in_then c d (sends_for key effect) (waits_for key effect) (joined key past) e (λ q. absurd (true≢false (sym (sends key n k l) ∙ q))), old)) (λ _. old)

-- ---- leaving changes nothing

stays_whole : (c : ℕ) (cs : List ℕ) → is_in c cs ≡ false → filter (λ x. not (x == c)) cs ≡ cs
stays_whole c [] h = refl
stays_whole c (x ∷ xs) h =
    let p = or_parts (x == c) (is_in c xs) h in
    ap (λ b. cond (not b) (x ∷ filter (λ y. not (y == c)) xs) (filter (λ y. not (y == c)) xs)) p.0 ∙ ap (λ ys. x ∷ ys) (stays_whole c xs p.1)

pub leave-none : (c : ℕ) (runs : ℕ → Bool) (past : History) → NotJoined past c
    → map (without_waiting c) (map (pending_by runs (λ key. joined key past)) (loads_under_way past)) ≡ map (pending_by runs (λ key. joined key past)) (loads_under_way past)
leave-none c runs past h =
    map-map (without_waiting c) (pending_by runs (λ key. joined key past)) (loads_under_way past)
    ∙ map-same _ (pending_by runs (λ key. joined key past)) (loads_under_way past)
    (each-more _ _ (loads_under_way past) (λ sent n. ap (λ ws. record { number = sent.number; key = sent.key; waiting = ws }) (stays_whole c (filter runs (joined sent.key past)) (in_filter c runs (joined sent.key past) n))) h)
