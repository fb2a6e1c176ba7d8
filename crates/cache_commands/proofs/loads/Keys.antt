-- What is known of the numbers and the keys of loads, when one is sent and as they change.
use Rattle.std.proofs.Common.{refl, sym, ap, ◌∙◌, arith, ◌≡◌, ℕ, suc, ◌+◌, ◌-◌, ◌≤◌, Bool, true, false, not, ◌==◌, ◌&&◌, ◌||◌, List, [], ◌∷◌, ◌++◌, length, map, nat_le}
use Rattle.std.proofs.lemmas.Bool.{and_from, and_parts, eq-eqb, eqb-true, le-leb, leb-true}
use Rattle.std.proofs.lemmas.Bool.Decides.{nat_tests}
use Rattle.std.proofs.lemmas.List.{length-append}
use Rattle.std.specs.List.{filter, list_all}
use Rattle.audit_model.specs.Bytewise.{same}
use Rattle.audit_model.specs.Situation.{PendingLoad, with_waiting}
use Rattle.audit_model.specs.declared.input.LoadId.{LoadId}
use Rattle.cache_commands.specs.Loads.Keys.{agrees_on, are_in_turn, has_its_key, have_their_keys, were_sent}
use Rattle.std.proofs.lemmas.List.Folds.{list_all-append}
use Rattle.cache_commands.proofs.SameKeys.{same-refl}

-- ---- lists

-- what is so of all is so of some
pub all-filter : {X : Type 0} (p q : X → Bool) (xs : List X) → list_all q xs ≡ true → list_all q (filter p xs) ≡ true
all-filter p q [] e = refl
all-filter p q (x ∷ xs) e = let parts = and_parts (q x) (list_all q xs) e in let rest = all-filter p q xs parts.1 in grind (arith, parts, rest)

-- what follows of each
pub all-on : {X : Type 0} (p q : X → Bool) → ((x : X) → p x ≡ true → q x ≡ true) → (xs : List X) → list_all p xs ≡ true → list_all q xs ≡ true
all-on p q on [] e = refl
all-on p q on (x ∷ xs) e = let parts = and_parts (p x) (list_all p xs) e in and_from (q x) (list_all q xs) (on x parts.0) (all-on p q on xs parts.1)

-- what follows of each by two facts
all-both : {X : Type 0} (p q r : X → Bool) → ((x : X) → p x ≡ true → q x ≡ true → r x ≡ true) → (xs : List X) → list_all p xs ≡ true → list_all q xs ≡ true → list_all r xs ≡ true
all-both p q r on [] e f = refl
all-both p q r on (x ∷ xs) e f =
    let ps = and_parts (p x) (list_all p xs) e in
    let qs = and_parts (q x) (list_all q xs) f in
    and_from (r x) (list_all r xs) (on x ps.0 qs.0) (all-both p q r on xs ps.1 qs.1)

pub all-mapped : {X : Type 0} (p : X → Bool) (f : X → X) → ((x : X) → p (f x) ≡ p x) → (xs : List X) → list_all p (map f xs) ≡ list_all p xs
all-mapped p f same_of [] = refl
all-mapped p f same_of (x ∷ xs) = ap (λ b. b && list_all p (map f xs)) (same_of x) ∙ ap (λ b. p x && b) (all-mapped p f same_of xs)

-- ---- numbers

-- a number that is higher is another one
other-number : (n m b : ℕ) → n ≡ suc b → m ≤ b → (n == m) ≡ false
other-number n m b is few = grind (arith, nat_tests)

-- one more behind them
pub in-turn-more : (ns before n : ℕ) (outs : List (LoadId × List ℕ)) (id : LoadId) (key : List ℕ) → are_in_turn ns before outs ≡ true → n ≡ before + length outs → id.namespace ≡ ns → id.number ≡ suc n
    → are_in_turn ns before (outs ++ (id, key) ∷ []) ≡ true
in-turn-more ns before n [] id key e at is number =
    and_from (id.namespace == ns) ((id.number == suc before) && true) (eq-eqb id.namespace ns is) (and_from (id.number == suc before) true (eq-eqb id.number (suc before) (omega arith)) refl)
in-turn-more ns before n (out ∷ outs) id key e at is number =
    let parts = and_parts (out.0.namespace == ns) ((out.0.number == suc before) && are_in_turn ns (suc before) outs) e in
    let rest = and_parts (out.0.number == suc before) (are_in_turn ns (suc before) outs) parts.1 in
    let next = in-turn-more ns (suc before) n outs id key rest.1 (omega arith) is number in
    and_from (out.0.namespace == ns) ((out.0.number == suc before) && are_in_turn ns (suc before) (outs ++ (id, key) ∷ [])) (parts.0) (and_from (out.0.number == suc before) (are_in_turn ns (suc before) (outs ++ (id, key) ∷ [])) (rest.0) (next))

-- none of them is above the last one
pub in-turn-below : (ns before b : ℕ) (outs : List (LoadId × List ℕ)) → are_in_turn ns before outs ≡ true → before + length outs ≤ b → list_all (λ (out : LoadId × List ℕ). nat_le out.0.number b) outs ≡ true
in-turn-below ns before b [] e few = refl
in-turn-below ns before b (out ∷ outs) e few =
    let parts = and_parts (out.0.namespace == ns) ((out.0.number == suc before) && are_in_turn ns (suc before) outs) e in
    let rest = and_parts (out.0.number == suc before) (are_in_turn ns (suc before) outs) parts.1 in
    let is = eqb-true out.0.number (suc before) rest.0 in
    and_from (nat_le out.0.number b) (list_all (λ (o : LoadId × List ℕ). nat_le o.0.number b) outs) (le-leb out.0.number b (omega arith)) (in-turn-below ns (suc before) b outs rest.1 (omega arith))

-- ---- one more load

-- another load agrees
agrees-other : (out : LoadId × List ℕ) (load : PendingLoad) → (load.number == out.0.number) ≡ false → agrees_on out load ≡ true
agrees-other out load e = ap (λ b. not b || same load.key out.1) e

-- what went out before, and the load that is sent
keys-before : (b : ℕ) (load : PendingLoad) (loads : List PendingLoad) (outs : List (LoadId × List ℕ)) → load.number ≡ suc b → list_all (λ (out : LoadId × List ℕ). nat_le out.0.number b) outs ≡ true → have_their_keys loads outs ≡ true
    → have_their_keys (load ∷ loads) outs ≡ true
keys-before b load loads outs is below keyed =
    all-both (λ (out : LoadId × List ℕ). nat_le out.0.number b) (has_its_key loads) (has_its_key (load ∷ loads))
    (λ out few has. let h = leb-true out.0.number b few in and_from (agrees_on out load) (has_its_key loads out) (agrees-other out load (other-number load.number out.0.number b is h)) (has))
    outs below keyed

-- what goes out, and the loads that were sent before
keys-behind : (b : ℕ) (out : LoadId × List ℕ) (loads : List PendingLoad) → out.0.number ≡ suc b → were_sent b loads ≡ true → has_its_key loads out ≡ true
keys-behind b out loads is all =
    all-on (λ (l : PendingLoad). nat_le l.number b) (agrees_on out) (λ l few. let h = leb-true l.number b few in agrees-other out l (lower l.number out.0.number is h)) loads all
  where
    lower : (n m : ℕ) → m ≡ suc b → n ≤ b → (n == m) ≡ false
    lower n m e le = grind (arith, nat_tests)

pub keys-more : (ns before b : ℕ) (load : PendingLoad) (loads : List PendingLoad) (outs : List (LoadId × List ℕ)) (out : LoadId × List ℕ) → are_in_turn ns before outs ≡ true → before + length outs ≤ b → were_sent b loads ≡ true
    → load.number ≡ suc b → out.0.number ≡ suc b → same load.key out.1 ≡ true → have_their_keys loads outs ≡ true → have_their_keys (load ∷ loads) (outs ++ out ∷ []) ≡ true
keys-more ns before b load loads outs out turn few all is number keyed have =
    list_all-append (has_its_key (load ∷ loads)) outs (out ∷ [])
    ∙ and_from (have_their_keys (load ∷ loads) outs) (has_its_key (load ∷ loads) out && true) (keys-before b load loads outs is (in-turn-below ns before b outs turn few) have)
    (and_from (has_its_key (load ∷ loads) out) true (and_from (agrees_on out load) (has_its_key loads out) own (keys-behind b out loads number all)) refl)
  where
    own : agrees_on out load ≡ true
    own = grind (arith, keyed)

-- ---- loads that change, but for their numbers and keys

pub keys-mapped : (f : PendingLoad → PendingLoad) → ((l : PendingLoad) → (f l).number ≡ l.number) → ((l : PendingLoad) → (f l).key ≡ l.key) → (loads : List PendingLoad) (outs : List (LoadId × List ℕ))
    → have_their_keys loads outs ≡ true → have_their_keys (map f loads) outs ≡ true
keys-mapped f numbers keys loads outs have =
    all-on (has_its_key loads) (has_its_key (map f loads))
    (λ out has. all-mapped (agrees_on out) f (λ l. ap (λ n. not (n == out.0.number) || same (f l).key out.1) (numbers l) ∙ ap (λ k. not (l.number == out.0.number) || same k out.1) (keys l)) loads ∙ has) outs have

-- ---- a load that is taken out

pub keys-filtered : (p : PendingLoad → Bool) (loads : List PendingLoad) (outs : List (LoadId × List ℕ)) → have_their_keys loads outs ≡ true → have_their_keys (filter p loads) outs ≡ true
keys-filtered p loads outs have = all-on (has_its_key loads) (has_its_key (filter p loads)) (λ out has. all-filter p (agrees_on out) loads has) outs have

-- ---- a connection that waits for a load under way

waiting-number : (conn : ℕ) (key : List ℕ) (l : PendingLoad) → (with_waiting conn key l).number ≡ l.number
waiting-number conn key l = grind arith

waiting-key : (conn : ℕ) (key : List ℕ) (l : PendingLoad) → (with_waiting conn key l).key ≡ l.key
waiting-key conn key l = grind arith

pub joined-keys : (conn : ℕ) (key : List ℕ) (loads : List PendingLoad) (outs : List (LoadId × List ℕ)) → have_their_keys loads outs ≡ true → have_their_keys (map (with_waiting conn key) loads) outs ≡ true
joined-keys conn key = keys-mapped (with_waiting conn key) (waiting-number conn key) (waiting-key conn key)

-- ---- a load that is sent

pub send-turn : (ns sent n : ℕ) (outs last : List (LoadId × List ℕ)) (id : LoadId) (key : List ℕ) → n ≡ suc sent → last ≡ outs ++ (id, key) ∷ [] → id.namespace ≡ ns → id.number ≡ n → length outs ≤ sent → are_in_turn ns (sent - length outs) outs ≡ true
    → are_in_turn ns (n - length last) last ≡ true
send-turn ns sent n outs last id key e put is number few turn =
    let count = length-append outs ((id, key) ∷ []) in
    let left : n - length (outs ++ (id, key) ∷ []) ≡ sent - length outs = omega arith in
    ap (λ xs. are_in_turn ns (n - length xs) xs) put ∙ ap (λ k. are_in_turn ns k (outs ++ (id, key) ∷ [])) left
    ∙ in-turn-more ns (sent - length outs) sent outs id key turn (omega arith) is (number ∙ e)

pub send-keyed : (ns sent : ℕ) (load : PendingLoad) (old new : List PendingLoad) (outs last : List (LoadId × List ℕ)) (id : LoadId) (key : List ℕ) → new ≡ load ∷ old → last ≡ outs ++ (id, key) ∷ []
    → length outs ≤ sent → are_in_turn ns (sent - length outs) outs ≡ true → were_sent sent old ≡ true → load.number ≡ suc sent → id.number ≡ suc sent → load.key ≡ key → have_their_keys old outs ≡ true
    → have_their_keys new last ≡ true
send-keyed ns sent load old new outs last id key is put few turn all number out keyed have =
    ap (λ ps. have_their_keys ps last) is ∙ ap (λ xs. have_their_keys (load ∷ old) xs) put
    ∙ keys-more ns (sent - length outs) sent load old outs (id, key) turn (omega arith) all number out (ap (λ k. same load.key k) (sym keyed) ∙ same-refl load.key) have
