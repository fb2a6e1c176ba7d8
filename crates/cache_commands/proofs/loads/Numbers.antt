-- Loads by number: what a look-up finds there, and what a change leaves.
use Rattle.std.proofs.Common.{cond, Result, Err, OnOk, OnErr, Bor, refl, sym, ap, ◌∙◌, arith, ◌<◌, true≢false, suc, ◌≤◌, nat_le, is_some, All}
use Rattle.std.proofs.lemmas.Bool.{and_from, and_parts, eq-eqb, eqb-true}
use Rattle.std.proofs.lemmas.Bool.Decides.{nat_tests}
use Rattle.std.proofs.lemmas.Option.{none-some}
use Rattle.std.specs.BTreeMap.{insert_entry}
use Rattle.std.specs.List.{filter, AllByRecursion}
use Rattle.std.specs.Map.{lookup, remove_entry, set_value}
use Rattle.std.specs.Option.{option_map, option_copied}
use Rattle.std.specs.Ordering.{nat_cmp, is_eq, match_ordering}
use Rattle.std.specs.Prelude.{◌≡◌, ℕ, Bool, true, false, not, ◌==◌, ◌&&◌, List, [], ◌∷◌, ◌++◌, map, Option, Some, None, Ok, if◌then◌else◌, nat_lt, ⊤}
use Rattle.std.specs.declared.cmp.Ordering.{Ordering}
use Rattle.std.specs.declared.cmp.Ordering.TheVariants.{Less, Equal, Greater}
use Rattle.std.specs.declared.cmp.Reverse.{Reverse}
use Rattle.audit_model.specs.Bytewise.{same}
use Rattle.audit_model.specs.Situation.{PendingLoad}
use Rattle.audit_model.proofs.Waiting.{at-number, below, keyed-of, of-none, of-number}
use Rattle.audit_model.specs.Numbered.{changed_numbered}
use Rattle.audit_model.specs.Underway.{Keys, Joined, IsKeyed, KeepsNumbers, has_number, number_at}
use Rattle.cache_commands.proofs.loads.Keys.{all-filter, all-mapped, all-on}
use Rattle.cache_commands.specs.Loads.Keys.{pending_load, were_sent}
use Rattle.cache_commands.specs.Loads.Numbers.{NumberedLoads, are_below, are_falling, have_own_numbers, load_numbered, loads_of, AreUnderWay, load_with_key}
use Rattle.cache_commands.specs.declared.loads.load.Load.{Load}

-- ---- lists of loads that fall

abbrev pub number_of : PendingLoad → ℕ
number_of load = load.number

-- a lower number is another one
lower-other : (a n : ℕ) → nat_lt a n ≡ true → (a == n) ≡ false
lower-other a n h = grind (arith, nat_tests)

-- none has a number that they are below
pub others-kept : (n : ℕ) (ps : List PendingLoad) → are_below n ps ≡ true → filter (λ p. not (p.number == n)) ps ≡ ps
others-kept n [] below = refl
others-kept n (p ∷ ps) below =
    let parts = and_parts (nat_lt p.number n) (are_below n ps) below in
    ap (λ b. cond (not b) (p ∷ filter (λ q. not (q.number == n)) ps) (filter (λ q. not (q.number == n)) ps)) (lower-other p.number n parts.0)
    ∙ ap (λ qs. p ∷ qs) (others-kept n ps parts.1)

pub others-same : (n : ℕ) (f : PendingLoad → PendingLoad) (ps : List PendingLoad) → are_below n ps ≡ true → map (changed_numbered number_of n f) ps ≡ ps
others-same n f [] below = refl
others-same n f (p ∷ ps) below =
    let parts = and_parts (nat_lt p.number n) (are_below n ps) below in
    ap (λ b. (if b then f p else p) ∷ map (changed_numbered number_of n f) ps) (lower-other p.number n parts.0)
    ∙ ap (λ qs. p ∷ qs) (others-same n f ps parts.1)

pub falling-filtered : (p : PendingLoad → Bool) (ps : List PendingLoad) → are_falling ps ≡ true → are_falling (filter p ps) ≡ true
falling-filtered p [] falls = refl
falling-filtered p (x ∷ xs) falls =
    let parts = and_parts (are_below x.number xs) (are_falling xs) falls in
    let below = all-filter p (λ (l : PendingLoad). nat_lt l.number x.number) xs parts.0 in
    let rest = falling-filtered p xs parts.1 in
    grind (arith, below, rest)

pub falling-mapped : (f : PendingLoad → PendingLoad) → ((p : PendingLoad) → (f p).number ≡ p.number) → (ps : List PendingLoad) → are_falling (map f ps) ≡ are_falling ps
falling-mapped f numbers [] = refl
falling-mapped f numbers (p ∷ ps) =
    ap (λ n. are_below n (map f ps) && are_falling (map f ps)) (numbers p)
    ∙ ap (λ b. b && are_falling (map f ps)) (all-mapped (λ (l : PendingLoad). nat_lt l.number p.number) f (λ l. ap (λ n. nat_lt n p.number) (numbers l)) ps)
    ∙ ap (λ b. are_below p.number ps && b) (falling-mapped f numbers ps)

-- ---- loads at their numbers

abbrev at : ℕ → Reverse ℕ → Bool
at n k = is_eq (nat_cmp k.0 n)

abbrev order : Reverse ℕ → Reverse ℕ → Ordering
order a b = nat_cmp b.0 a.0

hit : (n : ℕ) (e : Reverse ℕ × Load) → (e.0.0 == e.1.number) ≡ true → at n e.0 ≡ (e.1.number == n)
hit n e own = at-number e.0.0 n ∙ ap (λ m. m == n) (eqb-true e.0.0 e.1.number own)

-- what a look-up lends
pub shown : (r : Option (Bor Load)) → option_map (λ load. pending_load load.now) r ≡ option_map pending_load (option_copied r)
shown None = refl
shown (Some x) = refl

pub found-at : (n : ℕ) (es : NumberedLoads) → have_own_numbers es ≡ true → option_map pending_load (lookup (at n) es) ≡ load_numbered n (loads_of es)
found-at n [] own = refl
found-at n (e ∷ es) own =
    let parts = and_parts (e.0.0 == e.1.number) (have_own_numbers es) own in
    ap (λ b. option_map pending_load (cond b (Some e.1) (lookup (at n) es))) (hit n e parts.0) ∙ (let next = found-at n es parts.1 in grind (arith, next))

-- a load taken out
pub removed-is : (n : ℕ) (es : NumberedLoads) → have_own_numbers es ≡ true → are_falling (loads_of es) ≡ true → loads_of (remove_entry (at n) es) ≡ filter (λ p. not (p.number == n)) (loads_of es)
removed-is n [] own falls = refl
removed-is n (e ∷ es) own falls =
    let parts = and_parts (e.0.0 == e.1.number) (have_own_numbers es) own in
    let falling = and_parts (are_below e.1.number (loads_of es)) (are_falling (loads_of es)) falls in
    let here = hit n e parts.0 in
    let next = removed-is n es parts.1 falling.1 in
    let kept = others-kept e.1.number (loads_of es) falling.0 in
    grind (arith, nat_tests, here, next, kept)

removed-own : (n : ℕ) (es : NumberedLoads) → have_own_numbers es ≡ true → have_own_numbers (remove_entry (at n) es) ≡ true
removed-own n [] own = refl
removed-own n (e ∷ es) own =
    let parts = and_parts (e.0.0 == e.1.number) (have_own_numbers es) own in
    let next = removed-own n es parts.1 in
    grind (arith, parts, next)

pub removed-kept : (n : ℕ) (es new : NumberedLoads) → new ≡ remove_entry (at n) es → have_own_numbers es ≡ true → are_falling (loads_of es) ≡ true → (have_own_numbers new ≡ true) × ((are_falling (loads_of new) ≡ true) × ⊤)
removed-kept n es new is own falls =
    let here : have_own_numbers new ≡ true = ap have_own_numbers is ∙ removed-own n es own in
    let left : are_falling (loads_of new) ≡ true = ap (λ ds. are_falling (loads_of ds)) is ∙ ap are_falling (removed-is n es own falls) ∙ falling-filtered (λ p. not (p.number == n)) (loads_of es) falls in
    (here, (left, tt))

-- a load changed
pub changed-is : (n : ℕ) (f : PendingLoad → PendingLoad) (es : NumberedLoads) (was is : Load) → have_own_numbers es ≡ true → are_falling (loads_of es) ≡ true → lookup (at n) es ≡ Some was → pending_load is ≡ f (pending_load was)
    → loads_of (set_value (at n) es is) ≡ map (changed_numbered number_of n f) (loads_of es)
changed-is n f [] was is own falls found does = absurd (none-some was found)
changed-is n f (e ∷ es) was is own falls found does =
    let parts = and_parts (e.0.0 == e.1.number) (have_own_numbers es) own in
    let falling = and_parts (are_below e.1.number (loads_of es)) (are_falling (loads_of es)) falls in
    let here = hit n e parts.0 in
    let next = λ (h : lookup (at n) es ≡ Some was). changed-is n f es was is parts.1 falling.1 h does in
    let kept = others-same e.1.number f (loads_of es) falling.0 in
    grind (arith, nat_tests, here, next, kept)

-- there is none to change
pub unchanged-is : (n : ℕ) (f : PendingLoad → PendingLoad) (es : NumberedLoads) → have_own_numbers es ≡ true → lookup (at n) es ≡ None → map (changed_numbered number_of n f) (loads_of es) ≡ loads_of es
unchanged-is n f [] own none = refl
unchanged-is n f (e ∷ es) own none =
    let parts = and_parts (e.0.0 == e.1.number) (have_own_numbers es) own in
    let here = hit n e parts.0 in
    let next = unchanged-is n f es parts.1 in
    grind (arith, here, next)

changed-own : (n : ℕ) (es : NumberedLoads) (was is : Load) → have_own_numbers es ≡ true → lookup (at n) es ≡ Some was → is.number ≡ was.number → have_own_numbers (set_value (at n) es is) ≡ true
changed-own n [] was is own found same = refl
changed-own n (e ∷ es) was is own found same =
    let parts = and_parts (e.0.0 == e.1.number) (have_own_numbers es) own in
    let next = λ (h : lookup (at n) es ≡ Some was). changed-own n es was is parts.1 h same in
    grind (arith, parts, next)

pub changed-number : (n : ℕ) (f : PendingLoad → PendingLoad) → ((p : PendingLoad) → (f p).number ≡ p.number) → (p : PendingLoad) → (changed_numbered number_of n f p).number ≡ p.number
changed-number n f keeps p = let h = keeps p in grind (arith, h)

pub changed-kept : (n : ℕ) (f : PendingLoad → PendingLoad) → ((p : PendingLoad) → (f p).number ≡ p.number) → (es new : NumberedLoads) (was is : Load) → have_own_numbers es ≡ true → are_falling (loads_of es) ≡ true → lookup (at n) es ≡ Some was
    → new ≡ set_value (at n) es is → pending_load is ≡ f (pending_load was) → (have_own_numbers new ≡ true) × ((are_falling (loads_of new) ≡ true) × ⊤)
changed-kept n f keeps es new was is own falls found set does =
    let here : have_own_numbers new ≡ true = ap have_own_numbers set ∙ changed-own n es was is own found (ap number_of does ∙ keeps (pending_load was)) in
    let left : are_falling (loads_of new) ≡ true =
    ap (λ ds. are_falling (loads_of ds)) set ∙ ap are_falling (changed-is n f es was is own falls found does) ∙ falling-mapped (changed_numbered number_of n f) (changed-number n f keeps) (loads_of es) ∙ falls
    in
    (here, (left, tt))

-- a load as it was
pub same-is : (n : ℕ) (es : NumberedLoads) (was is : Load) → lookup (at n) es ≡ Some was → pending_load is ≡ pending_load was → loads_of (set_value (at n) es is) ≡ loads_of es
same-is n [] was is found same = refl
same-is n (e ∷ es) was is found same = let next = λ (h : lookup (at n) es ≡ Some was). same-is n es was is h same in grind (arith, next)

-- a load for which one more waits, or as it was
abbrev pub with_one : ℕ → PendingLoad → PendingLoad
with_one conn p = record p { waiting = p.waiting ++ conn ∷ [] }

pub joined-kept : {A E : Type 0} (r : Result A E) (n conn : ℕ) (es new : NumberedLoads) (was is : Load) → have_own_numbers es ≡ true → are_falling (loads_of es) ≡ true → lookup (at n) es ≡ Some was → new ≡ set_value (at n) es is
    → OnOk r (pending_load is ≡ with_one conn (pending_load was)) → OnErr r (pending_load is ≡ pending_load was) → (have_own_numbers new ≡ true) × ((are_falling (loads_of new) ≡ true) × ⊤)
joined-kept (Ok x) n conn es new was is own falls found set ok err = changed-kept n (with_one conn) (λ p. refl) es new was is own falls found set ok
joined-kept (Err e) n conn es new was is own falls found set ok err = changed-kept n (λ p. p) (λ p. refl) es new was is own falls found set err

-- ---- a load added

newest-first : (n m : ℕ) (load : Load) (e : Reverse ℕ × Load) (es : NumberedLoads) → m ≡ e.0.0 → nat_lt m n ≡ true → insert_entry order (e ∷ es) (record { 0 = n }) load ≡ (record { 0 = n }, load) ∷ e ∷ es
newest-first n m load e es is lower = ap (λ o. match_ordering o ((record { 0 = n }, load) ∷ e ∷ es) ((e.0, load) ∷ es) (e ∷ insert_entry order es (record { 0 = n }) load)) less
  where
    less : nat_cmp e.0.0 n ≡ Less
    less = ap (λ b. cond b Less (cond (e.0.0 == n) Equal Greater)) (ap (λ k. nat_lt k n) (sym is) ∙ lower)

pub put-first : (load : Load) (es : NumberedLoads) → have_own_numbers es ≡ true → are_below load.number (loads_of es) ≡ true → insert_entry order es (record { 0 = load.number }) load ≡ (record { 0 = load.number }, load) ∷ es
put-first load [] own below = refl
put-first load (e ∷ es) own below =
    let parts = and_parts (e.0.0 == e.1.number) (have_own_numbers es) own in
    let lower = and_parts (nat_lt e.1.number load.number) (are_below load.number (loads_of es)) below in
    newest-first load.number e.1.number load e es (sym (eqb-true e.0.0 e.1.number parts.0)) lower.0

pub added-kept : {A E : Type 0} (r : Result A E) (load : Load) (es new : NumberedLoads) → have_own_numbers es ≡ true → are_falling (loads_of es) ≡ true → are_below load.number (loads_of es) ≡ true
    → OnOk r (new ≡ insert_entry order es (record { 0 = load.number }) load) → OnErr r (new ≡ es) → (have_own_numbers new ≡ true) × ((are_falling (loads_of new) ≡ true) × ⊤)
added-kept (Ok x) load es new own falls below ok err =
    let is = ok ∙ put-first load es own below in
    let here : have_own_numbers new ≡ true = ap have_own_numbers is ∙ and_from (load.number == load.number) (have_own_numbers es) (eq-eqb load.number load.number refl) own in
    let left : are_falling (loads_of new) ≡ true = ap (λ ds. are_falling (loads_of ds)) is ∙ and_from (are_below load.number (loads_of es)) (are_falling (loads_of es)) below falls in
    (here, (left, tt))
added-kept (Err e) load es new own falls below ok err =
    let here : have_own_numbers new ≡ true = ap have_own_numbers err ∙ own in
    let left : are_falling (loads_of new) ≡ true = ap (λ ds. are_falling (loads_of ds)) err ∙ falls in
    (here, (left, tt))

-- Loads found by key and by connection: what a look-up finds, and that each number found stays one of a load under way.

-- a load that is found has the number
pub found-number : (n : ℕ) (ps : List PendingLoad) (p : PendingLoad) → load_numbered n ps ≡ Some p → p.number ≡ n
found-number n [] p e = let no : None ≡ Some p = e in cc
found-number n (q ∷ qs) p e = let next = found-number n qs p in grind (arith, nat_tests, next)

-- ---- the key's load

pub numbered : (keys : Keys) (key : List ℕ) (loads : List PendingLoad) → All (IsKeyed keys) loads → AreUnderWay keys loads → number_at key keys ≡ load_with_key key loads
numbered keys key loads keyed live = go (number_at key keys) refl
  where
    stands : (n : ℕ) → number_at key keys ≡ Some n → (o : Option PendingLoad) → load_numbered n loads ≡ o → is_some o ≡ true → Some n ≡ load_with_key key loads
    stands n e None h there = absurd (true≢false (sym there))
    stands n e (Some p) h there = ap Some (sym (found-number n loads p h)) ∙ ap (option_map number_of) (sym h ∙ of-number keys key n loads keyed e)

    go : (o : Option ℕ) → number_at key keys ≡ o → o ≡ load_with_key key loads
    go None e = ap (option_map number_of) (of-none keys key loads keyed e)
    go (Some n) e = stands n e (load_numbered n loads) refl (live key n e)

-- ---- loads that change, but for their numbers

numbered-mapped : (f : PendingLoad → PendingLoad) → ((p : PendingLoad) → (f p).number ≡ p.number) → (n : ℕ) (ps : List PendingLoad) → is_some (load_numbered n (map f ps)) ≡ is_some (load_numbered n ps)
numbered-mapped f numbers n [] = refl
numbered-mapped f numbers n (p ∷ ps) =
    ap (λ m. is_some (cond (m == n) (Some (f p)) (load_numbered n (map f ps)))) (numbers p) ∙ (let next = numbered-mapped f numbers n ps in grind (arith, next))

pub live-mapped : (f : PendingLoad → PendingLoad) → ((p : PendingLoad) → (f p).number ≡ p.number) → (keys : Keys) (loads new : List PendingLoad) → new ≡ map f loads → AreUnderWay keys loads → AreUnderWay keys new
live-mapped f numbers keys loads new is live key n e = ap (λ ps. is_some (load_numbered n ps)) is ∙ numbered-mapped f numbers n loads ∙ live key n e

-- ---- a load that is sent

below-all : (last : ℕ) (keys : Keys) (n : ℕ) → last < n → ((key : List ℕ) (m : ℕ) → number_at key keys ≡ Some m → m ≤ last) → (loads : List PendingLoad) → AllByRecursion (IsKeyed keys) loads → are_below n loads ≡ true
below-all last keys n higher past [] keyed = refl
below-all last keys n higher past (p ∷ ps) keyed =
    and_from (nat_lt p.number n) (are_below n ps) (lower p.number (below last keys past p keyed.0)) (below-all last keys n higher past ps keyed.1)
  where
    lower : (m : ℕ) → m ≤ last → nat_lt m n ≡ true
    lower m le = grind (arith, nat_tests)

-- each was sent before
pub newest : (last : ℕ) (keys : Keys) (joined : Joined) (loads : List PendingLoad) (n : ℕ) → last < n → KeepsNumbers last keys joined loads → are_below n loads ≡ true
newest last keys joined loads n higher keeps = below-all last keys n higher keeps.past loads (keyed-of keeps)

pub were-sent : {last : ℕ} {keys : Keys} {joined : Joined} {loads : List PendingLoad} → KeepsNumbers last keys joined loads → were_sent last loads ≡ true
were-sent {last} {keys} {joined} {loads} keeps =
    all-on (λ (p : PendingLoad). nat_lt p.number (suc last)) (λ (p : PendingLoad). nat_le p.number last) (λ p lower. at-most p.number lower) loads (newest last keys joined loads (suc last) (omega arith) keeps)
  where
    at-most : (m : ℕ) → nat_lt m (suc last) ≡ true → nat_le m last ≡ true
    at-most m lower = grind (arith, nat_tests)

pub live-sent : (keys after : Keys) (key : List ℕ) (load : PendingLoad) (loads new : List PendingLoad) → new ≡ load ∷ loads → ((q : List ℕ) → number_at q after ≡ cond (same key q) (Some load.number) (number_at q keys))
    → AreUnderWay keys loads → AreUnderWay after new
live-sent keys after key load loads new is puts live q n e = ap (λ ps. is_some (load_numbered n ps)) is
    ∙ (let next = live q n in let put = puts q in grind (arith, nat_tests, next, put))

-- ---- a load that is taken out

others-numbered : (n m : ℕ) (ps : List PendingLoad) → (n == m) ≡ false → load_numbered n (filter (λ p. not (p.number == m)) ps) ≡ load_numbered n ps
others-numbered n m [] e = refl
others-numbered n m (p ∷ ps) e = let next = others-numbered n m ps e in grind (arith, nat_tests, next)

all-numbered : (keys : Keys) (n : ℕ) (ps : List PendingLoad) (p : PendingLoad) → AllByRecursion (IsKeyed keys) ps → load_numbered n ps ≡ Some p → IsKeyed keys p
all-numbered keys n [] p keyed e = absurd (none-some p e)
all-numbered keys n (q ∷ qs) p keyed e = let next = all-numbered keys n qs p keyed.1 in grind (arith, keyed, next)

pub live-removed : (keys after : Keys) (joined : Joined) (last m : ℕ) (load : PendingLoad) (loads new : List PendingLoad) → new ≡ filter (λ p. not (p.number == m)) loads → load_numbered m loads ≡ Some load
    → ((q : List ℕ) → number_at q after ≡ cond (same load.key q) None (number_at q keys)) → KeepsNumbers last keys joined loads → AreUnderWay keys loads → AreUnderWay after new
live-removed keys after joined last m load loads new is found less keeps live q n e = ap (λ ps. is_some (load_numbered n ps)) is
    ∙ (let there = live q n in let left = less q in let own = found-number m loads load found in let others = others-numbered n m loads in grind (arith, nat_tests, keyed, there, left, own, others))
  where
    keyed : has_number (number_at q keys) load ≡ same load.key q
    keyed = sym (all-numbered keys m loads load (keyed-of keeps) found q)

none-left : (m : ℕ) (ps : List PendingLoad) → load_numbered m ps ≡ None → filter (λ p. not (p.number == m)) ps ≡ ps
none-left m [] e = refl
none-left m (p ∷ ps) e = let next = none-left m ps in grind (arith, next)

-- there was none
pub live-none : (keys : Keys) (m : ℕ) (loads new : List PendingLoad) (o : Option Load) → option_map pending_load o ≡ load_numbered m loads → o ≡ None → new ≡ filter (λ p. not (p.number == m)) loads → AreUnderWay keys loads → AreUnderWay keys new
live-none keys m loads new o found none is live q n e =
    ap (λ ps. is_some (load_numbered n ps)) (is ∙ none-left m loads (sym found ∙ ap (option_map pending_load) none)) ∙ live q n e
