-- The connections of a namespace, as the definitions list them.
use Rattle.std.proofs.Common.{refl, sym, ap, ◌∙◌, arith, get_or, ◌≡◌, ℕ, zero, suc, ◌+◌, ◌<◌, Bool, true, false, ◌==◌, List, [], ◌∷◌, ◌++◌, length, map, Option, Some, None, if◌then◌else◌, is_none, slice_set}
use Rattle.std.proofs.lemmas.Bool.{eq-eqb}
use Rattle.std.proofs.lemmas.Bool.Decides.{nat_tests}
use Rattle.std.specs.List.{find}
use Rattle.audit_model.specs.Situation.{without_number}
use Rattle.cache_core.specs.Connection.Shown.{shown_connection}
use Rattle.cache_core.specs.Connections.Presence.{Gone, Here, Out, Presence, open_from}
use Rattle.audit_model.specs.Situation as model
use Rattle.cache_core.specs.declared.connection.connection.Connection.{Connection}

-- numbers that differ
pub apart : (a b : ℕ) → a < b → (a == b) ≡ false
apart a b lt = grind (arith, nat_tests)

pub apart_back : (a b : ℕ) → b < a → (a == b) ≡ false
apart_back a b lt = grind (arith, nat_tests)

-- what is listed of one connection
abbrev pub listed_as : Bool → model.Connection → Option model.Connection
listed_as listed c = if listed then Some c else None

-- and of one that was opened
abbrev pub listed_of : ℕ → Presence → Option model.Connection
listed_of m (Here c) = listed_as (is_none c.closing) (shown_connection m c)
listed_of m Out = None
listed_of m (Gone why) = None

-- one of another number is passed over
pub passed-over : (m n : ℕ) (p : Presence) (ps : List Presence) → (n == m) ≡ false → find (λ k. k.number == m) (open_from n (p ∷ ps)) ≡ find (λ k. k.number == m) (open_from (suc n) ps)
passed-over m n (Here c) ps other = grind arith
passed-over m n Out ps other = refl
passed-over m n (Gone why) ps other = refl

-- none of the connections from n on has a number below
pub none-below : (m n : ℕ) (cs : List Presence) → m < n → find (λ k. k.number == m) (open_from n cs) ≡ None
none-below m n [] lt = refl
none-below m n (c ∷ cs) lt = passed-over m n c cs (apart_back n m lt) ∙ none-below m (suc n) cs (omega arith)

swap-above : (m n : ℕ) (new : model.Connection) (cs : List Presence) → m < n → map (λ (k : model.Connection). if k.number == m then new else k) (open_from n cs) ≡ open_from n cs
swap-above m n new [] lt = refl
swap-above m n new (Here c ∷ cs) lt = let next = swap-above m (suc n) new cs (omega arith) in let other = apart_back n m lt in grind (arith, next, other)
swap-above m n new (Out ∷ cs) lt = swap-above m (suc n) new cs (omega arith)
swap-above m n new (Gone why ∷ cs) lt = swap-above m (suc n) new cs (omega arith)

drop-above : (m n : ℕ) (cs : List Presence) → m < n → without_number m (open_from n cs) ≡ open_from n cs
drop-above m n [] lt = refl
drop-above m n (Here c ∷ cs) lt = let next = drop-above m (suc n) cs (omega arith) in let other = apart_back n m lt in grind (arith, next, other)
drop-above m n (Out ∷ cs) lt = drop-above m (suc n) cs (omega arith)
drop-above m n (Gone why ∷ cs) lt = drop-above m (suc n) cs (omega arith)

-- the first of them is found under its number, where it is open
pub found-first : (n : ℕ) (p : Presence) (ps : List Presence) → find (λ k. k.number == n) (open_from (suc n) ps) ≡ None → find (λ k. k.number == n) (open_from n (p ∷ ps)) ≡ listed_of n p
found-first n (Here c) ps none = let own = eq-eqb n n refl in grind (arith, own)
found-first n Out ps none = none
found-first n (Gone why) ps none = none

-- the connection of a number is the one at its place, if it is open
pub found-at : (m n i : ℕ) (c : Presence) (cs : List Presence) → m ≡ n + i → i < length cs → get_or cs i c ≡ c
    → find (λ k. k.number == m) (open_from n cs) ≡ listed_of m c
found-at m n i c [] e lt at = absurd (omega arith)
found-at m n zero c (d ∷ ds) e lt at =
    let m_is : m ≡ n = omega arith in
    ap (λ k. find (λ (x : model.Connection). x.number == k) (open_from n (d ∷ ds))) m_is
    ∙ found-first n d ds (none-below n (suc n) ds (omega arith))
    ∙ ap (λ k. listed_of k d) (sym m_is)
    ∙ ap (listed_of m) at
found-at m n (suc i) c (d ∷ ds) e lt at = passed-over m n d ds (apart n m (omega arith)) ∙ found-at m (suc n) i c ds (omega arith) (omega arith) at

-- a connection that stays open is put in its place
pub swapped-at : (m n i : ℕ) (old new : Connection) (cs : List Presence) → m ≡ n + i → i < length cs → get_or cs i (Here old) ≡ Here old → is_none old.closing ≡ true → is_none new.closing ≡ true
    → map (λ (k : model.Connection). if k.number == m then shown_connection m new else k) (open_from n cs) ≡ open_from n (slice_set cs i (Here new))
swapped-at m n i old new [] e lt at was is = absurd (omega arith)
swapped-at m n zero old new (d ∷ ds) e lt at was is =
    let m_is : m ≡ n = omega arith in
    ap (λ p. map (λ (k : model.Connection). if k.number == m then shown_connection m new else k) (open_from n (p ∷ ds))) at
    ∙ ap (λ b. map (λ (k : model.Connection). if k.number == m then shown_connection m new else k) (if b then shown_connection n old ∷ open_from (suc n) ds else open_from (suc n) ds)) was
    ∙ ap (λ t. (if t then shown_connection m new else shown_connection n old) ∷ map (λ (k : model.Connection). if k.number == m then shown_connection m new else k) (open_from (suc n) ds)) (eq-eqb n m (sym m_is))
    ∙ ap (λ ks. shown_connection m new ∷ ks) (swap-above m (suc n) (shown_connection m new) ds (omega arith))
    ∙ ap (λ k. shown_connection k new ∷ open_from (suc n) ds) m_is
    ∙ sym (ap (λ b. if b then shown_connection n new ∷ open_from (suc n) ds else open_from (suc n) ds) is)
swapped-at m n (suc i) old new (Here d ∷ ds) e lt at was is =
    let next = swapped-at m (suc n) i old new ds (omega arith) (omega arith) at was is in
    let other = apart n m (omega arith) in
    grind (arith, next, other)
swapped-at m n (suc i) old new (Out ∷ ds) e lt at was is = swapped-at m (suc n) i old new ds (omega arith) (omega arith) at was is
swapped-at m n (suc i) old new (Gone why ∷ ds) e lt at was is = swapped-at m (suc n) i old new ds (omega arith) (omega arith) at was is

drop-first : (m n : ℕ) (d : Presence) (ds : List Presence) → without_number m (open_from (suc n) ds) ≡ open_from (suc n) ds → (n == m) ≡ true → without_number m (open_from n (d ∷ ds)) ≡ open_from (suc n) ds
drop-first m n (Here d) ds next same = grind arith
drop-first m n Out ds next same = next
drop-first m n (Gone why) ds next same = next

-- a connection that is open no more leaves
pub dropped-at : (m n i : ℕ) (new : Connection) (cs : List Presence) → m ≡ n + i → i < length cs → is_none new.closing ≡ false
    → without_number m (open_from n cs) ≡ open_from n (slice_set cs i (Here new))
dropped-at m n i new [] e lt is = absurd (omega arith)
dropped-at m n zero new (d ∷ ds) e lt is =
    let m_is : m ≡ n = omega arith in
    drop-first m n d ds (drop-above m (suc n) ds (omega arith)) (eq-eqb n m (sym m_is))
    ∙ sym (ap (λ b. if b then shown_connection n new ∷ open_from (suc n) ds else open_from (suc n) ds) is)
dropped-at m n (suc i) new (Here d ∷ ds) e lt is =
    let next = dropped-at m (suc n) i new ds (omega arith) (omega arith) is in
    let other = apart n m (omega arith) in
    grind (arith, next, other)
dropped-at m n (suc i) new (Out ∷ ds) e lt is = dropped-at m (suc n) i new ds (omega arith) (omega arith) is
dropped-at m n (suc i) new (Gone why ∷ ds) e lt is = dropped-at m (suc n) i new ds (omega arith) (omega arith) is

-- a connection that was opened comes last
pub opened-last : (n : ℕ) (cs : List Presence) (c : Connection) → is_none c.closing ≡ true → open_from n (cs ++ Here c ∷ []) ≡ open_from n cs ++ shown_connection (n + length cs) c ∷ []
opened-last n [] c is =
    let n_is : n + 0 ≡ n = omega arith in
    ap (λ b. if b then shown_connection n c ∷ [] else []) is ∙ ap (λ k. shown_connection k c ∷ []) (sym n_is)
opened-last n (Here d ∷ ds) c is =
    let n_is : n + length (Here d ∷ ds) ≡ suc n + length ds = omega arith in
    let next = opened-last (suc n) ds c is ∙ ap (λ k. open_from (suc n) ds ++ shown_connection k c ∷ []) (sym n_is) in
    grind (arith, next)
opened-last n (Out ∷ ds) c is = let n_is : n + length (Out ∷ ds) ≡ suc n + length ds = omega arith in opened-last (suc n) ds c is ∙ ap (λ k. open_from (suc n) ds ++ shown_connection k c ∷ []) (sym n_is)
opened-last n (Gone why ∷ ds) c is = let n_is : n + length (Gone why ∷ ds) ≡ suc n + length ds = omega arith in opened-last (suc n) ds c is ∙ ap (λ k. open_from (suc n) ds ++ shown_connection k c ∷ []) (sym n_is)
