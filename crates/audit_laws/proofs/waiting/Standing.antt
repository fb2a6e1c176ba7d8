-- Where connections stand after one of them changed.
use Rattle.std.proofs.Common.{inr, inl, ◌≡◌, ℕ, ◌+◌, ◌≤◌, Bool, true, false, ◌||◌, ◌==◌, List, [], ◌∷◌, map, Option, Some, None, if◌then◌else◌, refl, sym, ap, ◌∙◌, subst, arith}
use Rattle.std.specs.List.{find}
use Rattle.std.specs.Option.{option_map_or}
use Rattle.std.proofs.lemmas.Bool.{cases_Bool, eqb-true}
use Rattle.audit_model.specs.Situation.{Situation, Connection, connection_in, is_overlong, is_waiting_now, with_connection, without_number, without_waiting}
use Rattle.audit_laws.specs.Waiting.Tidy.{Tidy, times_in, times_loaded, times_waiting, waits_now}
use Rattle.audit_laws.proofs.waiting.Counts.{loaded-out, one_if, waiting-others, waiting-out}
use Rattle.std.proofs.lemmas.Bool.Decides.{nat_tests}

-- whether the connection's `LOAD` waits
abbrev pub wait_of : Option Connection → ℕ
wait_of o = option_map_or (λ (k : Connection). one_if (is_waiting_now k.standing)) o 0

pub few-waits : (o : Option Connection) → wait_of o ≤ 1
few-waits None = omega arith
few-waits (Some k) = grind (arith, nat_tests)

-- the other connections stay
pub found-apart : (c : ℕ) (k : Connection) (ks : List Connection) → (k.number == c) ≡ false → find (λ x. x.number == c) (map (λ x. if x.number == k.number then k else x) ks) ≡ find (λ x. x.number == c) ks
found-apart c k [] ne = refl
found-apart c k (x ∷ xs) ne = let next = found-apart c k xs ne in grind (arith, nat_tests, next)

pub found-left : (c n : ℕ) (ks : List Connection) → (n == c) ≡ false → find (λ x. x.number == c) (without_number n ks) ≡ find (λ x. x.number == c) ks
found-left c n [] ne = refl
found-left c n (x ∷ xs) ne = let next = found-left c n xs ne in grind (arith, nat_tests, next)

-- the connection itself is the new one
pub found-own : (k c : Connection) (ks : List Connection) → find (λ x. x.number == k.number) ks ≡ Some c → find (λ x. x.number == k.number) (map (λ x. if x.number == k.number then k else x) ks) ≡ Some k
found-own k c [] e = let no : None ≡ Some c = e in cc
found-own k c (x ∷ xs) e = let next = found-own k c xs in grind (arith, nat_tests, next, e)

-- a connection that is not named, and is put in its place again: the loads may be joined by it, once where its `LOAD` waits
pub put-tidy : (told : List ℕ) (s t : Situation) (n : ℕ) (c k : Connection) (quits : Bool) → connection_in n s ≡ Some c → k.number ≡ n → Tidy told s
    → times_in n told ≡ 0 → t.connections ≡ s.connections
    → ((d : ℕ) → (n == d) ≡ false → times_waiting d t.pending ≡ times_waiting d s.pending) → times_waiting n t.pending ≤ one_if (is_waiting_now k.standing) → ((key : List ℕ) → times_loaded key t.pending ≤ 1)
    → Tidy told (with_connection quits k t)
put-tidy told s t n c k quits found is tidy none same others own keys = elim (cases_Bool (quits || is_overlong k)) [ inl e ↦ closing e | inr e ↦ staying e ]
  where
    at-own : (d : ℕ) → (n == d) ≡ true → times_in d told + times_waiting d t.pending ≤ wait_of (find (λ x. x.number == d) (map (λ x. if x.number == k.number then k else x) t.connections))
    at-own d e =
        let d_is = eqb-true n d e in
        let own_found : find (λ x. x.number == n) (map (λ x. if x.number == k.number then k else x) t.connections) ≡ Some k =
        ap (λ ks. find (λ x. x.number == n) (map (λ x. if x.number == k.number then k else x) ks)) same
        ∙ subst (λ m. find (λ x. x.number == m) (map (λ x. if x.number == k.number then k else x) s.connections) ≡ Some k) is (found-own k c s.connections (ap (λ m. find (λ x. x.number == m) s.connections) is ∙ found)) in
        let stands : wait_of (find (λ x. x.number == n) (map (λ x. if x.number == k.number then k else x) t.connections)) ≡ one_if (is_waiting_now k.standing) = ap wait_of own_found in
        subst (λ m. times_in m told + times_waiting m t.pending ≤ wait_of (find (λ x. x.number == m) (map (λ x. if x.number == k.number then k else x) t.connections))) d_is (omega arith)

    at-other : (d : ℕ) → (n == d) ≡ false → times_in d told + times_waiting d t.pending ≤ wait_of (find (λ x. x.number == d) (map (λ x. if x.number == k.number then k else x) t.connections))
    at-other d e =
        let stays : wait_of (find (λ x. x.number == d) (map (λ x. if x.number == k.number then k else x) t.connections)) ≡ waits_now d s =
        ap (λ ks. wait_of (find (λ x. x.number == d) (map (λ x. if x.number == k.number then k else x) ks))) same ∙ ap wait_of (found-apart d k s.connections (ap (λ m. m == d) is ∙ e)) in
        let before = tidy.once d in
        let loads = others d e in
        omega arith

    out-own : (d : ℕ) → (n == d) ≡ true → times_in d told + times_waiting d (map (without_waiting k.number) t.pending) ≤ wait_of (find (λ x. x.number == d) (without_number k.number t.connections))
    out-own d e =
        let gone : times_waiting d (map (without_waiting k.number) t.pending) ≡ 0 = ap (λ m. times_waiting d (map (without_waiting m) t.pending)) (is ∙ eqb-true n d e) ∙ waiting-out d t.pending in
        let named : times_in d told ≡ 0 = subst (λ m. times_in m told ≡ 0) (eqb-true n d e) none in
        omega arith

    out-other : (d : ℕ) → (n == d) ≡ false → times_in d told + times_waiting d (map (without_waiting k.number) t.pending) ≤ wait_of (find (λ x. x.number == d) (without_number k.number t.connections))
    out-other d e =
        let ne : (k.number == d) ≡ false = ap (λ m. m == d) is ∙ e in
        let stays : wait_of (find (λ x. x.number == d) (without_number k.number t.connections)) ≡ waits_now d s =
        ap (λ ks. wait_of (find (λ x. x.number == d) (without_number k.number ks))) same ∙ ap wait_of (found-left d k.number s.connections ne) in
        let left = waiting-others d k.number t.pending ne in
        let before = tidy.once d in
        let loads = others d e in
        omega arith

    closing : (quits || is_overlong k) ≡ true → Tidy told (with_connection quits k t)
    closing e = subst (λ b. Tidy told (record t { connections = if b then without_number k.number t.connections else map (λ x. if x.number == k.number then k else x) t.connections; pending = if b then map (without_waiting k.number) t.pending else t.pending })) (sym e) (record {
      once = λ d. elim (cases_Bool (n == d)) [ inl e ↦ out-own d e | inr e ↦ out-other d e ];
      keys = λ key. let a = loaded-out key k.number t.pending in let b = keys key in omega arith;
    })

    staying : (quits || is_overlong k) ≡ false → Tidy told (with_connection quits k t)
    staying e = subst (λ b. Tidy told (record t { connections = if b then without_number k.number t.connections else map (λ x. if x.number == k.number then k else x) t.connections; pending = if b then map (without_waiting k.number) t.pending else t.pending })) (sym e) (record {
      once = λ d. elim (cases_Bool (n == d)) [ inl e ↦ at-own d e | inr e ↦ at-other d e ];
      keys = keys;
    })
