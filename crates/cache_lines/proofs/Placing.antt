-- A connection put in its place again.
use Rattle.std.proofs.Common.{arith, refl, ap, ◌∙◌, ◌≡◌, ℕ, Bool, true, false, ◌==◌, List, [], ◌∷◌, map, Some, if◌then◌else◌, is_some}
use Rattle.std.proofs.lemmas.Bool.{eq-eqb}
use Rattle.std.specs.List.{find}
use Rattle.audit_model.specs.Situation.{Situation, Connection, HeldValue, connection_in, with_connection, without_number, without_waiting, is_overlong}
use Rattle.cache_lines.specs.Lines.{situation_behind, set_in, IsThere}

-- the connection under that number
abbrev pub numbered : ℕ → Connection → Connection
numbered n c = record c { number = n }

abbrev pub swap : ℕ → Connection → Connection → Connection
swap n c d = if d.number == n then numbered n c else d

here : (n : ℕ) → (n == n) ≡ true
here n = eq-eqb n n refl

found-swapped : (n : ℕ) (c : Connection) (ds : List Connection) → is_some (find (λ d. d.number == n) ds) ≡ true → find (λ d. d.number == n) (map (swap n c) ds) ≡ Some (numbered n c)
found-swapped n c [] h = let e : false ≡ true = h in cc
found-swapped n c (d ∷ ds) h = let next = found-swapped n c ds in let own = here n in grind (arith, next, own)

pub swapped-again : (n : ℕ) (c d : Connection) (ks : List Connection) → map (swap n d) (map (swap n c) ks) ≡ map (swap n d) ks
swapped-again n c d [] = refl
swapped-again n c d (k ∷ ks) = let next = swapped-again n c d ks in let own = here n in grind (arith, next, own)

pub dropped-swapped : (n : ℕ) (c : Connection) (ks : List Connection) → without_number n (map (swap n c) ks) ≡ without_number n ks
dropped-swapped n c [] = refl
dropped-swapped n c (k ∷ ks) = let next = dropped-swapped n c ks in let own = here n in grind (arith, next, own)

-- the connection that was put there is found there
pub found-there : (base : Situation) (held : List HeldValue) (n : ℕ) (c : Connection) → IsThere n base → is_overlong (numbered n c) ≡ false
    → connection_in n (set_in base held (numbered n c)) ≡ Some (numbered n c)
found-there base held n c there fits =
    ap (λ b. find (λ d. d.number == n) (if b then without_number n base.connections else map (swap n c) base.connections)) fits ∙ found-swapped n c base.connections there

-- what was put there before makes no difference
pub set-again : (base : Situation) (held left : List HeldValue) (n : ℕ) (c d : Connection) → is_overlong (numbered n c) ≡ false
    → set_in (set_in base held (numbered n c)) left (numbered n d) ≡ set_in base left (numbered n d)
set-again base held left n c d fits =
    ap (λ b. record base {
      held = left;
      connections = if is_overlong (numbered n d) then without_number n (if b then without_number n base.connections else map (swap n c) base.connections) else map (swap n d) (if b then without_number n base.connections else map (swap n c) base.connections);
      pending = if is_overlong (numbered n d) then map (without_waiting n) (if b then map (without_waiting n) base.pending else base.pending) else (if b then map (without_waiting n) base.pending else base.pending);
    }) fits
    ∙ ap (λ ks. record base {
      held = left;
      connections = if is_overlong (numbered n d) then ks else map (swap n d) (map (swap n c) base.connections);
      pending = if is_overlong (numbered n d) then map (without_waiting n) base.pending else base.pending;
    }) (dropped-swapped n c base.connections)
    ∙ ap (λ ks. record base {
      held = left;
      connections = if is_overlong (numbered n d) then without_number n base.connections else ks;
      pending = if is_overlong (numbered n d) then map (without_waiting n) base.pending else base.pending;
    }) (swapped-again n c d base.connections)

-- nor where it closes
pub quit-again : (base : Situation) (held left : List HeldValue) (n : ℕ) (c d : Connection) → is_overlong (numbered n c) ≡ false
    → with_connection true (numbered n d) (record (set_in base held (numbered n c)) { held = left }) ≡ situation_behind true base left (numbered n d)
quit-again base held left n c d fits =
    ap (λ b. record base {
      held = left;
      connections = without_number n (if b then without_number n base.connections else map (swap n c) base.connections);
      pending = map (without_waiting n) (if b then map (without_waiting n) base.pending else base.pending);
    }) fits
    ∙ ap (λ ks. record base { held = left; connections = ks; pending = map (without_waiting n) base.pending }) (dropped-swapped n c base.connections)

-- as it now is, or closed by a `QUIT`
pub ended-again : (base : Situation) (held left : List HeldValue) (n : ℕ) (c d : Connection) (quit : Bool) → is_overlong (numbered n c) ≡ false
    → with_connection quit (numbered n d) (record (set_in base held (numbered n c)) { held = left }) ≡ situation_behind quit base left (numbered n d)
ended-again base held left n c d true fits = quit-again base held left n c d fits
ended-again base held left n c d false fits = set-again base held left n c d fits
