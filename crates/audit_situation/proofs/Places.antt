-- A connection changed, and what loads are to connections.
use Rattle.std.proofs.Common.{inr, inl, arith, ◌≡◌, refl, sym, ap, ◌∙◌, ℕ, ◌==◌, Bool, true, false, ◌||◌, List, [], ◌∷◌, map, Option, Some, None, if◌then◌else◌, true≢false}
use Rattle.std.specs.List.{find, list_any}
use Rattle.std.specs.Option.{option_map_or}
use Rattle.std.proofs.lemmas.Option.{none-some}
use Rattle.std.proofs.lemmas.Bool.{cases_Bool, eqb-true, and_parts, not-true}
use Rattle.audit_model.specs.Situation.{Situation, Connection, connection_in, without_number, without_connection, with_connection, is_overlong, without_waiting}
use Rattle.audit_model.specs.Numbered.{changed_numbered}
use Rattle.audit_situation.specs.States.{have_numbers_apart}
use Rattle.std.proofs.lemmas.Bool.Decides.{nat_tests}

abbrev of_number : Connection → ℕ
of_number c = c.number

module _ (conn : ℕ) where
  abbrev hits : Connection → Bool
  hits d = d.number == conn

  hit-number : (cs : List Connection) (c : Connection) → find hits cs ≡ Some c → c.number ≡ conn
  hit-number [] c e = absurd (none-some c e)
  hit-number (d ∷ ds) c e = let next = hit-number ds c in grind (arith, nat_tests, e, next)

  module _ (F : Connection → Connection) where
    untouched : (cs : List Connection) → list_any hits cs ≡ false → map (changed_numbered of_number conn F) cs ≡ cs
    untouched [] e = refl
    untouched (d ∷ ds) e = let next = untouched ds in grind (arith, nat_tests, e, next)

    missed : (cs : List Connection) → find hits cs ≡ None → map (changed_numbered of_number conn F) cs ≡ cs
    missed [] e = refl
    missed (d ∷ ds) e = let next = missed ds in grind (arith, nat_tests, e, next)

    dropped : ((c : Connection) → (F c).number ≡ c.number) → (cs : List Connection) → without_number conn (map (changed_numbered of_number conn F) cs) ≡ without_number conn cs
    dropped keeps [] = refl
    dropped keeps (d ∷ ds) = let next = dropped keeps ds in grind (arith, nat_tests, next)

  -- where no two have one number, it is one that changes
  swapped : (F : Connection → Connection) (cs : List Connection) (c : Connection) → have_numbers_apart cs ≡ true → find hits cs ≡ Some c → map (changed_numbered of_number conn F) cs ≡ map (changed_numbered of_number conn (λ _. F c)) cs
  swapped F [] c a e = refl
  swapped F (d ∷ ds) c a e =
      let p = and_parts _ _ a in elim (cases_Bool (hits d)) [
        | inl is ↦ rw is (let same : d ≡ c = cc in let others : list_any hits ds ≡ false = ap (λ m. list_any (λ k. k.number == m) ds) (sym (eqb-true d.number conn is)) ∙ not-true _ p.0 in ap (λ x. F x ∷ map (changed_numbered of_number conn F) ds) same ∙ ap (λ ys. F c ∷ ys) (untouched F ds others ∙ sym (untouched (λ _. F c) ds others)))
        | inr is ↦ rw is (ap (λ ys. d ∷ ys) ((swapped F ds c p.1) (rw is at e)))
      ]

  module _ (F : Connection → Connection) (keeps : (c : Connection) → (F c).number ≡ c.number) (quits : Bool) (s : Situation) where
    abbrev changed : Situation
    changed = record s { connections = map (changed_numbered of_number conn F) s.connections }

    abbrev wanted : Option Connection → Situation
    wanted o = option_map_or (λ c. with_connection quits (F c) s) o s

    abbrev closing : Option Connection → Bool
    closing o = option_map_or (λ c. quits || is_overlong (F c)) o false

    -- it closes
    pub closed_is : closing (connection_in conn s) ≡ true → without_connection conn changed ≡ wanted (connection_in conn s)
    closed_is closes = go (connection_in conn s) refl closes
      where
        go : (o : Option Connection) → connection_in conn s ≡ o → closing o ≡ true → without_connection conn changed ≡ wanted o
        go None e b = absurd (true≢false (sym b))
        go (Some c) e b =
            let same : conn ≡ (F c).number = sym (keeps c ∙ hit-number s.connections c e) in
            ap (λ cs. record s { connections = cs; pending = map (without_waiting conn) s.pending }) (dropped F keeps s.connections)
            ∙ ap (λ n. record s { connections = without_number n s.connections; pending = map (without_waiting n) s.pending }) same
            ∙ sym (ap (λ b. record s {
              connections = if b then without_number (F c).number s.connections else map (λ d. if d.number == (F c).number then F c else d) s.connections;
              pending = if b then map (without_waiting (F c).number) s.pending else s.pending;
            }) b)

    -- it stays, or there is none
    pub kept_is : have_numbers_apart s.connections ≡ true → closing (connection_in conn s) ≡ false → changed ≡ wanted (connection_in conn s)
    kept_is apart closes = go (connection_in conn s) refl closes
      where
        go : (o : Option Connection) → connection_in conn s ≡ o → closing o ≡ false → changed ≡ wanted o
        go None e b = ap (λ cs. record s { connections = cs }) (missed F s.connections e)
        go (Some c) e b =
            let same : conn ≡ (F c).number = sym (keeps c ∙ hit-number s.connections c e) in
            ap (λ cs. record s { connections = cs }) (swapped F s.connections c apart e)
            ∙ ap (λ n. record s { connections = map (changed_numbered of_number n (λ _. F c)) s.connections; pending = s.pending }) same
            ∙ sym (ap (λ b. record s {
              connections = if b then without_number (F c).number s.connections else map (λ d. if d.number == (F c).number then F c else d) s.connections;
              pending = if b then map (without_waiting (F c).number) s.pending else s.pending;
            }) b)
