-- A connection with more bytes behind the unread ones.
use Rattle.std.proofs.Common.{inr, inl, ◌≡◌, refl, ap, ◌∙◌, sym, ℕ, ◌≤◌, Bool, true, false, true≢false, not, ◌&&◌, ◌||◌, cond, List, [], ◌∷◌, ◌++◌, map, length, Option, Some, None, is_some, nat_lt, arith}
use Rattle.std.specs.Prelude.{◌==◌}
use Rattle.std.specs.List.{find}
use Rattle.std.specs.Option.{option_map_or}
use Rattle.std.proofs.lemmas.Bool.{cases_Bool, eqb-true}
use Rattle.std.proofs.lemmas.Bool.Decides.{nat_tests}
use Rattle.std.proofs.Common.{length-append}
use Rattle.audit_model.specs.Bytewise.{cut_at}
use Rattle.audit_model.specs.Situation.{Situation, Connection, Standing, Ready, Held, Waiting, connection_in, may_run_in, is_ready, is_holding, is_holding_in, is_overlong, without_waiting, without_number, with_connection}
use Rattle.audit_model.specs.Stream.{first_line}
use Rattle.audit_laws.proofs.Connections.{eqb-self}
use Rattle.audit_laws.proofs.LinesRead.{cut-more, first_line-more}

-- what changes of a connection
pub record Body : Type 0 where
  pub unread : List ℕ
  pub standing : Standing
  pub waited : ℕ

-- ---- lines

cut_length : (b : ℕ) (here : Bool) (bs ys : List ℕ) (rest more : List ℕ × Option (List ℕ)) → length rest.0 ≤ length more.0
    → length (elim here as (λ x. List ℕ × Option (List ℕ)) [ true ↦ ([], Some bs) | false ↦ (b ∷ rest.0, rest.1) ]).0
    ≤ length (elim here as (λ x. List ℕ × Option (List ℕ)) [ true ↦ ([], Some ys) | false ↦ (b ∷ more.0, more.1) ]).0
cut_length b true bs ys rest more h = omega arith
cut_length b false bs ys rest more h = omega arith

-- the first line does not get shorter
pub cut-longer : (xs ys : List ℕ) → length (cut_at 10 xs).0 ≤ length (cut_at 10 (xs ++ ys)).0
cut-longer [] ys = omega arith
cut-longer (b ∷ bs) ys = cut_length b (b == 10) bs (bs ++ ys) (cut_at 10 bs) (cut_at 10 (bs ++ ys)) (cut-longer bs ys)

-- there is a first line where there is a line feed
pub has_line : (xs : List ℕ) → is_some (first_line xs) ≡ is_some (cut_at 10 xs).1
has_line xs = grind (arith, nat_tests)

over_more : (m n : ℕ) → m ≤ n → nat_lt 8192 m ≡ true → nat_lt 8192 n ≡ true
over_more m n h e = grind (arith, nat_tests)

-- ---- one connection among many

module _ (conn : ℕ) where
  -- the connection with this number
  abbrev pub own : Body → Connection
  own d = record { number = conn; unread = d.unread; standing = d.standing; waited = d.waited }

  -- a connection that has the number
  pub own-is : (c : Connection) → (c.number == conn) ≡ true → c ≡ own (record { unread = c.unread; standing = c.standing; waited = c.waited })
  own-is c e = ap (λ n. record { number = n; unread = c.unread; standing = c.standing; waited = c.waited }) (eqb-true c.number conn e)

  -- the connections with that one in its place
  abbrev pub put : Connection → List Connection → List Connection
  put e cs = map (λ c. cond (c.number == conn) e c) cs

  put_twice : (d e : Body) (same : Bool) (c : Connection) → (c.number == conn) ≡ same
      → cond ((cond same (own d) c).number == conn) (own e) (cond same (own d) c) ≡ cond same (own e) c
  put_twice d e true c p = ap (λ b. cond b (own e) (own d)) (eqb-self conn)
  put_twice d e false c p = ap (λ b. cond b (own e) c) p

  -- the last one counts
  pub put-put : (d e : Body) (cs : List Connection) → put (own e) (put (own d) cs) ≡ put (own e) cs
  put-put d e [] = refl
  put-put d e (c ∷ cs) = ap (λ x. x ∷ put (own e) (put (own d) cs)) (put_twice d e (c.number == conn) c refl) ∙ ap (λ xs. cond (c.number == conn) (own e) c ∷ xs) (put-put d e cs)

  out_twice : (d : Body) (same : Bool) (c : Connection) (xs : List Connection) → (c.number == conn) ≡ same
      → cond (not ((cond same (own d) c).number == conn)) (cond same (own d) c ∷ xs) xs ≡ cond (not same) (c ∷ xs) xs
  out_twice d true c xs p = ap (λ b. cond (not b) (own d ∷ xs) xs) (eqb-self conn)
  out_twice d false c xs p = ap (λ b. cond (not b) (c ∷ xs) xs) p

  -- and is taken out whatever it was
  pub without-put : (d : Body) (cs : List Connection) → without_number conn (put (own d) cs) ≡ without_number conn cs
  without-put d [] = refl
  without-put d (c ∷ cs) =
      out_twice d (c.number == conn) c (without_number conn (put (own d) cs)) refl
      ∙ ap (λ xs. cond (not (c.number == conn)) (c ∷ xs) xs) (without-put d cs)

  find_one : (d : Body) (same : Bool) (c : Connection) (o p : Option Connection) → (c.number == conn) ≡ same
      → (is_some o ≡ true → p ≡ Some (own d)) → is_some (cond same (Some c) o) ≡ true
      → cond ((cond same (own d) c).number == conn) (Some (cond same (own d) c)) p ≡ Some (own d)
  find_one d true c o p e f h = ap (λ b. cond b (Some (own d)) p) (eqb-self conn)
  find_one d false c o p e f h = ap (λ b. cond b (Some c) p) e ∙ f h

  find-put : (d : Body) (cs : List Connection) → is_some (find (λ c. c.number == conn) cs) ≡ true → find (λ c. c.number == conn) (put (own d) cs) ≡ Some (own d)
  find-put d [] h = absurd (true≢false (sym h))
  find-put d (c ∷ cs) h = find_one d (c.number == conn) c (find (λ x. x.number == conn) cs) (find (λ x. x.number == conn) (put (own d) cs)) refl (find-put d cs) h

  none_one : (same : Bool) (c : Connection) (xs : List Connection) → (c.number == conn) ≡ same → find (λ x. x.number == conn) xs ≡ None
      → find (λ x. x.number == conn) (cond (not same) (c ∷ xs) xs) ≡ None
  none_one true c xs e f = f
  none_one false c xs e f = ap (λ b. cond b (Some c) (find (λ x. x.number == conn) xs)) e ∙ f

  find-without : (cs : List Connection) → find (λ c. c.number == conn) (without_number conn cs) ≡ None
  find-without [] = refl
  find-without (c ∷ cs) = none_one (c.number == conn) c (without_number conn cs) refl (find-without cs)

  -- ---- the situation with that connection as it now is

  -- it closes after a `QUIT`, or where it must
  abbrev pub closes : Bool → Body → Bool
  closes q d = q || is_overlong (own d)

  -- the situation with that connection, which may close
  abbrev pub sit : Bool → Body → Situation → Situation
  sit q d u = with_connection q (own d) u

  abbrev where_closed : Bool → Body → Situation → Situation
  where_closed b d u =
      record u {
        connections = cond b (without_number conn u.connections) (put (own d) u.connections);
        pending = cond b (map (without_waiting conn) u.pending) u.pending;
      }

  -- it is open
  abbrev pub opened : Body → Situation → Situation
  opened d u = record u { connections = put (own d) u.connections }

  -- it is closed
  abbrev pub shut : Situation → Situation
  shut u = record u { connections = without_number conn u.connections; pending = map (without_waiting conn) u.pending }

  -- where it does not close
  pub sit-open : (q : Bool) (d : Body) (u : Situation) → closes q d ≡ false → sit q d u ≡ opened d u
  sit-open q d u e = ap (λ b. where_closed b d u) e

  -- where it closes
  pub sit-shut : (q : Bool) (d : Body) (u : Situation) → closes q d ≡ true → sit q d u ≡ shut u
  sit-shut q d u e = ap (λ b. where_closed b d u) e

  -- what the connection was before does not count
  pub sit-opened : (q : Bool) (d e : Body) (u : Situation) → sit q e (opened d u) ≡ sit q e u
  sit-opened q d e u =
      ap (λ xs. record u { connections = cond (closes q e) xs (put (own e) (put (own d) u.connections)); pending = cond (closes q e) (map (without_waiting conn) u.pending) u.pending }) (without-put d u.connections)
      ∙ ap (λ xs. record u { connections = cond (closes q e) (without_number conn u.connections) xs; pending = cond (closes q e) (map (without_waiting conn) u.pending) u.pending }) (put-put d e u.connections)

  -- an open one is found
  pub in-opened : (d : Body) (u : Situation) → is_some (connection_in conn u) ≡ true → connection_in conn (opened d u) ≡ Some (own d)
  in-opened d u h = find-put d u.connections h

  -- a closed one is not
  pub in-shut : (u : Situation) → connection_in conn (shut u) ≡ None
  in-shut u = find-without u.connections

  -- it is found where it does not close
  pub in-sit : (q : Bool) (d : Body) (u : Situation) → is_some (connection_in conn u) ≡ true → connection_in conn (sit q d u) ≡ cond (closes q d) None (Some (own d))
  in-sit q d u h = elim (cases_Bool (closes q d)) [ inl e ↦ rw e (in-shut u) | inr e ↦ rw e (in-opened d u h) ]

  -- one of its lines may run
  abbrev pub runs : Body → Bool
  runs d = is_ready d.standing && is_some (first_line d.unread)

  -- its line may run where it does not close and has one
  pub may-sit : (q : Bool) (d : Body) (u : Situation) → is_some (connection_in conn u) ≡ true → may_run_in (sit q d u) conn ≡ (not (closes q d) && runs d)
  may-sit q d u h = ap (λ o. option_map_or (λ c. is_ready c.standing && is_some (first_line c.unread)) o false) (in-sit q d u h) ∙ (elim (cases_Bool (closes q d)) [ inl e ↦ rw e | inr e ↦ rw e ])

  -- it holds nothing back where its standing does not
  pub holding-sit : (q : Bool) (d : Body) (u : Situation) → is_some (connection_in conn u) ≡ true → is_holding d.standing ≡ false → is_holding_in (sit q d u) conn ≡ false
  holding-sit q d u h e = ap (λ o. option_map_or (λ c. is_holding c.standing) o false) (in-sit q d u h) ∙ (elim (cases_Bool (closes q d)) [ inl is ↦ rw is | inr is ↦ rw is e ])

  -- ---- with more bytes

  module _ (rest : List ℕ) where
    -- the same with these bytes behind
    abbrev pub more : Body → Body
    more d = record d { unread = d.unread ++ rest }

    -- what is too long stays too long
    pub overlong-more : (d : Body) → is_overlong (own d) ≡ true → is_overlong (own (more d)) ≡ true
    overlong-more d e =
        let longer : length d.unread ≤ length (d.unread ++ rest) = omega (arith, length-append d.unread rest) in
        let first = over_more _ _ (cut-longer d.unread rest) in
        let all = over_more _ _ longer in
        grind (arith, e, first, all)

    -- what closes still closes
    pub closes-more : (q : Bool) (d : Body) → closes q d ≡ true → closes q (more d) ≡ true
    closes-more true d e = refl
    closes-more false d e = overlong-more d e

    -- a connection that runs its held line, or one of its lines that came whole
    abbrev pub IsDue : Bool → Standing → List ℕ → Type 0
    IsDue true (Held line) unread = Unit {0}
    IsDue false Ready unread = is_some (cut_at 10 unread).1 ≡ true
    IsDue held standing unread = ⊥

    overlong-due-by : (held : Bool) (standing : Standing) (unread : List ℕ) (waited : ℕ) → IsDue held standing unread
        → is_overlong (own (record { unread = unread ++ rest; standing = standing; waited = waited })) ≡ is_overlong (own (record { unread = unread; standing = standing; waited = waited }))
    overlong-due-by true (Held line) unread waited h = refl
    overlong-due-by false Ready unread waited h = ap (λ (m : List ℕ × Option (List ℕ)). nat_lt 8192 (length m.0) || false) (cut-more unread rest h)
    overlong-due-by true Ready unread waited h = absurd h
    overlong-due-by true (Waiting line) unread waited h = absurd h
    overlong-due-by false (Held line) unread waited h = absurd h
    overlong-due-by false (Waiting line) unread waited h = absurd h

    -- where a line or a held one is due, it closes alike
    pub closes-due : (held q : Bool) (d : Body) → IsDue held d.standing d.unread → closes q (more d) ≡ closes q d
    closes-due held q d h = ap (λ b. q || b) (overlong-due-by held d.standing d.unread d.waited h)

    -- a line that may run is due
    pub runs-due : (d : Body) → runs d ≡ true → IsDue false d.standing d.unread
    runs-due d e = go d.standing e
      where
        go : (standing : Standing) → (is_ready standing && is_some (first_line d.unread)) ≡ true → IsDue false standing d.unread
        go Ready e = sym (has_line d.unread) ∙ e
        go (Held line) e = true≢false (sym e)
        go (Waiting line) e = true≢false (sym e)

    -- and may run with more bytes behind
    pub runs-more : (d : Body) → runs d ≡ true → runs (more d) ≡ true
    runs-more d e = go d.standing e
      where
        go : (standing : Standing) → (is_ready standing && is_some (first_line d.unread)) ≡ true → (is_ready standing && is_some (first_line (d.unread ++ rest))) ≡ true
        go Ready e = ap is_some (first_line-more d.unread rest (sym (has_line d.unread) ∙ e)) ∙ e
        go (Held line) e = absurd (true≢false (sym e))
        go (Waiting line) e = absurd (true≢false (sym e))
