-- What a change of one connection does to all connections.
use Rattle.std.proofs.Common.{inr, inl, ◌≡◌, refl, ap, ◌∙◌, sym, ℕ, zero, suc, ◌+◌, Bool, true, false, true≢false, not, ◌&&◌, ◌||◌, cond, List, [], ◌∷◌, map, Option, Some, None, is_some, is_none, arith, zero-add}
use Rattle.std.proofs.lemmas.Bool.Decides.{nat_tests}
use Rattle.std.specs.Prelude.{◌==◌, unwrap_or}
use Rattle.std.specs.List.{filter}
use Rattle.std.proofs.Math.Bool.{and-false, and-true}
use Rattle.std.proofs.lemmas.Bool.{cases_Bool, eqb-true}
use Rattle.audit_model.specs.Bytewise.{cut_at}
use Rattle.audit_model.specs.Changes.{connection_after}
use Rattle.audit_model.specs.History.{Effect, History}
use Rattle.audit_model.specs.Situation.{Standing, Connection, Ready, Held, Waiting}
use Rattle.audit_model.specs.Steps.{Task}
use Rattle.audit_model.specs.Stream.{is_held, behind_lines, unanswered, first_line}
use Rattle.audit_model.specs.declared.transcript.Step.{Step}
use Rattle.audit_laws.proofs.Connections.{Facts, facts, connection_of_facts, open_in, ran_by}

-- the connections with that one as it now is
abbrev pub put_connection : Connection → List Connection → List Connection
put_connection connection connections = map (λ c. cond (c.number == connection.number) connection c) connections

-- the connections of a list of connections, by the facts of each
abbrev pub connections_by : (ℕ → Facts) → List ℕ → List Connection
connections_by f cs = map (λ c. connection_of_facts c (f c)) (filter (λ c. open_in (f c)) cs)

connections-cons : (f : ℕ → Facts) (d : ℕ) (ds : List ℕ) → connections_by f (d ∷ ds) ≡ cond (open_in (f d)) (connection_of_facts d (f d) ∷ connections_by f ds) (connections_by f ds)
connections-cons f d ds = elim (cases_Bool (open_in (f d))) [ inl e ↦ rw e | inr e ↦ rw e ]

pub eqb-turned : (a b : ℕ) → (a == b) ≡ (b == a)
eqb-turned a b = grind (arith, nat_tests)

-- one connection's facts change, from f to g; the others' stay
module _ (c : ℕ) (f g : ℕ → Facts) (others : (d : ℕ) → (c == d) ≡ false → g d ≡ f d) (was : open_in (f c) ≡ true) where
  -- it stays open
  module _ (stays : open_in (g c) ≡ true) where
    stay_one : (d : ℕ) (same : Bool) (ls : List Connection) (ms : List Connection) → (d == c) ≡ same → (c == d) ≡ same → ms ≡ put_connection (connection_of_facts c (g c)) ls
        → cond (open_in (g d)) (connection_of_facts d (g d) ∷ ms) ms ≡ put_connection (connection_of_facts c (g c)) (cond (open_in (f d)) (connection_of_facts d (f d) ∷ ls) ls)
    stay_one d true ls ms e e' r =
        ap (λ b. cond b (connection_of_facts d (g d) ∷ ms) ms) (ap (λ x. open_in (g x)) (eqb-true d c e) ∙ stays)
        ∙ ap (λ l. l ∷ ms) (ap (λ x. connection_of_facts x (g x)) (eqb-true d c e)) ∙ ap (λ xs. connection_of_facts c (g c) ∷ xs) r
        ∙ sym (ap (λ b. put_connection (connection_of_facts c (g c)) (cond b (connection_of_facts d (f d) ∷ ls) ls)) (ap (λ x. open_in (f x)) (eqb-true d c e) ∙ was)
        ∙ ap (λ b. cond b (connection_of_facts c (g c)) (connection_of_facts d (f d)) ∷ put_connection (connection_of_facts c (g c)) ls) e)
    stay_one d false ls ms e e' r =
        ap (λ x. cond (open_in x) (connection_of_facts d x ∷ ms) ms) (others d e') ∙ (elim (cases_Bool (open_in (f d))) [
          | inl is ↦ rw is (ap (λ xs. connection_of_facts d (f d) ∷ xs) r ∙ sym (ap (λ b. cond b (connection_of_facts c (g c)) (connection_of_facts d (f d)) ∷ put_connection (connection_of_facts c (g c)) ls) e))
          | inr is ↦ rw is r
        ])

    pub connections-stay : (ds : List ℕ) → connections_by g ds ≡ put_connection (connection_of_facts c (g c)) (connections_by f ds)
    connections-stay [] = refl
    connections-stay (d ∷ ds) =
        connections-cons g d ds
        ∙ stay_one d (d == c) (connections_by f ds) (connections_by g ds) refl (eqb-turned c d) (connections-stay ds)
        ∙ ap (put_connection (connection_of_facts c (g c))) (sym (connections-cons f d ds))

    open-stay : (d : ℕ) (same : Bool) → (c == d) ≡ same → open_in (g d) ≡ open_in (f d)
    open-stay d true e = ap (λ x. open_in (g x)) (sym (eqb-true c d e)) ∙ stays ∙ sym (ap (λ x. open_in (f x)) (sym (eqb-true c d e)) ∙ was)
    open-stay d false e = ap open_in (others d e)

    pub filter-stay : (ds : List ℕ) → filter (λ d. open_in (g d)) ds ≡ filter (λ d. open_in (f d)) ds
    filter-stay [] = refl
    filter-stay (d ∷ ds) =
        ap (λ b. cond b (d ∷ filter (λ x. open_in (g x)) ds) (filter (λ x. open_in (g x)) ds)) (open-stay d (c == d) refl)
        ∙ ap (λ xs. cond (open_in (f d)) (d ∷ xs) xs) (filter-stay ds)

  -- it closes
  module _ (closes : open_in (g c) ≡ false) where
    open-close : (d : ℕ) (same : Bool) → (d == c) ≡ same → (c == d) ≡ same → open_in (g d) ≡ (open_in (f d) && not (d == c))
    open-close d true e e' = ap (λ x. open_in (g x)) (eqb-true d c e) ∙ closes ∙ sym (ap (λ b. open_in (f d) && not b) e ∙ and-false (open_in (f d)))
    open-close d false e e' = ap open_in (others d e') ∙ sym (ap (λ b. open_in (f d) && not b) e ∙ and-true (open_in (f d)))

    both_filters : (d : ℕ) (a b : Bool) (xs ys : List ℕ) → (d == c) ≡ b → xs ≡ filter (λ x. not (x == c)) ys
        → cond (a && not b) (d ∷ xs) xs ≡ filter (λ x. not (x == c)) (cond a (d ∷ ys) ys)
    both_filters d true true xs ys e r = r ∙ sym (ap (λ b. cond (not b) (d ∷ filter (λ x. not (x == c)) ys) (filter (λ x. not (x == c)) ys)) e)
    both_filters d true false xs ys e r = ap (λ l. d ∷ l) r ∙ sym (ap (λ b. cond (not b) (d ∷ filter (λ x. not (x == c)) ys) (filter (λ x. not (x == c)) ys)) e)
    both_filters d false true xs ys e r = r
    both_filters d false false xs ys e r = r

    pub filter-close : (ds : List ℕ) → filter (λ d. open_in (g d)) ds ≡ filter (λ x. not (x == c)) (filter (λ d. open_in (f d)) ds)
    filter-close [] = refl
    filter-close (d ∷ ds) =
        ap (λ b. cond b (d ∷ filter (λ x. open_in (g x)) ds) (filter (λ x. open_in (g x)) ds)) (open-close d (d == c) refl (eqb-turned c d))
        ∙ both_filters d (open_in (f d)) (d == c) (filter (λ x. open_in (g x)) ds) (filter (λ x. open_in (f x)) ds) refl (filter-close ds)

    close_one : (d : ℕ) (a same : Bool) (ls ms : List Connection) → (d == c) ≡ same → (c == d) ≡ same → ms ≡ filter (λ l. not (l.number == c)) ls
        → cond (a && not same) (connection_of_facts d (g d) ∷ ms) ms ≡ filter (λ l. not (l.number == c)) (cond a (connection_of_facts d (f d) ∷ ls) ls)
    close_one d true true ls ms e e' r =
        r ∙ sym (ap (λ b. cond (not b) (connection_of_facts d (f d) ∷ filter (λ l. not (l.number == c)) ls) (filter (λ l. not (l.number == c)) ls)) e)
    close_one d true false ls ms e e' r =
        ap (λ x. connection_of_facts d x ∷ ms) (others d e') ∙ ap (λ xs. connection_of_facts d (f d) ∷ xs) r
        ∙ sym (ap (λ b. cond (not b) (connection_of_facts d (f d) ∷ filter (λ l. not (l.number == c)) ls) (filter (λ l. not (l.number == c)) ls)) e)
    close_one d false true ls ms e e' r = r
    close_one d false false ls ms e e' r = r

    pub connections-close : (ds : List ℕ) → connections_by g ds ≡ filter (λ l. not (l.number == c)) (connections_by f ds)
    connections-close [] = refl
    connections-close (d ∷ ds) =
        connections-cons g d ds
        ∙ ap (λ b. cond b (connection_of_facts d (g d) ∷ connections_by g ds) (connections_by g ds)) (open-close d (d == c) refl (eqb-turned c d))
        ∙ close_one d (open_in (f d)) (d == c) (connections_by f ds) (connections_by g ds) refl (eqb-turned c d) (connections-close ds)
        ∙ ap (filter (λ l. not (l.number == c))) (sym (connections-cons f d ds))

-- ---- the connection after a step of its own

pub behind-one : (n : ℕ) (bytes : List ℕ) → behind_lines (suc n) bytes ≡ behind_lines 1 (behind_lines n bytes)
behind-one zero bytes = refl
behind-one (suc n) bytes = behind-one n (unwrap_or (cut_at 10 bytes).1 [])

one_more : (n : ℕ) → 1 + n ≡ suc n
one_more n = omega arith

module _ (c : ℕ) (line : List ℕ) (bytes : List ℕ) (n : ℕ) (before : ℕ) where
  abbrev stands_by : (held none : Bool) → List ℕ → Standing
  stands_by held none l = cond held (Held l) (cond (none && not held) (Waiting l) Ready)

  abbrev connection_then : Option (List ℕ) → Bool → Connection
  connection_then reply held =
      record {
        number = c;
        unread = cond (held || (is_none reply && not held)) (behind_lines 1 (behind_lines (cond (is_some reply) 1 0 + n) bytes)) (behind_lines (cond (is_some reply) 1 0 + n) bytes);
        standing = stands_by held (is_none reply) (unwrap_or (first_line (behind_lines (cond (is_some reply) 1 0 + n) bytes)) []);
        waited = cond (is_some reply) 0 (cond (is_none reply && not held) 1 0 + before);
      }

  pub connection-then : (reply : Option (List ℕ)) (held : Bool) (unread : List ℕ) → (held ≡ true → is_none reply ≡ true) → unread ≡ behind_lines 1 (behind_lines n bytes) → first_line (behind_lines n bytes) ≡ Some line
      → connection_then reply held ≡ record { number = c; unread = unread; standing = stands_by held (is_none reply) line; waited = cond (is_some reply) 0 (cond (is_none reply && not held) 1 0 + before) }
  connection-then (Some reply) true unread h u l = absurd (true≢false (sym (h refl)))
  connection-then (Some reply) false unread h u l =
      ap (λ bs. record { number = c; unread = bs; standing = Ready; waited = 0 }) (ap (λ m. behind_lines m bytes) (one_more n) ∙ behind-one n bytes ∙ sym u)
  connection-then None true unread h u l =
      ap (λ m. record { number = c; unread = behind_lines 1 (behind_lines m bytes); standing = Held (unwrap_or (first_line (behind_lines m bytes)) []); waited = 0 + before }) (zero-add n)
      ∙ ap (λ bs. record { number = c; unread = bs; standing = Held (unwrap_or (first_line (behind_lines n bytes)) []); waited = 0 + before }) (sym u)
      ∙ ap (λ o. record { number = c; unread = unread; standing = Held (unwrap_or o []); waited = 0 + before }) l
  connection-then None false unread h u l =
      ap (λ m. record { number = c; unread = behind_lines 1 (behind_lines m bytes); standing = Waiting (unwrap_or (first_line (behind_lines m bytes)) []); waited = 1 + before }) (zero-add n)
      ∙ ap (λ bs. record { number = c; unread = bs; standing = Waiting (unwrap_or (first_line (behind_lines n bytes)) []); waited = 1 + before }) (sym u)
      ∙ ap (λ o. record { number = c; unread = unread; standing = Waiting (unwrap_or o []); waited = 1 + before }) l

-- the connection after a step is what the history says, where the line is the one due and is now read
pub connection-ran : (c : ℕ) (past : History) (task : Option Task) (step : Step) (effect : Effect)
    → (is_held effect ≡ true → is_none effect.reply ≡ true)
    → (connection_after task step effect (connection_of_facts c (facts c past))).unread ≡ behind_lines 1 (unanswered c past)
    → first_line (unanswered c past) ≡ Some step.line
    → connection_of_facts c (ran_by c effect past true) ≡ connection_after task step effect (connection_of_facts c (facts c past))
connection-ran c past task step effect h u l =
    connection-then c step.line (facts c past).bytes (facts c past).replies (facts c past).times effect.reply (is_held effect) _ h u l
