-- Calls keep a sound state sound.
use Rattle.std.proofs.Common.{◌≡◌, refl, ap, sym, ◌∙◌, subst, ℕ, ◌+◌, ◌<◌, arith, Bool, true, false, true≢false, cond, List, [], ◌∷◌, ◌++◌, Option, Some, None, map, is_some, inl, inr, ◌⊎◌}
use Rattle.std.proofs.lemmas.Bool.{cases_Bool, ne_eqb}
use Rattle.engine_reference.specs.declared.data.Entry.{Entry}
use Rattle.engine_reference.specs.declared.data.Record.{Record}
use Rattle.engine_reference.specs.declared.data.Unsent.{Unsent}
use Rattle.engine_reference.specs.declared.data.Write.{Write}
use Rattle.engine_reference.specs.declared.data.Write.TheVariants.{Put, Removed}
use Rattle.engine_reference.specs.Calls.{with_written, first_entry, next_entry, with_sent, unsent_at, without_ticket, with_removed, MaintainsIfDue, with_read, used_entry}
use Rattle.engine_reference.specs.Laws.{CallsStaySound}
use Rattle.engine_reference.specs.Records.{record_at, held_at, changed_at, held_weight}
use Rattle.engine_reference.specs.Runs.{is_due}
use Rattle.engine_reference.specs.Soundness.{IsIn, number_of, IsPending, Each, AreNumbered, IsLastOf, Fits, IsAccounted, IsSound}
use Rattle.engine_reference.specs.State.{State, Answers}
use Rattle.engine_reference.specs.Visible.{visible_record}
use Rattle.engine_reference.proofs.Accounts.{IsIn-append_left, IsIn-append_right, each-map, each-both, only_one, numbered-changed, each-changed}
use Rattle.engine_reference.proofs.SoundSteps.{run-sound}
use Rattle.std.proofs.lemmas.Bool.Decides.{nat_tests}

-- ---- what is pending after one more write, or after a ticket was sent

pushed_in : (us : List Unsent) (u : Unsent) (v : Write) → IsIn v (map (λ x. x.write) us) → IsIn v (map (λ x. x.write) (us ++ u ∷ []))
pushed_in [] u v h = elim h [ ]
pushed_in (x ∷ us) u v (inl e) = inl e
pushed_in (x ∷ us) u v (inr h) = inr (pushed_in us u v h)

pushed_last : (us : List Unsent) (u : Unsent) → IsIn u.write (map (λ x. x.write) (us ++ u ∷ []))
pushed_last [] u = inl refl
pushed_last (x ∷ us) u = inr (pushed_last us u)

pushed_out : (us : List Unsent) (u : Unsent) (v : Write) → IsIn v (map (λ x. x.write) (us ++ u ∷ [])) → IsIn v (map (λ x. x.write) us) ⊎ (u.write ≡ v)
pushed_out [] u v (inl e) = inr e
pushed_out [] u v (inr h) = elim h [ ]
pushed_out (x ∷ us) u v (inl e) = inl (inl e)
pushed_out (x ∷ us) u v (inr h) = elim (pushed_out us u v h) [ inl k ↦ inl (inr k) | inr e ↦ inr e ]

still : (us : List Unsent) (ws : List Write) (u : Unsent) (v : Write) → IsPending us ws v → IsPending (us ++ u ∷ []) ws v
still us ws u v (inl h) = inl (pushed_in us u v h)
still us ws u v (inr h) = inr h

before : (us : List Unsent) (ws : List Write) (u : Unsent) (v : Write) → IsPending (us ++ u ∷ []) ws v → IsPending us ws v ⊎ (u.write ≡ v)
before us ws u v (inl h) = elim (pushed_out us u v h) [ inl k ↦ inl (inl k) | inr e ↦ inr e ]
before us ws u v (inr h) = inl (inr h)

ticket_in : (ticket : ℕ) (us : List Unsent) (w : Write) → unsent_at us ticket ≡ Some w → IsIn w (map (λ x. x.write) us)
ticket_in ticket [] w h = absurd (cc)
ticket_in ticket (u ∷ us) w h = let next = ticket_in ticket us w in grind (arith, nat_tests, h, next)

ticket_other : (ticket : ℕ) (us : List Unsent) (w v : Write) → unsent_at us ticket ≡ Some w → IsIn v (map (λ x. x.write) us) → IsIn v (map (λ x. x.write) (without_ticket ticket us)) ⊎ (w ≡ v)
ticket_other ticket [] w v h k = elim k [ ]
ticket_other ticket (u ∷ us) w v h k = let next = ticket_other ticket us w v in grind (arith, nat_tests, h, k, next)

ticket_back : (ticket : ℕ) (us : List Unsent) (v : Write) → IsIn v (map (λ x. x.write) (without_ticket ticket us)) → IsIn v (map (λ x. x.write) us)
ticket_back ticket [] v h = h
ticket_back ticket (u ∷ us) v h = let next = ticket_back ticket us v in grind (arith, nat_tests, h, next)

in_appended : (v w : Write) (ws : List Write) → IsIn v (ws ++ w ∷ []) → IsIn v ws ⊎ (w ≡ v)
in_appended v w [] (inl e) = inr e
in_appended v w [] (inr h) = elim h [ ]
in_appended v w (x ∷ ws) (inl e) = inl (inl e)
in_appended v w (x ∷ ws) (inr h) = elim (in_appended v w ws h) [ inl k ↦ inl (inr k) | inr e ↦ inr e ]

-- ---- records

module _ {K V : Type 0} where
  -- the same writes are pending, in another place
  pub accounted-same : (us us' : List Unsent) (ws ws' : List Write) → ((v : Write) → IsPending us ws v → IsPending us' ws' v) → ((v : Write) → IsPending us' ws' v → IsPending us ws v)
      → (r : Record K V) → IsAccounted us ws r → IsAccounted us' ws' r
  accounted-same us us' ws ws' to from r h = record {
    applied = h.applied;
    counts = h.counts;
    waits = λ unsettled. let l = h.waits unsettled in (l.0, to l.0 l.1, l.2);
    fits = λ v p. h.fits v (from v p);
  }

  -- one more write is pending, of another record
  accounted-more : (us : List Unsent) (ws : List Write) (u : Unsent) (r : Record K V) → Fits u.write r → IsAccounted us ws r → IsAccounted (us ++ u ∷ []) ws r
  accounted-more us ws u r fit h = record {
    applied = h.applied;
    counts = h.counts;
    waits = λ unsettled. let l = h.waits unsettled in (l.0, still us ws u l.0 l.1, l.2);
    fits = λ v p. elim (before us ws u v p) [ inl k ↦ h.fits v k | inr e ↦ subst (λ z. Fits z r) e fit ];
  }

  fits-other : (w : Write) (r : Record K V) → (number_of w ≡ r.number → ⊥) → Fits w r
  fits-other (Put u) r other = λ e. absurd (other e)
  fits-other (Removed n) r other = λ e. absurd (other e)

  -- an older write fits a record that was written once more, or removed
  fits-next : (v : Write) (r : Record K V) (e : Entry K V) → Fits v r → Fits v (record r { entry = e; writes = r.writes + 1 })
  fits-next (Put u) r e h = λ same. let k = (h same).earlier in record { earlier = omega arith; last = λ l. absurd (omega arith) }
  fits-next (Removed n) r e h = h

  fits-removed : (v : Write) (r : Record K V) → Fits v r → Fits v (record r { is_held = false; writes = r.writes + 1 })
  fits-removed (Put u) r h = λ same. let k = (h same).earlier in record { earlier = omega arith; last = λ l. absurd (omega arith) }
  fits-removed (Removed n) r h = λ same. refl

  accounted-removed : (us : List Unsent) (ws : List Write) (ticket : ℕ) (r : Record K V) → IsAccounted us ws r
      → IsAccounted (us ++ (record { ticket = ticket; write = Removed r.number }) ∷ []) ws (record r { is_held = false; writes = r.writes + 1 })
  accounted-removed us ws ticket r h =
      let u : Unsent = record { ticket = ticket; write = Removed r.number } in
      let upper = h.applied in
      record {
        applied = omega arith;
        counts = λ e. absurd (omega arith);
        waits = λ unsettled. (u.write, inl (pushed_last us u), (refl, refl));
        fits = λ v p. elim (before us ws u v p) [ inl k ↦ fits-removed v r (h.fits v k) | inr e ↦ subst (λ z. Fits z (record r { is_held = false; writes = r.writes + 1 })) e (λ same. refl) ];
      }

  accounted-written : (us : List Unsent) (ws : List Write) (ticket hash kept : ℕ) (r : Record K V) (e : Entry K V) → r.is_held ≡ true → IsAccounted us ws r
      → IsAccounted (us ++ (record { ticket = ticket; write = Put (record { number = r.number; write = r.writes + 1; weight = e.weight; hash = hash; kept = kept }) }) ∷ []) ws (record r { entry = e; writes = r.writes + 1 })
  accounted-written us ws ticket hash kept r e held h =
      let u : Unsent = record { ticket = ticket; write = Put (record { number = r.number; write = r.writes + 1; weight = e.weight; hash = hash; kept = kept }) } in
      let upper = h.applied in
      record {
        applied = omega arith;
        counts = λ l. absurd (omega arith);
        waits = λ unsettled. (u.write, inl (pushed_last us u), (refl, refl));
        fits = λ v p. elim (before us ws u v p) [
          | inl k ↦ fits-next v r e (h.fits v k)
          | inr same ↦ subst (λ z. Fits z (record r { entry = e; writes = r.writes + 1 })) same (λ own. record { earlier = omega arith; last = λ l. (held, refl) })
        ];
      }

  accounted-first : (us : List Unsent) (ws : List Write) (ticket hash kept next : ℕ) (e : Entry K V) → ((v : Write) → IsPending us ws v → number_of v < next)
      → IsAccounted (us ++ (record { ticket = ticket; write = Put (record { number = next; write = 1; weight = e.weight; hash = hash; kept = kept }) }) ∷ []) ws
      (record { number = next; hash = hash; entry = e; is_held = true; writes = 1; applied = 0; counts = None })
  accounted-first us ws ticket hash kept next e named =
      let u : Unsent = record { ticket = ticket; write = Put (record { number = next; write = 1; weight = e.weight; hash = hash; kept = kept }) } in
      let r : Record K V = record { number = next; hash = hash; entry = e; is_held = true; writes = 1; applied = 0; counts = None } in
      record {
        applied = omega arith;
        counts = λ l. absurd (omega arith);
        waits = λ unsettled. (u.write, inl (pushed_last us u), (refl, refl));
        fits = λ v p. elim (before us ws u v p) [
          | inl k ↦ (let less = named v k in fits-other v r (λ same. omega arith))
          | inr same ↦ subst (λ z. Fits z r) same (λ own. record { earlier = omega arith; last = λ l. (refl, refl) })
        ];
      }

  -- a use changes neither weight nor writes
  fits-used : (v : Write) (r : Record K V) (e : Entry K V) → e.weight ≡ r.entry.weight → Fits v r → Fits v (record r { entry = e })
  fits-used (Put u) r e same h = λ own. let k = h own in record { earlier = k.earlier; last = λ l. ((k.last l).0, (k.last l).1 ∙ sym same) }
  fits-used (Removed n) r e same h = h

  last-used : (v : Write) (r : Record K V) (e : Entry K V) → IsLastOf v r → IsLastOf v (record r { entry = e })
  last-used (Put u) r e h = h
  last-used (Removed n) r e h = h

  accounted-used : (us : List Unsent) (ws : List Write) (r : Record K V) (e : Entry K V) → e.weight ≡ r.entry.weight → IsAccounted us ws r → IsAccounted us ws (record r { entry = e })
  accounted-used us ws r e same h = record {
    applied = h.applied;
    counts = λ l. let k = h.counts l in (k.0, k.1 ∙ ap Some (sym same));
    waits = λ unsettled. let l = h.waits unsettled in (l.0, l.1, last-used l.0 r e l.2);
    fits = λ v p. fits-used v r e same (h.fits v p);
  }

  -- the record of a key
  pub held_at-each : (Q : Record K V → Type 0) (eq : K → K → Bool) (rs : List (Record K V)) (key : K) (r : Record K V) → Each Q rs → held_at eq rs key ≡ Some r → Q r × (r.is_held ≡ true)
  held_at-each Q eq [] key r h e = absurd (cc)
  held_at-each Q eq (x ∷ rs) key r h e = let next = held_at-each Q eq rs key r h.1 in grind (arith, nat_tests, e, next)

  -- every record of its number is that record
  pub held_at-only : (eq : K → K → Bool) (rs : List (Record K V)) (key : K) (r : Record K V) → AreNumbered rs → held_at eq rs key ≡ Some r → record_at rs r.number ≡ Some r
  held_at-only eq [] key r numbered e = absurd (cc)
  held_at-only eq (x ∷ rs) key r numbered e = let next = held_at-only eq rs key r numbered.1 in grind (arith, nat_tests, e, next)

  pub each-push : (Q : Record K V → Type 0) (rs : List (Record K V)) (x : Record K V) → Each Q rs → Q x → Each Q (rs ++ x ∷ [])
  each-push Q [] x h k = (k, tt)
  each-push Q (r ∷ rs) x h k = (h.0, each-push Q rs x h.1 k)

  record_at-push_none : (rs : List (Record K V)) (x : Record K V) (n : ℕ) → record_at rs n ≡ None → (x.number ≡ n → ⊥) → record_at (rs ++ x ∷ []) n ≡ None
  record_at-push_none [] x n h other = ap (λ b. cond b (Some x) None) (ne_eqb x.number n other)
  record_at-push_none (r ∷ rs) x n h other =
      let next : record_at rs n ≡ None → record_at (rs ++ x ∷ []) n ≡ None = λ e. record_at-push_none rs x n e other in
      grind (arith, nat_tests, h, next)

  pub numbered-push : (next : ℕ) (rs : List (Record K V)) (x : Record K V) → x.number ≡ next → Each (λ r. r.number < next) rs → AreNumbered rs → AreNumbered (rs ++ x ∷ [])
  numbered-push next [] x e below h = (refl, tt)
  numbered-push next (r ∷ rs) x e below h =
      let less = below.0 in
      (record_at-push_none rs x r.number h.0 (λ same. omega arith), numbered-push next rs x e below.1 h.1)

-- ---- calls

module _ {K V P S R : Type 0} where
  sent-sound : (ticket : ℕ) (s : State K V P S R) (o : Option Write) → unsent_at s.unsent ticket ≡ o → IsSound s → IsSound (with_sent ticket o s)
  sent-sound ticket s None e h = h
  sent-sound ticket s (Some w) e h = record {
    records = record {
      numbered = h.records.numbered;
      below = h.records.below;
      accounted = each-map (IsAccounted s.unsent s.writes) (IsAccounted (without_ticket ticket s.unsent) (s.writes ++ w ∷ [])) (accounted-same s.unsent (without_ticket ticket s.unsent) s.writes (s.writes ++ w ∷ []) to from) s.records h.records.accounted;
      listed = h.records.listed;
      once = h.records.once;
    };
    named = λ v p. h.named v (from v p);
  }
    where
      to : (v : Write) → IsPending s.unsent s.writes v → IsPending (without_ticket ticket s.unsent) (s.writes ++ w ∷ []) v
      to v (inl k) = elim (ticket_other ticket s.unsent w v e k) [ inl l ↦ inl l | inr same ↦ inr (IsIn-append_right v s.writes (w ∷ []) (inl same)) ]
      to v (inr k) = inr (IsIn-append_left v s.writes (w ∷ []) k)

      from : (v : Write) → IsPending (without_ticket ticket s.unsent) (s.writes ++ w ∷ []) v → IsPending s.unsent s.writes v
      from v (inl k) = inl (ticket_back ticket s.unsent v k)
      from v (inr k) = elim (in_appended v w s.writes k) [ inl l ↦ inr l | inr same ↦ inl (subst (λ z. IsIn z (map (λ x. x.write) s.unsent)) same (ticket_in ticket s.unsent w e)) ]

  removed-sound : (eq : K → K → Bool) (key : K) (s : State K V P S R) (o : Option (Record K V)) → held_at eq s.records key ≡ o → IsSound s → IsSound (with_removed o s)
  removed-sound eq key s None e h = h
  removed-sound eq key s (Some r) e h =
      let u : Unsent = record { ticket = s.next_ticket; write = Removed r.number } in
      let f = λ (x : Record K V). record x { is_held = false; writes = x.writes + 1 } in
      let low = (held_at-each (λ x. x.number < s.next_number) eq s.records key r h.records.below e).0 in
      record {
        records = record {
          numbered = numbered-changed r.number f (λ x. refl) s.records h.records.numbered;
          below = each-changed r.number f (λ x. x.number < s.next_number) (λ x. x.number < s.next_number) (λ x same k. k) (λ x other k. k) s.records h.records.numbered h.records.below;
          accounted = each-changed r.number f (IsAccounted s.unsent s.writes) (IsAccounted (s.unsent ++ u ∷ []) s.writes)
              (λ x same k. subst (λ n. IsAccounted (s.unsent ++ (record { ticket = s.next_ticket; write = Removed n }) ∷ []) s.writes (f x)) same (accounted-removed s.unsent s.writes s.next_ticket x k))
              (λ x other k. accounted-more s.unsent s.writes u x (λ same. absurd (other (sym same))) k) s.records h.records.numbered h.records.accounted;
          listed = each-changed r.number f (λ x. is_some x.counts ≡ true → IsIn x.number s.access) (λ x. is_some x.counts ≡ true → IsIn x.number s.access) (λ x same k. k) (λ x other k. k) s.records h.records.numbered h.records.listed;
          once = h.records.once;
        };
        named = λ v p. elim (before s.unsent s.writes u v p) [ inl k ↦ h.named v k | inr same ↦ subst (λ z. number_of z < s.next_number) same low ];
      }

  pub used-sound : (answers : Answers K V P R) (o : Option (Record K V)) (hash now : ℕ) (s : State K V P S R) → IsSound s → IsSound (with_read answers o hash now s)
  used-sound answers None hash now s h = record { records = h.records; named = h.named }
  used-sound answers (Some r) hash now s h =
      let f = λ (x : Record K V). record x { entry = used_entry answers s now x.entry } in
      record {
        records = record {
          numbered = numbered-changed r.number f (λ x. refl) s.records h.records.numbered;
          below = each-changed r.number f (λ x. x.number < s.next_number) (λ x. x.number < s.next_number) (λ x same k. k) (λ x other k. k) s.records h.records.numbered h.records.below;
          accounted = each-changed r.number f (IsAccounted s.unsent s.writes) (IsAccounted s.unsent s.writes) (λ x same k. accounted-used s.unsent s.writes x (used_entry answers s now x.entry) refl k) (λ x other k. k) s.records h.records.numbered h.records.accounted;
          listed = each-changed r.number f (λ x. is_some x.counts ≡ true → IsIn x.number s.access) (λ x. is_some x.counts ≡ true → IsIn x.number s.access) (λ x same k. k) (λ x other k. k) s.records h.records.numbered h.records.listed;
          once = h.records.once;
        };
        named = h.named;
      }

  maintained-sound : (answers : Answers K V P R) (now : ℕ) (old new : State K V P S R) → IsSound old → MaintainsIfDue answers now old new → IsSound new
  maintained-sound answers now old new h k = elim (cases_Bool (is_due old now)) [ inl is ↦ run-sound answers now old new h (rw is at k).runs | inr is ↦ subst (λ t. IsSound t) (sym (rw is at k)) h ]

  written-sound : (eq : K → K → Bool) (answers : Answers K V P R) (s : State K V P S R) (key : K) (hash : ℕ) (value : V) (now step : ℕ) (o : Option (Record K V)) → held_at eq s.records key ≡ o
      → IsSound s → IsSound (with_written answers o s key hash value now step)
  written-sound eq answers s key hash value now step None e h =
      let x : Record K V = record { number = s.next_number; hash = hash; entry = first_entry answers s key value now step; is_held = true; writes = 1; applied = 0; counts = None } in
      let rs = s.records ++ x ∷ [] in
      let u : Unsent = record { ticket = s.next_ticket; write = Put (record { number = s.next_number; write = 1; weight = x.entry.weight; hash = hash; kept = held_weight rs }) } in
      record {
        records = record {
          numbered = numbered-push s.next_number s.records x refl h.records.below h.records.numbered;
          below = each-push (λ r. r.number < s.next_number + 1) s.records x (each-map (λ r. r.number < s.next_number) (λ r. r.number < s.next_number + 1) (λ r k. omega arith) s.records h.records.below) (omega arith);
          accounted = each-push (IsAccounted (s.unsent ++ u ∷ []) s.writes) s.records x
              (each-map (λ r. (r.number < s.next_number) × IsAccounted s.unsent s.writes r) (IsAccounted (s.unsent ++ u ∷ []) s.writes)
              (λ r k. let less = k.0 in accounted-more s.unsent s.writes u r (λ same. absurd (omega arith)) k.1) s.records (each-both (λ r. r.number < s.next_number) (IsAccounted s.unsent s.writes) s.records h.records.below h.records.accounted))
              (accounted-first s.unsent s.writes s.next_ticket hash (held_weight rs) s.next_number x.entry h.named);
          listed = each-push (λ r. is_some r.counts ≡ true → IsIn r.number s.access) s.records x h.records.listed (λ counts. absurd (true≢false (sym counts)));
          once = h.records.once;
        };
        named = λ v p. elim (before s.unsent s.writes u v p) [ inl k ↦ (let less = h.named v k in omega arith) | inr same ↦ subst (λ z. number_of z < s.next_number + 1) same (omega arith) ];
      }
  written-sound eq answers s key hash value now step (Some r) e h =
      let entry = next_entry answers s r.entry key value now step in
      let f = λ (x : Record K V). record x { entry = entry; writes = x.writes + 1 } in
      let rs = changed_at r.number f s.records in
      let u : Unsent = record { ticket = s.next_ticket; write = Put (record { number = r.number; write = r.writes + 1; weight = entry.weight; hash = hash; kept = held_weight rs }) } in
      let found = held_at-each (λ x. x.number < s.next_number) eq s.records key r h.records.below e in
      record {
        records = record {
          numbered = numbered-changed r.number f (λ x. refl) s.records h.records.numbered;
          below = each-changed r.number f (λ x. x.number < s.next_number) (λ x. x.number < s.next_number) (λ x same k. k) (λ x other k. k) s.records h.records.numbered h.records.below;
          accounted = each-changed r.number f (λ x. (x.number ≡ r.number → x ≡ r) × IsAccounted s.unsent s.writes x) (IsAccounted (s.unsent ++ u ∷ []) s.writes)
              (λ x same k. subst (λ y. IsAccounted s.unsent s.writes y → IsAccounted (s.unsent ++ u ∷ []) s.writes (f y)) (sym (k.0 same))
              (λ a. accounted-written s.unsent s.writes s.next_ticket hash (held_weight rs) r entry found.1 a) k.1)
              (λ x other k. accounted-more s.unsent s.writes u x (λ same. absurd (other (sym same))) k.1) s.records h.records.numbered
              (each-both (λ x. x.number ≡ r.number → x ≡ r) (IsAccounted s.unsent s.writes) s.records (only_one r.number r s.records h.records.numbered (held_at-only eq s.records key r h.records.numbered e)) h.records.accounted);
          listed = each-changed r.number f (λ x. is_some x.counts ≡ true → IsIn x.number s.access) (λ x. is_some x.counts ≡ true → IsIn x.number s.access) (λ x same k. k) (λ x other k. k) s.records h.records.numbered h.records.listed;
          once = h.records.once;
        };
        named = λ v p. elim (before s.unsent s.writes u v p) [ inl k ↦ h.named v k | inr same ↦ subst (λ z. number_of z < s.next_number) same found.0 ];
      }

module _ (K V P S R : Type 0) where
  pub calls_stay_sound : CallsStaySound K V P S R
  calls_stay_sound = record {
    empty = λ s none access unsent writes. record {
      records = rw (none, access, unsent, writes) (record { numbered = tt; below = tt; accounted = tt; listed = tt; once = tt });
      named = λ w p. absurd (nothing w (subst (λ us. IsPending us [] w) unsent (subst (λ ws. IsPending s.unsent ws w) writes p)));
    };
    written = λ eq answers s key hash value now step h. written-sound eq answers s key hash value now step (held_at eq s.records key) refl h;
    sent = λ ticket s h. sent-sound ticket s (unsent_at s.unsent ticket) refl h;
    removed = λ eq key s h. removed-sound eq key s (held_at eq s.records key) refl h;
    removal_told = λ answers e now s h. record { records = h.records; named = h.named };
    looks_up = λ answers eq key hash now old new h k.
        subst (λ t. IsSound t) (sym k.reads) (used-sound answers (visible_record answers eq old now key) hash now k.mid (maintained-sound answers now old k.mid h k.maintains));
    cleared = λ step s h. record { records = h.records; named = h.named };
    covered = λ p s h. record { records = h.records; named = h.named };
    room = λ s h. record { records = h.records; named = h.named };
    released = λ s h. record { records = h.records; named = h.named };
    taken = λ s h. record { records = h.records; named = h.named };
  }
    where
      nothing : (w : Write) → IsPending [] [] w → ⊥
      nothing w (inl h) = h
      nothing w (inr h) = h
