-- Calls and runs keep a part close: the uses of its records go with the access list.
use Rattle.std.proofs.Common.{◌≡◌, refl, ap, sym, ◌∙◌, subst, ℕ, ◌+◌, ◌<◌, ◌≤◌, arith, Bool, true, false, true≢false, cond, List, [], ◌∷◌, ◌++◌, length, map, append_assoc, append-nil, Option, Some, None, is_some, inl, inr, ◌⊎◌, eqb, ◌==◌, ◌||◌}
use Rattle.std.specs.Prelude.{nat_le, MatchBool}
use Rattle.std.proofs.lemmas.Bool.{cases_Bool, eqb-true, eq-eqb, ne_eqb, leb-false, cases_eq}
use Rattle.engine_reference.specs.declared.data.Record.{Record}
use Rattle.engine_reference.specs.declared.data.Read.{Read}
use Rattle.engine_reference.specs.declared.data.Read.TheVariants.{Hit, Miss}
use Rattle.engine_reference.specs.declared.data.Unsent.{Unsent}
use Rattle.engine_reference.specs.declared.data.Write.{Write}
use Rattle.engine_reference.specs.declared.data.Write.TheVariants.{Put, Removed}
use Rattle.engine_reference.specs.Calls.{with_written, sent, with_sent, unsent_at, without_ticket, with_removed, removal_told, with_read, without_notice, cleared_by, with_predicate, first_entry, next_entry, used_entry, MaintainsIfDue}
use Rattle.engine_reference.specs.Records.{record_at, held_at, changed_at, is_settled}
use Rattle.engine_reference.specs.Runs.{Runs, RunsToEnd, is_due}
use Rattle.engine_reference.specs.Soundness.{Each, IsIn, IsAccounted, IsSound, Fits, number_of}
use Rattle.engine_reference.specs.State.{State, Answers}
use Rattle.engine_reference.specs.Times.{end_of, is_reached}
use Rattle.engine_reference.proofs.Accounts.{in_pushed, each-map, each-both, each-changed}
use Rattle.engine_reference.proofs.HeldRecords.{record_at-number}
use Rattle.engine_reference.proofs.SoundCalls.{each-push}
use Rattle.engine_reference.proofs.SoundSteps.{IsCounted}
use Rattle.engine_reference.specs.RunLaws.Points.{AreRising, NoneOf, pending_of, IsInOrder}
use Rattle.engine_reference.specs.RunLaws.Sweeping.{InOrderBy, IsUsedBefore}
use Rattle.engine_reference.proofs.run_laws.Fronting.{each-at, or_right}
use Rattle.engine_reference.specs.RunLaws.Just.{ComesFrom}
use Rattle.engine_reference.proofs.run_laws.Rising.{each-own, none_later, rising-own}
use Rattle.engine_reference.proofs.run_laws.Swept.{run-leaves, changed-other}
use Rattle.front_reference.specs.Closeness.{hits, EndsBy, IsWaiting, IsCloseTo, IsSince, IsNear, IsClose}
use Rattle.front_reference.specs.Laws.Laws.{CallsStayClose}
use Rattle.front_reference.proofs.laws.Close.{Still, order-map, LateIsLast, IsSettledNear, Closing, run-close}
use Rattle.std.proofs.lemmas.Bool.Decides.{nat_tests}

-- ---- what waits

-- a read more of a record that was found, or of none
hits-hit : (n hash : ℕ) (rs : List Read) → hits (rs ++ Hit n hash ∷ []) ≡ hits rs ++ n ∷ []
hits-hit n hash [] = refl
hits-hit n hash (Hit m h ∷ rs) = ap (λ ns. m ∷ ns) (hits-hit n hash rs)
hits-hit n hash (Miss h ∷ rs) = hits-hit n hash rs

hits-miss : (hash : ℕ) (rs : List Read) → hits (rs ++ Miss hash ∷ []) ≡ hits rs
hits-miss hash [] = refl
hits-miss hash (Hit m h ∷ rs) = ap (λ ns. m ∷ ns) (hits-miss hash rs)
hits-miss hash (Miss h ∷ rs) = hits-miss hash rs

-- a number more at the back
in-pushed : (n m : ℕ) (ns : List ℕ) → IsIn m ns → IsIn m (ns ++ n ∷ [])
in-pushed n m [] i = elim i [ ]
in-pushed n m (x ∷ ns) (inl e) = inl e
in-pushed n m (x ∷ ns) (inr i) = inr (in-pushed n m ns i)

last-pushed : (n : ℕ) (ns : List ℕ) → IsIn n (ns ++ n ∷ [])
last-pushed n [] = inl refl
last-pushed n (x ∷ ns) = inr (last-pushed n ns)

-- ---- what was written last

-- not a record of which no write is pending
ends-none : (n : ℕ) (ws : List Write) → EndsBy n ws → NoneOf n ws → ⊥
ends-none n [] ends none = ends
ends-none n (w ∷ ws) (inl last) none = none.0 last.1
ends-none n (w ∷ ws) (inr ends) none = ends-none n ws ends none.1

-- what comes before does not matter
ends-after : (n : ℕ) (ws vs : List Write) → EndsBy n vs → EndsBy n (ws ++ vs)
ends-after n [] vs ends = ends
ends-after n (w ∷ ws) vs ends = inr (ends-after n ws vs ends)

-- a write that waits to be sent comes last
ends-unsent : (us : List Unsent) (u : Unsent) → EndsBy (number_of u.write) (map (λ x. x.write) (us ++ u ∷ []))
ends-unsent [] u = inl (refl, refl)
ends-unsent (x ∷ us) u = inr (ends-unsent us u)

-- the first write does not matter where there are others
ends-rest : (w : Write) (ws : List Write) (A : Type 0) (n : ℕ) → A ⊎ EndsBy n (w ∷ ws) → (ws ≡ [] → ⊥) → A ⊎ EndsBy n ws
ends-rest w ws A n (inl a) some = inl a
ends-rest w ws A n (inr (inl last)) some = absurd (some last.0)
ends-rest w ws A n (inr (inr ends)) some = inr ends

module _ {K V P S R : Type 0} where
  -- where all tickets were sent, what is pending is the queue
  pending-sent : (s : State K V P S R) → s.unsent ≡ [] → pending_of s ≡ s.writes
  pending-sent s none = ap (λ us. s.writes ++ map (λ u. u.write) us) none ∙ append-nil s.writes

-- ---- lists of records

module _ {K V : Type 0} where
  -- what is found with one more was there before, or is that one
  pushed-from : (rs : List (Record K V)) (x : Record K V) (n : ℕ) (r : Record K V) → record_at (rs ++ x ∷ []) n ≡ Some r → (record_at rs n ≡ Some r) ⊎ (r ≡ x)
  pushed-from [] x n r e = grind (arith, nat_tests, e)
  pushed-from (y ∷ rs) x n r e = let next = pushed-from rs x n r in grind (arith, nat_tests, e, next)

  -- the record that was changed
  changed-own : (n : ℕ) (f : Record K V → Record K V) → ((x : Record K V) → (f x).number ≡ x.number) → (rs : List (Record K V)) (r : Record K V) → record_at (changed_at n f rs) n ≡ Some r → (o : Record K V) × (record_at rs n ≡ Some o) × (r ≡ f o)
  changed-own n f number [] r e = absurd (cc)
  changed-own n f number (x ∷ rs) r e =
      elim (cases_Bool (eqb x.number n)) [
        | inl is ↦ rw is (let here : Some (f x) ≡ Some r = sym (ap (λ b. cond b (Some (f x)) (record_at rs n)) (ap (λ m. eqb m n) (number x) ∙ is)) ∙ (rw is at e) in (x, refl, (let same : f x ≡ r = cc in sym same)))
        | inr is ↦ rw is ((changed-own n f number rs r) (sym (ap (λ b. cond b (Some x) (record_at (changed_at n f rs) n)) is) ∙ (rw is at e)))
      ]

  -- where not the last write was applied
  unsettled : (r : Record K V) → (r.writes ≡ r.applied → ⊥) → is_settled r ≡ false
  unsettled r other = ne_eqb r.writes r.applied other

  -- what was used so late was written last
  late-from : (b : ℕ) (rs : List (Record K V)) (ws : List Write) → ((n : ℕ) (r : Record K V) → record_at rs n ≡ Some r → (w : Write) → IsIn w ws → Fits w r)
      → ((n : ℕ) (r : Record K V) → record_at rs n ≡ Some r → (a : ℕ) × AreRising r.number a ws)
      → ((n : ℕ) (r : Record K V) → record_at rs n ≡ Some r → (ws ≡ [] → ⊥) → (r.entry.used < b + 300000000) ⊎ EndsBy r.number ws) → LateIsLast b ws rs
  late-from b rs [] fits rising near = tt
  late-from b rs (Put u ∷ ws) fits rising near = (
    (λ r there same. elim (near u.number r there (λ none. absurd (cc))) [
      | inl less ↦ inl less
      | inr ends ↦ elim ends [
        | inl last ↦ inr last.0
        | inr later ↦ absurd (
            let number = sym (record_at-number rs u.number r there) in
            let own : (w : Write) → IsIn w (Put u ∷ ws) → Fits w r = fits u.number r there in
            let held = ((own (Put u) (inl refl) number).last same).0 in
            ends-none r.number ws later (none_later r u.write ws (rising-own r.number (rising u.number r there).0 u ws (rising u.number r there).1 number) (λ w i. own w (inr i)) (omega (arith, same)) held))
      ]
    ]),
    late-from b rs ws (λ n r there w i. fits n r there w (inr i)) (λ n r there. let k = rising n r there in (cond (u.number == r.number) u.write k.0, k.1.1))
        (λ n r there some. ends-rest (Put u) ws (r.entry.used < b + 300000000) r.number (near n r there (λ none. absurd (cc))) some),
  )
  late-from b rs (Removed m ∷ ws) fits rising near =
      late-from b rs ws (λ n r there w i. fits n r there w (inr i)) (λ n r there. let k = rising n r there in (k.0, k.1))
      (λ n r there some. ends-rest (Removed m) ws (r.entry.used < b + 300000000) r.number (near n r there (λ none. absurd (cc))) some)

  -- ---- one of the records is changed

  module _ (n : ℕ) (f : Record K V → Record K V) (number : (x : Record K V) → (f x).number ≡ x.number) (rs : List (Record K V)) (old new : List Read) where
    -- one that is found stands so to the others, where the changed one waits, or is held no more, or was used later
    order-changed : (ns : List ℕ)
        → ((y : Record K V) → IsWaiting old y → IsWaiting new y)
        → ((o : Record K V) → record_at rs n ≡ Some o → IsWaiting new (f o))
        → ((o : Record K V) → record_at rs n ≡ Some o → (f o).is_held ≡ true → (o.is_held ≡ true) × (is_some (f o).counts ≡ is_some o.counts) × (o.entry.used ≤ (f o).entry.used))
        → InOrderBy (IsCloseTo old) rs ns → InOrderBy (IsCloseTo new) (changed_at n f rs) ns
    order-changed ns more waits grows = order-map (IsCloseTo old) (IsCloseTo new) rs (changed_at n f rs) go ns
      where
        go : (k m : ℕ) (y x : Record K V) → record_at (changed_at n f rs) k ≡ Some y → record_at (changed_at n f rs) m ≡ Some x → Still (IsCloseTo old) (IsCloseTo new) rs (changed_at n f rs) k m y x
        go k m y x here there rel = elim (cases_eq k n) [
          | inl same ↦ λ held ya xa none. (
              let o = changed-own n f number rs y (subst (λ z. record_at (changed_at n f rs) z ≡ Some y) same here) in
              absurd (none (subst (λ z. IsWaiting new z) (sym o.2) (waits o.0 o.1))))
          | inr other ↦ λ held ya xa none. (
              let before : record_at rs k ≡ Some y = sym (changed-other n k f number rs other) ∙ here in
              elim (cases_eq m n) [
                | inl same ↦ (
                    let o = changed-own n f number rs x (subst (λ z. record_at (changed_at n f rs) z ≡ Some x) same there) in
                    let g = grows o.0 o.1 (ap (λ z. z.is_held) (sym o.2) ∙ held) in
                    let less = rel y o.0 before (ap (λ z. record_at rs z) same ∙ o.1) g.0 ya (sym g.1 ∙ ap (λ z. is_some z.counts) (sym o.2) ∙ xa) (λ w. none (more y w)) in
                    let used = ap (λ z. z.entry.used) o.2 in
                    omega (arith, less, g.2, used))
                | inr apart ↦ rel y x before (sym (changed-other n m f number rs apart) ∙ there) held ya xa (λ w. none (more y w))
              ])
        ]

-- ---- single calls

module _ {K V P S R : Type 0} where
  -- only the records, the access list, what waits and the last run matter
  close-same : (late : Bool) (moment : ℕ) (s t : State K V P S R) → t.records ≡ s.records → t.access ≡ s.access → t.reads ≡ s.reads → t.ran ≡ s.ran → pending_of t ≡ pending_of s → IsClose late moment s → IsClose late moment t
  close-same late moment s t records access reads ran pending h = record {
    listed = subst (λ q. InOrderBy (IsCloseTo q) t.records t.access) (sym reads) (subst (λ rs. InOrderBy (IsCloseTo s.reads) rs t.access) (sym records) (subst (λ ns. InOrderBy (IsCloseTo s.reads) s.records ns) (sym access) h.listed));
    waiting = subst (λ n. Each (IsSince n t.reads) t.records) (sym ran)
        (subst (λ q. Each (IsSince s.ran q) t.records) (sym reads) (subst (Each (IsSince s.ran s.reads)) (sym records) h.waiting));
    near = subst (λ n. Each (IsNear late n (pending_of t)) t.records) (sym ran)
        (subst (λ ws. Each (IsNear late s.ran ws) t.records) (sym pending)
        (subst (λ rs. Each (IsNear late s.ran (pending_of s)) rs) (sym records) h.near));
    latest = subst (λ rs. Each (λ r. r.entry.used ≤ moment) rs) (sym records) h.latest;
    ran = subst (λ n. n ≤ moment) (sym ran) h.ran;
  }

  -- time may pass
  pub close-later : (late : Bool) (moment now : ℕ) (s : State K V P S R) → moment ≤ now → IsClose late moment s → IsClose late now s
  close-later late moment now s less h = record {
    listed = h.listed;
    waiting = h.waiting;
    near = h.near;
    latest = each-map (λ r. r.entry.used ≤ moment) (λ r. r.entry.used ≤ now) (λ r low. omega (arith, low, less)) s.records h.latest;
    ran = let low = h.ran in omega arith;
  }

  -- between calls all was used soon after the last run
  all_near : (moment : ℕ) (s : State K V P S R) → IsClose false moment s → Each (λ r. r.entry.used < s.ran + 300000000) s.records
  all_near moment s h = each-map (IsNear false s.ran (pending_of s)) (λ r. r.entry.used < s.ran + 300000000)
      (λ r k. elim k [ inl low ↦ low | inr other ↦ absurd (true≢false (sym other.0)) ]) s.records h.near

  -- between calls more holds than within one that wrote
  pub close-any : (late : Bool) (moment : ℕ) (s : State K V P S R) → IsClose false moment s → IsClose late moment s
  close-any late moment s h = record {
    listed = h.listed;
    waiting = h.waiting;
    near = each-map (λ r. r.entry.used < s.ran + 300000000) (IsNear late s.ran (pending_of s)) (λ r low. inl low) s.records (all_near moment s h);
    latest = h.latest;
    ran = h.ran;
  }

  -- where no run is due the call that wrote may end
  pub close-early : (late : Bool) (now : ℕ) (s : State K V P S R) → now < s.ran + 300000000 → IsClose late now s → IsClose false now s
  close-early late now s early h = record {
    listed = h.listed;
    waiting = h.waiting;
    near = each-map (λ r. r.entry.used ≤ now) (IsNear false s.ran (pending_of s)) (λ r low. inl (omega (arith, low, early))) s.records h.latest;
    latest = h.latest;
    ran = h.ran;
  }

  -- nothing is held
  close-empty : (s : State K V P S R) → s.records ≡ [] → s.access ≡ [] → IsClose false s.ran s
  close-empty s none access = record {
    listed = subst (λ ns. InOrderBy (IsCloseTo s.reads) s.records ns) (sym access) tt;
    waiting = subst (Each (IsSince s.ran s.reads)) (sym none) tt;
    near = subst (λ rs. Each (IsNear false s.ran (pending_of s)) rs) (sym none) tt;
    latest = subst (λ rs. Each (λ r. r.entry.used ≤ s.ran) rs) (sym none) tt;
    ran = omega arith;
  }

  -- sending changes nothing of what is pending
  close-sent : (oldest : Unsent) (rest : List Unsent) (late : Bool) (moment : ℕ) (s : State K V P S R) → s.unsent ≡ oldest ∷ rest → IsClose late moment s → IsClose late moment (sent oldest.ticket s)
  close-sent oldest rest late moment s e h =
      let t : State K V P S R = record s { unsent = rest; writes = s.writes ++ oldest.write ∷ [] } in
      let yes = eq-eqb oldest.ticket oldest.ticket refl in
      let found : unsent_at s.unsent oldest.ticket ≡ Some oldest.write = ap (λ us. unsent_at us oldest.ticket) e ∙ ap (λ b. cond b (Some oldest.write) (unsent_at rest oldest.ticket)) yes in
      let gone : without_ticket oldest.ticket s.unsent ≡ rest = ap (λ us. without_ticket oldest.ticket us) e ∙ ap (λ b. cond b rest (oldest ∷ without_ticket oldest.ticket rest)) yes in
      let same : sent oldest.ticket s ≡ t = ap (λ o. with_sent oldest.ticket o s) found ∙ ap (λ us. record s { unsent = us; writes = s.writes ++ oldest.write ∷ [] }) gone in
      subst (λ x. IsClose late moment x) (sym same)
      (close-same late moment s t refl refl refl refl (append_assoc s.writes (oldest.write ∷ []) (map (λ u. u.write) rest) ∙ ap (λ us. s.writes ++ map (λ u. u.write) us) (sym e)) h)

  -- a record that is there has no write applied that was not made
  applied_made : (s : State K V P S R) (n : ℕ) (o : Record K V) → IsSound s → record_at s.records n ≡ Some o → o.applied ≤ o.writes
  applied_made s n o sound there = (each-at (IsAccounted s.unsent s.writes) s.records n o sound.records.accounted there).applied

  -- what is written waits, and is used now
  close-written : (answers : Answers K V P R) (o : Option (Record K V)) (moment now step : ℕ) (s : State K V P S R) (key : K) (hash : ℕ) (value : V) → IsSound s → moment ≤ now → IsClose false moment s → IsClose true now (with_written answers o s key hash value now step)
  close-written answers None moment now step s key hash value sound less h = record {
    listed = order-map (IsCloseTo s.reads) (IsCloseTo s.reads) s.records (s.records ++ x ∷ [])
        (λ k m y z here there rel. λ held ya za none. elim (pushed-from s.records x k y here) [
          | inl one ↦ elim (pushed-from s.records x m z there) [
            | inl two ↦ rel y z one two held ya za none
            | inr new ↦ absurd (true≢false (sym za ∙ ap (λ w. is_some w.counts) new))
          ]
          | inr new ↦ absurd (true≢false (sym ya ∙ ap (λ w. is_some w.counts) new))
        ]) s.access h.listed;
    waiting = each-push (IsSince s.ran s.reads) s.records x h.waiting (λ held w. let low = h.ran in omega arith);
    near = each-push (IsNear true s.ran (pending_of t)) s.records x
        (each-map (λ r. r.entry.used < s.ran + 300000000) (IsNear true s.ran (pending_of t)) (λ r low. inl low) s.records (all_near moment s h))
        (inr (refl, ends-after s.next_number s.writes _ (ends-unsent s.unsent _)));
    latest = each-push (λ r. r.entry.used ≤ now) s.records x (each-map (λ r. r.entry.used ≤ moment) (λ r. r.entry.used ≤ now) (λ r low. omega (arith, low, less)) s.records h.latest) (omega arith);
    ran = let low = h.ran in omega arith;
  }
    where
      x : Record K V
      x = record { number = s.next_number; hash = hash; entry = first_entry answers s key value now step; is_held = true; writes = 1; applied = 0; counts = None }

      t : State K V P S R
      t = with_written answers None s key hash value now step
  close-written answers (Some r) moment now step s key hash value sound less h = record {
    listed = order-changed r.number f (λ x. refl) s.records s.reads s.reads s.access (λ y w. w)
        (λ o there. inl (unsettled (f o) (λ same. let low = applied_made s r.number o sound there in omega (arith, same, low))))
        (λ o there held. (held, refl, (let low = each-at (λ z. z.entry.used ≤ moment) s.records r.number o h.latest there in omega (arith, low, less)))) h.listed;
    waiting = each-changed r.number f (IsSince s.ran s.reads) (IsSince s.ran s.reads)
        (λ x same k held w. let low = h.ran in omega arith) (λ x other k. k) s.records sound.records.numbered h.waiting;
    near = each-changed r.number f (λ x. x.entry.used < s.ran + 300000000) (IsNear true s.ran (pending_of t))
        (λ x same low. inr (refl, subst (λ n. EndsBy n (pending_of t)) (sym same) (ends-after r.number s.writes _ (ends-unsent s.unsent _)))) (λ x other low. inl low) s.records sound.records.numbered (all_near moment s h);
    latest = each-changed r.number f (λ x. x.entry.used ≤ moment) (λ x. x.entry.used ≤ now) (λ x same low. omega arith) (λ x other low. omega (arith, low, less)) s.records sound.records.numbered h.latest;
    ran = let low = h.ran in omega arith;
  }
    where
      f : Record K V → Record K V
      f x = record x { entry = next_entry answers s r.entry key value now step; writes = x.writes + 1 }

      t : State K V P S R
      t = with_written answers (Some r) s key hash value now step

  -- what is removed is held no more
  close-removed : (o : Option (Record K V)) (moment : ℕ) (s : State K V P S R) → IsSound s → IsClose false moment s → IsClose false moment (with_removed o s)
  close-removed None moment s sound h = h
  close-removed (Some r) moment s sound h = record {
    listed = order-changed r.number f (λ x. refl) s.records s.reads s.reads s.access (λ y w. w)
        (λ o there. inl (unsettled (f o) (λ same. let low = applied_made s r.number o sound there in omega (arith, same, low))))
        (λ o there held. absurd (true≢false (sym held))) h.listed;
    waiting = each-changed r.number f (IsSince s.ran s.reads) (IsSince s.ran s.reads)
        (λ x same k held. absurd (true≢false (sym held))) (λ x other k. k) s.records sound.records.numbered h.waiting;
    near = each-changed r.number f (λ x. x.entry.used < s.ran + 300000000) (IsNear false s.ran (pending_of (with_removed (Some r) s)))
        (λ x same low. inl low) (λ x other low. inl low) s.records sound.records.numbered (all_near moment s h);
    latest = each-changed r.number f (λ x. x.entry.used ≤ moment) (λ x. x.entry.used ≤ moment) (λ x same low. low) (λ x other low. low) s.records sound.records.numbered h.latest;
    ran = h.ran;
  }
    where
      f : Record K V → Record K V
      f x = record x { is_held = false; writes = x.writes + 1 }

  -- what is read waits, and is used now, while no run is due
  pub close-read : (answers : Answers K V P R) (o : Option (Record K V)) (hash moment now : ℕ) (s : State K V P S R) → IsSound s → moment ≤ now → now < s.ran + 300000000 → IsClose false moment s → IsClose false now (with_read answers o hash now s)
  close-read answers None hash moment now s sound less early h = record {
    listed = order-map (IsCloseTo s.reads) (IsCloseTo (s.reads ++ Miss hash ∷ [])) s.records s.records (λ k m y x here there rel. λ held ya xa none. rel y x here there held ya xa (λ w. none (fewer y w))) s.access h.listed;
    waiting = each-map (IsSince s.ran s.reads) (IsSince s.ran (s.reads ++ Miss hash ∷ [])) (λ r k held w. k held (more r w)) s.records h.waiting;
    near = h.near;
    latest = (close-later false moment now s less h).latest;
    ran = let low = h.ran in omega arith;
  }
    where
      same : hits (s.reads ++ Miss hash ∷ []) ≡ hits s.reads
      same = hits-miss hash s.reads

      more : (x : Record K V) → IsWaiting (s.reads ++ Miss hash ∷ []) x → IsWaiting s.reads x
      more x w = elim w [ inl e ↦ inl e | inr i ↦ inr (subst (λ ns. IsIn x.number ns) same i) ]

      fewer : (x : Record K V) → IsWaiting s.reads x → IsWaiting (s.reads ++ Miss hash ∷ []) x
      fewer x w = elim w [ inl e ↦ inl e | inr i ↦ inr (subst (λ ns. IsIn x.number ns) (sym same) i) ]
  close-read answers (Some r) hash moment now s sound less early h = record {
    listed = order-changed r.number f (λ x. refl) s.records s.reads queue s.access fewer
        (λ o there. inr (subst (λ n. IsIn n (hits queue)) (sym (record_at-number s.records r.number o there)) (subst (λ ns. IsIn r.number ns) (sym same) (last-pushed r.number (hits s.reads)))))
        (λ o there held. (held, refl, (let low = each-at (λ z. z.entry.used ≤ moment) s.records r.number o h.latest there in omega (arith, low, less)))) h.listed;
    waiting = each-changed r.number f (IsSince s.ran s.reads) (IsSince s.ran queue)
        (λ x this k held w. let low = h.ran in omega arith) (λ x other k held w. k held (more x other w)) s.records sound.records.numbered h.waiting;
    near = each-changed r.number f (λ x. x.entry.used < s.ran + 300000000) (IsNear false s.ran (pending_of s))
        (λ x this low. inl early) (λ x other low. inl low) s.records sound.records.numbered (all_near moment s h);
    latest = each-changed r.number f (λ x. x.entry.used ≤ moment) (λ x. x.entry.used ≤ now) (λ x this low. omega arith) (λ x other low. omega (arith, low, less)) s.records sound.records.numbered h.latest;
    ran = let low = h.ran in omega arith;
  }
    where
      f : Record K V → Record K V
      f x = record x { entry = used_entry answers s now x.entry }

      queue : List Read
      queue = s.reads ++ Hit r.number hash ∷ []

      same : hits queue ≡ hits s.reads ++ r.number ∷ []
      same = hits-hit r.number hash s.reads

      more : (x : Record K V) → (x.number ≡ r.number → ⊥) → IsWaiting queue x → IsWaiting s.reads x
      more x other w = elim w [ inl e ↦ inl e | inr i ↦ elim (in_pushed r.number x.number (hits s.reads) (subst (λ ns. IsIn x.number ns) same i)) [ inl before ↦ inr before | inr this ↦ absurd (other (sym this)) ] ]

      fewer : (x : Record K V) → IsWaiting s.reads x → IsWaiting queue x
      fewer x w = elim w [ inl e ↦ inl e | inr i ↦ inr (subst (λ ns. IsIn x.number ns) (sym same) (in-pushed r.number x.number (hits s.reads) i)) ]

-- ---- runs

module _ {K V P S R : Type 0} where
  -- what a run begins with
  closing-from : (late : Bool) (moment : ℕ) (s : State K V P S R) → IsInOrder s → s.unsent ≡ [] → IsClose late moment s → Closing s.ran s.reads s.writes s
  closing-from late moment s ordered none h = record {
    numbered = ordered.sound.records.numbered;
    listed = h.listed;
    waiting = h.waiting;
    near = inl (each-map (λ r. IsNear late s.ran (pending_of s) r × (record_at s.records r.number ≡ Some r)) (IsSettledNear s.ran)
        (λ r k settled. elim k.0 [
          | inl low ↦ low
          | inr last ↦ absurd (
              let own = accounted r.number r k.1 in
              let same = eqb-true r.writes r.applied settled in
              ends-none r.number (pending_of s) last.1 (none_later r r.applied (pending_of s) (each-at (λ z. AreRising z.number z.applied (pending_of s)) s.records r.number r ordered.rising k.1)
              (fits r.number r k.1) (omega (arith, same)) (own.counts (sym same)).0))
        ]) s.records (each-both (IsNear late s.ran (pending_of s)) (λ r. record_at s.records r.number ≡ Some r) s.records h.near (each-own s.records ordered.sound.records.numbered)));
    late = subst (λ ws. LateIsLast s.ran ws s.records) pending (late-from s.ran s.records (pending_of s) (λ n r there. fits n r there)
        (λ n r there. (r.applied, each-at (λ z. AreRising z.number z.applied (pending_of s)) s.records n r ordered.rising there))
        (λ n r there some. elim (each-at (IsNear late s.ran (pending_of s)) s.records n r h.near there) [ inl low ↦ inl low | inr last ↦ inr last.1 ]));
  }
    where
      pending : pending_of s ≡ s.writes
      pending = pending-sent s none

      accounted : (n : ℕ) (r : Record K V) → record_at s.records n ≡ Some r → IsAccounted s.unsent s.writes r
      accounted n r there = each-at (IsAccounted s.unsent s.writes) s.records n r ordered.sound.records.accounted there

      fits : (n : ℕ) (r : Record K V) → record_at s.records n ≡ Some r → (w : Write) → IsIn w (pending_of s) → Fits w r
      fits n r there w i = (accounted n r there).fits w (inr (subst (λ ws. IsIn w ws) pending i))

  module _ (answers : Answers K V P R) (late : Bool) (moment now : ℕ) (old new : State K V P S R) (ordered : IsInOrder old) (none : old.unsent ≡ []) (less : moment ≤ now) (run : Runs answers now old new) (h : IsClose late moment old) where
    -- no record was used 300 milliseconds or more before one in front of it
    pub run-order : InOrderBy IsUsedBefore new.records new.access
    run-order = run-close old.ran answers now old new ordered.sound none (closing-from late moment old ordered none h) run

    -- nothing waits, and nothing was used later than now
    pub close-run : IsClose false now new
    close-run =
        let l = run-leaves answers now old new ordered.sound none run in
        let reads : new.reads ≡ [] = ap (λ t. t.reads) run.after ∙ run.applied.reads in
        let ran : new.ran ≡ now = ap (λ t. t.ran) run.after in
        let latest : Each (λ r. r.entry.used ≤ now) new.records = each-map (ComesFrom old.records) (λ r. r.entry.used ≤ now)
        (λ r k. let low = each-at (λ z. z.entry.used ≤ moment) old.records k.owner.number k.owner h.latest k.there in let used = ap (λ e. e.used) k.entry in omega (arith, low, used, less)) new.records l.from in
        record {
          listed = order-map IsUsedBefore (IsCloseTo new.reads) new.records new.records (λ k m y x here there rel. λ held ya xa none. rel y x here there) new.access run-order;
          waiting = each-map IsCounted (IsSince new.ran new.reads) (λ r c held w. absurd (elim w [
            | inl e ↦ true≢false (sym (eq-eqb r.writes r.applied (sym c.settled)) ∙ e)
            | inr i ↦ subst (λ rs. IsIn r.number (hits rs)) reads i
          ])) new.records l.counted;
          near = each-map (λ r. r.entry.used ≤ now) (IsNear false new.ran (pending_of new)) (λ r low. inl (omega (arith, low, ran))) new.records latest;
          latest = latest;
          ran = omega (arith, ran);
        }

  -- a run is due 300 milliseconds after the last one
  pub not_due-early : (s : State K V P S R) (now : ℕ) → is_due s now ≡ false → now < s.ran + 300000000
  not_due-early s now e =
      let late = (or_right (nat_le 64 (length s.writes) || nat_le 64 (length s.reads)) (is_reached (end_of s.ran (Some 300000000)) now) e).1 in
      let before = leb-false _ now late in
      omega (arith, before)

  -- after maintenance where it is due, less than 300 milliseconds have passed since the last run
  pub close-maintained : (answers : Answers K V P R) (late : Bool) (now : ℕ) (old new : State K V P S R) → IsInOrder old → old.unsent ≡ [] → MaintainsIfDue answers now old new → IsClose late now old → IsClose false now new × (now < new.ran + 300000000)
  close-maintained answers late now old new ordered none m h =
      elim (cases_Bool (is_due old now)) [
        | inl e ↦ (close-run answers late now now old new ordered none (omega arith) (rw e at m).runs h, (let ran = ap (λ t. t.ran) (rw e at m).runs.after in omega (arith, ran)))
        | inr e ↦ let early = not_due-early old now e in subst (λ x. IsClose false now x × (now < x.ran + 300000000)) (sym (rw e at m)) (close-early late now old early h, early)
      ]

-- ---- the laws

module _ (K V P S R : Type 0) where
  pub calls_stay_close : CallsStayClose K V P S R
  calls_stay_close = record {
    empty = close-empty;
    later = close-later;
    written = λ eq answers moment now step s key hash value sound less h. close-written answers (held_at eq s.records key) moment now step s key hash value sound less h;
    sent = close-sent;
    removed = λ eq key moment s sound h. close-removed (held_at eq s.records key) moment s sound h;
    removal_told = λ answers e now late moment s h. close-same late moment s (removal_told answers e now s) refl refl refl refl refl h;
    read = close-read;
    cleared = λ at late moment s h. close-same late moment s (cleared_by at s) refl refl refl refl refl h;
    covered = λ p late moment s h. close-same late moment s (with_predicate p s) refl refl refl refl refl h;
    reserved = λ number late moment s h. close-same late moment s (record s { reserved = number }) refl refl refl refl refl h;
    taken = λ late moment s h. close-same late moment s (without_notice s) refl refl refl refl refl h;
    run = λ answers late moment now old new ordered sent less run h. close-run answers late moment now old new ordered sent less run h;
    maintained = close-maintained;
  }
