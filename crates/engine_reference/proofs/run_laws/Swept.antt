-- What an uncut run leaves of times and clears.
use Rattle.std.proofs.Common.{◌≡◌, refl, ap, sym, ◌∙◌, subst, ℕ, ◌+◌, ◌<◌, ◌≤◌, arith, Bool, true, false, true≢false, cond, List, [], ◌∷◌, ◌++◌, Option, Some, None, is_some, inl, inr, ◌⊎◌, eqb, ◌==◌}
use Rattle.std.specs.Prelude.{nat_lt}
use Rattle.std.proofs.lemmas.Bool.{cases_Bool, cond_both, eqb-false, eq-eqb, ne_eqb, ltb-false}
use Rattle.policy_base.specs.Counts.{incremented}
use Rattle.engine_reference.specs.declared.rules.causes.RemovalCause.TheVariants as cause
use Rattle.std.specs.List.{list_any}
use Rattle.engine_reference.specs.Visible.{is_covered_by}
use Rattle.engine_reference.specs.declared.data.Entry.{Entry}
use Rattle.engine_reference.specs.declared.data.Record.{Record}
use Rattle.engine_reference.specs.declared.data.Read.{Read}
use Rattle.engine_reference.specs.declared.data.Read.TheVariants.{Hit, Miss}
use Rattle.engine_reference.specs.declared.data.Unsent.{Unsent}
use Rattle.engine_reference.specs.declared.data.Upsert.{Upsert}
use Rattle.engine_reference.specs.declared.data.Write.{Write}
use Rattle.engine_reference.specs.declared.data.Write.TheVariants.{Put, Removed}
use Rattle.engine_reference.specs.Admission.{Verdict, admit, displace, refuse, verdict}
use Rattle.engine_reference.specs.Calls.{with_written, first_entry, next_entry, with_sent, sent, unsent_at, without_ticket, with_removed, removal_told, with_read, used_entry}
use Rattle.engine_reference.specs.Records.{record_at, held_at, changed_at, without, moved_to_back, held_weight, with_admitted, admitted_in}
use Rattle.engine_reference.specs.Runs.{Step, reads, writes, grows, leaves, evicts, ends, Steps, Runs, all_left, after_read, after_hit, after_write, after_put, after_removal, counting, judged, is_overtaken, first_of}
use Rattle.engine_reference.specs.Soundness.{IsIn, Each, AreNumbered, IsAccounted, IsSound}
use Rattle.engine_reference.specs.State.{State, Answers}
use Rattle.engine_reference.specs.Times.{tick_of, end_of, is_reached, earlier_of}
use Rattle.engine_reference.proofs.Accounts.{IsIn-moved, IsIn-append_right, in_pushed, not_in-without, IsIn-without_from, each-map, each-changed, each-without}
use Rattle.engine_reference.proofs.HeldRecords.{record_at-number}
use Rattle.engine_reference.proofs.SoundCalls.{calls_stay_sound, held_at-only, each-push, used-sound}
use Rattle.engine_reference.proofs.SoundSteps.{IsCounted, counted, step-sound, run-sound, left-each, all_left-sound}
use Rattle.engine_reference.proofs.TellingSteps.{run_tells}
use Rattle.engine_reference.specs.RunLaws.Just.{ComesFrom}
use Rattle.engine_reference.specs.RunLaws.Sweeping.{order_after, InOrderBy, IsWrittenBefore, IsUsedBefore, LeavesNoneDue, LookingAtAllSweeps}
use Rattle.engine_reference.proofs.run_laws.ByList.{IsSweptBy, IsTimelyBy, SweptRunsLeaveNoneDueBy, SweptRunsStayTimelyBy, CallsStayTimelyBy}
use Rattle.engine_reference.specs.RunLaws.Fronts.{NothingIsDue}
use Rattle.engine_reference.proofs.run_laws.Fronting.{each-at, or_right}
use Rattle.engine_reference.proofs.run_laws.Rising.{each-own}
use Rattle.engine_reference.proofs.run_laws.Ticking.{own-tick, changed-tick, end-later, end-after, tick-not_reached, lt-false-up, earlier-not_reached}
use Rattle.std.proofs.lemmas.Bool.Decides.{nat_tests}

-- ---- what maintenance does not touch

module _ {K V P S R : Type 0} (Q : Record K V → Type 0) (stable : (r : Record K V) (applied : ℕ) (counts : Option ℕ) → Q r → Q (record r { applied = applied; counts = counts })) where
  each-counting : (u : Upsert) (s : State K V P S R) → AreNumbered s.records → Each Q s.records → Each Q (counting u s).records
  each-counting u s numbered h = each-changed u.number (λ r. record r { applied = u.write; counts = Some u.weight }) Q Q (λ r same k. stable r u.write (Some u.weight) k) (λ r other k. k) s.records numbered h

  each-judged : (s : State K V P S R) (ws : List Write) (u : Upsert) (r : Record K V) (v : Verdict K V) → IsSound (record s { writes = ws }) → Each Q s.records → Each Q (judged u r s v).records
  each-judged s ws u r admit sound h = each-counting u s sound.records.numbered h
  each-judged s ws u r (displace vs) sound h =
      let k = all_left-sound s.unsent ws s.next_number Q cause.Size vs s sound.records h in
      each-counting u (all_left cause.Size vs s) k.0.numbered k.1
  each-judged s ws u r refuse sound h =
      cond_both (is_overtaken u r) _ _ (λ (t : State K V P S R). Each Q t.records)
      (λ _. each-changed u.number (λ r. record r { applied = u.write }) Q Q (λ r same k. stable r u.write r.counts k) (λ r other k. k) s.records sound.records.numbered h)
      (λ _. left-each Q cause.Size u.number s sound.records.numbered h)

  each-write : (w : Write) (s : State K V P S R) (ws : List Write) → IsSound (record s { writes = ws }) → Each Q s.records → Each Q (after_write w s).records
  each-write (Put u) s ws sound h = go (record_at s.records u.number)
    where
      go : (o : Option (Record K V)) → Each Q (after_put u o s).records
      go None = h
      go (Some r) =
          cond_both (nat_lt r.applied u.write) _ _ (λ (t : State K V P S R). Each Q t.records)
          (λ _. cond_both (is_some r.counts) _ _ (λ (t : State K V P S R). Each Q t.records) (λ _. each-counting u s sound.records.numbered h) (λ _. each-judged s ws u r (verdict s u) sound h)) (λ _. h)
  each-write (Removed n) s ws sound h = go (record_at s.records n)
    where
      go : (o : Option (Record K V)) → Each Q (after_removal o s).records
      go None = h
      go (Some r) =
          cond_both r.is_held _ _ (λ (t : State K V P S R). Each Q t.records) (λ _. h) (λ _. each-without r.number Q Q (λ x other k. k) s.records sound.records.numbered h)

  pub read-records : (r : Read) (s : State K V P S R) → (after_read r s).records ≡ s.records
  read-records (Miss hash) s = refl
  read-records (Hit n hash) s = by_record (record_at s.records n)
    where
      t : State K V P S R
      t = record s { sketch = incremented s.sketch hash }

      by_record : (o : Option (Record K V)) → (after_hit o t).records ≡ s.records
      by_record None = refl
      by_record (Some r) = grind (arith, nat_tests, r.number)

  module _ (answers : Answers K V P R) (now : ℕ) where
    pub each-step : (s t : State K V P S R) → IsSound s → Each Q s.records → Step answers now s t → Each Q t.records
    each-step s t sound h (reads r rest e after) = subst (λ rs. Each Q rs) (sym (ap (λ x. x.records) after ∙ read-records r (record s { reads = rest }))) h
    each-step s t sound h (writes w rest none e after) = subst (λ x. Each Q x.records) (sym after) (each-write w (record s { writes = rest }) s.writes (record { records = sound.records; named = sound.named }) h)
    each-step s t sound h (grows words applied wants capacity is_set size after) = subst (λ x. Each Q x.records) (sym after) h
    each-step s t sound h (leaves r why applied there held due after) = subst (λ x. Each Q x.records) (sym after) (left-each Q why r.number s sound.records.numbered h)
    each-step s t sound h (evicts r applied clean above next after) = subst (λ x. Each Q x.records) (sym after) (left-each Q cause.Size r.number s sound.records.numbered h)
    each-step s t sound h (ends place p applied there none after) = subst (λ x. Each Q x.records) (sym after) h

    each-steps : (stages : List (State K V P S R)) (s t : State K V P S R) → IsSound s → Each Q s.records → Steps answers now s stages t → Each Q t.records
    each-steps [] s t sound h e = subst (λ x. Each Q x.records) (sym e) h
    each-steps (mid ∷ stages) s t sound h e = each-steps stages mid t (step-sound answers now s mid sound e.0) (each-step s mid sound h e.0) e.1

    -- what holds of each record, whatever maintenance knows of it, holds after a run
    pub each-run : (s t : State K V P S R) → IsSound s → Each Q s.records → Runs answers now s t → Each Q t.records
    each-run s t sound h run = subst (λ x. Each Q x.records) (sym run.after) (each-steps run.stages s run.last sound h run.steps)

-- ---- lists of numbers, in order

order-put : (ws : List Write) (u : Upsert) (ns : List ℕ) → order_after (ws ++ Put u ∷ []) ns ≡ moved_to_back u.number (order_after ws ns)
order-put [] u ns = refl
order-put (Put v ∷ ws) u ns = order-put ws u (moved_to_back v.number ns)
order-put (Removed n ∷ ws) u ns = order-put ws u ns

order-removed : (ws : List Write) (m : ℕ) (ns : List ℕ) → order_after (ws ++ Removed m ∷ []) ns ≡ order_after ws ns
order-removed [] m ns = refl
order-removed (Put v ∷ ws) m ns = order-removed ws m (moved_to_back v.number ns)
order-removed (Removed n ∷ ws) m ns = order-removed ws m ns

module _ {K V : Type 0} where
  -- the same writes, perhaps of fewer records
  ordered-map : (rs rs' : List (Record K V)) → ((m : ℕ) (r : Record K V) → record_at rs' m ≡ Some r → (o : Record K V) × (record_at rs m ≡ Some o) × (o.entry.step ≡ r.entry.step) × (o.entry.written ≡ r.entry.written))
      → (ns : List ℕ) → InOrderBy IsWrittenBefore rs ns → InOrderBy IsWrittenBefore rs' ns
  ordered-map rs rs' back [] h = tt
  ordered-map rs rs' back (n ∷ ns) h = (
    (λ m y x i here there.
        let a = back n y here in
        let b = back m x there in
        let k = h.0 m a.0 b.0 i a.1 b.1 in
        (omega (arith, k.0, a.2, b.2), omega (arith, k.1, a.3, b.3))),
    ordered-map rs rs' back ns h.1,
  )

  -- one record is written now
  ordered-back : (rs rs' : List (Record K V)) (n : ℕ) → ((m : ℕ) (r : Record K V) → (m ≡ n → ⊥) → record_at rs' m ≡ Some r → record_at rs m ≡ Some r)
      → ((m : ℕ) (y x : Record K V) → record_at rs m ≡ Some y → record_at rs' n ≡ Some x → IsWrittenBefore y x)
      → (ns : List ℕ) → InOrderBy IsWrittenBefore rs ns → InOrderBy IsWrittenBefore rs' (moved_to_back n ns)
  ordered-back rs rs' n back last [] h = ((λ m y x i here there. elim i [ ]), tt)
  ordered-back rs rs' n back last (k ∷ ns) h =
      elim (cases_Bool (k == n)) [ inl e ↦ rw e (ordered-back rs rs' n back last ns h.1) | inr e ↦ rw e (let other : (k ≡ n → ⊥) = eqb-false k n e in ((λ m y x i here there. elim (in_pushed n m (without n ns) i) [ inl j ↦ h.0 m y x (IsIn-without_from n m ns j) (back k y other here) (back m x (λ same. not_in-without n ns (subst (λ z. IsIn z (without n ns)) same j)) there) | inr same ↦ last k y x (back k y other here) (ap (λ z. record_at rs' z) same ∙ there) ]), (ordered-back rs rs' n back last ns h.1))) ]

  -- the first of the list that is there stands before each other
  pub first-before : (Rel : Record K V → Record K V → Type 0) → ((x : Record K V) → Rel x x) → (rs : List (Record K V)) → Each (λ r. is_some r.counts ≡ true) rs → (ns : List ℕ) → InOrderBy Rel rs ns
      → (m : ℕ) (x : Record K V) → IsIn m ns → record_at rs m ≡ Some x → (y : Record K V) × (first_of (admitted_in rs ns) ≡ Some y) × Rel y x
  first-before Rel same rs all [] h m x i there = elim i [ ]
  first-before Rel same rs all (n ∷ ns) h m x i there = go (record_at rs n) refl i (λ j. first-before Rel same rs all ns h.1 m x j there)
    where
      rel : (y : Record K V) → record_at rs n ≡ Some y → (n ≡ m) ⊎ IsIn m ns → Rel y x
      rel y here (inl e) =
          let both : Some y ≡ Some x = sym here ∙ ap (λ z. record_at rs z) e ∙ there in
          let one : y ≡ x = cc in
          subst (λ z. Rel z x) (sym one) (same x)
      rel y here (inr j) = h.0 m y x j here there

      go : (o : Option (Record K V)) → record_at rs n ≡ o → (n ≡ m) ⊎ IsIn m ns → (IsIn m ns → (y : Record K V) × (first_of (admitted_in rs ns) ≡ Some y) × Rel y x)
          → (y : Record K V) × (first_of (with_admitted o (admitted_in rs ns)) ≡ Some y) × Rel y x
      go None here (inl e) later = absurd (let both : None ≡ Some x = sym here ∙ ap (λ z. record_at rs z) e ∙ there in cc)
      go None here (inr j) later = later j
      go (Some y) here i later = (y, ap (λ b. first_of (cond b (y ∷ admitted_in rs ns) (admitted_in rs ns))) (each-at (λ r. is_some r.counts ≡ true) rs n y all here), rel y here i)

  -- what is first on a list is found under its number
  pub first-found : (rs : List (Record K V)) (ns : List ℕ) (r : Record K V) → first_of (admitted_in rs ns) ≡ Some r → record_at rs r.number ≡ Some r
  first-found rs [] r e = absurd (cc)
  first-found rs (n ∷ ns) r e = go (record_at rs n) refl e (first-found rs ns r)
    where
      go : (o : Option (Record K V)) → record_at rs n ≡ o → first_of (with_admitted o (admitted_in rs ns)) ≡ Some r → (first_of (admitted_in rs ns) ≡ Some r → record_at rs r.number ≡ Some r) → record_at rs r.number ≡ Some r
      go None there e later = later e
      go (Some x) there e later =
          elim (cases_Bool (is_some x.counts)) [
            | inl is ↦ let same : x ≡ r = cc in ap (λ y. record_at rs y.number) (sym same) ∙ ap (λ k. record_at rs k) (record_at-number rs n x there) ∙ there ∙ ap Some same
            | inr is ↦ later (rw is at e)
          ]

  -- ---- records by number

  pub changed-other : (n m : ℕ) (change : Record K V → Record K V) → ((x : Record K V) → (change x).number ≡ x.number) → (rs : List (Record K V)) → (m ≡ n → ⊥) → record_at (changed_at n change rs) m ≡ record_at rs m
  changed-other n m change same [] other = refl
  changed-other n m change same (r ∷ rs) other = let next = changed-other n m change same rs other in grind (arith, nat_tests, next)

  -- what is found after a change was there before, or is what it became
  pub changed-from : (n m : ℕ) (change : Record K V → Record K V) → ((x : Record K V) → (change x).number ≡ x.number) → (rs : List (Record K V)) (r : Record K V) → record_at (changed_at n change rs) m ≡ Some r
      → (o : Record K V) × (record_at rs m ≡ Some o) × ((r ≡ o) ⊎ (r ≡ change o))
  changed-from n m change same [] r h = absurd (cc)
  changed-from n m change same (x ∷ rs) r h = go (eqb x.number n) (eqb x.number m) refl h (changed-from n m change same rs r)
    where
      go : (b c : Bool) → eqb x.number m ≡ c → record_at (cond b (change x ∷ rs) (x ∷ changed_at n change rs)) m ≡ Some r
          → (record_at (changed_at n change rs) m ≡ Some r → (o : Record K V) × (record_at rs m ≡ Some o) × ((r ≡ o) ⊎ (r ≡ change o)))
          → (o : Record K V) × (cond c (Some x) (record_at rs m) ≡ Some o) × ((r ≡ o) ⊎ (r ≡ change o))
      go true true t h later =
          let here : Some (change x) ≡ Some r = sym (ap (λ b. cond b (Some (change x)) (record_at rs m)) t) ∙ sym (ap (λ k. cond (eqb k m) (Some (change x)) (record_at rs m)) (same x)) ∙ h in
          (x, refl, inr (let e : r ≡ change x = cc in e))
      go true false t h later =
          (r, sym (ap (λ b. cond b (Some (change x)) (record_at rs m)) t) ∙ sym (ap (λ k. cond (eqb k m) (Some (change x)) (record_at rs m)) (same x)) ∙ h, inl refl)
      go false true t h later =
          let here : Some x ≡ Some r = sym (ap (λ b. cond b (Some x) (record_at (changed_at n change rs) m)) t) ∙ h in
          (x, refl, inl (let e : r ≡ x = cc in e))
      go false false t h later = later (sym (ap (λ b. cond b (Some x) (record_at (changed_at n change rs) m)) t) ∙ h)

  pub push-other : (m : ℕ) (rs : List (Record K V)) (x : Record K V) → (m ≡ x.number → ⊥) → record_at (rs ++ x ∷ []) m ≡ record_at rs m
  push-other m [] x other = ap (λ b. cond b (Some x) None) (ne_eqb x.number m (λ e. other (sym e)))
  push-other m (r ∷ rs) x other = ap (λ o. cond (eqb r.number m) (Some r) o) (push-other m rs x other)

-- ---- calls

module _ {K V P S R : Type 0} where
  -- a later moment
  timely-later : (moment step now : ℕ) (order : List ℕ) (s : State K V P S R) → moment ≤ now → now ≤ 9223372036854775807 → IsTimelyBy moment step order s → IsTimelyBy now step order s
  timely-later moment step now order s less range h =
      let ran = h.ran in
      record {
        sound = h.sound;
        sent = h.sent;
        ordered = h.ordered;
        listed = h.listed;
        latest = each-map (λ r. (r.entry.step ≤ step) × (r.entry.written ≤ moment)) (λ r. (r.entry.step ≤ step) × (r.entry.written ≤ now)) (λ r k. (k.0, let low = k.1 in omega arith)) s.records h.latest;
        own = h.own;
        ran = omega arith;
        range = range;
      }

  -- a call that touches none of it
  timely-same : (moment step : ℕ) (order : List ℕ) (s t : State K V P S R) → IsSound t → t.unsent ≡ s.unsent → t.records ≡ s.records → t.writes ≡ s.writes → t.settings ≡ s.settings → t.ran ≡ s.ran → IsTimelyBy moment step order s → IsTimelyBy moment step order t
  timely-same moment step order s t sound unsent records queued settings ran h = record {
    sound = sound;
    sent = unsent ∙ h.sent;
    ordered = rw (records, queued) h.ordered;
    listed = rw (records, queued) h.listed;
    latest = rw records h.latest;
    own = rw (records, settings, ran) h.own;
    ran = rw ran h.ran;
    range = h.range;
  }

  pub sent-one : (u : Unsent) (t : State K V P S R) → t.unsent ≡ u ∷ [] → sent u.ticket t ≡ record t { unsent = []; writes = t.writes ++ u.write ∷ [] }
  sent-one u t e =
      let yes = eq-eqb u.ticket u.ticket refl in
      let found : unsent_at t.unsent u.ticket ≡ Some u.write = ap (λ us. unsent_at us u.ticket) e ∙ ap (λ b. cond b (Some u.write) None) yes in
      let gone : without_ticket u.ticket t.unsent ≡ [] = ap (λ us. without_ticket u.ticket us) e ∙ ap (λ b. cond b [] (u ∷ [])) yes in
      ap (λ o. with_sent u.ticket o t) found ∙ ap (λ us. record t { unsent = us; writes = t.writes ++ u.write ∷ [] }) gone

  removed-timely : (eq : K → K → Bool) (moment step : ℕ) (order : List ℕ) (s : State K V P S R) (key : K) (o : Option (Record K V)) → held_at eq s.records key ≡ o → IsSound (sent s.next_ticket (with_removed o s))
      → IsTimelyBy moment step order s → IsTimelyBy moment step order (sent s.next_ticket (with_removed o s))
  removed-timely eq moment step order s key None e sound h =
      let same : sent s.next_ticket s ≡ s = ap (λ us. with_sent s.next_ticket (unsent_at us s.next_ticket) s) h.sent in
      subst (λ t. IsTimelyBy moment step order t) (sym same) h
  removed-timely eq moment step order s key (Some r) e sound h =
      let u : Unsent = record { ticket = s.next_ticket; write = Removed r.number } in
      let t = with_removed (Some r) s in
      let f = λ (x : Record K V). record x { is_held = false; writes = x.writes + 1 } in
      let same = sent-one u t (ap (λ us. us ++ u ∷ []) h.sent) in
      let order_is = order-removed s.writes r.number order in
      let numbered = h.sound.records.numbered in
      subst (λ x. IsTimelyBy moment step order x) (sym same) (record {
        sound = subst (λ x. IsSound x) same sound;
        sent = refl;
        ordered = subst (λ ns. InOrderBy IsWrittenBefore (changed_at r.number f s.records) ns) (sym order_is)
            (ordered-map s.records (changed_at r.number f s.records)
            (λ m x there. let k = changed-from r.number m f (λ x. refl) s.records x there in (k.0, k.1, elim k.2 [ inl one ↦ ap (λ z. z.entry.step) (sym one) | inr one ↦ ap (λ z. z.entry.step) (sym one) ], elim k.2 [ inl one ↦ ap (λ z. z.entry.written) (sym one) | inr one ↦ ap (λ z. z.entry.written) (sym one) ]))
            (order_after s.writes order) h.ordered);
        listed = subst (λ ns. Each (λ x. x.is_held ≡ true → IsIn x.number ns) (changed_at r.number f s.records)) (sym order_is)
            (each-changed r.number f (λ x. x.is_held ≡ true → IsIn x.number (order_after s.writes order)) (λ x. x.is_held ≡ true → IsIn x.number (order_after s.writes order))
            (λ x same k held. absurd (true≢false (sym held))) (λ x other k. k) s.records numbered h.listed);
        latest = each-changed r.number f (λ x. (x.entry.step ≤ step) × (x.entry.written ≤ moment)) (λ x. (x.entry.step ≤ step) × (x.entry.written ≤ moment)) (λ x same k. k) (λ x other k. k) s.records numbered h.latest;
        own = each-changed r.number f (λ x. (expires : ℕ) → x.entry.expires ≡ Some expires → tick_of s.settings s.ran ≤ tick_of s.settings expires) (λ x. (expires : ℕ) → x.entry.expires ≡ Some expires → tick_of s.settings s.ran ≤ tick_of s.settings expires)
            (λ x same k. k) (λ x other k. k) s.records numbered h.own;
        ran = h.ran;
        range = h.range;
      })

  read-timely : (answers : Answers K V P R) (moment step : ℕ) (order : List ℕ) (s : State K V P S R) (o : Option (Record K V)) (hash now : ℕ) → moment ≤ now → now ≤ 9223372036854775807 → IsTimelyBy moment step order s → IsTimelyBy moment step order (with_read answers o hash now s)
  read-timely answers moment step order s None hash now less range h = timely-same moment step order s (with_read answers None hash now s) (used-sound answers None hash now s h.sound) refl refl refl refl refl h
  read-timely answers moment step order s (Some r) hash now less range h =
      let f = λ (x : Record K V). record x { entry = used_entry answers s now x.entry } in
      let numbered = h.sound.records.numbered in
      let ran = h.ran in
      record {
        sound = used-sound answers (Some r) hash now s h.sound;
        sent = h.sent;
        ordered = ordered-map s.records (changed_at r.number f s.records)
            (λ m x there. let k = changed-from r.number m f (λ x. refl) s.records x there in (k.0, k.1, elim k.2 [ inl one ↦ ap (λ z. z.entry.step) (sym one) | inr one ↦ ap (λ z. z.entry.step) (sym one) ], elim k.2 [ inl one ↦ ap (λ z. z.entry.written) (sym one) | inr one ↦ ap (λ z. z.entry.written) (sym one) ]))
            (order_after s.writes order) h.ordered;
        listed = each-changed r.number f (λ x. x.is_held ≡ true → IsIn x.number (order_after s.writes order)) (λ x. x.is_held ≡ true → IsIn x.number (order_after s.writes order)) (λ x same k. k) (λ x other k. k) s.records numbered h.listed;
        latest = each-changed r.number f (λ x. (x.entry.step ≤ step) × (x.entry.written ≤ moment)) (λ x. (x.entry.step ≤ step) × (x.entry.written ≤ moment)) (λ x same k. k) (λ x other k. k) s.records numbered h.latest;
        own = each-changed r.number f (λ x. (expires : ℕ) → x.entry.expires ≡ Some expires → tick_of s.settings s.ran ≤ tick_of s.settings expires) (λ x. (expires : ℕ) → x.entry.expires ≡ Some expires → tick_of s.settings s.ran ≤ tick_of s.settings expires)
            (λ x same k expires e. changed-tick s.settings s.ran now _ x.entry.expires expires (omega arith) range k e) (λ x other k. k) s.records numbered h.own;
        ran = h.ran;
        range = h.range;
      }

  told-timely : (answers : Answers K V P R) (moment step : ℕ) (order : List ℕ) (s : State K V P S R) (e : Entry K V) (now : ℕ) → IsSound (removal_told answers e now s) → IsTimelyBy moment step order s → IsTimelyBy moment step order (removal_told answers e now s)
  told-timely answers moment step order s e now sound h = timely-same moment step order s (removal_told answers e now s) sound refl refl refl refl refl h

  -- the records after a write
  record HasWritten (moment step now next : ℕ) (s : State K V P S R) (ns : List ℕ) (n : ℕ) (rs : List (Record K V)) : Type 0 where
    ordered : InOrderBy IsWrittenBefore rs (moved_to_back n ns)
    listed : Each (λ r. r.is_held ≡ true → IsIn r.number (moved_to_back n ns)) rs
    latest : Each (λ r. (r.entry.step ≤ next) × (r.entry.written ≤ now)) rs
    own : Each (λ r. (expires : ℕ) → r.entry.expires ≡ Some expires → tick_of s.settings s.ran ≤ tick_of s.settings expires) rs

  written-last : (moment step now next : ℕ) (order : List ℕ) (s : State K V P S R) → moment ≤ now → step ≤ next → IsTimelyBy moment step order s → (m : ℕ) (y x : Record K V) → record_at s.records m ≡ Some y → x.entry.step ≡ next → x.entry.written ≡ now → IsWrittenBefore y x
  written-last moment step now next order s less rises h m y x there is_step is_written =
      let low = each-at (λ r. (r.entry.step ≤ step) × (r.entry.written ≤ moment)) s.records m y h.latest there in
      (omega (arith, low.0, is_step), omega (arith, low.1, is_written))

  written-timely : (moment step now next : ℕ) (order : List ℕ) (s t : State K V P S R) (v : Upsert) → moment ≤ now → now ≤ 9223372036854775807 → IsTimelyBy moment step order s
      → t.unsent ≡ s.unsent ++ (record { ticket = s.next_ticket; write = Put v }) ∷ [] → t.writes ≡ s.writes → t.settings ≡ s.settings → t.ran ≡ s.ran → IsSound (sent s.next_ticket t)
      → HasWritten moment step now next s (order_after s.writes order) v.number t.records → IsTimelyBy now next order (sent s.next_ticket t)
  written-timely moment step now next order s t v less range h unsent queued settings ran sound k =
      let u : Unsent = record { ticket = s.next_ticket; write = Put v } in
      let same = sent-one u t (unsent ∙ ap (λ us. us ++ u ∷ []) h.sent) in
      let order_is : order_after (t.writes ++ Put v ∷ []) order ≡ moved_to_back v.number (order_after s.writes order) = ap (λ ws. order_after (ws ++ Put v ∷ []) order) queued ∙ order-put s.writes v order in
      let before = h.ran in
      subst (λ x. IsTimelyBy now next order x) (sym same) (record {
        sound = subst (λ x. IsSound x) same sound;
        sent = refl;
        ordered = subst (λ ns. InOrderBy IsWrittenBefore t.records ns) (sym order_is) k.ordered;
        listed = subst (λ ns. Each (λ x. x.is_held ≡ true → IsIn x.number ns) t.records) (sym order_is) k.listed;
        latest = k.latest;
        own = rw (settings, ran) k.own;
        ran = omega (arith, ran, before);
        range = range;
      })

  put-timely : (eq : K → K → Bool) (answers : Answers K V P R) (moment step now next : ℕ) (order : List ℕ) (s : State K V P S R) (key : K) (hash : ℕ) (value : V) (o : Option (Record K V)) → held_at eq s.records key ≡ o
      → moment ≤ now → now ≤ 9223372036854775807 → step ≤ next → IsSound (sent s.next_ticket (with_written answers o s key hash value now next)) → IsTimelyBy moment step order s
      → IsTimelyBy now next order (sent s.next_ticket (with_written answers o s key hash value now next))
  put-timely eq answers moment step now next order s key hash value None e less range rises sound h =
      written-timely moment step now next order s (with_written answers None s key hash value now next) v less range h refl refl refl refl sound (record { ordered = ordered; listed = listed; latest = latest; own = own })
    where
      ns : List ℕ
      ns = order_after s.writes order

      x : Record K V
      x = record { number = s.next_number; hash = hash; entry = first_entry answers s key value now next; is_held = true; writes = 1; applied = 0; counts = None }

      v : Upsert
      v = record { number = s.next_number; write = 1; weight = x.entry.weight; hash = hash; kept = held_weight (s.records ++ x ∷ []) }

      only : (m : ℕ) (y : Record K V) → record_at (s.records ++ x ∷ []) m ≡ Some y → y.number ≡ s.next_number → y ≡ x
      only m y there = each-at (λ r. r.number ≡ s.next_number → r ≡ x) (s.records ++ x ∷ []) m y
          (each-push (λ r. r.number ≡ s.next_number → r ≡ x) s.records x (each-map (λ r. r.number < s.next_number) (λ r. r.number ≡ s.next_number → r ≡ x) (λ r low same. absurd (omega arith)) s.records h.sound.records.below) (λ same. refl)) there

      ordered : InOrderBy IsWrittenBefore (s.records ++ x ∷ []) (moved_to_back s.next_number ns)
      ordered = ordered-back s.records (s.records ++ x ∷ []) s.next_number (λ m r other there. sym (push-other m s.records x other) ∙ there)
          (λ m y z here there.
          let one = only s.next_number z there (record_at-number (s.records ++ x ∷ []) s.next_number z there) in
          written-last moment step now next order s less rises h m y z here (ap (λ w. w.entry.step) one) (ap (λ w. w.entry.written) one)) ns h.ordered

      listed : Each (λ r. r.is_held ≡ true → IsIn r.number (moved_to_back s.next_number ns)) (s.records ++ x ∷ [])
      listed = each-push (λ r. r.is_held ≡ true → IsIn r.number (moved_to_back s.next_number ns)) s.records x
          (each-map (λ r. r.is_held ≡ true → IsIn r.number ns) (λ r. r.is_held ≡ true → IsIn r.number (moved_to_back s.next_number ns)) (λ r k held. IsIn-moved s.next_number r.number ns (k held)) s.records h.listed)
          (λ held. IsIn-append_right s.next_number (without s.next_number ns) (s.next_number ∷ []) (inl refl))

      latest : Each (λ r. (r.entry.step ≤ next) × (r.entry.written ≤ now)) (s.records ++ x ∷ [])
      latest = each-push (λ r. (r.entry.step ≤ next) × (r.entry.written ≤ now)) s.records x
          (each-map (λ r. (r.entry.step ≤ step) × (r.entry.written ≤ moment)) (λ r. (r.entry.step ≤ next) × (r.entry.written ≤ now)) (λ r k. (omega (arith, k.0, rises), omega (arith, k.1, less))) s.records h.latest) (omega arith, omega arith)

      own : Each (λ r. (expires : ℕ) → r.entry.expires ≡ Some expires → tick_of s.settings s.ran ≤ tick_of s.settings expires) (s.records ++ x ∷ [])
      own = each-push (λ r. (expires : ℕ) → r.entry.expires ≡ Some expires → tick_of s.settings s.ran ≤ tick_of s.settings expires) s.records x h.own
          (λ expires e. own-tick s.settings s.ran now (answers.created s.rules key value now) expires (let before = h.ran in omega arith) range e)
  put-timely eq answers moment step now next order s key hash value (Some r) e less range rises sound h =
      written-timely moment step now next order s (with_written answers (Some r) s key hash value now next) v less range h refl refl refl refl sound (record { ordered = ordered; listed = listed; latest = latest; own = own })
    where
      ns : List ℕ
      ns = order_after s.writes order

      entry : Entry K V
      entry = next_entry answers s r.entry key value now next

      f : Record K V → Record K V
      f x = record x { entry = entry; writes = x.writes + 1 }

      v : Upsert
      v = record { number = r.number; write = r.writes + 1; weight = entry.weight; hash = hash; kept = held_weight (changed_at r.number f s.records) }

      numbered : AreNumbered s.records
      numbered = h.sound.records.numbered

      there : record_at s.records r.number ≡ Some r
      there = held_at-only eq s.records key r numbered e

      -- what is found under its number is the new entry
      now_there : (z : Record K V) → record_at (changed_at r.number f s.records) r.number ≡ Some z → z.entry ≡ entry
      now_there z found = each-at (λ y. y.number ≡ r.number → y.entry ≡ entry) (changed_at r.number f s.records) r.number z
          (each-changed r.number f (λ y. Unit {0}) (λ y. y.number ≡ r.number → y.entry ≡ entry) (λ y same k own. refl) (λ y other k own. absurd (other own)) s.records numbered (each-map (λ y. record_at s.records y.number ≡ Some y) (λ y. Unit {0}) (λ y k. tt) s.records (each-own s.records numbered)))
          found (record_at-number (changed_at r.number f s.records) r.number z found)

      ordered : InOrderBy IsWrittenBefore (changed_at r.number f s.records) (moved_to_back r.number ns)
      ordered = ordered-back s.records (changed_at r.number f s.records) r.number (λ m x other found. sym (changed-other r.number m f (λ x. refl) s.records other) ∙ found)
          (λ m y z here found. let one = now_there z found in written-last moment step now next order s less rises h m y z here (ap (λ w. w.step) one) (ap (λ w. w.written) one)) ns h.ordered

      listed : Each (λ x. x.is_held ≡ true → IsIn x.number (moved_to_back r.number ns)) (changed_at r.number f s.records)
      listed = each-changed r.number f (λ x. x.is_held ≡ true → IsIn x.number ns) (λ x. x.is_held ≡ true → IsIn x.number (moved_to_back r.number ns))
          (λ x same k held. IsIn-moved r.number x.number ns (k held)) (λ x other k held. IsIn-moved r.number x.number ns (k held)) s.records numbered h.listed

      latest : Each (λ x. (x.entry.step ≤ next) × (x.entry.written ≤ now)) (changed_at r.number f s.records)
      latest = each-changed r.number f (λ x. (x.entry.step ≤ step) × (x.entry.written ≤ moment)) (λ x. (x.entry.step ≤ next) × (x.entry.written ≤ now))
          (λ x same k. (omega arith, omega arith)) (λ x other k. (omega (arith, k.0, rises), omega (arith, k.1, less))) s.records numbered h.latest

      own : Each (λ x. (expires : ℕ) → x.entry.expires ≡ Some expires → tick_of s.settings s.ran ≤ tick_of s.settings expires) (changed_at r.number f s.records)
      own = each-changed r.number f (λ x. (expires : ℕ) → x.entry.expires ≡ Some expires → tick_of s.settings s.ran ≤ tick_of s.settings expires) (λ x. (expires : ℕ) → x.entry.expires ≡ Some expires → tick_of s.settings s.ran ≤ tick_of s.settings expires)
          (λ x same k expires e. changed-tick s.settings s.ran now _ r.entry.expires expires (let before = h.ran in omega arith) range
          (each-at (λ x. (expires : ℕ) → x.entry.expires ≡ Some expires → tick_of s.settings s.ran ≤ tick_of s.settings expires) s.records r.number r h.own there) e)
          (λ x other k. k) s.records numbered h.own

-- ---- runs

module _ {K V P S R : Type 0} where
  -- a record that was there before the run, held as it is
  pub record RunLeaves (old new : State K V P S R) : Type 0 where
    pub sound : IsSound new
    pub from : Each (ComesFrom old.records) new.records
    pub counted : Each IsCounted new.records
    pub queue : new.writes ≡ []
    pub unsent : new.unsent ≡ []
    pub settings : new.settings ≡ old.settings

  pub run-leaves : (answers : Answers K V P R) (now : ℕ) (old new : State K V P S R) → IsSound old → old.unsent ≡ [] → Runs answers now old new → RunLeaves old new
  run-leaves answers now old new sound sent run =
      let s = run-sound answers now old new sound run in
      let c = run_tells answers now old new run in
      let none_unsent : new.unsent ≡ [] = c.keeps.unsent ∙ sent in
      let none_written : new.writes ≡ [] = ap (λ t. t.writes) run.after ∙ run.applied.writes in
      let accounted : Each (IsAccounted [] []) new.records = subst (λ us. Each (IsAccounted us []) new.records) none_unsent (subst (λ ws. Each (IsAccounted new.unsent ws) new.records) none_written s.records.accounted) in
      record {
        sound = s;
        from = each-run (ComesFrom old.records) (λ r applied counts k. record { owner = k.owner; there = k.there; number = k.number; entry = k.entry; held = k.held }) answers now old new sound
            (each-map (λ r. record_at old.records r.number ≡ Some r) (ComesFrom old.records) (λ r k. record { owner = r; there = k; number = refl; entry = refl; held = refl }) old.records (each-own old.records sound.records.numbered)) run;
        counted = each-map (IsAccounted [] []) IsCounted counted new.records accounted;
        queue = none_written;
        unsent = none_unsent;
        settings = c.keeps.settings;
      }

  from-at : (old new : State K V P S R) → RunLeaves old new → (m : ℕ) (r : Record K V) → record_at new.records m ≡ Some r → (o : Record K V) × (record_at old.records m ≡ Some o) × (o.entry ≡ r.entry) × (o.is_held ≡ r.is_held)
  from-at old new k m r there =
      let f = each-at (ComesFrom old.records) new.records m r k.from there in
      (f.owner, ap (λ n. record_at old.records n) (sym (record_at-number new.records m r there) ∙ sym f.number) ∙ f.there, f.entry, f.held)

  module _ (answers : Answers K V P R) (moment step now : ℕ) (order : List ℕ) (old new : State K V P S R) (h : IsTimelyBy moment step order old) (less : moment ≤ now) (range : now ≤ 9223372036854775807) (k : RunLeaves old new) where
    run-ordered : InOrderBy IsWrittenBefore new.records (order_after old.writes order)
    run-ordered = ordered-map old.records new.records (λ m r there. let f = from-at old new k m r there in (f.0, f.1, ap (λ e. e.step) f.2, ap (λ e. e.written) f.2)) (order_after old.writes order) h.ordered

    run-listed : (r : Record K V) → record_at new.records r.number ≡ Some r → IsIn r.number (order_after old.writes order)
    run-listed r there =
        let f = from-at old new k r.number r there in
        let held = (each-at IsCounted new.records r.number r k.counted there).held in
        let listed = each-at (λ x. x.is_held ≡ true → IsIn x.number (order_after old.writes order)) old.records r.number f.0 h.listed f.1 in
        subst (λ n. IsIn n (order_after old.writes order)) (record_at-number old.records r.number f.0 f.1) (listed (f.3 ∙ held))

    all_admitted : Each (λ r. is_some r.counts ≡ true) new.records
    all_admitted = each-map IsCounted (λ r. is_some r.counts ≡ true) (λ r c. ap (λ o. is_some o) c.counts) new.records k.counted

    first-written : (r : Record K V) → record_at new.records r.number ≡ Some r → (y : Record K V) × (first_of (admitted_in new.records (order_after old.writes order)) ≡ Some y) × IsWrittenBefore y r
    first-written r there = first-before IsWrittenBefore (λ x. (omega arith, omega arith)) new.records all_admitted (order_after old.writes order) run-ordered r.number r (run-listed r there) there

    first-used : InOrderBy IsUsedBefore new.records new.access → (r : Record K V) → record_at new.records r.number ≡ Some r → (y : Record K V) × (first_of (admitted_in new.records new.access) ≡ Some y) × IsUsedBefore y r
    first-used close r there =
        let listed = each-at (λ x. is_some x.counts ≡ true → IsIn x.number new.access) new.records r.number r k.sound.records.listed there in
        let admitted = each-at (λ x. is_some x.counts ≡ true) new.records r.number r all_admitted there in
        first-before IsUsedBefore (λ x. omega arith) new.records all_admitted new.access close r.number r (listed admitted) there

    run-own : IsSweptBy now (order_after old.writes order) old new → (r : Record K V) → record_at new.records r.number ≡ Some r → (expires : ℕ) → r.entry.expires ≡ Some expires → tick_of new.settings now ≤ tick_of new.settings expires
    run-own swept r there expires e =
        subst (λ c. tick_of c now ≤ tick_of c expires) (sym k.settings) ((elim (cases_Bool (nat_lt (tick_of old.settings old.ran) (tick_of old.settings now))) [
          | inl is ↦ tick-not_reached old.settings r.entry.expires expires now (swept.own is r there) e
          | inr is ↦ let f = from-at old new k r.number r there in let before = each-at (λ x. (expires : ℕ) → x.entry.expires ≡ Some expires → tick_of old.settings old.ran ≤ tick_of old.settings expires) old.records r.number f.0 h.own f.1 expires (ap (λ x. x.expires) f.2 ∙ e) in let low = ltb-false (tick_of old.settings old.ran) (tick_of old.settings now) is in omega (arith, before, low)
        ]))

    run-none_due : IsSweptBy now (order_after old.writes order) old new → LeavesNoneDue now new
    run-none_due swept = record {
      live = λ r there. let f = first-written r there in end-later f.0.entry.written r.entry.written new.settings.live now f.2.1 (swept.live f.0 f.1);
      clear = λ r there. let f = first-written r there in lt-false-up f.0.entry.step r.entry.step new.cleared f.2.0 (swept.clear f.0 f.1);
      own = run-own swept;
      idle = λ close r there time is_set.
          let f = first-used close r there in
          let front = end-after f.0.entry.used time now (sym (ap (λ o. is_reached (end_of f.0.entry.used o) now) is_set) ∙ swept.idle f.0 f.1) in
          let near = f.2 in
          omega arith;
    }

-- a run that looks at everything leaves none that is due
module _ {K V P S R : Type 0} (answers : Answers K V P R) (now : ℕ) (s : State K V P S R) (quiet : NothingIsDue answers now s) (counted : Each IsCounted s.records) where
  all-alive : (r : Record K V) → record_at s.records r.number ≡ Some r
      → (is_reached r.entry.expires now ≡ false) × (is_reached (end_of r.entry.written s.settings.live) now ≡ false) × (is_reached (end_of r.entry.used s.settings.idle) now ≡ false)
  all-alive r there =
      let held = (each-at IsCounted s.records r.number r counted there).held in
      let one = earlier-not_reached r.entry.expires (earlier_of (end_of r.entry.written s.settings.live) (end_of r.entry.used s.settings.idle)) now (quiet.alive r there held) in
      let two = earlier-not_reached (end_of r.entry.written s.settings.live) (end_of r.entry.used s.settings.idle) now one.1 in
      (one.0, two.0, two.1)

  all-clear : (r : Record K V) → record_at s.records r.number ≡ Some r → nat_lt r.entry.step s.cleared ≡ false
  all-clear r there =
      let held = (each-at IsCounted s.records r.number r counted there).held in
      (or_right (nat_lt r.entry.step s.cleared) (list_any (λ p. is_covered_by answers s.rules p r.entry) s.predicates) (quiet.uncovered r there held)).0

module _ (K V P S R : Type 0) where
  pub swept_runs_leave_none_due_by : SweptRunsLeaveNoneDueBy K V P S R
  swept_runs_leave_none_due_by answers moment step now order old new h less range run swept =
      run-none_due answers moment step now order old new h less range (run-leaves answers now old new h.sound h.sent run) swept

  pub swept_runs_stay_timely_by : SweptRunsStayTimelyBy K V P S R
  swept_runs_stay_timely_by answers moment step now order old new h less range run swept =
      let k = run-leaves answers now old new h.sound h.sent run in
      let ns = order_after old.writes order in
      let own = each-own new.records k.sound.records.numbered in
      let ran : new.ran ≡ now = ap (λ t. t.ran) run.after in
      record {
        sound = k.sound;
        sent = k.unsent;
        ordered = subst (λ ws. InOrderBy IsWrittenBefore new.records (order_after ws ns)) (sym k.queue) (run-ordered answers moment step now order old new h less range k);
        listed = subst (λ ws. Each (λ r. r.is_held ≡ true → IsIn r.number (order_after ws ns)) new.records) (sym k.queue)
            (each-map (λ r. record_at new.records r.number ≡ Some r) (λ r. r.is_held ≡ true → IsIn r.number ns) (λ r there held. run-listed answers moment step now order old new h less range k r there) new.records own);
        latest = each-map (λ r. record_at new.records r.number ≡ Some r) (λ r. (r.entry.step ≤ step) × (r.entry.written ≤ now))
            (λ r there.
            let f = from-at old new k r.number r there in
            let low = each-at (λ x. (x.entry.step ≤ step) × (x.entry.written ≤ moment)) old.records r.number f.0 h.latest f.1 in
            (omega (arith, low.0, ap (λ e. e.step) f.2), omega (arith, low.1, ap (λ e. e.written) f.2))) new.records own;
        own = subst (λ m. Each (λ r. (expires : ℕ) → r.entry.expires ≡ Some expires → tick_of new.settings m ≤ tick_of new.settings expires) new.records) (sym ran)
            (each-map (λ r. record_at new.records r.number ≡ Some r) (λ r. (expires : ℕ) → r.entry.expires ≡ Some expires → tick_of new.settings now ≤ tick_of new.settings expires)
            (λ r there. run-own answers moment step now order old new h less range k swept r there) new.records own);
        ran = omega (arith, ran);
        range = range;
      }

  pub calls_stay_timely_by : CallsStayTimelyBy K V P S R
  calls_stay_timely_by =
      let sound = calls_stay_sound K V P S R in
      record {
        empty = λ s none access unsent queue low. record {
          sound = sound.empty s none access unsent queue;
          sent = unsent;
          ordered = subst (λ ws. InOrderBy IsWrittenBefore s.records (order_after ws [])) (sym queue) tt;
          listed = subst (λ rs. Each (λ r. r.is_held ≡ true → IsIn r.number (order_after s.writes [])) rs) (sym none) tt;
          latest = subst (λ rs. Each (λ r. (r.entry.step ≤ 0) × (r.entry.written ≤ s.ran)) rs) (sym none) tt;
          own = subst (λ rs. Each (λ r. (expires : ℕ) → r.entry.expires ≡ Some expires → tick_of s.settings s.ran ≤ tick_of s.settings expires) rs) (sym none) tt;
          ran = omega arith;
          range = low;
        };
        written = λ eq answers moment step order s key hash value now next h less range rises. put-timely eq answers moment step now next order s key hash value (held_at eq s.records key) refl less range rises
            (sound.sent s.next_ticket _ (sound.written eq answers s key hash value now next h.sound)) h;
        removed = λ eq moment step order s key h. removed-timely eq moment step order s key (held_at eq s.records key) refl (sound.sent s.next_ticket _ (sound.removed eq key s h.sound)) h;
        read = λ answers moment step order s found hash now h less range. timely-later moment step now order (with_read answers found hash now s) less range (read-timely answers moment step order s found hash now less range h);
        removal_told = λ answers moment step order s e now h. told-timely answers moment step order s e now (sound.removal_told answers e now s h.sound) h;
        cleared = λ moment step order s next h. timely-same moment step order s _ (sound.cleared next s h.sound) refl refl refl refl refl h;
        covered = λ moment step order s p h. timely-same moment step order s _ (sound.covered p s h.sound) refl refl refl refl refl h;
        room = λ moment step order s h. timely-same moment step order s _ (sound.room s h.sound) refl refl refl refl refl h;
        released = λ moment step order s h. timely-same moment step order s _ (sound.released s h.sound) refl refl refl refl refl h;
        taken = λ moment step order s h. timely-same moment step order s _ (sound.taken s h.sound) refl refl refl refl refl h;
      }

  pub looking_at_all_sweeps : LookingAtAllSweeps K V P S R
  looking_at_all_sweeps answers now old new sound sent run quiet =
      let k = run-leaves answers now old new sound sent run in
      record {
        live = λ r first. (all-alive answers now new quiet k.counted r (first-found new.records new.order r first)).1;
        clear = λ r first. all-clear answers now new quiet k.counted r (first-found new.records new.order r first);
        idle = λ r first. (all-alive answers now new quiet k.counted r (first-found new.records new.access r first)).2;
        own = λ later r there. (all-alive answers now new quiet k.counted r there).0;
      }
