-- Runs keep a sound state sound, and where nothing is pending its counts are exact.
use Rattle.std.proofs.Common.{zero, suc, ◌≡◌, refl, ap, sym, ◌∙◌, subst, ℕ, ◌+◌, ◌<◌, ◌≤◌, arith, true, true≢false, cond, List, [], ◌∷◌, Option, Some, None, length, is_some, inl, inr}
use Rattle.std.specs.Prelude.{fold, nat_lt, min, slice_get}
use Rattle.std.proofs.lemmas.Bool.{cases_Bool, cond_both, ltb-true, ltb-false, cases_eq, cases_lt, eq-eqb}
use Rattle.policy_base.specs.Counts.{incremented}
use Rattle.engine_reference.specs.declared.rules.causes.RemovalCause.{RemovalCause}
use Rattle.engine_reference.specs.declared.rules.causes.RemovalCause.TheVariants as cause
use Rattle.engine_reference.specs.declared.data.Record.{Record}
use Rattle.engine_reference.specs.declared.data.Unsent.{Unsent}
use Rattle.engine_reference.specs.declared.data.Upsert.{Upsert}
use Rattle.engine_reference.specs.declared.data.Read.{Read}
use Rattle.engine_reference.specs.declared.data.Read.TheVariants.{Hit, Miss}
use Rattle.engine_reference.specs.declared.data.Write.{Write}
use Rattle.engine_reference.specs.declared.data.Write.TheVariants.{Put, Removed}
use Rattle.engine_reference.specs.Admission.{Verdict, admit, displace, refuse, verdict}
use Rattle.engine_reference.specs.Laws.{RunsStaySound, CountsAreExact}
use Rattle.engine_reference.specs.Records.{record_at, without_record, changed_at, without, moved_to_back, held_entries, held_weight, admitted_weight, admitted_number, weight_at, is_settled, settled_in, with_settled}
use Rattle.engine_reference.specs.Runs.{Step, reads, writes, grows, leaves, evicts, ends, Steps, Runs, with_left, left, all_left, after_read, after_hit, after_write, after_put, after_removal, counting, put_off, judged, is_overtaken}
use Rattle.engine_reference.specs.Soundness.{IsIn, number_of, IsPending, Each, AreNumbered, IsLastOf, IsAccounted, AreSound, IsSound}
use Rattle.engine_reference.specs.State.{State, Answers}
use Rattle.engine_reference.proofs.TellingSteps.{run_tells}
use Rattle.engine_reference.proofs.HeldRecords.{record_at-number}
use Rattle.engine_reference.proofs.Accounts.{once-without, once-moved, IsIn-without, IsIn-append_right, IsIn-moved, each-map, each-both, none_there, only_one, numbered-changed, numbered-without, each-changed, each-without, popped, popped_other, popped_counts, popped_put_off, was_pending}
use Rattle.std.proofs.lemmas.Bool.Decides.{nat_tests}

module _ {K V : Type 0} (unsent : List Unsent) (next : ℕ) where
  pub sound-without : (ws : List Write) (n : ℕ) (rs : List (Record K V)) (ns : List ℕ) → AreSound unsent ws next rs ns → AreSound unsent ws next (without_record n rs) (without n ns)
  sound-without ws n rs ns h = record {
    numbered = numbered-without n rs h.numbered;
    below = each-without n (λ r. r.number < next) (λ r. r.number < next) (λ r other k. k) rs h.numbered h.below;
    accounted = each-without n (IsAccounted unsent ws) (IsAccounted unsent ws) (λ r other k. k) rs h.numbered h.accounted;
    listed = each-without n (λ r. is_some r.counts ≡ true → IsIn r.number ns) (λ r. is_some r.counts ≡ true → IsIn r.number (without n ns)) (λ r other k counts. IsIn-without n r.number ns other (k counts)) rs h.numbered h.listed;
    once = once-without n ns h.once;
  }

  -- the oldest write is taken off, and is the last of no record that is not settled
  pub sound-popped : (w : Write) (rest : List Write) (rs : List (Record K V)) (ns : List ℕ) → Each (λ r. (r.applied ≡ r.writes → ⊥) → IsLastOf w r → ⊥) rs
      → AreSound unsent (w ∷ rest) next rs ns → AreSound unsent rest next rs ns
  sound-popped w rest rs ns not_last h = record {
    numbered = h.numbered;
    below = h.below;
    accounted = each-map (λ r. IsAccounted unsent (w ∷ rest) r × ((r.applied ≡ r.writes → ⊥) → IsLastOf w r → ⊥)) (IsAccounted unsent rest) (λ r k. popped unsent rest w r k.1 k.0) rs
        (each-both (IsAccounted unsent (w ∷ rest)) (λ r. (r.applied ≡ r.writes → ⊥) → IsLastOf w r → ⊥) rs h.accounted not_last);
    listed = h.listed;
    once = h.once;
  }

  -- and its record goes
  pub sound-gone : (w : Write) (rest : List Write) (n : ℕ) (rs : List (Record K V)) (ns : List ℕ) → number_of w ≡ n → AreSound unsent (w ∷ rest) next rs ns → AreSound unsent rest next (without_record n rs) (without n ns)
  sound-gone w rest n rs ns same h =
      let k = sound-without (w ∷ rest) n rs ns h in
      record {
        numbered = k.numbered;
        below = k.below;
        accounted = each-without n (IsAccounted unsent (w ∷ rest)) (IsAccounted unsent rest) (λ r other a. popped_other unsent rest w r (λ e. other (e ∙ same)) a) rs h.numbered h.accounted;
        listed = k.listed;
        once = k.once;
      }

  pub sound-counting : (u : Upsert) (rest : List Write) (rs : List (Record K V)) (ns : List ℕ) → Each (λ r. r.number ≡ u.number → r.applied < u.write) rs
      → AreSound unsent (Put u ∷ rest) next rs ns
      → AreSound unsent rest next (changed_at u.number (λ r. record r { applied = u.write; counts = Some u.weight }) rs) (moved_to_back u.number ns)
  sound-counting u rest rs ns newer h = record {
    numbered = numbered-changed u.number (λ r. record r { applied = u.write; counts = Some u.weight }) (λ r. refl) rs h.numbered;
    below = each-changed u.number (λ r. record r { applied = u.write; counts = Some u.weight }) (λ r. r.number < next) (λ r. r.number < next) (λ r same k. k) (λ r other k. k) rs h.numbered h.below;
    accounted = each-changed u.number (λ r. record r { applied = u.write; counts = Some u.weight })
        (λ r. IsAccounted unsent (Put u ∷ rest) r × (r.number ≡ u.number → r.applied < u.write)) (IsAccounted unsent rest)
        (λ r same k. popped_counts unsent rest u r same (k.1 same) k.0)
        (λ r other k. popped_other unsent rest (Put u) r other k.0)
        rs h.numbered (each-both (IsAccounted unsent (Put u ∷ rest)) (λ r. r.number ≡ u.number → r.applied < u.write) rs h.accounted newer);
    listed = each-changed u.number (λ r. record r { applied = u.write; counts = Some u.weight })
        (λ r. is_some r.counts ≡ true → IsIn r.number ns) (λ r. is_some r.counts ≡ true → IsIn r.number (moved_to_back u.number ns))
        (λ r same k counts. IsIn-append_right r.number (without u.number ns) (u.number ∷ []) (inl (sym same)))
        (λ r other k counts. IsIn-moved u.number r.number ns (k counts)) rs h.numbered h.listed;
    once = once-moved u.number ns h.once;
  }

  sound-put_off : (u : Upsert) (rest : List Write) (rs : List (Record K V)) (ns : List ℕ) → Each (λ r. r.number ≡ u.number → (r.applied < u.write) × (is_overtaken u r ≡ true)) rs
      → AreSound unsent (Put u ∷ rest) next rs ns → AreSound unsent rest next (changed_at u.number (λ r. record r { applied = u.write }) rs) ns
  sound-put_off u rest rs ns newer h = record {
    numbered = numbered-changed u.number (λ r. record r { applied = u.write }) (λ r. refl) rs h.numbered;
    below = each-changed u.number (λ r. record r { applied = u.write }) (λ r. r.number < next) (λ r. r.number < next) (λ r same k. k) (λ r other k. k) rs h.numbered h.below;
    accounted = each-changed u.number (λ r. record r { applied = u.write })
        (λ r. IsAccounted unsent (Put u ∷ rest) r × (r.number ≡ u.number → (r.applied < u.write) × (is_overtaken u r ≡ true))) (IsAccounted unsent rest)
        (λ r same k. popped_put_off unsent rest u r same (k.1 same).0 (k.1 same).1 k.0)
        (λ r other k. popped_other unsent rest (Put u) r other k.0)
        rs h.numbered (each-both (IsAccounted unsent (Put u ∷ rest)) (λ r. r.number ≡ u.number → (r.applied < u.write) × (is_overtaken u r ≡ true)) rs h.accounted newer);
    listed = each-changed u.number (λ r. record r { applied = u.write })
        (λ r. is_some r.counts ≡ true → IsIn r.number ns) (λ r. is_some r.counts ≡ true → IsIn r.number ns) (λ r same k. k) (λ r other k. k) rs h.numbered h.listed;
    once = h.once;
  }

-- ---- what a step leaves of the queues

module _ {K V P S R : Type 0} where
  pub record Frame (old new : State K V P S R) : Type 0 where
    pub unsent : new.unsent ≡ old.unsent
    pub writes : new.writes ≡ old.writes
    pub reads : new.reads ≡ old.reads
    pub next : new.next_number ≡ old.next_number

  Frame-refl : (s : State K V P S R) → Frame s s
  Frame-refl s = record { unsent = refl; writes = refl; reads = refl; next = refl }

  Frame-trans : (a b c : State K V P S R) → Frame a b → Frame b c → Frame a c
  Frame-trans a b c h k = record { unsent = k.unsent ∙ h.unsent; writes = k.writes ∙ h.writes; reads = k.reads ∙ h.reads; next = k.next ∙ h.next }

  pub with_left-frame : (why : RemovalCause) (s : State K V P S R) (o : Option (Record K V)) → Frame s (with_left why s o)
  with_left-frame why s None = Frame-refl s
  with_left-frame why s (Some r) = record { unsent = refl; writes = refl; reads = refl; next = refl }

  pub left-frame : (why : RemovalCause) (n : ℕ) (s : State K V P S R) → Frame s (left why n s)
  left-frame why n s = with_left-frame why s (record_at s.records n)

  pub all_left-frame : (why : RemovalCause) (vs : List (Record K V)) (s : State K V P S R) → Frame s (all_left why vs s)
  all_left-frame why [] s = Frame-refl s
  all_left-frame why (v ∷ vs) s = Frame-trans s (left why v.number s) (all_left why (v ∷ vs) s) (left-frame why v.number s) (all_left-frame why vs (left why v.number s))

  counting-frame : (u : Upsert) (s : State K V P S R) → Frame s (counting u s)
  counting-frame u s = record { unsent = refl; writes = refl; reads = refl; next = refl }

  judged-frame : (u : Upsert) (r : Record K V) (s : State K V P S R) (v : Verdict K V) → Frame s (judged u r s v)
  judged-frame u r s admit = counting-frame u s
  judged-frame u r s (displace vs) = let t = all_left cause.Size vs s in Frame-trans s t (counting u t) (all_left-frame cause.Size vs s) (counting-frame u t)
  judged-frame u r s refuse = cond_both (is_overtaken u r) _ _ (Frame s) (λ _. record { unsent = refl; writes = refl; reads = refl; next = refl }) (λ _. left-frame cause.Size u.number s)

  after_put-frame : (u : Upsert) (o : Option (Record K V)) (s : State K V P S R) → Frame s (after_put u o s)
  after_put-frame u None s = Frame-refl s
  after_put-frame u (Some r) s =
      cond_both (nat_lt r.applied u.write) _ _ (Frame s) (λ _. cond_both (is_some r.counts) _ _ (Frame s) (λ _. counting-frame u s) (λ _. judged-frame u r s (verdict s u))) (λ _. Frame-refl s)

  after_removal-frame : (o : Option (Record K V)) (s : State K V P S R) → Frame s (after_removal o s)
  after_removal-frame None s = Frame-refl s
  after_removal-frame (Some r) s = cond_both r.is_held _ _ (Frame s) (λ _. Frame-refl s) (λ _. record { unsent = refl; writes = refl; reads = refl; next = refl })

  pub after_write-frame : (w : Write) (s : State K V P S R) → Frame s (after_write w s)
  after_write-frame (Put u) s = after_put-frame u (record_at s.records u.number) s
  after_write-frame (Removed n) s = after_removal-frame (record_at s.records n) s

  -- ---- soundness, step by step

  pub left-sound : (unsent : List Unsent) (ws : List Write) (next : ℕ) (why : RemovalCause) (n : ℕ) (s : State K V P S R) → AreSound unsent ws next s.records s.access → AreSound unsent ws next (left why n s).records (left why n s).access
  left-sound unsent ws next why n s h = go (record_at s.records n)
    where
      go : (o : Option (Record K V)) → AreSound unsent ws next (with_left why s o).records (with_left why s o).access
      go None = h
      go (Some r) = sound-without unsent next ws r.number s.records s.access h

  pub left-each : (Q : Record K V → Type 0) (why : RemovalCause) (n : ℕ) (s : State K V P S R) → AreNumbered s.records → Each Q s.records → Each Q (left why n s).records
  left-each Q why n s numbered h = go (record_at s.records n)
    where
      go : (o : Option (Record K V)) → Each Q (with_left why s o).records
      go None = h
      go (Some r) = each-without r.number Q Q (λ x other k. k) s.records numbered h

  pub all_left-sound : (unsent : List Unsent) (ws : List Write) (next : ℕ) (Q : Record K V → Type 0) (why : RemovalCause) (vs : List (Record K V)) (s : State K V P S R)
      → AreSound unsent ws next s.records s.access → Each Q s.records → AreSound unsent ws next (all_left why vs s).records (all_left why vs s).access × Each Q (all_left why vs s).records
  all_left-sound unsent ws next Q why [] s h k = (h, k)
  all_left-sound unsent ws next Q why (v ∷ vs) s h k =
      all_left-sound unsent ws next Q why vs (left why v.number s) (left-sound unsent ws next why v.number s h) (left-each Q why v.number s h.numbered k)

  module _ (unsent : List Unsent) (rest : List Write) (next : ℕ) (u : Upsert) (s : State K V P S R) (h : AreSound unsent (Put u ∷ rest) next s.records s.access) where
    judged-sound : (x : Record K V) → record_at s.records u.number ≡ Some x → x.applied < u.write → (v : Verdict K V) → AreSound unsent rest next (judged u x s v).records (judged u x s v).access
    judged-sound x here newer v = go v
      where
        only : Each (λ r. r.number ≡ u.number → r ≡ x) s.records
        only = only_one u.number x s.records h.numbered here

        all_newer : Each (λ r. r.number ≡ u.number → r.applied < u.write) s.records
        all_newer = each-map (λ r. r.number ≡ u.number → r ≡ x) (λ r. r.number ≡ u.number → r.applied < u.write) (λ r k e. subst (λ y. y.applied < u.write) (sym (k e)) newer) s.records only

        put_away : is_overtaken u x ≡ true → AreSound unsent rest next (put_off u s).records (put_off u s).access
        put_away t = sound-put_off unsent next u rest s.records s.access
            (each-map (λ r. r.number ≡ u.number → r ≡ x) (λ r. r.number ≡ u.number → (r.applied < u.write) × (is_overtaken u r ≡ true))
            (λ r k e. (subst (λ y. y.applied < u.write) (sym (k e)) newer, ap (λ y. is_overtaken u y) (k e) ∙ t)) s.records only) h

        gone : (o : Option (Record K V)) → record_at s.records u.number ≡ o → AreSound unsent rest next (with_left cause.Size s o).records (with_left cause.Size s o).access
        gone None e = absurd (let both : Some x ≡ None = sym here ∙ e in cc)
        gone (Some r) e = sound-gone unsent next (Put u) rest r.number s.records s.access (sym (record_at-number s.records u.number r e)) h

        go : (v : Verdict K V) → AreSound unsent rest next (judged u x s v).records (judged u x s v).access
        go admit = sound-counting unsent next u rest s.records s.access all_newer h
        go (displace vs) =
            let k = all_left-sound unsent (Put u ∷ rest) next (λ r. r.number ≡ u.number → r.applied < u.write) cause.Size vs s h all_newer in
            sound-counting unsent next u rest (all_left cause.Size vs s).records (all_left cause.Size vs s).access k.1 k.0
        go refuse = cond_both (is_overtaken u x) _ _ (λ (t : State K V P S R). AreSound unsent rest next t.records t.access) put_away (λ _. gone (record_at s.records u.number) refl)

    pub after_put-sound : (o : Option (Record K V)) → record_at s.records u.number ≡ o → AreSound unsent rest next (after_put u o s).records (after_put u o s).access
    after_put-sound None here =
        sound-popped unsent next (Put u) rest s.records s.access
        (each-map (λ r. r.number ≡ u.number → ⊥) (λ r. (r.applied ≡ r.writes → ⊥) → IsLastOf (Put u) r → ⊥) (λ r other unsettled last. other (sym last.0)) s.records (none_there u.number s.records here)) h
    after_put-sound (Some x) here =
        let now = judged-sound x here in
        cond_both (nat_lt x.applied u.write) _ _ (λ (t : State K V P S R). AreSound unsent rest next t.records t.access)
        (λ t. cond_both (is_some x.counts) _ _ (λ (t : State K V P S R). AreSound unsent rest next t.records t.access) (λ _. now (ltb-true x.applied u.write t) admit) (λ _. now (ltb-true x.applied u.write t) (verdict s u)))
        (λ t. late (ltb-false x.applied u.write t))
      where
        late : u.write ≤ x.applied → AreSound unsent rest next s.records s.access
        late older =
            sound-popped unsent next (Put u) rest s.records s.access
            (each-map (λ r. (r.number ≡ u.number → r ≡ x) × IsAccounted unsent (Put u ∷ rest) r) (λ r. (r.applied ≡ r.writes → ⊥) → IsLastOf (Put u) r → ⊥)
            (λ r k unsettled last.
            let upper = k.1.applied in
            let low : u.write ≤ r.applied = subst (λ y. u.write ≤ y.applied) (sym (k.0 (sym last.0))) older in
            let is_last = last.1 in
            unsettled (omega arith)) s.records
            (each-both (λ r. r.number ≡ u.number → r ≡ x) (IsAccounted unsent (Put u ∷ rest)) s.records (only_one u.number x s.records h.numbered here) h.accounted)) h

  after_removal-sound : (unsent : List Unsent) (rest : List Write) (next n : ℕ) (s : State K V P S R) → AreSound unsent (Removed n ∷ rest) next s.records s.access
      → (o : Option (Record K V)) → record_at s.records n ≡ o → AreSound unsent rest next (after_removal o s).records (after_removal o s).access
  after_removal-sound unsent rest next n s h None here =
      sound-popped unsent next (Removed n) rest s.records s.access
      (each-map (λ r. r.number ≡ n → ⊥) (λ r. (r.applied ≡ r.writes → ⊥) → IsLastOf (Removed n) r → ⊥) (λ r other unsettled last. other (sym last.0)) s.records (none_there n s.records here)) h
  after_removal-sound unsent rest next n s h (Some x) here =
      elim (cases_Bool x.is_held) [
        | inl e ↦ rw e (sound-popped unsent next (Removed n) rest s.records s.access (each-map (λ r. r.number ≡ n → r ≡ x) (λ r. (r.applied ≡ r.writes → ⊥) → IsLastOf (Removed n) r → ⊥) (λ r one unsettled last. true≢false (sym e ∙ ap (λ y. y.is_held) (sym (one (sym last.0))) ∙ last.1)) s.records (only_one n x s.records h.numbered here)) h)
        | inr e ↦ rw e (sound-gone unsent next (Removed n) rest x.number s.records s.access (sym (record_at-number s.records n x here)) h)
      ]
    where
      gone : State K V P S R
      gone = record s { records = without_record x.number s.records; access = without x.number s.access; order = without x.number s.order }

  pub after_write-sound : (unsent : List Unsent) (rest : List Write) (next : ℕ) (w : Write) (s : State K V P S R) → AreSound unsent (w ∷ rest) next s.records s.access → AreSound unsent rest next (after_write w s).records (after_write w s).access
  after_write-sound unsent rest next (Put u) s h = after_put-sound unsent rest next u s h (record_at s.records u.number) refl
  after_write-sound unsent rest next (Removed n) s h = after_removal-sound unsent rest next n s h (record_at s.records n) refl

  sound-from : (unsent : List Unsent) (ws : List Write) (next : ℕ) (new : State K V P S R) → new.unsent ≡ unsent → new.writes ≡ ws → new.next_number ≡ next
      → AreSound unsent ws next new.records new.access → ((w : Write) → IsPending unsent ws w → number_of w < next) → IsSound new
  sound-from unsent ws next new eu ew en h named = record {
    records = rw (eu, ew, en) h;
    named = rw (eu, ew, en) named;
  }

  after_read-sound : (r : Read) (s : State K V P S R) → IsSound s → IsSound (after_read r s)
  after_read-sound (Miss hash) s h = record { records = h.records; named = h.named }
  after_read-sound (Hit n hash) s h = by_record (record_at s.records n)
    where
      t : State K V P S R
      t = record s { sketch = incremented s.sketch hash }

      moved : ℕ → State K V P S R
      moved m = record t { access = moved_to_back m s.access }

      moved-sound : (m : ℕ) → IsSound (moved m)
      moved-sound m = record {
        records = record {
          numbered = h.records.numbered;
          below = h.records.below;
          accounted = h.records.accounted;
          listed = each-map (λ r. is_some r.counts ≡ true → IsIn r.number s.access) (λ r. is_some r.counts ≡ true → IsIn r.number (moved_to_back m s.access))
              (λ r k counts. IsIn-moved m r.number s.access (k counts)) s.records h.records.listed;
          once = once-moved m s.access h.records.once;
        };
        named = h.named;
      }

      by_record : (o : Option (Record K V)) → IsSound (after_hit o t)
      by_record None = record { records = h.records; named = h.named }
      by_record (Some r) = cond_both (is_some r.counts) _ _ IsSound (λ _. moved-sound r.number) (λ _. record { records = h.records; named = h.named })

  pub left-is_sound : (why : RemovalCause) (n : ℕ) (s : State K V P S R) → IsSound s → IsSound (left why n s)
  left-is_sound why n s h =
      let f = left-frame why n s in
      sound-from s.unsent s.writes s.next_number (left why n s) f.unsent f.writes f.next (left-sound s.unsent s.writes s.next_number why n s h.records) h.named

  pub popped-is_sound : (old : State K V P S R) (w : Write) (rest : List Write) → old.writes ≡ w ∷ rest → IsSound old → IsSound (after_write w (record old { writes = rest }))
  popped-is_sound old w rest e h =
      let s = record old { writes = rest } in
      let f = after_write-frame w s in
      let whole : AreSound old.unsent (w ∷ rest) old.next_number old.records old.access = subst (λ ws. AreSound old.unsent ws old.next_number old.records old.access) e h.records in
      let names : ((v : Write) → IsPending old.unsent (w ∷ rest) v → number_of v < old.next_number) = subst (λ ws. (v : Write) → IsPending old.unsent ws v → number_of v < old.next_number) e h.named in
      sound-from old.unsent rest old.next_number (after_write w s) f.unsent f.writes f.next
      (after_write-sound old.unsent rest old.next_number w s whole) (λ v p. names v (was_pending old.unsent rest w v p))

module _ {K V P S R : Type 0} (answers : Answers K V P R) (now : ℕ) where
  pub step-sound : (old new : State K V P S R) → IsSound old → Step answers now old new → IsSound new
  step-sound old new h (reads r rest e after) = subst (λ t. IsSound t) (sym after) (after_read-sound r (record old { reads = rest }) (record { records = h.records; named = h.named }))
  step-sound old new h (writes w rest none e after) = subst (λ t. IsSound t) (sym after) (popped-is_sound old w rest e h)
  step-sound old new h (grows words applied wants capacity is_set size after) = subst (λ t. IsSound t) (sym after) (record { records = h.records; named = h.named })
  step-sound old new h (leaves r why applied there held due after) = subst (λ t. IsSound t) (sym after) (left-is_sound why r.number old h)
  step-sound old new h (evicts r applied clean above next after) = subst (λ t. IsSound t) (sym after) (left-is_sound cause.Size r.number old h)
  step-sound old new h (ends place p applied there none after) = subst (λ t. IsSound t) (sym after) (record { records = h.records; named = h.named })

  pub steps-sound : (stages : List (State K V P S R)) (old new : State K V P S R) → IsSound old → Steps answers now old stages new → IsSound new
  steps-sound [] old new h e = subst (λ t. IsSound t) (sym e) h
  steps-sound (mid ∷ stages) old new h k = steps-sound stages mid new (step-sound old mid h k.0) k.1

  pub run-sound : (old new : State K V P S R) → IsSound old → Runs answers now old new → IsSound new
  run-sound old new h k =
      let s = steps-sound k.stages old k.last h k.steps in
      subst (λ t. IsSound t) (sym k.after) (record { records = s.records; named = s.named })

-- ---- counts where nothing is pending

module _ {K V : Type 0} where
  -- settled, held, and counted with its weight
  pub record IsCounted (r : Record K V) : Type 0 where
    pub settled : r.applied ≡ r.writes
    pub held : r.is_held ≡ true
    pub counts : r.counts ≡ Some r.entry.weight

  pub counted : (r : Record K V) → IsAccounted [] [] r → IsCounted r
  counted r h = elim (cases_eq r.applied r.writes) [
    | inl e ↦ (let c = h.counts e in record { settled = e; held = c.0; counts = c.1 })
    | inr other ↦ absurd (nothing_pending (h.waits other).0 (h.waits other).1)
  ]
    where
      nothing_pending : (w : Write) → IsPending [] [] w → ⊥
      nothing_pending w (inl h) = h
      nothing_pending w (inr h) = h

  counted-number_from : (rs : List (Record K V)) (n : ℕ) → Each IsCounted rs → fold (λ n r. n + cond (is_some r.counts) 1 0) n rs ≡ n + length (held_entries rs)
  counted-number_from [] n h = omega arith
  counted-number_from (r ∷ rs) n h =
      let later = counted-number_from rs (n + 1) h.1 in
      rw ((h.0).counts, (h.0).held) (later ∙ (omega arith))

  counted-number : (rs : List (Record K V)) → Each IsCounted rs → admitted_number rs ≡ length (held_entries rs)
  counted-number rs h = counted-number_from rs 0 h ∙ (omega arith)

  counted-weight_from : (rs : List (Record K V)) (w : ℕ) → Each IsCounted rs → fold (λ w r. w + weight_at r) w rs ≡ fold (λ w e. w + e.weight) w (held_entries rs)
  counted-weight_from [] w h = refl
  counted-weight_from (r ∷ rs) w h = rw ((h.0).counts, (h.0).held) (counted-weight_from rs (w + r.entry.weight) h.1)

  pub counted-weight : (rs : List (Record K V)) → Each IsCounted rs → admitted_weight rs ≡ held_weight rs
  counted-weight rs h = counted-weight_from rs 0 h

  some_settled : (n : ℕ) (r : Record K V) (rs : List (Record K V)) (ns : List ℕ) → record_at rs n ≡ Some r → is_settled r ≡ true → IsIn n ns → settled_in rs ns ≡ [] → ⊥
  some_settled n r rs [] there settled h e = h
  some_settled n r rs (m ∷ ns) there settled (inl same) e =
      let found : record_at rs m ≡ Some r = ap (λ k. record_at rs k) same ∙ there in
      let whole : r ∷ settled_in rs ns ≡ [] = sym (ap (λ b. cond b (r ∷ settled_in rs ns) (settled_in rs ns)) settled) ∙ sym (ap (λ o. with_settled o (settled_in rs ns)) found) ∙ e in
      absurd (cc)
  some_settled n r rs (m ∷ ns) there settled (inr h) e = some_settled n r rs ns there settled h (none_left (record_at rs m) e)
    where
      none_left : (o : Option (Record K V)) → with_settled o (settled_in rs ns) ≡ [] → settled_in rs ns ≡ []
      none_left None e = e
      none_left (Some x) e = grind (arith, nat_tests, x, e)

  -- where none that is settled is left to go, nothing is held
  all_gone : (rs : List (Record K V)) (ns : List ℕ) → Each IsCounted rs → Each (λ r. is_some r.counts ≡ true → IsIn r.number ns) rs → settled_in rs ns ≡ [] → admitted_weight rs ≡ 0
  all_gone [] ns h listed e = refl
  all_gone (r ∷ rs) ns h listed e =
      absurd (some_settled r.number r (r ∷ rs) ns
      (ap (λ b. cond b (Some r) (record_at rs r.number)) (eq-eqb r.number r.number refl))
      (eq-eqb r.writes r.applied (sym (h.0).settled))
      (listed.0 (ap (λ o. is_some o) (h.0).counts)) e)

nothing_at : {X : Type 0} (place : ℕ) (x : X) → slice_get [] place ≡ Some x → ⊥
nothing_at zero x e = absurd (cc)
nothing_at (suc place) x e = absurd (cc)

module _ (K V P S R : Type 0) where
  pub runs_stay_sound : RunsStaySound K V P S R
  runs_stay_sound answers now old new h k = run-sound answers now old new h k

  pub counts_are_exact : CountsAreExact K V P S R
  counts_are_exact answers now old new h sent k =
      let s = run-sound answers now old new h k.runs in
      let c = run_tells answers now old new k.runs in
      let e = k.runs.after in
      let none_unsent : new.unsent ≡ [] = c.keeps.unsent ∙ sent in
      let none_written : new.writes ≡ [] = ap (λ t. t.writes) e ∙ k.runs.applied.writes in
      let nothing : Each (IsAccounted [] []) new.records = subst (λ us. Each (IsAccounted us []) new.records) none_unsent (subst (λ ws. Each (IsAccounted new.unsent ws) new.records) none_written s.records.accounted) in
      let all = each-map (IsAccounted [] []) IsCounted counted new.records nothing in
      record {
        number = ap (λ t. t.number) e ∙ sym (ap (λ t. admitted_number t.records) e) ∙ counted-number new.records all;
        weight = ap (λ t. t.weight) e ∙ sym (ap (λ t. min (admitted_weight t.records) 18446744073709551615) e) ∙ ap (λ w. min w 18446744073709551615) (counted-weight new.records all);
        within = λ capacity is_set above. elim (cases_lt capacity (admitted_weight new.records)) [
          | inl over ↦ (let none = all_gone new.records new.access all s.records.listed (k.done.within capacity is_set above over) in absurd (omega arith))
          | inr fits ↦ subst (λ w. w ≤ capacity) (counted-weight new.records all) fits
        ];
        uncovered = λ place p there. absurd (nothing_at place p (subst (λ ps. slice_get ps place ≡ Some p) k.done.ended there));
      }
