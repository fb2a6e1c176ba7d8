-- The state's own write list is in order after each run, where the pending writes of a record rise.
use Rattle.std.proofs.Common.{◌≡◌, refl, ap, sym, ◌∙◌, subst, ℕ, ◌+◌, ◌<◌, arith, Bool, true, false, true≢false, List, [], ◌∷◌, ◌++◌, Option, Some, None, is_some, inl, inr, ◌⊎◌, ◌==◌}
use Rattle.std.specs.Prelude.{nat_lt}
use Rattle.std.proofs.lemmas.Bool.{cond_both, cases_Bool, eqb-true, ltb-false}
use Rattle.policy_base.specs.Counts.{incremented}
use Rattle.engine_reference.specs.declared.rules.causes.RemovalCause.{RemovalCause}
use Rattle.engine_reference.specs.declared.rules.causes.RemovalCause.TheVariants as cause
use Rattle.engine_reference.specs.declared.data.Record.{Record}
use Rattle.engine_reference.specs.declared.data.Read.{Read}
use Rattle.engine_reference.specs.declared.data.Read.TheVariants.{Hit, Miss}
use Rattle.engine_reference.specs.declared.data.Entry.{Entry}
use Rattle.engine_reference.specs.declared.data.Unsent.{Unsent}
use Rattle.engine_reference.specs.declared.data.Upsert.{Upsert}
use Rattle.engine_reference.specs.declared.data.Write.{Write}
use Rattle.engine_reference.specs.declared.data.Write.TheVariants.{Put, Removed}
use Rattle.engine_reference.specs.Admission.{Verdict, admit, displace, refuse, verdict}
use Rattle.engine_reference.specs.Calls.{with_written, first_entry, next_entry, with_sent, sent, unsent_at, with_removed, with_read, used_entry}
use Rattle.engine_reference.specs.Records.{admitted_in, held_at, held_weight, record_at, without_record, changed_at, without, moved_to_back}
use Rattle.engine_reference.specs.Runs.{Step, reads, writes, grows, leaves, evicts, ends, Steps, Runs, with_left, left, all_left, after_read, after_hit, after_write, after_put, after_removal, judged, is_overtaken, first_of, IsSwept}
use Rattle.engine_reference.specs.Soundness.{AreOnce, IsIn, number_of, IsPending, Each, AreNumbered, Fits, IsAccounted, IsSound}
use Rattle.engine_reference.specs.State.{State, Answers}
use Rattle.engine_reference.proofs.Accounts.{IsIn-without, IsIn-without_from, IsIn-moved, IsIn-append_left, IsIn-append_right, in_pushed, not_in-without, once-without, once-moved, each-map, each-both, none_there, only_one, numbered-changed, numbered-without, each-changed, each-without}
use Rattle.engine_reference.proofs.HeldRecords.{record_at-number}
use Rattle.engine_reference.proofs.SoundSteps.{IsCounted, left-frame, after_write-frame, step-sound}
use Rattle.engine_reference.proofs.SoundCalls.{held_at-only, each-push}
use Rattle.engine_reference.specs.RunLaws.Points.{AreRising}
use Rattle.engine_reference.specs.RunLaws.Sweeping.{order_after, InOrderBy, IsWrittenBefore, IsRising, IsOrdered, IsLeftInOrder, IsTimely, RunsLeaveOrder, UncutRunsLeaveNoneDue, UncutRunsStayTimely, CallsStayTimely}
use Rattle.engine_reference.proofs.run_laws.ByList.{IsSweptBy, IsTimelyBy}
use Rattle.engine_reference.proofs.run_laws.Fronting.{each-at}
use Rattle.engine_reference.proofs.run_laws.Ordering.{rising-push_removed, rising-push_other, rising-push_own, rising-fresh}
use Rattle.engine_reference.proofs.run_laws.Ticking.{end-later, lt-false-up}
use Rattle.engine_reference.proofs.run_laws.Swept.{sent-one, first-before, first-found, run-leaves, swept_runs_leave_none_due_by, swept_runs_stay_timely_by, calls_stay_timely_by}
use Rattle.engine_reference.proofs.run_laws.Rising.{rising-own, rising-other, each-own}

-- ---- what stands before what

-- a number stands before another
abbrev pub Before : ℕ → ℕ → List ℕ → Type 0
Before n m [] = ⊥
Before n m (k ∷ ks) = ((k ≡ n) × IsIn m ks) ⊎ Before n m ks

before-without : (k n m : ℕ) (ns : List ℕ) → (n ≡ k → ⊥) → (m ≡ k → ⊥) → Before n m ns → Before n m (without k ns)
before-without k n m [] a b h = h
before-without k n m (x ∷ ns) a b (inl p) = elim (cases_Bool (x == k)) [ inl t ↦ absurd (a (sym p.0 ∙ eqb-true x k t)) | inr t ↦ rw t (inl (p.0, IsIn-without k m ns b p.1)) ]
before-without k n m (x ∷ ns) a b (inr p) = elim (cases_Bool (x == k)) [ inl t ↦ rw t (before-without k n m ns a b p) | inr t ↦ rw t (inr (before-without k n m ns a b p)) ]

before-without_from : (k n m : ℕ) (ns : List ℕ) → Before n m (without k ns) → Before n m ns
before-without_from k n m [] h = h
before-without_from k n m (x ∷ ns) h = elim (cases_Bool (x == k)) [
  | inl t ↦ inr (before-without_from k n m ns (rw t at h))
  | inr t ↦ let kept = rw t at h in elim kept [ inl p ↦ inl (p.0, IsIn-without_from k m ns p.1) | inr p ↦ inr (before-without_from k n m ns p) ]
]

before-left : (n m : ℕ) (ns : List ℕ) → Before n m ns → IsIn n ns
before-left n m [] h = h
before-left n m (x ∷ ns) (inl p) = inl p.0
before-left n m (x ∷ ns) (inr p) = inr (before-left n m ns p)

before-right : (n m : ℕ) (ns : List ℕ) → Before n m ns → IsIn m ns
before-right n m [] h = h
before-right n m (x ∷ ns) (inl p) = inr p.1
before-right n m (x ∷ ns) (inr p) = inr (before-right n m ns p)

before-push : (k n m : ℕ) (ns : List ℕ) → Before n m ns → Before n m (ns ++ k ∷ [])
before-push k n m [] h = elim h [ ]
before-push k n m (x ∷ ns) (inl p) = inl (p.0, IsIn-append_left m ns (k ∷ []) p.1)
before-push k n m (x ∷ ns) (inr p) = inr (before-push k n m ns p)

before-last : (k n : ℕ) (ns : List ℕ) → IsIn n ns → Before n k (ns ++ k ∷ [])
before-last k n [] h = elim h [ ]
before-last k n (x ∷ ns) (inl e) = inl (e, IsIn-append_right k ns (k ∷ []) (inl refl))
before-last k n (x ∷ ns) (inr i) = inr (before-last k n ns i)

before-pushed : (k n m : ℕ) (ns : List ℕ) → Before n m (ns ++ k ∷ []) → Before n m ns ⊎ ((k ≡ m) × IsIn n ns)
before-pushed k n m [] (inl p) = elim p.1 [ ]
before-pushed k n m [] (inr p) = elim p [ ]
before-pushed k n m (x ∷ ns) (inl p) = elim (in_pushed k m ns p.1) [ inl i ↦ inl (inl (p.0, i)) | inr e ↦ inr (e, inl p.0) ]
before-pushed k n m (x ∷ ns) (inr p) = elim (before-pushed k n m ns p) [ inl b ↦ inl (inr b) | inr q ↦ inr (q.0, inr q.1) ]

-- ---- a list that is part of another, but for numbers that do not matter

module _ (Q : ℕ → Type 0) where
  pub record IsPart (xs ys : List ℕ) : Type 0 where
    pub has : (n : ℕ) → Q n → IsIn n xs → IsIn n ys
    pub before : (n m : ℕ) → Q n → Q m → Before n m xs → Before n m ys

  part-same : (xs : List ℕ) → IsPart xs xs
  part-same xs = record { has = λ n q i. i; before = λ n m q p b. b }

  part-without : (k : ℕ) (xs : List ℕ) → IsPart (without k xs) xs
  part-without k xs = record { has = λ n q i. IsIn-without_from k n xs i; before = λ n m q p b. before-without_from k n m xs b }

  -- what matters and is on the list is another than the one that moves
  part-back : (k : ℕ) (xs : List ℕ) → (Q k → IsIn k xs → ⊥) → IsPart xs (moved_to_back k xs)
  part-back k xs other = record {
    has = λ n q i. IsIn-moved k n xs i;
    before = λ n m q p b. before-push k n m (without k xs) (before-without k n m xs
        (λ e. other (subst Q e q) (subst (λ z. IsIn z xs) e (before-left n m xs b)))
        (λ e. other (subst Q e p) (subst (λ z. IsIn z xs) e (before-right n m xs b))) b);
  }

  part-moved : (k : ℕ) (xs ys : List ℕ) → IsPart xs ys → IsPart (moved_to_back k xs) (moved_to_back k ys)
  part-moved k xs ys h = record { has = has; before = before }
    where
      apart : (n : ℕ) → IsIn n (without k xs) → n ≡ k → ⊥
      apart n i e = not_in-without k xs (subst (λ z. IsIn z (without k xs)) e i)

      has : (n : ℕ) → Q n → IsIn n (moved_to_back k xs) → IsIn n (moved_to_back k ys)
      has n q i = elim (in_pushed k n (without k xs) i) [
        | inl j ↦ IsIn-moved k n ys (h.has n q (IsIn-without_from k n xs j))
        | inr e ↦ IsIn-append_right n (without k ys) (k ∷ []) (inl e)
      ]

      before : (n m : ℕ) → Q n → Q m → Before n m (moved_to_back k xs) → Before n m (moved_to_back k ys)
      before n m q p b = elim (before-pushed k n m (without k xs) b) [
        | inl j ↦ before-push k n m (without k ys) (before-without k n m ys (apart n (before-left n m (without k xs) j)) (apart m (before-right n m (without k xs) j)) (h.before n m q p (before-without_from k n m xs j)))
        | inr j ↦ subst (λ z. Before n z (moved_to_back k ys)) j.0 (before-last k n (without k ys) (IsIn-without k n ys (apart n j.1) (h.has n q (IsIn-without_from k n xs j.1))))
      ]

  part-after : (ws : List Write) (xs ys : List ℕ) → IsPart xs ys → IsPart (order_after ws xs) (order_after ws ys)
  part-after [] xs ys h = h
  part-after (Put u ∷ ws) xs ys h = part-after ws (moved_to_back u.number xs) (moved_to_back u.number ys) (part-moved u.number xs ys h)
  part-after (Removed n ∷ ws) xs ys h = part-after ws xs ys h

module _ {K V : Type 0} where
  abbrev pub IsThere : List (Record K V) → ℕ → Type 0
  IsThere rs n = (r : Record K V) × (record_at rs n ≡ Some r)

  -- the entry as it stood in an earlier list
  abbrev pub HasEntryFrom : List (Record K V) → Record K V → Type 0
  HasEntryFrom rs r = (o : Record K V) × (record_at rs r.number ≡ Some o) × (o.entry ≡ r.entry)

  ordered-before : (rs : List (Record K V)) (ns : List ℕ) → InOrderBy IsWrittenBefore rs ns → (n m : ℕ) (y x : Record K V) → Before n m ns → record_at rs n ≡ Some y → record_at rs m ≡ Some x → IsWrittenBefore y x
  ordered-before rs [] h n m y x b here there = elim b [ ]
  ordered-before rs (k ∷ ns) h n m y x (inl p) here there = h.0 m y x p.1 (ap (λ z. record_at rs z) p.0 ∙ here) there
  ordered-before rs (k ∷ ns) h n m y x (inr p) here there = ordered-before rs ns h.1 n m y x p here there

  before-ordered : (rs : List (Record K V)) (ns : List ℕ) → ((n m : ℕ) (y x : Record K V) → Before n m ns → record_at rs n ≡ Some y → record_at rs m ≡ Some x → IsWrittenBefore y x) → InOrderBy IsWrittenBefore rs ns
  before-ordered rs [] h = tt
  before-ordered rs (n ∷ ns) h = ((λ m y x i here there. h n m y x (inl (refl, i)) here there), before-ordered rs ns (λ k m y x b here there. h k m y x (inr b) here there))

  entry-from : (rs new : List (Record K V)) → Each (HasEntryFrom rs) new → (m : ℕ) (r : Record K V) → record_at new m ≡ Some r → (o : Record K V) × (record_at rs m ≡ Some o) × (o.entry ≡ r.entry)
  entry-from rs new from m r there =
      let f = each-at (HasEntryFrom rs) new m r from there in
      (f.0, ap (λ n. record_at rs n) (sym (record_at-number new m r there)) ∙ f.1, f.2)

  -- a part of a list that goes by steps and moments goes by them
  ordered-part : (rs new : List (Record K V)) → Each (HasEntryFrom rs) new → (xs ys : List ℕ) → IsPart (IsThere new) xs ys → InOrderBy IsWrittenBefore rs ys → InOrderBy IsWrittenBefore new xs
  ordered-part rs new from xs ys part h = before-ordered new xs (λ n m y x b here there.
      let a = entry-from rs new from n y here in
      let c = entry-from rs new from m x there in
      let k = ordered-before rs ys h n m a.0 c.0 (part.before n m (y, here) (x, there) b) a.1 c.1 in
      (omega (arith, k.0, ap (λ e. e.step) a.2, ap (λ e. e.step) c.2), omega (arith, k.1, ap (λ e. e.written) a.2, ap (λ e. e.written) c.2)))

  own-entry : (rs : List (Record K V)) → AreNumbered rs → Each (HasEntryFrom rs) rs
  own-entry rs numbered = each-map (λ x. record_at rs x.number ≡ Some x) (HasEntryFrom rs) (λ x k. (x, k, refl)) rs (each-own rs numbered)

  -- ---- records and their write list, beside what is pending

  pub record InFront (next : ℕ) (ws : List Write) (rs : List (Record K V)) (ns : List ℕ) : Type 0 where
    pub numbered : AreNumbered rs
    pub rising : Each (λ r. AreRising r.number r.applied ws) rs
    pub listed : Each (λ r. is_some r.counts ≡ true → IsIn r.number ns) rs
    pub off : Each (λ r. is_some r.counts ≡ false → IsIn r.number ns → ⊥) rs
    pub once : AreOnce ns
    pub below : (n : ℕ) → IsIn n ns → n < next
    pub ordered : InOrderBy IsWrittenBefore rs (order_after ws ns)

  module _ (next : ℕ) (ws : List Write) (rs : List (Record K V)) (ns : List ℕ) where
    -- a record goes
    front-gone : (k : ℕ) → InFront next ws rs ns → InFront next ws (without_record k rs) (without k ns)
    front-gone k h = record {
      numbered = numbered-without k rs h.numbered;
      rising = each-without k (λ r. AreRising r.number r.applied ws) (λ r. AreRising r.number r.applied ws) (λ r other q. q) rs h.numbered h.rising;
      listed = each-without k (λ r. is_some r.counts ≡ true → IsIn r.number ns) (λ r. is_some r.counts ≡ true → IsIn r.number (without k ns)) (λ r other q counts. IsIn-without k r.number ns other (q counts)) rs h.numbered h.listed;
      off = each-without k (λ r. is_some r.counts ≡ false → IsIn r.number ns → ⊥) (λ r. is_some r.counts ≡ false → IsIn r.number (without k ns) → ⊥) (λ r other q none i. q none (IsIn-without_from k r.number ns i)) rs h.numbered h.off;
      once = once-without k ns h.once;
      below = λ n i. h.below n (IsIn-without_from k n ns i);
      ordered = ordered-part rs (without_record k rs) (each-without k (HasEntryFrom rs) (HasEntryFrom rs) (λ r other q. q) rs h.numbered (own-entry rs h.numbered))
          (order_after ws (without k ns)) (order_after ws ns) (part-after (IsThere (without_record k rs)) ws (without k ns) ns (part-without (IsThere (without_record k rs)) k ns)) h.ordered;
    }

    front-removed : (m : ℕ) → InFront next (Removed m ∷ ws) rs ns → InFront next ws rs ns
    front-removed m h = record { numbered = h.numbered; rising = h.rising; listed = h.listed; off = h.off; once = h.once; below = h.below; ordered = h.ordered }

    -- a write whose record is not there
    front-absent : (u : Upsert) → Each (λ r. r.number ≡ u.number → ⊥) rs → InFront next (Put u ∷ ws) rs ns → InFront next ws rs ns
    front-absent u none h = record {
      numbered = h.numbered;
      rising = each-map (λ r. AreRising r.number r.applied (Put u ∷ ws) × (r.number ≡ u.number → ⊥)) (λ r. AreRising r.number r.applied ws)
          (λ r q. rising-other r.number r.applied u ws q.0 (λ e. q.1 (sym e))) rs (each-both (λ r. AreRising r.number r.applied (Put u ∷ ws)) (λ r. r.number ≡ u.number → ⊥) rs h.rising none);
      listed = h.listed;
      off = h.off;
      once = h.once;
      below = h.below;
      ordered = ordered-part rs rs (own-entry rs h.numbered) (order_after ws ns) (order_after ws (moved_to_back u.number ns))
          (part-after (IsThere rs) ws ns (moved_to_back u.number ns) (part-back (IsThere rs) u.number ns
          (λ p i. each-at (λ r. r.number ≡ u.number → ⊥) rs u.number p.0 none p.1 (record_at-number rs u.number p.0 p.1)))) h.ordered;
    }

    -- a write that counts
    front-counting : (u : Upsert) → u.number < next → InFront next (Put u ∷ ws) rs ns
        → InFront next ws (changed_at u.number (λ r. record r { applied = u.write; counts = Some u.weight }) rs) (moved_to_back u.number ns)
    front-counting u low h = record {
      numbered = numbered-changed u.number f (λ r. refl) rs h.numbered;
      rising = each-changed u.number f (λ r. AreRising r.number r.applied (Put u ∷ ws)) (λ r. AreRising r.number r.applied ws)
          (λ r same k. rising-own r.number r.applied u ws k (sym same)) (λ r other k. rising-other r.number r.applied u ws k (λ e. other (sym e))) rs h.numbered h.rising;
      listed = each-changed u.number f (λ r. is_some r.counts ≡ true → IsIn r.number ns) (λ r. is_some r.counts ≡ true → IsIn r.number (moved_to_back u.number ns))
          (λ r same k counts. IsIn-append_right r.number (without u.number ns) (u.number ∷ []) (inl (sym same)))
          (λ r other k counts. IsIn-moved u.number r.number ns (k counts)) rs h.numbered h.listed;
      off = each-changed u.number f (λ r. is_some r.counts ≡ false → IsIn r.number ns → ⊥) (λ r. is_some r.counts ≡ false → IsIn r.number (moved_to_back u.number ns) → ⊥)
          (λ r same k none i. true≢false none)
          (λ r other k none i. elim (in_pushed u.number r.number (without u.number ns) i) [ inl j ↦ k none (IsIn-without_from u.number r.number ns j) | inr e ↦ other (sym e) ]) rs h.numbered h.off;
      once = once-moved u.number ns h.once;
      below = λ n i. elim (in_pushed u.number n (without u.number ns) i) [ inl j ↦ h.below n (IsIn-without_from u.number n ns j) | inr e ↦ subst (λ z. z < next) e low ];
      ordered = ordered-part rs (changed_at u.number f rs) (each-changed u.number f (HasEntryFrom rs) (HasEntryFrom rs) (λ r same k. k) (λ r other k. k) rs h.numbered (own-entry rs h.numbered))
          (order_after ws (moved_to_back u.number ns)) (order_after ws (moved_to_back u.number ns)) (part-same (IsThere (changed_at u.number f rs)) (order_after ws (moved_to_back u.number ns))) h.ordered;
    }
      where
        f : Record K V → Record K V
        f r = record r { applied = u.write; counts = Some u.weight }

    -- a write that is put off: its record is not admitted, and so is off the list
    front-put_off : (u : Upsert) (x : Record K V) → record_at rs u.number ≡ Some x → is_some x.counts ≡ false → InFront next (Put u ∷ ws) rs ns
        → InFront next ws (changed_at u.number (λ r. record r { applied = u.write }) rs) ns
    front-put_off u x there none h = record {
      numbered = numbered-changed u.number f (λ r. refl) rs h.numbered;
      rising = each-changed u.number f (λ r. AreRising r.number r.applied (Put u ∷ ws)) (λ r. AreRising r.number r.applied ws)
          (λ r same k. rising-own r.number r.applied u ws k (sym same)) (λ r other k. rising-other r.number r.applied u ws k (λ e. other (sym e))) rs h.numbered h.rising;
      listed = each-changed u.number f (λ r. is_some r.counts ≡ true → IsIn r.number ns) (λ r. is_some r.counts ≡ true → IsIn r.number ns) (λ r same k. k) (λ r other k. k) rs h.numbered h.listed;
      off = each-changed u.number f (λ r. is_some r.counts ≡ false → IsIn r.number ns → ⊥) (λ r. is_some r.counts ≡ false → IsIn r.number ns → ⊥) (λ r same k. k) (λ r other k. k) rs h.numbered h.off;
      once = h.once;
      below = h.below;
      ordered = ordered-part rs (changed_at u.number f rs) (each-changed u.number f (HasEntryFrom rs) (HasEntryFrom rs) (λ r same k. k) (λ r other k. k) rs h.numbered (own-entry rs h.numbered))
          (order_after ws ns) (order_after ws (moved_to_back u.number ns))
          (part-after (IsThere (changed_at u.number f rs)) ws ns (moved_to_back u.number ns) (part-back (IsThere (changed_at u.number f rs)) u.number ns
          (λ p i. each-at (λ r. is_some r.counts ≡ false → IsIn r.number ns → ⊥) rs u.number x h.off there none (subst (λ z. IsIn z ns) (sym (record_at-number rs u.number x there)) i)))) h.ordered;
    }
      where
        f : Record K V → Record K V
        f r = record r { applied = u.write }

module _ {K V P S R : Type 0} where
  front-left : (next : ℕ) (ws : List Write) (why : RemovalCause) (n : ℕ) (s : State K V P S R) → InFront next ws s.records s.order → InFront next ws (left why n s).records (left why n s).order
  front-left next ws why n s h = go (record_at s.records n)
    where
      go : (o : Option (Record K V)) → InFront next ws (with_left why s o).records (with_left why s o).order
      go None = h
      go (Some r) = front-gone next ws s.records s.order r.number h

  front-all_left : (next : ℕ) (ws : List Write) (why : RemovalCause) (vs : List (Record K V)) (s : State K V P S R) → InFront next ws s.records s.order → InFront next ws (all_left why vs s).records (all_left why vs s).order
  front-all_left next ws why [] s h = h
  front-all_left next ws why (v ∷ vs) s h = front-all_left next ws why vs (left why v.number s) (front-left next ws why v.number s h)

  module _ (next : ℕ) (rest : List Write) (u : Upsert) (s : State K V P S R) (low : u.number < next) (h : InFront next (Put u ∷ rest) s.records s.order) where
    front-judged : (x : Record K V) → record_at s.records u.number ≡ Some x → is_some x.counts ≡ false → (v : Verdict K V) → InFront next rest (judged u x s v).records (judged u x s v).order
    front-judged x here none v = go v
      where
        gone : (o : Option (Record K V)) → record_at s.records u.number ≡ o → InFront next rest (with_left cause.Size s o).records (with_left cause.Size s o).order
        gone None e = front-absent next rest s.records s.order u (none_there u.number s.records e) h
        gone (Some r) e =
            let same = record_at-number s.records u.number r e in
            front-absent next rest (without_record r.number s.records) (without r.number s.order) u
            (each-without r.number (HasEntryFrom s.records) (λ y. y.number ≡ u.number → ⊥) (λ y other q is. other (is ∙ sym same)) s.records h.numbered (own-entry s.records h.numbered))
            (front-gone next (Put u ∷ rest) s.records s.order r.number h)

        go : (v : Verdict K V) → InFront next rest (judged u x s v).records (judged u x s v).order
        go admit = front-counting next rest s.records s.order u low h
        go (displace vs) =
            front-counting next rest (all_left cause.Size vs s).records (all_left cause.Size vs s).order u low (front-all_left next (Put u ∷ rest) cause.Size vs s h)
        go refuse = elim (cases_Bool (is_overtaken u x)) [ inl e ↦ rw e (front-put_off next rest s.records s.order u x here none h) | inr e ↦ rw e (gone (record_at s.records u.number) refl) ]

    front-put : (o : Option (Record K V)) → record_at s.records u.number ≡ o → InFront next rest (after_put u o s).records (after_put u o s).order
    front-put None here = front-absent next rest s.records s.order u (none_there u.number s.records here) h
    front-put (Some x) here =
        cond_both (nat_lt x.applied u.write) _ _ (λ (t : State K V P S R). InFront next rest t.records t.order)
        (λ _. cond_both (is_some x.counts) _ _ (λ (t : State K V P S R). InFront next rest t.records t.order) (λ _. front-counting next rest s.records s.order u low h) (λ is. front-judged x here is (verdict s u)))
        (λ t. absurd (
        let newer = (each-at (λ r. AreRising r.number r.applied (Put u ∷ rest)) s.records u.number x h.rising here).0 (sym (record_at-number s.records u.number x here)) in
        let older = ltb-false x.applied u.write t in
        omega arith))

  front-removal : (next : ℕ) (rest : List Write) (n : ℕ) (s : State K V P S R) → InFront next (Removed n ∷ rest) s.records s.order → (o : Option (Record K V)) → InFront next rest (after_removal o s).records (after_removal o s).order
  front-removal next rest n s h None = front-removed next rest s.records s.order n h
  front-removal next rest n s h (Some x) =
      elim (cases_Bool x.is_held) [
        | inl e ↦ rw e (front-removed next rest s.records s.order n h)
        | inr e ↦ rw e (front-gone next rest s.records s.order x.number (front-removed next rest s.records s.order n h))
      ]
    where
      gone : State K V P S R
      gone = record s { records = without_record x.number s.records; access = without x.number s.access; order = without x.number s.order }

  front-write : (next : ℕ) (rest : List Write) (w : Write) (s : State K V P S R) → number_of w < next → InFront next (w ∷ rest) s.records s.order → InFront next rest (after_write w s).records (after_write w s).order
  front-write next rest (Put u) s low h = front-put next rest u s low h (record_at s.records u.number) refl
  front-write next rest (Removed n) s low h = front-removal next rest n s h (record_at s.records n)

  -- ---- states

  abbrev pub IsFront : State K V P S R → Type 0
  IsFront s = InFront s.next_number s.writes s.records s.order

  to-front : (s : State K V P S R) → IsSound s → IsRising s → IsOrdered s → IsFront s
  to-front s sound h ordered = record { numbered = sound.records.numbered; rising = h.rising; listed = h.listed; off = h.off; once = h.once; below = h.below; ordered = ordered }

  from-front : (s : State K V P S R) → IsFront s → IsRising s × IsOrdered s
  from-front s h = (record { rising = h.rising; listed = h.listed; off = h.off; once = h.once; below = h.below }, h.ordered)

  write-front : (w : Write) (rest : List Write) (s : State K V P S R) → IsSound s → s.writes ≡ w ∷ rest → IsFront s → IsFront (after_write w (record s { writes = rest }))
  write-front w rest s sound e h =
      let t = record s { writes = rest } in
      let f = after_write-frame w t in
      let low : number_of w < s.next_number = sound.named w (subst (λ ws. IsPending s.unsent ws w) (sym e) (inr (inl refl))) in
      let k = front-write s.next_number rest w t low (subst (λ ws. InFront s.next_number ws s.records s.order) e h) in
      subst (λ ws. InFront (after_write w t).next_number ws (after_write w t).records (after_write w t).order) (sym f.writes)
      (subst (λ n. InFront n rest (after_write w t).records (after_write w t).order) (sym f.next) k)

  read-front : (r : Read) (s : State K V P S R) → IsFront s → IsFront (after_read r s)
  read-front (Miss hash) s h = h
  read-front (Hit n hash) s h = by_record (record_at s.records n)
    where
      t : State K V P S R
      t = record s { sketch = incremented s.sketch hash }

      by_record : (o : Option (Record K V)) → IsFront (after_hit o t)
      by_record None = h
      by_record (Some r) = cond_both (is_some r.counts) _ _ IsFront (λ _. h) (λ _. h)

  left-front : (why : RemovalCause) (n : ℕ) (s : State K V P S R) → IsFront s → IsFront (left why n s)
  left-front why n s h =
      let f = left-frame why n s in
      subst (λ ws. InFront (left why n s).next_number ws (left why n s).records (left why n s).order) (sym f.writes)
      (subst (λ k. InFront k s.writes (left why n s).records (left why n s).order) (sym f.next) (front-left s.next_number s.writes why n s h))

  module _ (answers : Answers K V P R) (now : ℕ) where
    step-front : (s t : State K V P S R) → IsSound s → IsFront s → Step answers now s t → IsFront t
    step-front s t sound h (reads r rest e after) = subst (λ x. IsFront x) (sym after) (read-front r (record s { reads = rest }) h)
    step-front s t sound h (writes w rest none e after) = subst (λ x. IsFront x) (sym after) (write-front w rest s sound e h)
    step-front s t sound h (grows words applied wants capacity is_set size after) = subst (λ x. IsFront x) (sym after) h
    step-front s t sound h (leaves r why applied there held due after) = subst (λ x. IsFront x) (sym after) (left-front why r.number s h)
    step-front s t sound h (evicts r applied clean above next after) = subst (λ x. IsFront x) (sym after) (left-front cause.Size r.number s h)
    step-front s t sound h (ends place p applied there none after) = subst (λ x. IsFront x) (sym after) h

    steps-front : (stages : List (State K V P S R)) (s t : State K V P S R) → IsSound s → IsFront s → Steps answers now s stages t → IsFront t
    steps-front [] s t sound h e = subst (λ x. IsFront x) (sym e) h
    steps-front (mid ∷ stages) s t sound h e = steps-front stages mid t (step-sound answers now s mid sound e.0) (step-front s mid sound h e.0) e.1

  -- ---- calls

  rising-same : (s t : State K V P S R) → t.records ≡ s.records → t.writes ≡ s.writes → t.order ≡ s.order → t.next_number ≡ s.next_number → IsRising s → IsRising t
  rising-same s t records queued order next h = record { rising = rw (records, queued) h.rising; listed = rw (records, order) h.listed; off = rw (records, order) h.off; once = rw order h.once; below = rw (order, next) h.below }

  fits-queued : (s : State K V P S R) (x : Record K V) (n : ℕ) → IsSound s → record_at s.records n ≡ Some x → (w : Write) → IsIn w s.writes → Fits w x
  fits-queued s x n sound there w i = (each-at (IsAccounted s.unsent s.writes) s.records n x sound.records.accounted there).fits w (inr i)

  removed-rising : (eq : K → K → Bool) (s : State K V P S R) (key : K) (o : Option (Record K V)) → IsSound s → s.unsent ≡ [] → IsRising s
      → IsRising (sent s.next_ticket (with_removed o s)) × ((sent s.next_ticket (with_removed o s)).order ≡ s.order)
  removed-rising eq s key None sound unsent h =
      let same : sent s.next_ticket s ≡ s = ap (λ us. with_sent s.next_ticket (unsent_at us s.next_ticket) s) unsent in
      (subst (λ t. IsRising t) (sym same) h, ap (λ t. t.order) same)
  removed-rising eq s key (Some r) sound unsent h =
      let u : Unsent = record { ticket = s.next_ticket; write = Removed r.number } in
      let t = with_removed (Some r) s in
      let f = λ (x : Record K V). record x { is_held = false; writes = x.writes + 1 } in
      let same = sent-one u t (ap (λ us. us ++ u ∷ []) unsent) in
      let numbered = sound.records.numbered in (
        subst (λ x. IsRising x) (sym same) (record {
          rising = each-changed r.number f (λ x. AreRising x.number x.applied s.writes) (λ x. AreRising x.number x.applied (s.writes ++ Removed r.number ∷ []))
              (λ x own k. rising-push_removed x.number x.applied r.number s.writes k) (λ x other k. rising-push_removed x.number x.applied r.number s.writes k) s.records numbered h.rising;
          listed = each-changed r.number f (λ x. is_some x.counts ≡ true → IsIn x.number s.order) (λ x. is_some x.counts ≡ true → IsIn x.number s.order) (λ x own k. k) (λ x other k. k) s.records numbered h.listed;
          off = each-changed r.number f (λ x. is_some x.counts ≡ false → IsIn x.number s.order → ⊥) (λ x. is_some x.counts ≡ false → IsIn x.number s.order → ⊥) (λ x own k. k) (λ x other k. k) s.records numbered h.off;
          once = h.once;
          below = h.below;
        }),
        ap (λ x. x.order) same,
      )

  read-rising : (answers : Answers K V P R) (s : State K V P S R) (o : Option (Record K V)) (hash now : ℕ) → IsSound s → IsRising s
      → IsRising (with_read answers o hash now s) × ((with_read answers o hash now s).order ≡ s.order)
  read-rising answers s None hash now sound h = (rising-same s (with_read answers None hash now s) refl refl refl refl h, refl)
  read-rising answers s (Some r) hash now sound h =
      let f = λ (x : Record K V). record x { entry = used_entry answers s now x.entry } in
      let numbered = sound.records.numbered in (
        record {
          rising = each-changed r.number f (λ x. AreRising x.number x.applied s.writes) (λ x. AreRising x.number x.applied s.writes) (λ x own k. k) (λ x other k. k) s.records numbered h.rising;
          listed = each-changed r.number f (λ x. is_some x.counts ≡ true → IsIn x.number s.order) (λ x. is_some x.counts ≡ true → IsIn x.number s.order) (λ x own k. k) (λ x other k. k) s.records numbered h.listed;
          off = each-changed r.number f (λ x. is_some x.counts ≡ false → IsIn x.number s.order → ⊥) (λ x. is_some x.counts ≡ false → IsIn x.number s.order → ⊥) (λ x own k. k) (λ x other k. k) s.records numbered h.off;
          once = h.once;
          below = h.below;
        },
        refl,
      )

  written-rising : (eq : K → K → Bool) (answers : Answers K V P R) (s : State K V P S R) (key : K) (hash : ℕ) (value : V) (now next : ℕ) (o : Option (Record K V)) → held_at eq s.records key ≡ o → IsSound s → s.unsent ≡ [] → IsRising s
      → IsRising (sent s.next_ticket (with_written answers o s key hash value now next)) × ((sent s.next_ticket (with_written answers o s key hash value now next)).order ≡ s.order)
  written-rising eq answers s key hash value now next None e sound unsent h =
      (subst (λ y. IsRising y) (sym same) (record { rising = rising; listed = listed; off = off; once = h.once; below = λ n i. let low = h.below n i in omega arith }), ap (λ y. y.order) same)
    where
      x : Record K V
      x = record { number = s.next_number; hash = hash; entry = first_entry answers s key value now next; is_held = true; writes = 1; applied = 0; counts = None }

      v : Upsert
      v = record { number = s.next_number; write = 1; weight = x.entry.weight; hash = hash; kept = held_weight (s.records ++ x ∷ []) }

      u : Unsent
      u = record { ticket = s.next_ticket; write = Put v }

      t : State K V P S R
      t = with_written answers None s key hash value now next

      same : sent s.next_ticket t ≡ record t { unsent = []; writes = s.writes ++ Put v ∷ [] }
      same = sent-one u t (ap (λ us. us ++ u ∷ []) unsent)

      rising : Each (λ r. AreRising r.number r.applied (s.writes ++ Put v ∷ [])) (s.records ++ x ∷ [])
      rising = each-push (λ r. AreRising r.number r.applied (s.writes ++ Put v ∷ [])) s.records x
          (each-map (λ r. AreRising r.number r.applied s.writes × (r.number < s.next_number)) (λ r. AreRising r.number r.applied (s.writes ++ Put v ∷ []))
          (λ r k. rising-push_other r.number r.applied v s.writes (λ own. let less = k.1 in omega arith) k.0) s.records
          (each-both (λ r. AreRising r.number r.applied s.writes) (λ r. r.number < s.next_number) s.records h.rising sound.records.below))
          (rising-fresh s.next_number 0 v s.writes (λ w i own. let less = sound.named w (inr i) in omega arith) (omega arith))

      listed : Each (λ r. is_some r.counts ≡ true → IsIn r.number s.order) (s.records ++ x ∷ [])
      listed = each-push (λ r. is_some r.counts ≡ true → IsIn r.number s.order) s.records x h.listed (λ counts. absurd (true≢false (sym counts)))

      off : Each (λ r. is_some r.counts ≡ false → IsIn r.number s.order → ⊥) (s.records ++ x ∷ [])
      off = each-push (λ r. is_some r.counts ≡ false → IsIn r.number s.order → ⊥) s.records x h.off (λ none i. let low = h.below s.next_number i in omega arith)
  written-rising eq answers s key hash value now next (Some r) e sound unsent h =
      (subst (λ y. IsRising y) (sym same) (record { rising = rising; listed = listed; off = off; once = h.once; below = h.below }), ap (λ y. y.order) same)
    where
      entry : Entry K V
      entry = next_entry answers s r.entry key value now next

      f : Record K V → Record K V
      f x = record x { entry = entry; writes = x.writes + 1 }

      v : Upsert
      v = record { number = r.number; write = r.writes + 1; weight = entry.weight; hash = hash; kept = held_weight (changed_at r.number f s.records) }

      u : Unsent
      u = record { ticket = s.next_ticket; write = Put v }

      t : State K V P S R
      t = with_written answers (Some r) s key hash value now next

      same : sent s.next_ticket t ≡ record t { unsent = []; writes = s.writes ++ Put v ∷ [] }
      same = sent-one u t (ap (λ us. us ++ u ∷ []) unsent)

      numbered : AreNumbered s.records
      numbered = sound.records.numbered

      there : record_at s.records r.number ≡ Some r
      there = held_at-only eq s.records key r numbered e

      own : (x : Record K V) → x ≡ r → AreRising x.number x.applied s.writes → AreRising x.number x.applied (s.writes ++ Put v ∷ [])
      own x one k =
          let applied = (each-at (IsAccounted s.unsent s.writes) s.records r.number r sound.records.accounted there).applied in
          subst (λ y. AreRising y.number y.applied s.writes → AreRising y.number y.applied (s.writes ++ Put v ∷ [])) (sym one)
          (λ l. rising-push_own r r.applied v s.writes (fits-queued s r r.number sound there) (omega arith) (omega arith) l) k

      rising : Each (λ x. AreRising x.number x.applied (s.writes ++ Put v ∷ [])) (changed_at r.number f s.records)
      rising = each-changed r.number f (λ x. AreRising x.number x.applied s.writes × (x.number ≡ r.number → x ≡ r)) (λ x. AreRising x.number x.applied (s.writes ++ Put v ∷ []))
          (λ x is k. own x (k.1 is) k.0)
          (λ x other k. rising-push_other x.number x.applied v s.writes (λ is. other (sym is)) k.0) s.records numbered
          (each-both (λ x. AreRising x.number x.applied s.writes) (λ x. x.number ≡ r.number → x ≡ r) s.records h.rising (only_one r.number r s.records numbered there))

      listed : Each (λ x. is_some x.counts ≡ true → IsIn x.number s.order) (changed_at r.number f s.records)
      listed = each-changed r.number f (λ x. is_some x.counts ≡ true → IsIn x.number s.order) (λ x. is_some x.counts ≡ true → IsIn x.number s.order) (λ x is k. k) (λ x other k. k) s.records numbered h.listed

      off : Each (λ x. is_some x.counts ≡ false → IsIn x.number s.order → ⊥) (changed_at r.number f s.records)
      off = each-changed r.number f (λ x. is_some x.counts ≡ false → IsIn x.number s.order → ⊥) (λ x. is_some x.counts ≡ false → IsIn x.number s.order → ⊥) (λ x is k. k) (λ x other k. k) s.records numbered h.off

module _ (K V P S R : Type 0) where
  pub runs_leave_order : RunsLeaveOrder K V P S R
  runs_leave_order answers now old new sound h ordered run =
      let last = steps-front answers now run.stages old run.last sound (to-front old sound h ordered) run.steps in
      let k : IsFront new = subst (λ x. IsFront x) (sym run.after) last in
      let nothing : new.writes ≡ [] = ap (λ t. t.writes) run.after ∙ run.applied.writes in
      let l = from-front new k in
      record {
        rising = l.0;
        ordered = subst (λ ws. InOrderBy IsWrittenBefore new.records (order_after ws new.order)) nothing l.1;
        listed = k.listed;
      }

module _ {K V P S R : Type 0} where
  empty-rising : (s : State K V P S R) → s.records ≡ [] → s.order ≡ [] → IsRising s
  empty-rising s none off = record {
    rising = subst (λ rs. Each (λ r. AreRising r.number r.applied s.writes) rs) (sym none) tt;
    listed = subst (λ rs. Each (λ r. is_some r.counts ≡ true → IsIn r.number s.order) rs) (sym none) tt;
    off = subst (λ rs. Each (λ r. is_some r.counts ≡ false → IsIn r.number s.order → ⊥) rs) (sym none) tt;
    once = subst (λ ns. AreOnce ns) (sym off) tt;
    below = subst (λ ns. (n : ℕ) → IsIn n ns → n < s.next_number) (sym off) (λ n i. elim i [ ]);
  }

  -- a call that touches neither records nor writes
  rises-same : (s t : State K V P S R) → t.records ≡ s.records → t.writes ≡ s.writes → t.order ≡ s.order → t.next_number ≡ s.next_number → IsRising s → IsRising t × (t.order ≡ s.order)
  rises-same s t records queued order next h = (rising-same s t records queued order next h, order)

-- ---- times and clears, by the state's own write list

module _ {K V P S R : Type 0} where
  by-own : (moment step : ℕ) (s : State K V P S R) → IsTimely moment step s → IsTimelyBy moment step s.order s
  by-own moment step s h = record { sound = h.sound; sent = h.sent; ordered = h.ordered; listed = h.listed; latest = h.latest; own = h.own; ran = h.ran; range = h.range }

  own-by : (moment step : ℕ) (s : State K V P S R) → IsTimelyBy moment step s.order s → IsRising s → IsTimely moment step s
  own-by moment step s h rising = record { sound = h.sound; sent = h.sent; rising = rising; ordered = h.ordered; listed = h.listed; latest = h.latest; own = h.own; ran = h.ran; range = h.range }

  in-time : (moment step : ℕ) (s t : State K V P S R) → IsTimelyBy moment step s.order t → IsRising t × (t.order ≡ s.order) → IsTimely moment step t
  in-time moment step s t timely k = own-by moment step t (subst (λ ns. IsTimelyBy moment step ns t) (sym k.1) timely) k.0

  module _ (answers : Answers K V P R) (moment step now : ℕ) (old new : State K V P S R) (h : IsTimely moment step old) (run : Runs answers now old new) where
    all-counted : Each IsCounted new.records
    all-counted = (run-leaves answers now old new h.sound h.sent run).counted

    own-order : IsLeftInOrder new
    own-order = runs_leave_order K V P S R answers now old new h.sound h.rising h.ordered run

    all-listed : Each (λ r. IsIn r.number new.order) new.records
    all-listed = each-map (λ r. IsCounted r × (is_some r.counts ≡ true → IsIn r.number new.order)) (λ r. IsIn r.number new.order) (λ r k. k.1 (ap (λ o. is_some o) (k.0).counts)) new.records
        (each-both IsCounted (λ r. is_some r.counts ≡ true → IsIn r.number new.order) new.records all-counted own-order.listed)

    own-first : (r : Record K V) → record_at new.records r.number ≡ Some r → (y : Record K V) × (first_of (admitted_in new.records new.order) ≡ Some y) × IsWrittenBefore y r
    own-first r there = first-before IsWrittenBefore (λ x. (omega arith, omega arith)) new.records (each-map IsCounted (λ r. is_some r.counts ≡ true) (λ r c. ap (λ o. is_some o) c.counts) new.records all-counted)
        new.order own-order.ordered r.number r (each-at (λ r. IsIn r.number new.order) new.records r.number r all-listed there) there

    -- none is dead, so neither is the first of any write list
    any-swept : (order : List ℕ) → IsSwept now old new → IsSweptBy now order old new
    any-swept order swept = record {
      live = λ r first. let f = own-first r (first-found new.records order r first) in end-later f.0.entry.written r.entry.written new.settings.live now f.2.1 (swept.live f.0 f.1);
      clear = λ r first. let f = own-first r (first-found new.records order r first) in lt-false-up f.0.entry.step r.entry.step new.cleared f.2.0 (swept.clear f.0 f.1);
      idle = swept.idle;
      own = swept.own;
    }

module _ (K V P S R : Type 0) where
  pub uncut_runs_leave_none_due : UncutRunsLeaveNoneDue K V P S R
  uncut_runs_leave_none_due answers moment step now old new h less range run =
      swept_runs_leave_none_due_by K V P S R answers moment step now old.order old new (by-own moment step old h) less range run.runs
      (any-swept answers moment step now old new h run.runs (order_after old.writes old.order) (run.swept h.sent))

  pub uncut_runs_stay_timely : UncutRunsStayTimely K V P S R
  uncut_runs_stay_timely answers moment step now old new h less range run =
      let k = swept_runs_stay_timely_by K V P S R answers moment step now old.order old new (by-own moment step old h) less range run.runs
      (any-swept answers moment step now old new h run.runs (order_after old.writes old.order) (run.swept h.sent)) in
      let l = own-order answers moment step now old new h run.runs in
      let nothing : new.writes ≡ [] = ap (λ t. t.writes) run.runs.after ∙ run.runs.applied.writes in
      record {
        sound = k.sound;
        sent = k.sent;
        rising = l.rising;
        ordered = subst (λ ws. InOrderBy IsWrittenBefore new.records (order_after ws new.order)) (sym nothing) l.ordered;
        listed = subst (λ ws. Each (λ r. r.is_held ≡ true → IsIn r.number (order_after ws new.order)) new.records) (sym nothing)
            (each-map (λ r. IsIn r.number new.order) (λ r. r.is_held ≡ true → IsIn r.number new.order) (λ r i held. i) new.records (all-listed answers moment step now old new h run.runs));
        latest = k.latest;
        own = k.own;
        ran = k.ran;
        range = k.range;
      }

  pub calls_stay_timely : CallsStayTimely K V P S R
  calls_stay_timely =
      let timely = calls_stay_timely_by K V P S R in
      record {
        empty = λ s none access order unsent queue low. own-by s.ran 0 s (subst (λ ns. IsTimelyBy s.ran 0 ns s) (sym order) (timely.empty s none access unsent queue low)) (empty-rising s none order);
        written = λ eq answers moment step s key hash value now next h less range rises.
            in-time now next s _ (timely.written eq answers moment step s.order s key hash value now next (by-own moment step s h) less range rises) (written-rising eq answers s key hash value now next (held_at eq s.records key) refl h.sound h.sent h.rising);
        removed = λ eq moment step s key h. in-time moment step s _ (timely.removed eq moment step s.order s key (by-own moment step s h)) (removed-rising eq s key (held_at eq s.records key) h.sound h.sent h.rising);
        read = λ answers moment step s found hash now h less range.
            in-time now step s _ (timely.read answers moment step s.order s found hash now (by-own moment step s h) less range) (read-rising answers s found hash now h.sound h.rising);
        removal_told = λ answers moment step s e now h. in-time moment step s _ (timely.removal_told answers moment step s.order s e now (by-own moment step s h)) (rises-same s _ refl refl refl refl h.rising);
        cleared = λ moment step s next h. in-time moment step s _ (timely.cleared moment step s.order s next (by-own moment step s h)) (rises-same s _ refl refl refl refl h.rising);
        covered = λ moment step s p h. in-time moment step s _ (timely.covered moment step s.order s p (by-own moment step s h)) (rises-same s _ refl refl refl refl h.rising);
        room = λ moment step s h. in-time moment step s _ (timely.room moment step s.order s (by-own moment step s h)) (rises-same s _ refl refl refl refl h.rising);
        released = λ moment step s h. in-time moment step s _ (timely.released moment step s.order s (by-own moment step s h)) (rises-same s _ refl refl refl refl h.rising);
        taken = λ moment step s h. in-time moment step s _ (timely.taken moment step s.order s (by-own moment step s h)) (rises-same s _ refl refl refl refl h.rising);
      }
