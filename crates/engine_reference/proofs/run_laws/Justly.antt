-- What a run takes away it takes for a just cause.
use Rattle.std.proofs.Common.{◌≡◌, refl, ap, sym, ◌∙◌, subst, ℕ, ◌+◌, ◌<◌, ◌≤◌, arith, Bool, true, false, true≢false, not, cond, List, [], ◌∷◌, ◌++◌, Option, Some, None, map, is_some, append_assoc, append-nil, inl, inr, ◌⊎◌}
use Rattle.std.specs.Prelude.{nat_lt, slice_get}
use Rattle.std.proofs.lemmas.Bool.{or_parts, cases_Bool, cond_both, eqb-true, ltb-true, ltb-false, lt-ltb}
use Rattle.policy_base.specs.Counts.{incremented, frequency_of}
use Rattle.engine_reference.specs.declared.rules.causes.RemovalCause.{RemovalCause}
use Rattle.engine_reference.specs.declared.rules.causes.RemovalCause.TheVariants as cause
use Rattle.engine_reference.specs.declared.rules.settings.EvictionPolicy.{EvictionPolicy}
use Rattle.engine_reference.specs.declared.rules.settings.EvictionPolicy.TheVariants.{TinyLfu, Lru}
use Rattle.engine_reference.specs.declared.data.Entry.{Entry}
use Rattle.engine_reference.specs.declared.data.Record.{Record}
use Rattle.engine_reference.specs.declared.data.Read.{Read}
use Rattle.engine_reference.specs.declared.data.Read.TheVariants.{Hit, Miss}
use Rattle.engine_reference.specs.declared.data.Upsert.{Upsert}
use Rattle.engine_reference.specs.declared.data.Write.{Write}
use Rattle.engine_reference.specs.declared.data.Write.TheVariants.{Put, Removed}
use Rattle.engine_reference.specs.Admission.{Verdict, admit, displace, refuse, verdict, verdict_of_full, contest, shortest_front, frequencies, is_above}
use Rattle.engine_reference.specs.Records.{record_at, held_entries, admitted_weight, settled_in, without, without_record, changed_at, is_settled}
use Rattle.engine_reference.specs.Runs.{is_due_for, Step, reads, writes, grows, leaves, evicts, ends, Steps, with_left, left, all_left, after_read, after_hit, after_write, after_put, after_removal, counting, put_off, judged, is_overtaken}
use Rattle.engine_reference.specs.Soundness.{IsIn, Each, AreNumbered, Fits, IsAccounted, IsSound}
use Rattle.engine_reference.specs.State.{State, Answers}
use Rattle.engine_reference.specs.Telling.{Removal, Tells, removed_entries}
use Rattle.engine_reference.specs.Visible.{told, is_covered}
use Rattle.engine_reference.specs.Times.{has_come}
use Rattle.engine_reference.proofs.Accounts.{each-map, each-both, each-changed, each-without, none_there, numbered-without}
use Rattle.engine_reference.proofs.HeldRecords.{record_at-number, held-changed, held-without, held-without_other}
use Rattle.engine_reference.proofs.SoundSteps.{left-each, step-sound, left-frame, after_write-frame}
use Rattle.engine_reference.proofs.TellingSteps.{step_tells, TakesAway-from, told_once, Tells-nothing, Tells-trans, Tells-after, Tells-popped}
use Rattle.engine_reference.proofs.Unapplied.{AllSettled, settled_in-settled, front-settled, first-settled}
use Rattle.engine_reference.specs.RunLaws.Points.{AreRising, NoneOf, with_write, IsKeptBy, AreKept, pending_of, HasPoint, EachForSize, IsPointed, SizeHasPoint}
use Rattle.engine_reference.specs.RunLaws.Just.{ComesFrom, EachRemoval, IsJust, RunTellsJustly}
use Rattle.engine_reference.proofs.run_laws.Fewer.{Fewer, fewer-refl, fewer-weight, fewer-without, fewer-put, fewer-refused, fewer-put_off, changed-none, without-none_of, kept-fewer, numbered-write, weight-put}
use Rattle.engine_reference.proofs.run_laws.Fronting.{each-at}
use Rattle.engine_reference.proofs.run_laws.Rising.{rising-own, rising-other, none_later, each-own}

-- ---- what is told, with a property of what is removed for weight

module _ {K V : Type 0} where
  each-append : (Q : RemovalCause → Entry K V → Type 0) (xs ys : List (Removal K V)) → EachRemoval Q xs → EachRemoval Q ys → EachRemoval Q (xs ++ ys)
  each-append Q [] ys h k = k
  each-append Q (x ∷ xs) ys h k = (h.0, each-append Q xs ys h.1 k)

module _ {K V P S R : Type 0} where
  pub record Takes (Q : RemovalCause → Entry K V → Type 0) (old new : State K V P S R) : Type 0 where
    pub removals : List (Removal K V)
    pub tells : Tells old removals new
    pub each : EachRemoval Q removals
    pub settings : new.settings ≡ old.settings

  takes-nothing : (Q : RemovalCause → Entry K V → Type 0) (old new : State K V P S R) → new.settings ≡ old.settings → new.notices ≡ old.notices → held_entries new.records ≡ held_entries old.records → Takes Q old new
  takes-nothing Q old new settings notices held = record { removals = []; tells = Tells-nothing old new notices held; each = tt; settings = settings }

  takes-after : (Q : RemovalCause → Entry K V → Type 0) (a b c : State K V P S R) → Takes Q a b → c.settings ≡ b.settings → c.notices ≡ b.notices → held_entries c.records ≡ held_entries b.records → Takes Q a c
  takes-after Q a b c h settings notices held = record { removals = h.removals; tells = Tells-after a b c h.removals h.tells notices held; each = h.each; settings = settings ∙ h.settings }

  takes-trans : (Q : RemovalCause → Entry K V → Type 0) (a b c : State K V P S R) → Takes Q a b → Takes Q b c → Takes Q a c
  takes-trans Q a b c h k = record {
    removals = h.removals ++ k.removals;
    tells = Tells-trans a b c h.removals k.removals h.settings h.tells k.tells;
    each = each-append Q h.removals k.removals h.each k.each;
    settings = k.settings ∙ h.settings;
  }

  takes-left : (Q : RemovalCause → Entry K V → Type 0) (why : RemovalCause) (s : State K V P S R) (n : ℕ) (o : Option (Record K V)) → record_at s.records n ≡ o
      → ((r : Record K V) → o ≡ Some r → r.is_held ≡ true → Q why r.entry) → Takes Q s (with_left why s o)
  takes-left Q why s n None there just = takes-nothing Q s s refl refl refl
  takes-left Q why s n (Some r) there just = elim (cases_Bool r.is_held) [
    | inl held ↦ record {
      removals = (record { cause = why; entry = r.entry }) ∷ [];
      tells = record {
        notices = ap (λ h. cond h (told s.settings.tells why r.entry s.notices) s.notices) held ∙ told_once s.settings.tells why r.entry s.notices;
        entries = let h = held-without s.records r.number r here held in (h.place, h.there, h.after);
      };
      each = (just r refl held, tt);
      settings = refl;
    }
    | inr out ↦ takes-nothing Q s (with_left why s (Some r)) refl
        (ap (λ h. cond h (told s.settings.tells why r.entry s.notices) s.notices) out) (held-without_other s.records r.number r here out)
  ]
    where
      here : record_at s.records r.number ≡ Some r
      here = ap (λ n. record_at s.records n) (record_at-number s.records n r there) ∙ there

  -- records that stand in the list `base` under their numbers, and are settled
  all_left-takes : (Q : RemovalCause → Entry K V → Type 0) (base vs : List (Record K V)) → ((y : Record K V) → is_settled y ≡ true → record_at base y.number ≡ Some y → y.is_held ≡ true → Q cause.Size y.entry)
      → (s : State K V P S R) → AreNumbered s.records → Each (λ x. record_at base x.number ≡ Some x) s.records → AllSettled base vs → Takes Q s (all_left cause.Size vs s)
  all_left-takes Q base [] just s numbered own settled = takes-nothing Q s s refl refl refl
  all_left-takes Q base (v ∷ vs) just s numbered own settled =
      let next = left cause.Size v.number s in
      let first = takes-left Q cause.Size s v.number (record_at s.records v.number) refl
      (λ r there held.
      let is_r : record_at base v.number ≡ Some r = ap (λ n. record_at base n) (sym (record_at-number s.records v.number r there)) ∙ each-at (λ x. record_at base x.number ≡ Some x) s.records v.number r own there in
      let both : Some v ≡ Some r = sym settled.1 ∙ is_r in
      let same : v ≡ r = cc in
      subst (λ y. y.is_held ≡ true → Q cause.Size y.entry) same (just v settled.0 settled.1) held) in
      takes-trans Q s next (all_left cause.Size (v ∷ vs) s) first
      (all_left-takes Q base vs just next (numbered-left (record_at s.records v.number)) (left-each (λ x. record_at base x.number ≡ Some x) cause.Size v.number s numbered own) settled.2)
    where
      numbered-left : (o : Option (Record K V)) → AreNumbered (with_left cause.Size s o).records
      numbered-left None = numbered
      numbered-left (Some r) = numbered-without r.number s.records numbered

-- ---- victims are settled

module _ {K V P S R : Type 0} (s : State K V P S R) where
  abbrev pub Justified : Verdict K V → Type 0
  Justified admit = Unit {0}
  Justified (displace vs) = AllSettled s.records vs
  Justified refuse = Unit {0}

  verdict-justified : (u : Upsert) → Justified (verdict s u)
  verdict-justified u = by_room (is_above s.settings.capacity (admitted_weight s.records + u.weight)) (is_above s.settings.capacity u.weight)
    where
      settled : List (Record K V)
      settled = settled_in s.records s.access

      by_front : (o : Option (List (Record K V))) → shortest_front u.weight settled ≡ o → Justified (contest s.sketch u.hash o)
      by_front None e = tt
      by_front (Some vs) e =
          cond_both (nat_lt (frequencies s.sketch vs) (frequency_of s.sketch u.hash)) _ _ Justified (λ _. front-settled s.records u.weight settled vs (settled_in-settled s.records s.access) e) (λ _. tt)

      by_policy : (p : EvictionPolicy) → Justified (verdict_of_full p s.sketch u settled)
      by_policy Lru = tt
      by_policy TinyLfu = by_front (shortest_front u.weight settled) refl

      by_room : (b c : Bool) → Justified (cond b (cond c refuse (verdict_of_full s.settings.policy s.sketch u settled)) admit)
      by_room true true = tt
      by_room true false = by_policy s.settings.policy
      by_room false c = tt

-- ---- a write is applied

-- not removals only, or removals only
abbrev pub AllRemovals : List Write → Type 0
AllRemovals [] = Unit {0}
AllRemovals (Put u ∷ ws) = ⊥
AllRemovals (Removed n ∷ ws) = AllRemovals ws

pub above-more : (capacity : Option ℕ) (a b : ℕ) → a ≤ b → is_above capacity a ≡ true → is_above capacity b ≡ true
above-more None a b less h = h
above-more (Some c) a b less h = let over = ltb-true c a h in lt-ltb c b (omega arith)

module _ {K V : Type 0} (base : List (Record K V)) (rest us : List Write) where
  -- what holds of each record before and after the write was applied
  abbrev pub Next : Record K V → Type 0
  Next r = AreRising r.number r.applied (rest ++ us) × ComesFrom base r

  abbrev pub Now : Write → Record K V → Type 0
  Now w r = AreRising r.number r.applied (w ∷ (rest ++ us)) × ComesFrom base r

  module _ (u : Upsert) where
    next-counting : (rs : List (Record K V)) → AreNumbered rs → Each (Now (Put u)) rs → Each Next (changed_at u.number (λ r. record r { applied = u.write; counts = Some u.weight }) rs)
    next-counting rs numbered h = each-changed u.number (λ r. record r { applied = u.write; counts = Some u.weight }) (Now (Put u)) Next
        (λ r same k. (rising-own r.number r.applied u (rest ++ us) k.0 (sym same), record { owner = k.1.owner; there = k.1.there; number = k.1.number; entry = k.1.entry; held = k.1.held }))
        (λ r other k. (rising-other r.number r.applied u (rest ++ us) k.0 (λ e. other (sym e)), k.1)) rs numbered h

    next-put_off : (rs : List (Record K V)) → AreNumbered rs → Each (Now (Put u)) rs → Each Next (changed_at u.number (λ r. record r { applied = u.write }) rs)
    next-put_off rs numbered h = each-changed u.number (λ r. record r { applied = u.write }) (Now (Put u)) Next
        (λ r same k. (rising-own r.number r.applied u (rest ++ us) k.0 (sym same), record { owner = k.1.owner; there = k.1.there; number = k.1.number; entry = k.1.entry; held = k.1.held }))
        (λ r other k. (rising-other r.number r.applied u (rest ++ us) k.0 (λ e. other (sym e)), k.1)) rs numbered h

    next-gone : (rs : List (Record K V)) → AreNumbered rs → Each (Now (Put u)) rs → Each Next (without_record u.number rs)
    next-gone rs numbered h = each-without u.number (Now (Put u)) Next (λ r other k. (rising-other r.number r.applied u (rest ++ us) k.0 (λ e. other (sym e)), k.1)) rs numbered h

    next-none : (rs : List (Record K V)) → record_at rs u.number ≡ None → Each (Now (Put u)) rs → Each Next rs
    next-none rs none h = each-map (λ r. Now (Put u) r × (r.number ≡ u.number → ⊥)) Next (λ r k. (rising-other r.number r.applied u (rest ++ us) k.0.0 (λ e. k.1 (sym e)), k.0.1)) rs
        (each-both (Now (Put u)) (λ r. r.number ≡ u.number → ⊥) rs h (none_there u.number rs none))

module _ {K V P S R : Type 0} (base : List (Record K V)) (rest us : List Write) where
  -- what a write does to a state
  pub record WriteGoes (Q : RemovalCause → Entry K V → Type 0) (w : Write) (old new : State K V P S R) : Type 0 where
    pub takes : Takes Q old new
    pub fewer : Fewer new.records (with_write w old.records)
    pub each : Each (Next base rest us) new.records

  module _ (Q : RemovalCause → Entry K V → Type 0) (u : Upsert) (s : State K V P S R) (numbered : AreNumbered s.records) (each : Each (Now base rest us (Put u)) s.records) where
    counting-held : (t : State K V P S R) → held_entries (counting u t).records ≡ held_entries t.records
    counting-held t = held-changed u.number (λ r. record r { applied = u.write; counts = Some u.weight }) (λ r. refl) (λ r. refl) t.records

    put-none : record_at s.records u.number ≡ None → WriteGoes Q (Put u) s s
    put-none none = record {
      takes = takes-nothing Q s s refl refl refl;
      fewer = subst (λ l. Fewer s.records l) (sym (changed-none u.number (λ r. record r { applied = u.write; counts = Some u.weight }) s.records s.records (fewer-refl s.records) none)) (fewer-refl s.records);
      each = next-none base rest us u s.records none each;
    }

    put-counting : WriteGoes Q (Put u) s (counting u s)
    put-counting = record {
      takes = takes-nothing Q s (counting u s) refl refl (counting-held s);
      fewer = fewer-refl (with_write (Put u) s.records);
      each = next-counting base rest us u s.records numbered each;
    }

    put-displace : (vs : List (Record K V)) → AllSettled s.records vs → ((y : Record K V) → is_settled y ≡ true → record_at s.records y.number ≡ Some y → y.is_held ≡ true → Q cause.Size y.entry)
        → WriteGoes Q (Put u) s (counting u (all_left cause.Size vs s))
    put-displace vs settled just =
        let t = all_left cause.Size vs s in
        let k = gone vs s numbered each (fewer-refl s.records) in
        record {
          takes = takes-after Q s t (counting u t) (all_left-takes Q s.records vs just s numbered (each-own s.records numbered) settled) refl refl (counting-held t);
          fewer = fewer-put u t.records s.records numbered k.2;
          each = next-counting base rest us u t.records k.0 k.1;
        }
      where
        gone : (vs : List (Record K V)) (t : State K V P S R) → AreNumbered t.records → Each (Now base rest us (Put u)) t.records → Fewer t.records s.records
            → AreNumbered (all_left cause.Size vs t).records × Each (Now base rest us (Put u)) (all_left cause.Size vs t).records × Fewer (all_left cause.Size vs t).records s.records
        gone [] t n e f = (n, e, f)
        gone (v ∷ vs) t n e f =
            gone vs (left cause.Size v.number t) (one (record_at t.records v.number)).0 (left-each (Now base rest us (Put u)) cause.Size v.number t n e) (one (record_at t.records v.number)).1
          where
            one : (o : Option (Record K V)) → AreNumbered (with_left cause.Size t o).records × Fewer (with_left cause.Size t o).records s.records
            one None = (n, f)
            one (Some r) = (numbered-without r.number t.records n, fewer-without r.number t.records s.records f)

    put-refuse : (x : Record K V) → record_at s.records u.number ≡ Some x → x.counts ≡ None → (x.is_held ≡ true → is_overtaken u x ≡ false → Q cause.Size x.entry) → WriteGoes Q (Put u) s (judged u x s refuse)
    put-refuse x here uncounted just =
        cond_both (is_overtaken u x) _ _ (WriteGoes Q (Put u) s)
        (λ _. record {
          takes = takes-nothing Q s (put_off u s) refl refl (held-changed u.number (λ r. record r { applied = u.write }) (λ r. refl) (λ r. refl) s.records);
          fewer = fewer-put_off u s.records x here uncounted;
          each = next-put_off base rest us u s.records numbered each;
        })
        (λ e. leaving e (record_at s.records u.number) refl)
      where
        leaving : is_overtaken u x ≡ false → (o : Option (Record K V)) → record_at s.records u.number ≡ o → WriteGoes Q (Put u) s (with_left cause.Size s o)
        leaving e None there = absurd (let both : Some x ≡ None = sym here ∙ there in cc)
        leaving e (Some r) there =
            let both : Some x ≡ Some r = sym here ∙ there in
            let same : x ≡ r = cc in
            let number = record_at-number s.records u.number r there in
            record {
              takes = takes-left Q cause.Size s u.number (Some r) there (λ y is_y held. (let one : r ≡ y = cc in subst (λ z. z.is_held ≡ true → Q cause.Size z.entry) (same ∙ one) (λ h. just h e) held));
              fewer = subst (λ n. Fewer (without_record n s.records) (with_write (Put u) s.records)) (sym number) (fewer-refused u s.records);
              each = subst (λ n. Each (Next base rest us) (without_record n s.records)) (sym number) (next-gone base rest us u s.records numbered each);
            }

    put-judged : (x : Record K V) → record_at s.records u.number ≡ Some x → x.counts ≡ None
        → ((y : Record K V) → is_settled y ≡ true → record_at s.records y.number ≡ Some y → y.is_held ≡ true → Q cause.Size y.entry)
        → (x.is_held ≡ true → is_overtaken u x ≡ false → Q cause.Size x.entry) → (v : Verdict K V) → Justified s v → WriteGoes Q (Put u) s (judged u x s v)
    put-judged x here uncounted victims own admit h = put-counting
    put-judged x here uncounted victims own (displace vs) h = put-displace vs h victims
    put-judged x here uncounted victims own refuse h = put-refuse x here uncounted own

    -- the justifications are asked for only where the weight with it is above the capacity
    put-goes : (o : Option (Record K V)) → record_at s.records u.number ≡ o
        → ((x : Record K V) → record_at s.records u.number ≡ Some x → x.counts ≡ None → is_above s.settings.capacity (admitted_weight s.records + u.weight) ≡ true
        → ((y : Record K V) → is_settled y ≡ true → record_at s.records y.number ≡ Some y → y.is_held ≡ true → Q cause.Size y.entry) × (x.is_held ≡ true → is_overtaken u x ≡ false → Q cause.Size x.entry))
        → WriteGoes Q (Put u) s (after_put u o s)
    put-goes None here just = put-none here
    put-goes (Some x) here just =
        cond_both (nat_lt x.applied u.write) _ _ (WriteGoes Q (Put u) s) (λ _. by_counts x.counts refl) (λ e. absurd (let late = ltb-false x.applied u.write e in omega (arith, newer)))
      where
        full : Verdict K V
        full = cond (is_above s.settings.capacity u.weight) refuse (verdict_of_full s.settings.policy s.sketch u (settled_in s.records s.access))

        by_room : x.counts ≡ None → Justified s (verdict s u) → WriteGoes Q (Put u) s (judged u x s (verdict s u))
        by_room uncounted =
            cond_both (is_above s.settings.capacity (admitted_weight s.records + u.weight)) full admit (λ v. Justified s v → WriteGoes Q (Put u) s (judged u x s v))
            (λ above h. let k = just x here uncounted above in put-judged x here uncounted k.0 k.1 full h) (λ _ h. put-counting)

        by_counts : (o : Option ℕ) → x.counts ≡ o → WriteGoes Q (Put u) s (cond (is_some o) (counting u s) (judged u x s (verdict s u)))
        by_counts (Some w) e = put-counting
        by_counts None e = by_room e (verdict-justified s u)

        -- its writes rise
        newer : x.applied < u.write
        newer = (each-at (Now base rest us (Put u)) s.records u.number x each here).0.0 (sym (record_at-number s.records u.number x here))

  module _ (Q : RemovalCause → Entry K V → Type 0) (n : ℕ) (s : State K V P S R) (numbered : AreNumbered s.records) (each : Each (Now base rest us (Removed n)) s.records) where
    removal-goes : ((r : Record K V) → record_at s.records n ≡ Some r → r.is_held ≡ false) → (o : Option (Record K V)) → record_at s.records n ≡ o → WriteGoes Q (Removed n) s (after_removal o s)
    removal-goes out None there = record {
      takes = takes-nothing Q s s refl refl refl;
      fewer = subst (λ l. Fewer s.records l) (sym (without-none_of n s.records s.records (fewer-refl s.records) there)) (fewer-refl s.records);
      each = each;
    }
    removal-goes out (Some r) there =
        cond_both r.is_held _ _ (WriteGoes Q (Removed n) s) (λ e. absurd (true≢false (sym e ∙ out r there)))
        (λ _. record {
          takes = takes-nothing Q s gone refl refl (held-without_other s.records r.number r here (out r there));
          fewer = subst (λ m. Fewer (without_record m s.records) (without_record n s.records)) (sym (record_at-number s.records n r there)) (fewer-refl (without_record n s.records));
          each = each-without r.number (Now base rest us (Removed n)) (Next base rest us) (λ x other k. k) s.records numbered each;
        })
      where
        gone : State K V P S R
        gone = record s { records = without_record r.number s.records; access = without r.number s.access; order = without r.number s.order }

        here : record_at s.records r.number ≡ Some r
        here = ap (λ n. record_at s.records n) (record_at-number s.records n r there) ∙ there

-- ---- the chain

-- the last write that is no removal has a kept weight above the capacity
pub record Peak (capacity : Option ℕ) (done : List Write) : Type 0 where
  pub before : List Write
  pub peak : Upsert
  pub after : List Write
  pub stands : done ≡ before ++ Put peak ∷ after
  pub above : is_above capacity peak.kept ≡ true
  pub last : AllRemovals after

removals-push : (ws : List Write) (n : ℕ) → AllRemovals ws → AllRemovals (ws ++ Removed n ∷ [])
removals-push [] n h = tt
removals-push (Put u ∷ ws) n h = elim h [ ]
removals-push (Removed m ∷ ws) n h = removals-push ws n h

pub in_right : {X : Type 0} (x : X) (xs ys : List X) → IsIn x ys → IsIn x (xs ++ ys)
in_right x [] ys h = h
in_right x (y ∷ xs) ys h = inr (in_right x xs ys h)

pub in_either : {X : Type 0} (x : X) (xs ys : List X) → IsIn x (xs ++ ys) → IsIn x xs ⊎ IsIn x ys
in_either x [] ys h = inr h
in_either x (y ∷ xs) ys (inl e) = inl (inl e)
in_either x (y ∷ xs) ys (inr h) = elim (in_either x xs ys h) [ inl k ↦ inl (inr k) | inr k ↦ inr k ]

none_append : (n : ℕ) (xs ys : List Write) → NoneOf n xs → NoneOf n ys → NoneOf n (xs ++ ys)
none_append n [] ys h k = k
none_append n (x ∷ xs) ys h k = (h.0, none_append n xs ys h.1 k)

module _ {K V : Type 0} where
  -- a held record is none of those that were removed
  none_removed : (r : Record K V) (ws : List Write) → ((w : Write) → IsIn w ws → Fits w r) → r.is_held ≡ true → AllRemovals ws → NoneOf r.number ws
  none_removed r [] fits held h = tt
  none_removed r (Put u ∷ ws) fits held h = elim h [ ]
  none_removed r (Removed n ∷ ws) fits held h =
      ((λ same. true≢false (sym held ∙ fits (Removed n) (inl refl) same)), none_removed r ws (λ w i. fits w (inr i)) held h)

module _ {K V P S R : Type 0} (old : State K V P S R) (us : List Write) (us_are : map (λ u. u.write) old.unsent ≡ us) where
  pub record Going (done : List Write) (s : State K V P S R) : Type 0 where
    pub sound : IsSound s
    pub pending : old.writes ≡ done ++ s.writes
    pub each : Each (Next old.records s.writes us) s.records
    pub kept : AreKept (s.writes ++ us) s.records
    pub settings : s.settings ≡ old.settings
    pub unsent : s.unsent ≡ old.unsent
    pub peak : is_above old.settings.capacity (admitted_weight s.records) ≡ true → Peak old.settings.capacity done

  -- less counts, and nothing was taken off the queue
  going-fewer : (done : List Write) (s t : State K V P S R) → Going done s → IsSound t → t.writes ≡ s.writes → t.settings ≡ s.settings → t.unsent ≡ s.unsent → Fewer t.records s.records → Each (Next old.records s.writes us) t.records → Going done t
  going-fewer done s t g sound queued settings unsent fewer each = record {
    sound = sound;
    pending = g.pending ∙ ap (λ ws. done ++ ws) (sym queued);
    each = subst (λ ws. Each (Next old.records ws us) t.records) (sym queued) each;
    kept = subst (λ ws. AreKept (ws ++ us) t.records) (sym queued) (kept-fewer (s.writes ++ us) t.records s.records g.sound.records.numbered fewer g.kept);
    settings = settings ∙ g.settings;
    unsent = unsent ∙ g.unsent;
    peak = λ above. g.peak (above-more old.settings.capacity (admitted_weight t.records) (admitted_weight s.records) (fewer-weight t.records s.records fewer) above);
  }

  going-same : (done : List Write) (s t : State K V P S R) → Going done s → IsSound t → t.writes ≡ s.writes → t.settings ≡ s.settings → t.unsent ≡ s.unsent → t.records ≡ s.records → Going done t
  going-same done s t g sound queued settings unsent same =
      going-fewer done s t g sound queued settings unsent (subst (λ rs. Fewer rs s.records) (sym same) (fewer-refl s.records)) (subst (λ rs. Each (Next old.records s.writes us) rs) (sym same) g.each)

  -- the oldest write was taken off
  going-write : (done : List Write) (w : Write) (rest : List Write) (s t : State K V P S R) → Going done s → s.writes ≡ w ∷ rest → IsSound t → t.writes ≡ rest → t.settings ≡ s.settings → t.unsent ≡ s.unsent
      → Fewer t.records (with_write w s.records) → Each (Next old.records rest us) t.records → Going (done ++ w ∷ []) t
  going-write done w rest s t g some sound queued settings unsent fewer each =
      let kept : AreKept (w ∷ (rest ++ us)) s.records = subst (λ ws. AreKept (ws ++ us) s.records) some g.kept in
      let numbered = g.sound.records.numbered in
      record {
        sound = sound;
        pending = g.pending ∙ ap (λ ws. done ++ ws) (some ∙ ap (λ ws. w ∷ ws) (sym queued)) ∙ sym (append_assoc done (w ∷ []) t.writes);
        each = subst (λ ws. Each (Next old.records ws us) t.records) (sym queued) each;
        kept = subst (λ ws. AreKept (ws ++ us) t.records) (sym queued) (kept-fewer (rest ++ us) t.records (with_write w s.records) (numbered-write w s.records numbered) fewer kept.1);
        settings = settings ∙ g.settings;
        unsent = unsent ∙ g.unsent;
        peak = λ above. by_kind w kept.0 (above-more old.settings.capacity (admitted_weight t.records) (admitted_weight (with_write w s.records)) (fewer-weight t.records (with_write w s.records) fewer) above);
      }
    where
      longer : (n : ℕ) → Peak old.settings.capacity done → Peak old.settings.capacity (done ++ Removed n ∷ [])
      longer n p = record {
        before = p.before;
        peak = p.peak;
        after = p.after ++ Removed n ∷ [];
        stands = ap (λ ws. ws ++ Removed n ∷ []) p.stands ∙ append_assoc p.before (Put p.peak ∷ p.after) (Removed n ∷ []);
        above = p.above;
        last = removals-push p.after n p.last;
      }

      by_kind : (w : Write) → IsKeptBy w (admitted_weight (with_write w s.records)) → is_above old.settings.capacity (admitted_weight (with_write w s.records)) ≡ true → Peak old.settings.capacity (done ++ w ∷ [])
      by_kind (Put u) kept above = record {
        before = done;
        peak = u;
        after = [];
        stands = refl;
        above = above-more old.settings.capacity (admitted_weight (with_write (Put u) s.records)) u.kept kept above;
        last = tt;
      }
      by_kind (Removed n) kept above = longer n (g.peak (above-more old.settings.capacity (admitted_weight (without_record n s.records)) (admitted_weight s.records)
          (fewer-weight (without_record n s.records) s.records (fewer-without n s.records s.records (fewer-refl s.records))) above))

  -- what is pending fits the records
  fits-pending : (done : List Write) (s : State K V P S R) (x : Record K V) (n : ℕ) → Going done s → record_at s.records n ≡ Some x → (w : Write) → IsIn w (s.writes ++ us) → Fits w x
  fits-pending done s x n g there w i =
      let accounted = each-at (IsAccounted s.unsent s.writes) s.records n x g.sound.records.accounted there in
      let same : us ≡ map (λ w. w.write) s.unsent = sym us_are ∙ ap (λ l. map (λ w. w.write) l) (sym g.unsent) in
      elim (in_either w s.writes us i) [ inl k ↦ accounted.fits w (inr k) | inr k ↦ accounted.fits w (inl (subst (λ l. IsIn w l) same k)) ]

  -- a record that is found now is the same as one that was there as the run began
  pointed : (done : List Write) (s : State K V P S R) (x : Record K V) (n : ℕ) → Going done s → record_at s.records n ≡ Some x → x.is_held ≡ true → HasPoint old.settings.capacity old.writes (map (λ w. w.write) old.unsent) x.number → IsPointed old x.entry
  pointed done s x n g there held point =
      let from = (each-at (Next old.records s.writes us) s.records n x g.each there).1 in
      record {
        owner = from.owner;
        there = from.there;
        held = from.held ∙ held;
        entry = from.entry;
        point = subst (λ m. HasPoint old.settings.capacity old.writes (map (λ w. w.write) old.unsent) m) (sym from.number) point;
      }

  -- the point of what a write takes
  point-write : (done : List Write) (s : State K V P S R) (u : Upsert) (rest : List Write) (x : Record K V) → Going done s → s.writes ≡ Put u ∷ rest → is_above s.settings.capacity u.kept ≡ true → NoneOf x.number (rest ++ us)
      → HasPoint old.settings.capacity old.writes (map (λ w. w.write) old.unsent) x.number
  point-write done s u rest x g some above none = record {
    before = done;
    peak = u;
    after = rest;
    stands = g.pending ∙ ap (λ ws. done ++ ws) some;
    above = sym (ap (λ c. is_above c.capacity u.kept) g.settings) ∙ above;
    last = subst (λ ws. NoneOf x.number (rest ++ ws)) (sym us_are) none;
  }

  -- the point of an eviction
  point-excess : IsSound old → (done : List Write) (s : State K V P S R) (x : Record K V) (n : ℕ) → Going done s → s.writes ≡ [] → is_above s.settings.capacity (admitted_weight s.records) ≡ true
      → record_at s.records n ≡ Some x → x.is_held ≡ true → is_settled x ≡ true → IsPointed old x.entry
  point-excess sound done s x n g none above there held settled =
      let from = (each-at (Next old.records s.writes us) s.records n x g.each there).1 in
      let p = g.peak (sym (ap (λ c. is_above c.capacity (admitted_weight s.records)) g.settings) ∙ above) in
      let whole : old.writes ≡ p.before ++ Put p.peak ∷ p.after = g.pending ∙ ap (λ ws. done ++ ws) none ∙ append-nil done ∙ p.stands in
      let rising : AreRising x.number x.applied us = subst (λ ws. AreRising x.number x.applied (ws ++ us)) none (each-at (Next old.records s.writes us) s.records n x g.each there).0 in
      let last = sym (eqb-true x.writes x.applied settled) in
      let unsent_none : NoneOf x.number us = none_later x x.applied us rising (λ w i. fits-pending done s x n g there w (in_right w s.writes us i)) (omega (arith, last)) held in
      let accounted : IsAccounted old.unsent old.writes from.owner = each-at (IsAccounted old.unsent old.writes) old.records from.owner.number from.owner sound.records.accounted from.there in
      record {
        owner = from.owner;
        there = from.there;
        held = from.held ∙ held;
        entry = from.entry;
        point = record {
          before = p.before;
          peak = p.peak;
          after = p.after;
          stands = whole;
          above = p.above;
          last = none_append from.owner.number p.after (map (λ w. w.write) old.unsent)
              (none_removed from.owner p.after (λ w i. accounted.fits w (inr (subst (λ ws. IsIn w ws) (sym whole) (in_right w p.before (Put p.peak ∷ p.after) (inr i))))) (from.held ∙ held) p.last)
              (subst (λ ws. NoneOf from.owner.number ws) (sym us_are) (subst (λ m. NoneOf m us) (sym from.number) unsent_none));
        };
      }

  module _ (answers : Answers K V P R) (now : ℕ) (old_sound : IsSound old) where
    pub record StepGoes (s t : State K V P S R) : Type 0 where
      pub done : List Write
      pub goes : Going done t
      pub takes : Takes (IsJust answers now old) s t

    read-kept : (r : Read) (s : State K V P S R) → ((after_read r s).records ≡ s.records) × ((after_read r s).writes ≡ s.writes) × ((after_read r s).settings ≡ s.settings) × ((after_read r s).notices ≡ s.notices) × ((after_read r s).unsent ≡ s.unsent)
    read-kept (Miss hash) s = (refl, refl, refl, refl, refl)
    read-kept (Hit n hash) s = by_record (record_at s.records n)
      where
        t : State K V P S R
        t = record s { sketch = incremented s.sketch hash }

        by_record : (o : Option (Record K V)) → ((after_hit o t).records ≡ s.records) × ((after_hit o t).writes ≡ s.writes) × ((after_hit o t).settings ≡ s.settings) × ((after_hit o t).notices ≡ s.notices) × ((after_hit o t).unsent ≡ s.unsent)
        by_record None = (refl, refl, refl, refl, refl)
        by_record (Some r) = grind (arith, r.number)

    same-goes : (done : List Write) (s t : State K V P S R) → Going done s → IsSound t → t.records ≡ s.records → t.writes ≡ s.writes → t.settings ≡ s.settings → t.notices ≡ s.notices → t.unsent ≡ s.unsent → StepGoes s t
    same-goes done s t g sound records queued settings notices unsent = record {
      done = done;
      goes = going-same done s t g sound queued settings unsent records;
      takes = takes-nothing (IsJust answers now old) s t settings notices (ap (λ rs. held_entries rs) records);
    }

    left-goes : (done : List Write) (s : State K V P S R) (why : RemovalCause) (n : ℕ) → Going done s → IsSound (left why n s)
        → ((r : Record K V) → record_at s.records n ≡ Some r → r.is_held ≡ true → IsJust answers now old why r.entry) → StepGoes s (left why n s)
    left-goes done s why n g sound just =
        let f = left-frame why n s in
        let each = left-each (Next old.records s.writes us) why n s g.sound.records.numbered g.each in
        let t = takes-left (IsJust answers now old) why s n (record_at s.records n) refl just in
        record {
          done = done;
          goes = going-fewer done s (left why n s) g sound f.writes t.settings f.unsent (fewer (record_at s.records n)) each;
          takes = t;
        }
      where
        fewer : (o : Option (Record K V)) → Fewer (with_left why s o).records s.records
        fewer None = fewer-refl s.records
        fewer (Some r) = fewer-without r.number s.records s.records (fewer-refl s.records)

    popped-goes : (done : List Write) (s t : State K V P S R) (w : Write) (rest : List Write) → Going done s → IsSound t → s.writes ≡ w ∷ rest → t ≡ after_write w (record s { writes = rest })
        → WriteGoes old.records rest us (IsJust answers now old) w (record s { writes = rest }) (after_write w (record s { writes = rest })) → StepGoes s t
    popped-goes done s t w rest g sound some after k =
        let p = record s { writes = rest } in
        let f = after_write-frame w p in
        record {
          done = done ++ w ∷ [];
          goes = going-write done w rest s t g some sound (ap (λ x. x.writes) after ∙ f.writes) (ap (λ x. x.settings) after ∙ k.takes.settings) (ap (λ x. x.unsent) after ∙ f.unsent)
              (subst (λ x. Fewer x.records (with_write w s.records)) (sym after) k.fewer) (subst (λ x. Each (Next old.records rest us) x.records) (sym after) k.each);
          takes = subst (λ x. Takes (IsJust answers now old) s x) (sym after) (record {
            removals = k.takes.removals;
            tells = Tells-popped s (after_write w p) s.reads rest k.takes.removals k.takes.tells;
            each = k.takes.each;
            settings = k.takes.settings;
          });
        }

    write-goes : (done : List Write) (s t : State K V P S R) (w : Write) (rest : List Write) → Going done s → IsSound t → s.writes ≡ w ∷ rest → t ≡ after_write w (record s { writes = rest }) → StepGoes s t
    write-goes done s t (Put u) rest g sound some after =
        let p = record s { writes = rest } in
        let each : Each (Now old.records rest us (Put u)) s.records = subst (λ ws. Each (Next old.records ws us) s.records) some g.each in
        let kept : AreKept (Put u ∷ (rest ++ us)) s.records = subst (λ ws. AreKept (ws ++ us) s.records) some g.kept in
        let fits : ((x : Record K V) (n : ℕ) → record_at s.records n ≡ Some x → (w : Write) → IsIn w (Put u ∷ (rest ++ us)) → Fits w x) =
        λ x n there w i. fits-pending done s x n g there w (subst (λ ws. IsIn w (ws ++ us)) (sym some) i) in
        popped-goes done s t (Put u) rest g sound some after
        (put-goes old.records rest us (IsJust answers now old) u p g.sound.records.numbered each (record_at s.records u.number) refl
        (λ x here uncounted above.
        let weight = kept.0 in
        let over : is_above s.settings.capacity u.kept ≡ true = above-more s.settings.capacity (admitted_weight s.records + u.weight) u.kept (omega (arith, weight, weight-put u s.records x here uncounted)) above in (
          (λ y settled there held.
              let rising = (each-at (Now old.records rest us (Put u)) s.records y.number y each there).0 in
              let last = sym (eqb-true y.writes y.applied settled) in
              let none = none_later y y.applied (Put u ∷ (rest ++ us)) rising (fits y y.number there) (omega (arith, last)) held in
              pointed done s y y.number g there held (point-write done s u rest y g some over none.1)),
          (λ held newest.
              let number = record_at-number s.records u.number x here in
              let rising = (each-at (Now old.records rest us (Put u)) s.records u.number x each here).0 in
              let parts = (or_parts (not x.is_held) (nat_lt u.write x.writes) newest).1 in
              let none = none_later x u.write (rest ++ us) (rising-own x.number x.applied u (rest ++ us) rising (sym number)) (λ w i. fits x u.number here w (inr i)) (ltb-false u.write x.writes parts) held in
              pointed done s x u.number g here held (point-write done s u rest x g some over none)),
        )))
    write-goes done s t (Removed n) rest g sound some after =
        let p = record s { writes = rest } in
        let each : Each (Now old.records rest us (Removed n)) s.records = subst (λ ws. Each (Next old.records ws us) s.records) some g.each in
        popped-goes done s t (Removed n) rest g sound some after
        (removal-goes old.records rest us (IsJust answers now old) n p g.sound.records.numbered each
        (λ r there. (each-at (IsAccounted s.unsent s.writes) s.records n r g.sound.records.accounted there).fits (Removed n) (inr (subst (λ ws. IsIn (Removed n) ws) (sym some) (inl refl))) (sym (record_at-number s.records n r there)))
        (record_at s.records n) refl)

    -- what is held is covered as it was
    abbrev Cov : State K V P S R → Type 0
    Cov s = (place : ℕ) (e : Entry K V) → slice_get (held_entries s.records) place ≡ Some e → is_covered answers s e ≡ is_covered answers old e

    just-due : (done : List Write) (s : State K V P S R) (r : Record K V) (why : RemovalCause) → Going done s → Cov s → record_at s.records r.number ≡ Some r → r.is_held ≡ true → is_due_for answers s now r why ≡ true → IsJust answers now old why r.entry
    just-due done s r cause.Expired g cov there held due = sym (ap (λ c. has_come c now r.entry) g.settings) ∙ due
    just-due done s r cause.Explicit g cov there held due = let h = held-without s.records r.number r there held in sym (cov h.place r.entry h.there) ∙ due
    just-due done s r cause.Replaced g cov there held due = absurd (true≢false (sym due))
    just-due done s r cause.Size g cov there held due = absurd (true≢false (sym due))

    step-goes : (done : List Write) (s t : State K V P S R) → Going done s → Cov s → Step answers now s t → StepGoes s t
    step-goes done s t g cov step = go step (step-sound answers now s t g.sound step)
      where
        go : Step answers now s t → IsSound t → StepGoes s t
        go (reads r rest e after) sound =
            let k = read-kept r (record s { reads = rest }) in
            same-goes done s t g sound (ap (λ x. x.records) after ∙ k.0) (ap (λ x. x.writes) after ∙ k.1) (ap (λ x. x.settings) after ∙ k.2) (ap (λ x. x.notices) after ∙ k.3) (ap (λ x. x.unsent) after ∙ k.4)
        go (writes w rest none e after) sound = write-goes done s t w rest g sound e after
        go (grows words applied wants capacity is_set size after) sound = same-goes done s t g sound (ap (λ x. x.records) after) (ap (λ x. x.writes) after) (ap (λ x. x.settings) after) (ap (λ x. x.notices) after) (ap (λ x. x.unsent) after)
        go (leaves r why applied there held due after) sound =
            subst (λ x. StepGoes s x) (sym after) (left-goes done s why r.number g (subst (λ x. IsSound x) after sound)
            (λ x here held_x.
            let both : Some r ≡ Some x = sym there ∙ here in
            let same : r ≡ x = cc in
            subst (λ z. IsJust answers now old why z.entry) same (just-due done s r why g cov there held due)))
        go (evicts r applied clean above next after) sound =
            subst (λ x. StepGoes s x) (sym after) (left-goes done s cause.Size r.number g (subst (λ x. IsSound x) after sound)
            (λ x here held.
            let k = first-settled s.records (settled_in s.records s.access) r (settled_in-settled s.records s.access) next in
            let both : Some r ≡ Some x = sym k.1 ∙ here in
            let same : r ≡ x = cc in
            point-excess old_sound done s x r.number g applied.writes above here held (subst (λ z. is_settled z ≡ true) same k.0)))
        go (ends place p applied there none after) sound = same-goes done s t g sound (ap (λ x. x.records) after) (ap (λ x. x.writes) after) (ap (λ x. x.settings) after) (ap (λ x. x.notices) after) (ap (λ x. x.unsent) after)

    cov-step : (s t : State K V P S R) → Cov s → Step answers now s t → Cov t
    cov-step s t cov step place e there =
        let h = step_tells answers now s t step in
        let from = TakesAway-from (removed_entries h.removals) (held_entries s.records) (held_entries t.records) place e h.tells.entries there in
        h.keeps.covered place e there ∙ cov from.0 e from.1

    steps-take : (stages : List (State K V P S R)) (done : List Write) (s t : State K V P S R) → Going done s → Cov s → Steps answers now s stages t → Takes (IsJust answers now old) s t × Each (ComesFrom old.records) t.records
    steps-take [] done s t g cov e = (
      subst (λ x. Takes (IsJust answers now old) s x) (sym e) (takes-nothing (IsJust answers now old) s s refl refl refl),
      subst (λ x. Each (ComesFrom old.records) x.records) (sym e) (each-map (Next old.records s.writes us) (ComesFrom old.records) (λ r h. h.1) s.records g.each),
    )
    steps-take (mid ∷ stages) done s t g cov e =
        let k = step-goes done s mid g cov e.0 in
        let later = steps-take stages k.done mid t k.goes (cov-step s mid cov e.0) e.1 in
        (takes-trans (IsJust answers now old) s mid t k.takes later.0, later.1)

module _ (K V P S R : Type 0) where
  pub run_tells_justly : RunTellsJustly K V P S R
  run_tells_justly answers now old new order run =
      let us = map (λ u. u.write) old.unsent in
      let start : Going old us refl [] old = record {
        sound = order.sound;
        pending = refl;
        each = each-map (λ r. AreRising r.number r.applied (pending_of old) × (record_at old.records r.number ≡ Some r)) (Next old.records old.writes us)
            (λ r k. (k.0, record { owner = r; there = k.1; number = refl; entry = refl; held = refl })) old.records
            (each-both (λ r. AreRising r.number r.applied (pending_of old)) (λ r. record_at old.records r.number ≡ Some r) old.records order.rising (each-own old.records order.sound.records.numbered));
        kept = order.kept;
        settings = refl;
        unsent = refl;
        peak = λ above. absurd (true≢false (sym above ∙ order.within));
      } in
      let h = steps-take old us refl answers now order.sound run.stages [] old run.last start (λ place e there. refl) run.steps in
      let k = takes-after (IsJust answers now old) old run.last new h.0 (ap (λ t. t.settings) run.after) (ap (λ t. t.notices) run.after) (ap (λ t. held_entries t.records) run.after) in
      record { removals = k.removals; tells = k.tells; just = k.each; comes = subst (λ t. Each (ComesFrom old.records) t.records) (sym run.after) h.1 }

  -- of these the removals for weight
  for_size : (answers : Answers K V P R) (now : ℕ) (old : State K V P S R) (removals : List (Removal K V)) → EachRemoval (IsJust answers now old) removals → EachForSize (IsPointed old) removals
  for_size answers now old [] h = tt
  for_size answers now old (gone ∷ removals) h = ((λ size. subst (λ why. IsJust answers now old why gone.entry) size h.0), for_size answers now old removals h.1)

  pub size_has_point : SizeHasPoint K V P S R
  size_has_point answers now old new order run =
      let k = run_tells_justly answers now old new order run in
      record { removals = k.removals; tells = k.tells; points = for_size answers now old k.removals k.just }
