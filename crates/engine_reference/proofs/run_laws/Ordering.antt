-- Calls and uncut runs keep a state in order.
use Rattle.std.proofs.Common.{zero, suc, ◌≡◌, refl, ap, sym, ◌∙◌, subst, ℕ, ◌+◌, ◌<◌, ◌≤◌, arith, Bool, true, false, true≢false, cond, List, [], ◌∷◌, ◌++◌, Option, Some, None, map, append_assoc, inl, inr, eqb, ◌==◌}
use Rattle.std.specs.Prelude.{nat_lt, unwrap_or, sum_by}
use Rattle.std.proofs.lemmas.Bool.{false_from_ne_true, cond_both, cases_Bool, eqb-true, eq-eqb, ne_eqb, ltb-true}
use Rattle.std.proofs.lemmas.List.{map-append}
use Rattle.engine_reference.specs.declared.data.Entry.{Entry}
use Rattle.engine_reference.specs.declared.data.Record.{Record}
use Rattle.engine_reference.specs.declared.data.Unsent.{Unsent}
use Rattle.engine_reference.specs.declared.data.Upsert.{Upsert}
use Rattle.engine_reference.specs.declared.data.Write.{Write}
use Rattle.engine_reference.specs.declared.data.Write.TheVariants.{Put, Removed}
use Rattle.engine_reference.specs.Admission.{is_above}
use Rattle.engine_reference.specs.Calls.{with_written, first_entry, next_entry, with_sent, sent, unsent_at, without_ticket, with_removed, removal_told, with_read, used_entry}
use Rattle.engine_reference.specs.Records.{record_at, held_at, without_record, changed_at, held_entries, held_weight, admitted_weight, weight_at}
use Rattle.engine_reference.specs.Soundness.{IsIn, number_of, IsPending, Each, AreNumbered, Fits, IsAccounted, AreSound, IsSound}
use Rattle.engine_reference.specs.State.{State, Answers}
use Rattle.engine_reference.specs.Visible.{visible_record}
use Rattle.engine_reference.proofs.Accounts.{each-map, each-both, only_one, each-changed, each-without}
use Rattle.engine_reference.proofs.HeldRecords.{record_at-number, held-changed, held-without_other}
use Rattle.engine_reference.proofs.SoundCalls.{accounted-same, calls_stay_sound, held_at-only, each-push, used-sound}
use Rattle.engine_reference.proofs.SoundSteps.{IsCounted, counted, counted-weight, sound-gone, sound-counting, run-sound, counts_are_exact}
use Rattle.engine_reference.proofs.TellingSteps.{run_tells}
use Rattle.engine_reference.specs.RunLaws.Points.{AreRising, with_write, IsKeptBy, AreKept, pending_of, IsInOrder, CallsStayInOrder, RunsStayInOrder}
use Rattle.engine_reference.proofs.run_laws.Fewer.{Fewer, fewer-refl, fewer-weight, fewer-changed, without-none_of, kept-fewer, weight-cons}
use Rattle.engine_reference.proofs.run_laws.Fronting.{each-at}
use Rattle.engine_reference.proofs.run_laws.Justly.{above-more, in_right, in_either}
use Rattle.engine_reference.proofs.run_laws.Rising.{rising-own, rising-other}
use Rattle.engine_reference.proofs.run_laws.Swept.{each-run}

-- ---- one more write is pending

pending-push : (ws : List Write) (us : List Unsent) (u : Unsent) → ws ++ map (λ x. x.write) (us ++ u ∷ []) ≡ (ws ++ map (λ x. x.write) us) ++ u.write ∷ []
pending-push ws us u = ap (λ l. ws ++ l) (map-append (λ x. x.write) us (u ∷ [])) ∙ sym (append_assoc ws (map (λ x. x.write) us) (u.write ∷ []))

pub rising-push_removed : (n a m : ℕ) (ws : List Write) → AreRising n a ws → AreRising n a (ws ++ Removed m ∷ [])
rising-push_removed n a m [] h = tt
rising-push_removed n a m (Put u ∷ ws) h = (h.0, rising-push_removed n (cond (u.number == n) u.write a) m ws h.1)
rising-push_removed n a m (Removed k ∷ ws) h = rising-push_removed n a m ws h

pub rising-push_other : (n a : ℕ) (v : Upsert) (ws : List Write) → (v.number ≡ n → ⊥) → AreRising n a ws → AreRising n a (ws ++ Put v ∷ [])
rising-push_other n a v [] other h = ((λ e. absurd (other e)), tt)
rising-push_other n a v (Put u ∷ ws) other h = (h.0, rising-push_other n (cond (u.number == n) u.write a) v ws other h.1)
rising-push_other n a v (Removed k ∷ ws) other h = rising-push_other n a v ws other h

pub rising-fresh : (n a : ℕ) (v : Upsert) (ws : List Write) → ((w : Write) → IsIn w ws → number_of w ≡ n → ⊥) → a < v.write → AreRising n a (ws ++ Put v ∷ [])
rising-fresh n a v [] others less = ((λ e. less), tt)
rising-fresh n a v (Put u ∷ ws) others less =
    let other = others (Put u) (inl refl) in
    ((λ e. absurd (other e)), subst (λ k. AreRising n k (ws ++ Put v ∷ [])) (sym (ap (λ b. cond b u.write a) (ne_eqb u.number n other))) (rising-fresh n a v ws (λ w i. others w (inr i)) less))
rising-fresh n a v (Removed k ∷ ws) others less = rising-fresh n a v ws (λ w i. others w (inr i)) less

in_left : {X : Type 0} (x : X) (xs ys : List X) → IsIn x xs → IsIn x (xs ++ ys)
in_left x [] ys h = elim h [ ]
in_left x (y ∷ xs) ys (inl e) = inl e
in_left x (y ∷ xs) ys (inr h) = inr (in_left x xs ys h)

pending-in : (us : List Unsent) (ws : List Write) (w : Write) → IsPending us ws w → IsIn w (ws ++ map (λ x. x.write) us)
pending-in us ws w (inl h) = in_right w ws (map (λ x. x.write) us) h
pending-in us ws w (inr h) = in_left w ws (map (λ x. x.write) us) h

pending-from : (us : List Unsent) (ws : List Write) (w : Write) → IsIn w (ws ++ map (λ x. x.write) us) → IsPending us ws w
pending-from us ws w h = elim (in_either w ws (map (λ x. x.write) us) h) [ inl k ↦ inr k | inr k ↦ inl k ]

not_above : (capacity : Option ℕ) (a b : ℕ) → a ≤ b → is_above capacity b ≡ false → is_above capacity a ≡ false
not_above capacity a b less h = false_from_ne_true _ (λ e. true≢false (sym (above-more capacity a b less e) ∙ h))

not_above-within : (capacity : Option ℕ) (a : ℕ) → ((c : ℕ) → capacity ≡ Some c → a ≤ c) → is_above capacity a ≡ false
not_above-within None a h = refl
not_above-within (Some c) a h = elim (cases_Bool (nat_lt c a)) [ inl is ↦ absurd (let over = ltb-true c a is in let within = h c refl in omega arith) | inr is ↦ rw is ]

module _ {K V : Type 0} where
  pub rising-push_own : (x : Record K V) (a : ℕ) (v : Upsert) (ws : List Write) → ((w : Write) → IsIn w ws → Fits w x) → a < v.write → x.writes < v.write → AreRising x.number a ws → AreRising x.number a (ws ++ Put v ∷ [])
  rising-push_own x a v [] fits less last h = ((λ e. less), tt)
  rising-push_own x a v (Put u ∷ ws) fits less last h =
      (h.0, rising-push_own x (cond (u.number == x.number) u.write a) v ws (λ w i. fits w (inr i)) ((cond_both (u.number == x.number) _ _ (λ z. z < v.write) (λ is. let within = (fits (Put u) (inl refl) (eqb-true u.number x.number is)).earlier in omega arith) (λ _. less))) last h.1)
  rising-push_own x a v (Removed k ∷ ws) fits less last h = rising-push_own x a v ws (λ w i. fits w (inr i)) less last h

  -- ---- all that is pending, applied in turn

  abbrev pub with_writes : List Write → List (Record K V) → List (Record K V)
  with_writes [] rs = rs
  with_writes (w ∷ ws) rs = with_writes ws (with_write w rs)

  kept-push : (ws : List Write) (w : Write) (rs : List (Record K V)) → AreKept ws rs → IsKeptBy w (admitted_weight (with_writes (ws ++ w ∷ []) rs)) → AreKept (ws ++ w ∷ []) rs
  kept-push [] w rs h last = (last, tt)
  kept-push (x ∷ ws) w rs h last = (h.0, kept-push ws w (with_write x rs) h.1 last)

  -- a record of which nothing is pending, and that does not count
  changed-push : (n : ℕ) (change : Record K V → Record K V) (rs : List (Record K V)) (x : Record K V) → (x.number ≡ n → ⊥) → changed_at n change (rs ++ x ∷ []) ≡ changed_at n change rs ++ x ∷ []
  changed-push n change [] x other = ap (λ b. cond b (change x ∷ []) (x ∷ [])) (ne_eqb x.number n other)
  changed-push n change (r ∷ rs) x other = elim (cases_Bool (eqb r.number n)) [ inl e ↦ rw e | inr e ↦ rw e (ap (λ l. r ∷ l) (changed-push n change rs x other)) ]

  without-push : (n : ℕ) (rs : List (Record K V)) (x : Record K V) → (x.number ≡ n → ⊥) → without_record n (rs ++ x ∷ []) ≡ without_record n rs ++ x ∷ []
  without-push n [] x other = ap (λ b. cond b [] (x ∷ [])) (ne_eqb x.number n other)
  without-push n (r ∷ rs) x other = elim (cases_Bool (eqb r.number n)) [ inl e ↦ rw e | inr e ↦ rw e (ap (λ l. r ∷ l) (without-push n rs x other)) ]

  write-push : (w : Write) (rs : List (Record K V)) (x : Record K V) → (number_of w ≡ x.number → ⊥) → with_write w (rs ++ x ∷ []) ≡ with_write w rs ++ x ∷ []
  write-push (Put u) rs x other = changed-push u.number (λ r. record r { applied = u.write; counts = Some u.weight }) rs x (λ e. other (sym e))
  write-push (Removed n) rs x other = without-push n rs x (λ e. other (sym e))

  weight-push : (rs : List (Record K V)) (x : Record K V) → x.counts ≡ None → admitted_weight (rs ++ x ∷ []) ≡ admitted_weight rs
  weight-push [] x none =
      let zero_weight : weight_at x ≡ 0 = ap (λ o. unwrap_or o 0) none in
      weight-cons x [] ∙ (omega (arith, zero_weight))
  weight-push (r ∷ rs) x none =
      let later = weight-push rs x none in
      omega (arith, weight-cons r (rs ++ x ∷ []), weight-cons r rs, later)

  kept-pushed : (ws : List Write) (rs : List (Record K V)) (x : Record K V) → ((w : Write) → IsIn w ws → number_of w ≡ x.number → ⊥) → x.counts ≡ None → AreKept ws rs → AreKept ws (rs ++ x ∷ [])
  kept-pushed [] rs x others none h = tt
  kept-pushed (w ∷ ws) rs x others none h =
      let same = write-push w rs x (others w (inl refl)) in (
        subst (λ n. IsKeptBy w n) (sym (ap (λ l. admitted_weight l) same ∙ weight-push (with_write w rs) x none)) h.0,
        subst (λ l. AreKept ws l) (sym same) (kept-pushed ws (with_write w rs) x (λ v i. others v (inr i)) none h.1),
      )

  -- ---- what counts in the end is what is held

  removed-held : (n : ℕ) (rs : List (Record K V)) → ((r : Record K V) → record_at rs n ≡ Some r → r.is_held ≡ false) → held_entries (without_record n rs) ≡ held_entries rs
  removed-held n rs out = go (record_at rs n) refl
    where
      go : (o : Option (Record K V)) → record_at rs n ≡ o → held_entries (without_record n rs) ≡ held_entries rs
      go None e = ap (λ l. held_entries l) (without-none_of n rs rs (fewer-refl rs) e)
      go (Some r) e = held-without_other rs n r e (out r e)

  record AllApplied (next : ℕ) (rs new : List (Record K V)) : Type 0 where
    access : List ℕ
    sound : AreSound [] [] next new access
    held : held_entries new ≡ held_entries rs

  all_applied : (next : ℕ) (ws : List Write) (rs : List (Record K V)) (ns : List ℕ) → AreSound [] ws next rs ns → Each (λ r. AreRising r.number r.applied ws) rs → AllApplied next rs (with_writes ws rs)
  all_applied next [] rs ns h rising = record { access = ns; sound = h; held = refl }
  all_applied next (Put u ∷ ws) rs ns h rising =
      let newer = each-map (λ r. AreRising r.number r.applied (Put u ∷ ws)) (λ r. r.number ≡ u.number → r.applied < u.write) (λ r k e. k.0 (sym e)) rs rising in
      let risen = each-changed u.number (λ r. record r { applied = u.write; counts = Some u.weight }) (λ r. AreRising r.number r.applied (Put u ∷ ws)) (λ r. AreRising r.number r.applied ws)
      (λ r same k. rising-own r.number r.applied u ws k (sym same)) (λ r other k. rising-other r.number r.applied u ws k (λ e. other (sym e))) rs h.numbered rising in
      let later = all_applied next ws (with_write (Put u) rs) _ (sound-counting [] next u ws rs ns newer h) risen in
      record { access = later.access; sound = later.sound; held = later.held ∙ held-changed u.number (λ r. record r { applied = u.write; counts = Some u.weight }) (λ r. refl) (λ r. refl) rs }
  all_applied next (Removed n ∷ ws) rs ns h rising =
      let risen = each-without n (λ r. AreRising r.number r.applied (Removed n ∷ ws)) (λ r. AreRising r.number r.applied ws) (λ r other k. k) rs h.numbered rising in
      let later = all_applied next ws (without_record n rs) _ (sound-gone [] next (Removed n) ws n rs ns refl h) risen in
      record {
        access = later.access;
        sound = later.sound;
        held = later.held ∙ removed-held n rs (λ r there. (each-at (IsAccounted [] (Removed n ∷ ws)) rs n r h.accounted there).fits (Removed n) (inr (inl refl)) (sym (record_at-number rs n r there)));
      }

module _ {K V P S R : Type 0} where
  pub applied-weight : (s : State K V P S R) → IsSound s → Each (λ r. AreRising r.number r.applied (pending_of s)) s.records → admitted_weight (with_writes (pending_of s) s.records) ≡ held_weight s.records
  applied-weight s sound rising =
      let h = all_applied s.next_number (pending_of s) s.records s.access (record {
        numbered = sound.records.numbered;
        below = sound.records.below;
        accounted = each-map (IsAccounted s.unsent s.writes) (IsAccounted [] (pending_of s))
            (accounted-same s.unsent [] s.writes (pending_of s) (λ v p. inr (pending-in s.unsent s.writes v p)) (λ v p. elim p [ inl k ↦ elim k [ ] | inr k ↦ pending-from s.unsent s.writes v k ])) s.records sound.records.accounted;
        listed = sound.records.listed;
        once = sound.records.once;
      }) rising in
      counted-weight (with_writes (pending_of s) s.records) (each-map (IsAccounted [] []) IsCounted counted (with_writes (pending_of s) s.records) h.sound.accounted)
      ∙ ap (λ es. sum_by (λ e. e.weight) es) h.held

  -- what a call leaves as it is
  order-same : (s t : State K V P S R) → IsSound t → t.records ≡ s.records → pending_of t ≡ pending_of s → t.settings ≡ s.settings → IsInOrder s → IsInOrder t
  order-same s t sound records pending settings h = record {
    sound = sound;
    rising = subst (λ ws. Each (λ r. AreRising r.number r.applied ws) t.records) (sym pending) (subst (λ rs. Each (λ r. AreRising r.number r.applied (pending_of s)) rs) (sym records) h.rising);
    kept = subst (λ ws. AreKept ws t.records) (sym pending) (subst (λ rs. AreKept (pending_of s) rs) (sym records) h.kept);
    within = ap (λ c. is_above c.capacity (admitted_weight t.records)) settings ∙ ap (λ rs. is_above s.settings.capacity (admitted_weight rs)) records ∙ h.within;
  }

  fits-in : (s : State K V P S R) (x : Record K V) (n : ℕ) → IsSound s → record_at s.records n ≡ Some x → (w : Write) → IsIn w (pending_of s) → Fits w x
  fits-in s x n sound there w i = (each-at (IsAccounted s.unsent s.writes) s.records n x sound.records.accounted there).fits w (pending-from s.unsent s.writes w i)

  sent-order : (oldest : Unsent) (rest : List Unsent) (s : State K V P S R) → s.unsent ≡ oldest ∷ rest → IsSound (sent oldest.ticket s) → IsInOrder s → IsInOrder (sent oldest.ticket s)
  sent-order oldest rest s e sound h =
      let t : State K V P S R = record s { unsent = rest; writes = s.writes ++ oldest.write ∷ [] } in
      let yes = eq-eqb oldest.ticket oldest.ticket refl in
      let found : unsent_at s.unsent oldest.ticket ≡ Some oldest.write = ap (λ us. unsent_at us oldest.ticket) e ∙ ap (λ b. cond b (Some oldest.write) (unsent_at rest oldest.ticket)) yes in
      let gone : without_ticket oldest.ticket s.unsent ≡ rest = ap (λ us. without_ticket oldest.ticket us) e ∙ ap (λ b. cond b rest (oldest ∷ without_ticket oldest.ticket rest)) yes in
      let same : sent oldest.ticket s ≡ t = ap (λ o. with_sent oldest.ticket o s) found ∙ ap (λ us. record s { unsent = us; writes = s.writes ++ oldest.write ∷ [] }) gone in
      subst (λ x. IsInOrder x) (sym same) (order-same s t (subst (λ x. IsSound x) same sound) refl
      (append_assoc s.writes (oldest.write ∷ []) (map (λ u. u.write) rest) ∙ ap (λ us. s.writes ++ map (λ u. u.write) us) (sym e)) refl h)

  removed-order : (s : State K V P S R) (o : Option (Record K V)) → IsSound (with_removed o s) → IsInOrder s → IsInOrder (with_removed o s)
  removed-order s None sound h = h
  removed-order s (Some r) sound h =
      let f = λ (x : Record K V). record x { is_held = false; writes = x.writes + 1 } in
      let u : Unsent = record { ticket = s.next_ticket; write = Removed r.number } in
      let more = pending-push s.writes s.unsent u in
      let fewer = fewer-changed r.number f (λ x. refl) (λ x. refl) s.records in
      let numbered = h.sound.records.numbered in
      record {
        sound = sound;
        rising = subst (λ ws. Each (λ x. AreRising x.number x.applied ws) (changed_at r.number f s.records)) (sym more)
            (each-changed r.number f (λ x. AreRising x.number x.applied (pending_of s)) (λ x. AreRising x.number x.applied (pending_of s ++ Removed r.number ∷ []))
            (λ x same k. rising-push_removed x.number x.applied r.number (pending_of s) k) (λ x other k. rising-push_removed x.number x.applied r.number (pending_of s) k) s.records numbered h.rising);
        kept = subst (λ ws. AreKept ws (changed_at r.number f s.records)) (sym more) (kept-push (pending_of s) (Removed r.number) (changed_at r.number f s.records) (kept-fewer (pending_of s) (changed_at r.number f s.records) s.records numbered fewer h.kept) tt);
        within = not_above s.settings.capacity (admitted_weight (changed_at r.number f s.records)) (admitted_weight s.records) (fewer-weight (changed_at r.number f s.records) s.records fewer) h.within;
      }

  pub read-order : (answers : Answers K V P R) (o : Option (Record K V)) (hash now : ℕ) (s : State K V P S R) → IsSound (with_read answers o hash now s) → IsInOrder s → IsInOrder (with_read answers o hash now s)
  read-order answers None hash now s sound h = order-same s (with_read answers None hash now s) sound refl refl refl h
  read-order answers (Some r) hash now s sound h =
      let f = λ (x : Record K V). record x { entry = used_entry answers s now x.entry } in
      let fewer = fewer-changed r.number f (λ x. refl) (λ x. refl) s.records in
      let numbered = h.sound.records.numbered in
      record {
        sound = sound;
        rising = each-changed r.number f (λ x. AreRising x.number x.applied (pending_of s)) (λ x. AreRising x.number x.applied (pending_of s)) (λ x same k. k) (λ x other k. k) s.records numbered h.rising;
        kept = kept-fewer (pending_of s) (changed_at r.number f s.records) s.records numbered fewer h.kept;
        within = not_above s.settings.capacity (admitted_weight (changed_at r.number f s.records)) (admitted_weight s.records) (fewer-weight (changed_at r.number f s.records) s.records fewer) h.within;
      }

  told-order : (answers : Answers K V P R) (e : Entry K V) (now : ℕ) (s : State K V P S R) → IsSound (removal_told answers e now s) → IsInOrder s → IsInOrder (removal_told answers e now s)
  told-order answers e now s sound h = order-same s (removal_told answers e now s) sound refl refl refl h

  -- the last of the pending writes is kept as what is held
  last-kept : (t : State K V P S R) (ws : List Write) (u : Upsert) → pending_of t ≡ ws ++ Put u ∷ [] → u.kept ≡ held_weight t.records → IsSound t → Each (λ x. AreRising x.number x.applied (pending_of t)) t.records → IsKeptBy (Put u) (admitted_weight (with_writes (ws ++ Put u ∷ []) t.records))
  last-kept t ws u pending kept sound rising =
      let whole = ap (λ l. admitted_weight (with_writes l t.records)) (sym pending) ∙ applied-weight t sound rising ∙ sym kept in
      omega (arith, whole)

  written-order : (eq : K → K → Bool) (answers : Answers K V P R) (s : State K V P S R) (key : K) (hash : ℕ) (value : V) (now step : ℕ) (o : Option (Record K V)) → held_at eq s.records key ≡ o
      → IsSound (with_written answers o s key hash value now step) → IsInOrder s → IsInOrder (with_written answers o s key hash value now step)
  written-order eq answers s key hash value now step None e sound h = record { sound = sound; rising = rising; kept = kept; within = within }
    where
      x : Record K V
      x = record { number = s.next_number; hash = hash; entry = first_entry answers s key value now step; is_held = true; writes = 1; applied = 0; counts = None }

      v : Upsert
      v = record { number = s.next_number; write = 1; weight = x.entry.weight; hash = hash; kept = held_weight (s.records ++ x ∷ []) }

      t : State K V P S R
      t = with_written answers None s key hash value now step

      more : pending_of t ≡ pending_of s ++ Put v ∷ []
      more = pending-push s.writes s.unsent (record { ticket = s.next_ticket; write = Put v })

      others : (w : Write) → IsIn w (pending_of s) → number_of w ≡ s.next_number → ⊥
      others w i same = let less = h.sound.named w (pending-from s.unsent s.writes w i) in omega arith

      rising : Each (λ r. AreRising r.number r.applied (pending_of t)) (s.records ++ x ∷ [])
      rising = subst (λ ws. Each (λ r. AreRising r.number r.applied ws) (s.records ++ x ∷ [])) (sym more)
          (each-push (λ r. AreRising r.number r.applied (pending_of s ++ Put v ∷ [])) s.records x
          (each-map (λ r. AreRising r.number r.applied (pending_of s) × (r.number < s.next_number)) (λ r. AreRising r.number r.applied (pending_of s ++ Put v ∷ []))
          (λ r k. rising-push_other r.number r.applied v (pending_of s) (λ same. let less = k.1 in omega arith) k.0) s.records
          (each-both (λ r. AreRising r.number r.applied (pending_of s)) (λ r. r.number < s.next_number) s.records h.rising h.sound.records.below))
          (rising-fresh s.next_number 0 v (pending_of s) others (omega arith)))

      kept : AreKept (pending_of t) (s.records ++ x ∷ [])
      kept = subst (λ ws. AreKept ws (s.records ++ x ∷ [])) (sym more)
          (kept-push (pending_of s) (Put v) (s.records ++ x ∷ []) (kept-pushed (pending_of s) s.records x others refl h.kept) (last-kept t (pending_of s) v more refl sound rising))

      within : is_above s.settings.capacity (admitted_weight (s.records ++ x ∷ [])) ≡ false
      within = ap (λ w. is_above s.settings.capacity w) (weight-push s.records x refl) ∙ h.within
  written-order eq answers s key hash value now step (Some r) e sound h = record { sound = sound; rising = rising; kept = kept; within = within }
    where
      entry : Entry K V
      entry = next_entry answers s r.entry key value now step

      f : Record K V → Record K V
      f x = record x { entry = entry; writes = x.writes + 1 }

      v : Upsert
      v = record { number = r.number; write = r.writes + 1; weight = entry.weight; hash = hash; kept = held_weight (changed_at r.number f s.records) }

      t : State K V P S R
      t = with_written answers (Some r) s key hash value now step

      numbered : AreNumbered s.records
      numbered = h.sound.records.numbered

      there : record_at s.records r.number ≡ Some r
      there = held_at-only eq s.records key r numbered e

      more : pending_of t ≡ pending_of s ++ Put v ∷ []
      more = pending-push s.writes s.unsent (record { ticket = s.next_ticket; write = Put v })

      own : (x : Record K V) → x ≡ r → AreRising x.number x.applied (pending_of s) → AreRising x.number x.applied (pending_of s ++ Put v ∷ [])
      own x same k =
          let applied = (each-at (IsAccounted s.unsent s.writes) s.records r.number r h.sound.records.accounted there).applied in
          subst (λ y. AreRising y.number y.applied (pending_of s) → AreRising y.number y.applied (pending_of s ++ Put v ∷ [])) (sym same)
          (λ l. rising-push_own r r.applied v (pending_of s) (fits-in s r r.number h.sound there) (omega arith) (omega arith) l) k

      rising : Each (λ x. AreRising x.number x.applied (pending_of t)) (changed_at r.number f s.records)
      rising = subst (λ ws. Each (λ x. AreRising x.number x.applied ws) (changed_at r.number f s.records)) (sym more)
          (each-changed r.number f (λ x. AreRising x.number x.applied (pending_of s) × (x.number ≡ r.number → x ≡ r)) (λ x. AreRising x.number x.applied (pending_of s ++ Put v ∷ []))
          (λ x same k. own x (k.1 same) k.0)
          (λ x other k. rising-push_other x.number x.applied v (pending_of s) (λ same. other (sym same)) k.0) s.records numbered
          (each-both (λ x. AreRising x.number x.applied (pending_of s)) (λ x. x.number ≡ r.number → x ≡ r) s.records h.rising (only_one r.number r s.records numbered there)))

      fewer : Fewer (changed_at r.number f s.records) s.records
      fewer = fewer-changed r.number f (λ x. refl) (λ x. refl) s.records

      kept : AreKept (pending_of t) (changed_at r.number f s.records)
      kept = subst (λ ws. AreKept ws (changed_at r.number f s.records)) (sym more)
          (kept-push (pending_of s) (Put v) (changed_at r.number f s.records) (kept-fewer (pending_of s) (changed_at r.number f s.records) s.records numbered fewer h.kept) (last-kept t (pending_of s) v more refl sound rising))

      within : is_above s.settings.capacity (admitted_weight (changed_at r.number f s.records)) ≡ false
      within = not_above s.settings.capacity (admitted_weight (changed_at r.number f s.records)) (admitted_weight s.records) (fewer-weight (changed_at r.number f s.records) s.records fewer) h.within

module _ (K V P S R : Type 0) where
  pub calls_stay_in_order : CallsStayInOrder K V P S R
  calls_stay_in_order =
      let sound = calls_stay_sound K V P S R in
      record {
        empty = λ s none access unsent queue.
            let nothing : pending_of s ≡ [] = ap (λ ws. ws ++ map (λ u. u.write) s.unsent) queue ∙ ap (λ us. map (λ u. u.write) us) unsent in
            record {
              sound = sound.empty s none access unsent queue;
              rising = subst (λ rs. Each (λ r. AreRising r.number r.applied (pending_of s)) rs) (sym none) tt;
              kept = subst (λ ws. AreKept ws s.records) (sym nothing) tt;
              within = ap (λ rs. is_above s.settings.capacity (admitted_weight rs)) none ∙ not_above-within s.settings.capacity 0 (λ c e. omega arith);
            };
        written = λ eq answers s key hash value now step h. written-order eq answers s key hash value now step (held_at eq s.records key) refl (sound.written eq answers s key hash value now step h.sound) h;
        sent = λ oldest rest s e h. sent-order oldest rest s e (sound.sent oldest.ticket s h.sound) h;
        removed = λ eq key s h. removed-order s (held_at eq s.records key) (sound.removed eq key s h.sound) h;
        removal_told = λ answers e now s h. told-order answers e now s (sound.removal_told answers e now s h.sound) h;
        looks_up = λ answers eq key hash now old new look h.
            subst (λ t. IsInOrder t) (sym look.reads) (read-order answers (visible_record answers eq old now key) hash now look.mid (used-sound answers (visible_record answers eq old now key) hash now look.mid h.sound) h);
        cleared = λ step s h. order-same s _ (sound.cleared step s h.sound) refl refl refl h;
        covered = λ p s h. order-same s _ (sound.covered p s h.sound) refl refl refl h;
        room = λ s h. order-same s _ (sound.room s h.sound) refl refl refl h;
        released = λ s h. order-same s _ (sound.released s h.sound) refl refl refl h;
        taken = λ s h. order-same s _ (sound.taken s h.sound) refl refl refl h;
      }

  pub runs_stay_in_order : RunsStayInOrder K V P S R
  runs_stay_in_order answers now old new h sent bare k =
      let s = run-sound answers now old new h k.runs in
      let c = run_tells answers now old new k.runs in
      let e = k.runs.after in
      let none_unsent : new.unsent ≡ [] = c.keeps.unsent ∙ sent in
      let none_written : new.writes ≡ [] = ap (λ t. t.writes) e ∙ k.runs.applied.writes in
      let nothing : pending_of new ≡ [] = ap (λ ws. ws ++ map (λ u. u.write) new.unsent) none_written ∙ ap (λ us. map (λ u. u.write) us) none_unsent in
      let accounted : Each (IsAccounted [] []) new.records = subst (λ us. Each (IsAccounted us []) new.records) none_unsent (subst (λ ws. Each (IsAccounted new.unsent ws) new.records) none_written s.records.accounted) in
      let same = counted-weight new.records (each-map (IsAccounted [] []) IsCounted counted new.records accounted) in
      let exact = counts_are_exact K V P S R answers now old new h sent k in
      record {
        sound = s;
        rising = subst (λ ws. Each (λ r. AreRising r.number r.applied ws) new.records) (sym nothing) (each-map (IsAccounted [] []) (λ r. AreRising r.number r.applied []) (λ r l. tt) new.records accounted);
        kept = subst (λ ws. AreKept ws new.records) (sym nothing) tt;
        within = not_above-within new.settings.capacity (admitted_weight new.records)
            (λ capacity is_set. low capacity (sym (ap (λ t. t.capacity) c.keeps.settings) ∙ is_set) (exact.within capacity is_set) same);
      }
    where
      none-left : old.records ≡ [] → admitted_weight new.records ≡ 0
      none-left e = go new.records (each-run (λ r. ⊥) (λ r applied counts k. k) answers now old new h (subst (λ rs. Each (λ r. ⊥) rs) (sym e) tt) k.runs)
        where
          go : (rs : List (Record K V)) → Each (λ r. ⊥) rs → admitted_weight rs ≡ 0
          go [] all = refl
          go (r ∷ rs) all = absurd (all.0)

      low : (capacity : ℕ) → old.settings.capacity ≡ Some capacity → (0 < capacity → held_weight new.records ≤ capacity) → admitted_weight new.records ≡ held_weight new.records → admitted_weight new.records ≤ capacity
      low zero is_set within same = let none = none-left (bare is_set) in omega arith
      low (suc c) is_set within same = let fits = within (omega arith) in omega arith
