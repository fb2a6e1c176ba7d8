-- What the front's calls keep of a part.
use Rattle.std.proofs.Common.{◌≡◌, refl, ap, sym, ◌∙◌, subst, ℕ, zero, suc, ◌+◌, ◌-◌, ◌<◌, ◌≤◌, arith, Bool, true, false, true≢false, List, [], ◌∷◌, ◌++◌, length, length-append, Option, Some, None, is_some, inl, inr, ◌⊎◌, ◌||◌, Result}
use Rattle.std.specs.Prelude.{nat_le, MatchBool, MatchOption}
use Rattle.std.proofs.lemmas.Bool.{leb-false}
use Rattle.std.specs.Cmp.{IsEquivalence}
use Rattle.engine_reference.specs.declared.data.Record.{Record}
use Rattle.engine_reference.specs.declared.data.Read.{Read}
use Rattle.engine_reference.specs.declared.data.Read.TheVariants.{Hit, Miss}
use Rattle.engine_reference.specs.declared.data.Registered.{Registered}
use Rattle.engine_reference.specs.declared.data.Unsent.{Unsent}
use Rattle.engine_reference.specs.Calls.{written, with_written, sent, with_removed, removal_told, with_read, with_room, without_notice, cleared_by, with_predicate, LooksUp, MaintainsIfDue, used_entry, next_entry, first_entry, IsNew}
use Rattle.engine_reference.specs.Records.{record_at, held_at, held_entries, changed_at, settled_in, admitted_in}
use Rattle.engine_reference.specs.Runs.{Step, reads, writes, grows, leaves, evicts, ends, Steps, Runs, RunsToEnd, is_due, after_read, after_hit, first_of}
use Rattle.engine_reference.specs.Scanning.{past, NotesLookUp}
use Rattle.engine_reference.specs.Soundness.{Each, IsIn, IsSound}
use Rattle.engine_reference.specs.State.{State, Answers}
use Rattle.engine_reference.specs.Telling.{AreApart}
use Rattle.engine_reference.specs.Visible.{visible_record, visible_value}
use Rattle.engine_reference.specs.Times.{end_of, is_reached}
use Rattle.engine_reference.proofs.Accounts.{each-map, each-both, each-changed}
use Rattle.engine_reference.proofs.RestKept.{run-rest}
use Rattle.engine_reference.proofs.SoundCalls.{each-push}
use Rattle.engine_reference.proofs.SoundSteps.{IsCounted}
use Rattle.engine_reference.proofs.StayingVisible.{runs_keep_visible}
use Rattle.engine_reference.specs.RunLaws.Just.{ComesFrom}
use Rattle.engine_reference.specs.RunLaws.Points.{IsInOrder}
use Rattle.engine_reference.specs.RunLaws.Sweeping.{IsUsedBefore, IsTimely}
use Rattle.engine_reference.proofs.run_laws.Fronting.{each-at, or_right}
use Rattle.engine_reference.proofs.run_laws.Ordering.{calls_stay_in_order, runs_stay_in_order}
use Rattle.engine_reference.proofs.run_laws.Rises.{calls_stay_timely, uncut_runs_stay_timely}
use Rattle.engine_reference.proofs.run_laws.Rising.{each-own}
use Rattle.engine_reference.proofs.run_laws.Swept.{run-leaves, first-before, sent-one}
use Rattle.engine_reference.proofs.run_laws.Ticking.{end-after}
use Rattle.engine_reference.proofs.run_laws.Shown.{calls_keep_apart}
use Rattle.front_reference.specs.declared.data.Computed.{Computed}
use Rattle.front_reference.specs.declared.data.Made.{Made}
use Rattle.front_reference.specs.declared.data.Made.TheVariants as made
use Rattle.front_reference.specs.declared.data.Op.{Op}
use Rattle.front_reference.specs.declared.data.Op.TheVariants as op
use Rattle.front_reference.specs.Closeness.{IsClose}
use Rattle.front_reference.specs.Keeping.{Common, common_of, IsBare, IsKept}
use Rattle.front_reference.specs.Parts.{takes_nothing, op_of_made, inserted, Inserts, taken_out, TakesOut, Operates, Acts, Coalesces, Computes}
use Rattle.front_reference.specs.Laws.Laws.{CallsKeep, CoalescesKeep, ComputesKeep, RunsLeaveNoneIdle}
use Rattle.front_reference.proofs.laws.Staying.{calls_stay_close, close-later, close-any, close-early, close-read, close-run, run-order, close-maintained, not_due-early}

positive : (capacity : Option ℕ) → (capacity ≡ Some 0 → ⊥) → (c : ℕ) → capacity ≡ Some c → 0 < c
positive capacity h zero e = absurd (h e)
positive capacity h (suc c) e = omega arith

is_zero : (capacity : Option ℕ) → (capacity ≡ Some 0) ⊎ (capacity ≡ Some 0 → ⊥)
is_zero None = inr (λ e. absurd (cc))
is_zero (Some zero) = inl refl
is_zero (Some (suc c)) = inr (λ e. absurd (let both : suc c ≡ 0 = cc in omega arith))

few_waiting : (n : ℕ) (many late : Bool) → ((nat_le 64 n || many) || late) ≡ false → n < 64
few_waiting n many late h = leb-false 64 n (or_right (nat_le 64 n) many (or_right (nat_le 64 n || many) late h).0).0

module _ {K V : Type 0} (belongs : K → Bool) where
  abbrev Belong : List (Record K V) → Type 0
  Belong rs = Each (λ r. belongs r.entry.key ≡ true) rs

module _ {K V P S R : Type 0} where
  -- ---- bare parts

  bare-read : (r : Read) (s : State K V P S R) → s.records ≡ [] → s.access ≡ [] → s.writes ≡ [] → IsBare (after_read r s)
  bare-read (Miss hash) s none access queue = record { records = none; access = access; writes = queue }
  bare-read (Hit n hash) s none access queue = go (record_at s.records n) (ap (λ rs. record_at rs n) none)
    where
      go : (o : Option (Record K V)) → o ≡ None → IsBare (after_hit o (record s { sketch = (after_read (Miss hash) s).sketch }))
      go None e = record { records = none; access = access; writes = queue }
      go (Some r) e = absurd (cc)

  module _ (answers : Answers K V P R) (now : ℕ) where
    bare-step : (s t : State K V P S R) → IsBare s → Step answers now s t → IsBare t
    bare-step s t h (reads r rest e after) = subst (λ x. IsBare x) (sym after) (bare-read r (record s { reads = rest }) h.records h.access h.writes)
    bare-step s t h (writes w rest none e after) = absurd (let both : [] ≡ w ∷ rest = sym h.writes ∙ e in cc)
    bare-step s t h (grows words applied wants capacity is_set size after) = subst (λ x. IsBare x) (sym after) (record { records = h.records; access = h.access; writes = h.writes })
    bare-step s t h (leaves r why applied there held due after) = absurd (let both : None ≡ Some r = sym (ap (λ rs. record_at rs r.number) h.records) ∙ there in cc)
    bare-step s t h (evicts r applied clean above next after) = absurd (let both : None ≡ Some r = sym (ap (λ ns. first_of (settled_in s.records ns)) h.access) ∙ next in cc)
    bare-step s t h (ends place p applied there none after) = subst (λ x. IsBare x) (sym after) (record { records = h.records; access = h.access; writes = h.writes })

    bare-steps : (stages : List (State K V P S R)) (s t : State K V P S R) → IsBare s → Steps answers now s stages t → IsBare t
    bare-steps [] s t h e = subst (λ x. IsBare x) (sym e) h
    bare-steps (mid ∷ stages) s t h e = bare-steps stages mid t (bare-step s mid h e.0) e.1

    bare-run : (s t : State K V P S R) → IsBare s → Runs answers now s t → IsBare t
    bare-run s t h run =
        let k = bare-steps run.stages s run.last h run.steps in
        subst (λ x. IsBare x) (sym run.after) (record { records = k.records; access = k.access; writes = k.writes })

  -- ---- time passes

  timely-later : (moment step now next : ℕ) (s : State K V P S R) → moment ≤ now → step ≤ next → now ≤ 9223372036854775807 → IsTimely moment step s → IsTimely now next s
  timely-later moment step now next s less rises range h = record {
    sound = h.sound;
    sent = h.sent;
    rising = h.rising;
    ordered = h.ordered;
    listed = h.listed;
    latest = each-map (λ r. (r.entry.step ≤ step) × (r.entry.written ≤ moment)) (λ r. (r.entry.step ≤ next) × (r.entry.written ≤ now)) (λ r k. (omega (arith, k.0, rises), omega (arith, k.1, less))) s.records h.latest;
    own = h.own;
    ran = let before = h.ran in omega arith;
    range = range;
  }

  -- ---- writes

  -- one write more waits to be sent
  record Adds (s t : State K V P S R) : Type 0 where
    last : Unsent
    unsent : t.unsent ≡ s.unsent ++ last ∷ []
    ticket : last.ticket ≡ s.next_ticket
    writes : t.writes ≡ s.writes
    common : common_of t ≡ common_of s

  adds-written : (answers : Answers K V P R) (o : Option (Record K V)) (s : State K V P S R) (key : K) (hash : ℕ) (value : V) (now step : ℕ) → Adds s (with_written answers o s key hash value now step)
  adds-written answers None s key hash value now step = record { last = _; unsent = refl; ticket = refl; writes = refl; common = refl }
  adds-written answers (Some r) s key hash value now step = record { last = _; unsent = refl; ticket = refl; writes = refl; common = refl }

  adds-removed : (r : Record K V) (s : State K V P S R) → Adds s (with_removed (Some r) s)
  adds-removed r s = record { last = _; unsent = refl; ticket = refl; writes = refl; common = refl }

  -- it is the only one, and it is sent
  record IsSent (s t w : State K V P S R) : Type 0 where
    order : IsInOrder t → IsInOrder w
    close : (late : Bool) (moment : ℕ) → IsClose late moment t → IsClose late moment w
    unsent : w.unsent ≡ []
    few : (limit : ℕ) → length s.writes ≤ limit → length w.writes ≤ limit + 1
    records : w.records ≡ t.records
    common : common_of w ≡ common_of s

  sends : (s t : State K V P S R) → s.unsent ≡ [] → Adds s t → IsSent s t (sent s.next_ticket t)
  sends s t none a =
      let only : t.unsent ≡ a.last ∷ [] = a.unsent ∙ ap (λ us. us ++ a.last ∷ []) none in
      let e : sent s.next_ticket t ≡ record t { unsent = []; writes = t.writes ++ a.last.write ∷ [] } = ap (λ n. sent n t) (sym a.ticket) ∙ sent-one a.last t only in
      record {
        order = λ h. subst (λ n. IsInOrder (sent n t)) a.ticket ((calls_stay_in_order K V P S R).sent a.last [] t only h);
        close = λ late moment h. subst (λ n. IsClose late moment (sent n t)) a.ticket ((calls_stay_close K V P S R).sent a.last [] late moment t only h);
        unsent = ap (λ x. x.unsent) e;
        few = λ limit low. let k = ap (λ x. length x.writes) e in let l = ap length a.writes in omega (arith, k, l, length-append t.writes (a.last.write ∷ []));
        records = ap (λ x. x.records) e;
        common = ap (λ x. common_of x) e ∙ a.common;
      }

  -- what is read keeps all but the records and the reads
  record ReadKeeps (s t : State K V P S R) : Type 0 where
    unsent : t.unsent ≡ s.unsent
    writes : t.writes ≡ s.writes
    common : common_of t ≡ common_of s
    access : t.access ≡ s.access
    none : s.records ≡ [] → t.records ≡ []

  read-keeps : (answers : Answers K V P R) (o : Option (Record K V)) (hash now : ℕ) (s : State K V P S R) → ReadKeeps s (with_read answers o hash now s)
  read-keeps answers None hash now s = record { unsent = refl; writes = refl; common = refl; access = refl; none = λ e. e }
  read-keeps answers (Some r) hash now s = record { unsent = refl; writes = refl; common = refl; access = refl; none = λ e. ap (λ rs. changed_at r.number (λ x. record x { entry = used_entry answers s now x.entry }) rs) e }

  -- ---- keys belong to the part

  module _ (belongs : K → Bool) where
    belong-written : (answers : Answers K V P R) (o : Option (Record K V)) (s : State K V P S R) (key : K) (hash : ℕ) (value : V) (now step : ℕ) → IsSound s → belongs key ≡ true → Belong belongs s.records → Belong belongs (with_written answers o s key hash value now step).records
    belong-written answers None s key hash value now step sound own h =
        each-push (λ r. belongs r.entry.key ≡ true) s.records (record { number = s.next_number; hash = hash; entry = first_entry answers s key value now step; is_held = true; writes = 1; applied = 0; counts = None }) h own
    belong-written answers (Some r) s key hash value now step sound own h =
        each-changed r.number (λ x. record x { entry = next_entry answers s r.entry key value now step; writes = x.writes + 1 }) (λ r. belongs r.entry.key ≡ true) (λ r. belongs r.entry.key ≡ true) (λ x same k. own) (λ x other k. k) s.records sound.records.numbered h

    belong-removed : (r : Record K V) (s : State K V P S R) → IsSound s → Belong belongs s.records → Belong belongs (with_removed (Some r) s).records
    belong-removed r s sound h =
        each-changed r.number (λ x. record x { is_held = false; writes = x.writes + 1 }) (λ r. belongs r.entry.key ≡ true) (λ r. belongs r.entry.key ≡ true) (λ x same k. k) (λ x other k. k) s.records sound.records.numbered h

    belong-read : (answers : Answers K V P R) (o : Option (Record K V)) (hash now : ℕ) (s : State K V P S R) → IsSound s → Belong belongs s.records → Belong belongs (with_read answers o hash now s).records
    belong-read answers None hash now s sound h = h
    belong-read answers (Some r) hash now s sound h =
        each-changed r.number (λ x. record x { entry = used_entry answers s now x.entry }) (λ r. belongs r.entry.key ≡ true) (λ r. belongs r.entry.key ≡ true) (λ x same k. k) (λ x other k. k) s.records sound.records.numbered h

    belong-run : (answers : Answers K V P R) (now : ℕ) (old new : State K V P S R) → IsSound old → old.unsent ≡ [] → Runs answers now old new → Belong belongs old.records → Belong belongs new.records
    belong-run answers now old new sound none run h =
        each-map (ComesFrom old.records) (λ r. belongs r.entry.key ≡ true)
        (λ r k. subst (λ e. belongs e.key ≡ true) k.entry (each-at (λ x. belongs x.entry.key ≡ true) old.records k.owner.number k.owner h k.there)) new.records (run-leaves answers now old new sound none run).from

-- ---- the calls

module _ {K V P S R : Type 0} (common : Common S R) where
  kept-later : (limit : ℕ) (eq : K → K → Bool) (belongs : K → Bool) (moment step now next : ℕ) (s : State K V P S R) → moment ≤ now → step ≤ next → IsKept limit eq common belongs moment step s → IsKept limit eq common belongs now next s
  kept-later limit eq belongs moment step now next s less rises h = record {
    ordered = h.ordered;
    sent = h.sent;
    few = h.few;
    made = h.made;
    apart = h.apart;
    belong = h.belong;
    bare = h.bare;
    close = close-later (nat_le 64 limit) moment now s less h.close;
    timely = λ range. timely-later moment step now next s less rises range (h.timely (omega arith));
  }

  -- room is made, or given back
  kept-reserved : (limit : ℕ) (eq : K → K → Bool) (belongs : K → Bool) (moment step number : ℕ) (s : State K V P S R) → IsKept limit eq common belongs moment step s → IsKept limit eq common belongs moment step (record s { reserved = number })
  kept-reserved limit eq belongs moment step number s h =
      let order = h.ordered in
      let sound : IsSound (record s { reserved = number }) = record { records = order.sound.records; named = order.sound.named } in
      record {
        ordered = record { sound = sound; rising = order.rising; kept = order.kept; within = order.within };
        sent = h.sent;
        few = h.few;
        made = h.made;
        apart = h.apart;
        belong = h.belong;
        bare = λ e. let b = h.bare e in record { records = b.records; access = b.access; writes = b.writes };
        close = (calls_stay_close K V P S R).reserved number (nat_le 64 limit) moment s h.close;
        timely = λ range.
            let l = h.timely range in
            let r = l.rising in
            record {
              sound = sound;
              sent = l.sent;
              rising = record { rising = r.rising; listed = r.listed; off = r.off; once = r.once; below = r.below };
              ordered = l.ordered;
              listed = l.listed;
              latest = l.latest;
              own = l.own;
              ran = l.ran;
              range = l.range;
            };
      }

  -- ---- clears, predicates, notices, and a new part

  kept-cleared : (limit : ℕ) (eq : K → K → Bool) (belongs : K → Bool) (moment step at : ℕ) (s : State K V P S R) → IsKept limit eq common belongs moment step s → IsKept limit eq common belongs moment step (cleared_by at s)
  kept-cleared limit eq belongs moment step at s h = record {
    ordered = (calls_stay_in_order K V P S R).cleared at s h.ordered;
    sent = h.sent;
    made = h.made;
    few = h.few;
    apart = h.apart;
    belong = h.belong;
    bare = λ e. let b = h.bare e in record { records = b.records; access = b.access; writes = b.writes };
    close = (calls_stay_close K V P S R).cleared at (nat_le 64 limit) moment s h.close;
    timely = λ range. (calls_stay_timely K V P S R).cleared moment step s at (h.timely range);
  }

  kept-covered : (limit : ℕ) (eq : K → K → Bool) (belongs : K → Bool) (moment step : ℕ) (p : Registered P) (s : State K V P S R) → IsKept limit eq common belongs moment step s → IsKept limit eq common belongs moment step (with_predicate p s)
  kept-covered limit eq belongs moment step p s h = record {
    ordered = (calls_stay_in_order K V P S R).covered p s h.ordered;
    sent = h.sent;
    made = h.made;
    few = h.few;
    apart = h.apart;
    belong = h.belong;
    bare = λ e. let b = h.bare e in record { records = b.records; access = b.access; writes = b.writes };
    close = (calls_stay_close K V P S R).covered p (nat_le 64 limit) moment s h.close;
    timely = λ range. (calls_stay_timely K V P S R).covered moment step s p (h.timely range);
  }

  kept-taken : (limit : ℕ) (eq : K → K → Bool) (belongs : K → Bool) (moment step : ℕ) (s : State K V P S R) → IsKept limit eq common belongs moment step s → IsKept limit eq common belongs moment step (without_notice s)
  kept-taken limit eq belongs moment step s h = record {
    ordered = (calls_stay_in_order K V P S R).taken s h.ordered;
    sent = h.sent;
    made = h.made;
    few = h.few;
    apart = h.apart;
    belong = h.belong;
    bare = λ e. let b = h.bare e in record { records = b.records; access = b.access; writes = b.writes };
    close = (calls_stay_close K V P S R).taken (nat_le 64 limit) moment s h.close;
    timely = λ range. (calls_stay_timely K V P S R).taken moment step s (h.timely range);
  }

  kept-empty : (eq : K → K → Bool) (belongs : K → Bool) (name : Option (List ℕ)) (s : State K V P S R) → IsNew name common.settings common.hasher common.rules s → IsKept 63 eq common belongs common.settings.made 0 s
  kept-empty eq belongs name s new = record {
    ordered = (calls_stay_in_order K V P S R).empty s new.records new.access new.unsent new.writes;
    sent = new.unsent;
    made = ap (λ x. record { settings = x; hasher = s.hasher; rules = s.rules }) new.settings_are ∙ ap (λ x. record { settings = common.settings; hasher = x; rules = s.rules }) new.hasher_is ∙ ap (λ x. record { settings = common.settings; hasher = common.hasher; rules = x }) new.rules_are;
    few = let none = ap length new.writes in omega arith;
    apart = subst (λ rs. AreApart eq (held_entries rs)) (sym new.records) tt;
    belong = subst (λ rs. Each (λ r. belongs r.entry.key ≡ true) rs) (sym new.records) tt;
    bare = λ e. record { records = new.records; access = new.access; writes = new.writes };
    close = subst (λ n. IsClose false n s) new.ran ((calls_stay_close K V P S R).empty s new.records new.access);
    timely = λ range. subst (λ n. IsTimely n 0 s) new.ran ((calls_stay_timely K V P S R).empty s new.records new.access new.order new.unsent new.writes (let ran = new.ran in omega arith));
  }

  module _ (eq : K → K → Bool) (belongs : K → Bool) where
    -- within a call one write more may wait
    kept-more : (moment step : ℕ) (s : State K V P S R) → IsKept 63 eq common belongs moment step s → IsKept 64 eq common belongs moment step s
    kept-more moment step s h = record {
      ordered = h.ordered;
      sent = h.sent;
      made = h.made;
      few = let n = h.few in omega arith;
      apart = h.apart;
      belong = h.belong;
      bare = h.bare;
      close = close-any true moment s h.close;
      timely = h.timely;
    }

    -- ---- runs

    empty-order : (s : State K V P S R) → IsBare s → s.unsent ≡ [] → IsInOrder s
    empty-order s h sent = (calls_stay_in_order K V P S R).empty s h.records h.access sent h.writes

    module _ (laws : IsEquivalence eq) (answers : Answers K V P R) where
      kept-run : (limit now step : ℕ) (old new : State K V P S R) → RunsToEnd answers now old new → IsKept limit eq common belongs now step old → IsKept 63 eq common belongs now step new
      kept-run limit now step old new run h =
          let rest = run-rest answers now old new run.runs in
          let none_unsent : new.unsent ≡ [] = ap (λ x. x.unsent) rest ∙ h.sent in
          let none_written : new.writes ≡ [] = ap (λ t. t.writes) run.runs.after ∙ run.runs.applied.writes in
          record {
            ordered = elim (is_zero common.settings.capacity) [
              | inl e ↦ empty-order new (bare-run answers now old new (h.bare e) run.runs) none_unsent
              | inr other ↦ runs_stay_in_order K V P S R answers now old new h.ordered.sound h.sent (λ none. absurd (other (sym (ap (λ x. x.settings.capacity) h.made) ∙ none))) run
            ];
            sent = none_unsent;
            few = let none = ap length none_written in omega arith;
            apart = (runs_keep_visible K V P S R eq laws answers now old new h.apart run.runs).apart;
            belong = belong-run belongs answers now old new h.ordered.sound h.sent run.runs h.belong;
            made = ap (λ x. record { settings = x.settings; hasher = x.hasher; rules = x.rules }) rest ∙ h.made;
            bare = λ e. bare-run answers now old new (h.bare e) run.runs;
            close = close-run answers (nat_le 64 limit) now now old new h.ordered h.sent (omega arith) run.runs h.close;
            timely = λ range. uncut_runs_stay_timely K V P S R answers now step now old new (h.timely range) (omega arith) range run;
          }

      not_due : (s : State K V P S R) (now : ℕ) → is_due s now ≡ false → length s.writes < 64
      not_due s now h = few_waiting (length s.writes) (nat_le 64 (length s.reads)) (is_reached (end_of s.ran (Some 300000000)) now) h

      kept-maintained : (now step : ℕ) (old new : State K V P S R) → MaintainsIfDue answers now old new → IsKept 64 eq common belongs now step old → IsKept 63 eq common belongs now step new
      kept-maintained now step old new m h = go (is_due old now) refl m
        where
          go : (b : Bool) → is_due old now ≡ b → MatchBool b (RunsToEnd answers now old new) (new ≡ old) → IsKept 63 eq common belongs now step new
          go true due run = kept-run 64 now step old new run h
          go false due same = subst (λ x. IsKept 63 eq common belongs now step x) (sym same) (record {
            ordered = h.ordered;
            sent = h.sent;
            few = let low = not_due old now due in omega arith;
            made = h.made;
            apart = h.apart;
            belong = h.belong;
            bare = h.bare;
            close = close-early true now old (not_due-early old now due) h.close;
            timely = h.timely;
          })

      -- ---- a value is written

      kept-put : (moment step now next : ℕ) (s : State K V P S R) (key : K) (hash : ℕ) (value : V) → moment ≤ now → step ≤ next → belongs key ≡ true → (common.settings.capacity ≡ Some 0 → ⊥)
          → IsKept 63 eq common belongs moment step s → IsKept 64 eq common belongs now next (sent s.next_ticket (written answers eq s key hash value now next))
      kept-put moment step now next s key hash value less rises own enabled h =
          let t = written answers eq s key hash value now next in
          let order = calls_stay_in_order K V P S R in
          let k = sends s t h.sent (adds-written answers (held_at eq s.records key) s key hash value now next) in
          record {
            ordered = k.order (order.written eq answers s key hash value now next h.ordered);
            sent = k.unsent;
            few = let n = k.few 63 h.few in omega arith;
            made = k.common ∙ h.made;
            apart = subst (λ rs. AreApart eq (held_entries rs)) (sym k.records) ((calls_keep_apart K V P S R).written eq laws answers s key hash value now next h.ordered.sound h.apart);
            belong = subst (λ rs. Each (λ r. belongs r.entry.key ≡ true) rs) (sym k.records) (belong-written belongs answers (held_at eq s.records key) s key hash value now next h.ordered.sound own h.belong);
            bare = λ e. absurd (enabled e);
            close = k.close true now ((calls_stay_close K V P S R).written eq answers moment now next s key hash value h.ordered.sound less h.close);
            timely = λ range. (calls_stay_timely K V P S R).written eq answers moment step s key hash value now next (h.timely (omega arith)) less range rises;
          }

      kept-inserted : (moment step now next : ℕ) (old new : State K V P S R) (key : K) (hash : ℕ) (value : V) → moment ≤ now → step ≤ next → belongs key ≡ true
          → Inserts answers eq key hash value now next old new → IsKept 63 eq common belongs moment step old → IsKept 63 eq common belongs now next new
      kept-inserted moment step now next old new key hash value less rises own i h = go (takes_nothing old.settings.capacity) refl
        where
          go : (b : Bool) → takes_nothing old.settings.capacity ≡ b → IsKept 63 eq common belongs now next new
          go true e = subst (λ x. IsKept 63 eq common belongs now next x) (sym (i.off e)) (kept-later 63 eq belongs moment step now next old less rises h)
          go false e =
              let enabled : common.settings.capacity ≡ Some 0 → ⊥ = λ none. true≢false (sym (ap takes_nothing (ap (λ x. x.settings.capacity) h.made ∙ none)) ∙ e) in
              kept-maintained now next (inserted answers eq key hash value now next old) new (i.takes e)
              (kept-put moment step now next (with_room old) key hash value less rises own enabled (kept-reserved 63 eq belongs moment step (old.reserved + 1) old h))

      -- ---- a key is removed

      kept-gone : (moment step now next : ℕ) (s : State K V P S R) (key : K) (r : Record K V) → held_at eq s.records key ≡ Some r → moment ≤ now → step ≤ next
          → IsKept 63 eq common belongs moment step s → IsKept 64 eq common belongs now next (taken_out answers r now s)
      kept-gone moment step now next s key r there less rises h =
          let t = with_removed (Some r) s in
          let order = calls_stay_in_order K V P S R in
          let same : with_removed (held_at eq s.records key) s ≡ t = ap (λ o. with_removed o s) there in
          let k = sends s t h.sent (adds-removed r s) in
          let w = sent s.next_ticket t in
          record {
            ordered = order.removal_told answers r.entry now w (k.order (subst (λ x. IsInOrder x) same (order.removed eq key s h.ordered)));
            sent = k.unsent;
            few = let n = k.few 63 h.few in omega arith;
            apart = subst (λ rs. AreApart eq (held_entries rs)) (sym k.records) (subst (λ x. AreApart eq (held_entries x.records)) same ((calls_keep_apart K V P S R).removed eq laws key s h.apart));
            belong = subst (λ rs. Each (λ r. belongs r.entry.key ≡ true) rs) (sym k.records) (belong-removed belongs r s h.ordered.sound h.belong);
            made = k.common ∙ h.made;
            bare = λ e. absurd (let both : None ≡ Some r = sym (ap (λ rs. held_at eq rs key) (h.bare e).records) ∙ there in cc);
            close =
                let close = calls_stay_close K V P S R in
                let gone = subst (λ x. IsClose false moment x) same (close.removed eq key moment s h.ordered.sound h.close) in
                close-any true now (removal_told answers r.entry now w) (close.later false moment now (removal_told answers r.entry now w) less (close.removal_told answers r.entry now false moment w (k.close false moment gone)));
            timely = λ range.
                let timely = calls_stay_timely K V P S R in
                let gone = subst (λ x. IsTimely moment step (sent s.next_ticket x)) same (timely.removed eq moment step s key (h.timely (omega arith))) in
                timely-later moment step now next (removal_told answers r.entry now w) less rises range (timely.removal_told answers moment step w r.entry now gone);
          }

      kept-taken_out : (moment step now next : ℕ) (old new : State K V P S R) (key : K) → moment ≤ now → step ≤ next
          → TakesOut answers eq key now old new → IsKept 63 eq common belongs moment step old → IsKept 63 eq common belongs now next new
      kept-taken_out moment step now next old new key less rises d h = go (held_at eq old.records key) refl d
        where
          go : (o : Option (Record K V)) → held_at eq old.records key ≡ o → MatchOption o (new ≡ old) (λ r. MaintainsIfDue answers now (taken_out answers r now old) new) → IsKept 63 eq common belongs now next new
          go None none same = subst (λ x. IsKept 63 eq common belongs now next x) (sym same) (kept-later 63 eq belongs moment step now next old less rises h)
          go (Some r) there m = kept-maintained now next (taken_out answers r now old) new m (kept-gone moment step now next old key r there less rises h)

      -- ---- look-ups

      -- the read of what was found, which is in order by itself
      kept-read : (now next : ℕ) (mid : State K V P S R) (o : Option (Record K V)) (hash : ℕ) → IsInOrder (with_read answers o hash now mid) → now < mid.ran + 300000000
          → IsKept 63 eq common belongs now next mid → IsKept 63 eq common belongs now next (with_read answers o hash now mid)
      kept-read now next mid o hash order early h =
          let same = read-keeps answers o hash now mid in
          record {
            ordered = order;
            sent = same.unsent ∙ h.sent;
            few = let n = h.few in let e = ap length same.writes in omega arith;
            apart = (calls_keep_apart K V P S R).read eq laws answers mid o hash now h.apart;
            belong = belong-read belongs answers o hash now mid h.ordered.sound h.belong;
            made = same.common ∙ h.made;
            bare = λ e. let b = h.bare e in record { records = same.none b.records; access = same.access ∙ b.access; writes = same.writes ∙ b.writes };
            close = close-read answers o hash now now mid h.ordered.sound (omega arith) early h.close;
            timely = λ range. (calls_stay_timely K V P S R).read answers now next mid o hash now (h.timely range) (omega arith) range;
          }

      kept-looked_up : (moment step now next : ℕ) (old new : State K V P S R) (key : K) (hash : ℕ) (ignored : Bool) → moment ≤ now → step ≤ next
          → NotesLookUp answers eq key hash now ignored old new → IsKept 63 eq common belongs moment step old → IsKept 63 eq common belongs now next new
      kept-looked_up moment step now next old new key hash ignored less rises look h =
          subst (λ x. IsKept 63 eq common belongs now next x) (sym look.reads) (kept-read now next look.mid (past ignored found) hash (order ignored) early mid)
        where
          found : Option (Record K V)
          found = visible_record answers eq old now key

          later : IsKept 63 eq common belongs now next old
          later = kept-later 63 eq belongs moment step now next old less rises h

          mid : IsKept 63 eq common belongs now next look.mid
          mid = kept-maintained now next old look.mid look.maintains (kept-more now next old later)

          early : now < look.mid.ran + 300000000
          early = (close-maintained answers false now old look.mid later.ordered later.sent look.maintains later.close).1

          order : (b : Bool) → IsInOrder (with_read answers (past b found) hash now look.mid)
          order true = let o = mid.ordered in record { sound = record { records = o.sound.records; named = o.sound.named }; rising = o.rising; kept = o.kept; within = o.within }
          order false =
              let it : LooksUp answers eq key hash now old (with_read answers found hash now look.mid) = record { mid = look.mid; maintains = look.maintains; reads = refl } in
              (calls_stay_in_order K V P S R).looks_up answers eq key hash now old (with_read answers found hash now look.mid) it mid.ordered

      -- ---- what is done beside a look-up

      kept-operated : (moment step now next : ℕ) (old new : State K V P S R) (key : K) (hash : ℕ) (does : Op V) → moment ≤ now → step ≤ next → belongs key ≡ true
          → Operates answers eq key hash now next does old new → IsKept 63 eq common belongs moment step old → IsKept 63 eq common belongs now next new
      kept-operated moment step now next old new key hash op.Nop less rises own same h = subst (λ x. IsKept 63 eq common belongs now next x) (sym same) (kept-later 63 eq belongs moment step now next old less rises h)
      kept-operated moment step now next old new key hash (op.Put value) less rises own i h = kept-inserted moment step now next old new key hash value less rises own i h
      kept-operated moment step now next old new key hash op.Remove less rises own d h = kept-taken_out moment step now next old new key less rises d h

      kept-acted : (moment step now next : ℕ) (old new : State K V P S R) (key : K) (hash : ℕ) (ignored : Bool) (does : Op V) → moment ≤ now → step ≤ next → belongs key ≡ true
          → Acts answers eq key hash now next ignored does old new → IsKept 63 eq common belongs moment step old → IsKept 63 eq common belongs now next new
      kept-acted moment step now next old new key hash ignored does less rises own a h =
          let roomy = kept-reserved 63 eq belongs moment step (old.reserved + a.rooms) old h in
          let mid = kept-looked_up moment step now next (record old { reserved = old.reserved + a.rooms }) a.mid key hash ignored less rises a.looks roomy in
          kept-operated now next now next (record a.mid { reserved = a.mid.reserved - a.rooms }) new key hash does (omega arith) (omega arith) own a.operates (kept-reserved 63 eq belongs now next (a.mid.reserved - a.rooms) a.mid mid)

      -- ---- calls with closures, whatever these answer

      pub kept-coalesced : {F : Type 0} (Ignores : V → Bool → Type 0) (Makes : Made V F → Type 0) (moment step now next : ℕ) (old new : State K V P S R) (key : K) (hash : ℕ) (end : Made V F) (is_fresh : Bool) → moment ≤ now → step ≤ next → belongs key ≡ true
          → Coalesces answers eq key hash now next Ignores Makes old new end is_fresh → IsKept 63 eq common belongs moment step old → IsKept 63 eq common belongs now next new
      kept-coalesced {F} Ignores Makes moment step now next old new key hash end is_fresh less rises own c h = go (past c.ignored (visible_value answers eq old now key)) c.ends
        where
          go : (o : Option V) → MatchOption o (Makes end × (is_fresh ≡ true) × Acts answers eq key hash now next c.ignored (op_of_made end) old new) (λ value. (end ≡ made.Value value) × (is_fresh ≡ false) × NotesLookUp answers eq key hash now c.ignored old new)
              → IsKept 63 eq common belongs now next new
          go None m = kept-acted moment step now next old new key hash c.ignored (op_of_made end) less rises own m.2 h
          go (Some value) m = kept-looked_up moment step now next old new key hash c.ignored less rises m.2 h

      pub kept-computed : {E : Type 0} (Decides : Option V → Result (Op V) E → Type 0) (moment step now next : ℕ) (old new : State K V P S R) (key : K) (hash : ℕ) (answer : Result (Computed V) E) → moment ≤ now → step ≤ next → belongs key ≡ true
          → Computes answers eq key hash now next Decides old new answer → IsKept 63 eq common belongs moment step old → IsKept 63 eq common belongs now next new
      kept-computed Decides moment step now next old new key hash answer less rises own c h = kept-acted moment step now next old new key hash false _ less rises own c.acts h

-- ---- the laws

module _ (K V P S R : Type 0) where
  pub calls_keep : CallsKeep K V P S R
  calls_keep = record {
    later = kept-later;
    maintained = λ common eq laws belongs answers now step old new m h. kept-maintained common eq belongs laws answers now step old new m h;
    inserted = λ common eq laws belongs answers moment step now next old new key hash value less rises own i h. kept-inserted common eq belongs laws answers moment step now next old new key hash value less rises own i h;
    taken_out = λ common eq laws belongs answers moment step now next old new key less rises d h. kept-taken_out common eq belongs laws answers moment step now next old new key less rises d h;
    looked_up = λ common eq laws belongs answers moment step now next old new key hash ignored less rises look h. kept-looked_up common eq belongs laws answers moment step now next old new key hash ignored less rises look h;
    operated = λ common eq laws belongs answers moment step now next old new key hash does less rises own o h. kept-operated common eq belongs laws answers moment step now next old new key hash does less rises own o h;
    acted = λ common eq laws belongs answers moment step now next old new key hash ignored does less rises own a h. kept-acted common eq belongs laws answers moment step now next old new key hash ignored does less rises own a h;
    ran = λ common eq laws belongs answers moment step now next old new less rises run h. kept-run common eq belongs laws answers 63 now next old new run (kept-later common 63 eq belongs moment step now next old less rises h);
    cleared = kept-cleared;
    covered = kept-covered;
    reserved = kept-reserved;
    taken = kept-taken;
    empty = kept-empty;
  }

  pub runs_leave_none_idle : RunsLeaveNoneIdle K V P S R
  runs_leave_none_idle = record {
    ordered = λ common limit eq belongs answers moment step now old new less run h. run-order answers (nat_le 64 limit) moment now old new h.ordered h.sent less run h.close;
    idle = none_idle;
    whole = λ common limit eq belongs answers moment step now old new less run h. none_idle common limit eq belongs answers moment step now old new less run.runs (run.swept h.sent).idle h;
  }
    where
      none_idle : (common : Common S R) (limit : ℕ) (eq : K → K → Bool) (belongs : K → Bool) (answers : Answers K V P R) (moment step now : ℕ) (old new : State K V P S R) → moment ≤ now → Runs answers now old new
          → ((r : Record K V) → first_of (admitted_in new.records new.access) ≡ Some r → is_reached (end_of r.entry.used new.settings.idle) now ≡ false) → IsKept limit eq common belongs moment step old
          → (time : ℕ) → common.settings.idle ≡ Some time → Each (λ r. now < r.entry.used + time + 300000000) new.records
      none_idle common limit eq belongs answers moment step now old new less run first h time is =
          let order = run-order answers (nat_le 64 limit) moment now old new h.ordered h.sent less run h.close in
          let l = run-leaves answers now old new h.ordered.sound h.sent run in
          let admitted = each-map IsCounted (λ r. is_some r.counts ≡ true) (λ r c. ap (λ o. is_some o) c.counts) new.records l.counted in
          let set : new.settings.idle ≡ Some time = ap (λ x. x.idle) (l.settings ∙ ap (λ x. x.settings) h.made) ∙ is in
          each-map (λ r. (record_at new.records r.number ≡ Some r) × (is_some r.counts ≡ true)) (λ r. now < r.entry.used + time + 300000000)
          (λ r k.
          let listed = each-at (λ x. is_some x.counts ≡ true → IsIn x.number new.access) new.records r.number r l.sound.records.listed k.0 k.1 in
          let f = first-before IsUsedBefore (λ x. omega arith) new.records admitted new.access order r.number r listed k.0 in
          let front = end-after f.0.entry.used time now (sym (ap (λ o. is_reached (end_of f.0.entry.used o) now) set) ∙ first f.0 f.1) in
          let near = f.2 in
          omega arith) new.records (each-both (λ r. record_at new.records r.number ≡ Some r) (λ r. is_some r.counts ≡ true) new.records (each-own new.records l.sound.records.numbered) admitted)

module _ (K V P S R F : Type 0) where
  pub coalesces_keep : CoalescesKeep K V P S R F
  coalesces_keep common eq laws belongs answers moment step now next old new key hash end is_fresh less rises own c h =
      kept-coalesced common eq belongs laws answers (λ value ignored. Unit {0}) (λ made. Unit {0}) moment step now next old new key hash end is_fresh less rises own c h

module _ (K V P S R E : Type 0) where
  pub computes_keep : ComputesKeep K V P S R E
  computes_keep common eq laws belongs answers moment step now next old new key hash answer less rises own c h =
      kept-computed common eq belongs laws answers (λ seen decided. Unit {0}) moment step now next old new key hash answer less rises own c h
