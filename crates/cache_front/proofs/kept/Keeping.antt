-- What a store keeps of a part, kept by each call.
use Rattle.std.proofs.Common.{◌≡◌, refl, ap, sym, ◌∙◌, subst, ℕ, zero, suc, Bool, true, false, List, [], ◌∷◌, Option, Some, None, slice_get, remove, arith, ◌+◌, ◌≤◌, true≢false, ◌||◌, MatchBool, ◌++◌, length, option_map, is_none, IsTrue, ◌<◌, length-append, nat_le, MatchOption}
use Rattle.std.proofs.lemmas.Option.{none-some}
use Rattle.policy_base.specs.Counts.{incremented}
use Rattle.engine_reference.specs.declared.rules.causes.RemovalCause.{RemovalCause}
use Rattle.engine_reference.specs.declared.rules.causes.RemovalCause.TheVariants as cause
use Rattle.engine_reference.specs.declared.data.Record.{Record}
use Rattle.engine_reference.specs.declared.data.Registered.{Registered}
use Rattle.engine_reference.specs.declared.data.Upsert.{Upsert}
use Rattle.engine_reference.specs.declared.data.Read.{Read}
use Rattle.engine_reference.specs.declared.data.Read.TheVariants.{Hit, Miss}
use Rattle.engine_reference.specs.declared.data.Write.{Write}
use Rattle.engine_reference.specs.declared.data.Write.TheVariants.{Put, Removed}
use Rattle.engine_reference.specs.Admission.{Verdict, admit, displace, refuse, verdict}
use Rattle.engine_reference.specs.Records.{record_at, held_at, changed_at, held_weight}
use Rattle.engine_reference.specs.Runs.{Step, Steps, Runs, reads, writes, grows, leaves, evicts, ends, with_left, left, all_left, after_read, after_hit, after_write, after_put, after_removal, judged, RunsToEnd}
use Rattle.engine_reference.specs.State.{State, Answers}
use Rattle.audit_model.specs.Bytewise.{same}
use Rattle.audit_model.specs.History.{weight_of}
use Rattle.audit_model.specs.declared.config.Weight.{Weight}
use Rattle.audit_model.specs.declared.config.Weight.TheVariants.{One, Bytes}
use Rattle.cache_commands.specs.Promises.{Frame}
use Rattle.engine_reference.specs.declared.data.Entry.{Entry}
use Rattle.engine_reference.specs.declared.data.Unsent.{Unsent}
use Rattle.engine_reference.specs.Calls.{with_written, with_removed, written, sent, removal_told, with_read, with_room, used_entry, next_entry, first_entry, MaintainsIfDue, cleared_by, with_predicate, IsNew}
use Rattle.engine_reference.specs.Soundness.{IsSound, Each}
use Rattle.engine_reference.specs.Times.{own_expiration, is_reached, end_of}
use Rattle.engine_reference.proofs.Accounts.{each-map, each-changed}
use Rattle.engine_reference.proofs.SoundCalls.{each-push, calls_stay_sound}
use Rattle.engine_reference.proofs.TellingSteps.{run_tells}
use Rattle.engine_reference.proofs.run_laws.Swept.{sent-one, each-run}
use Rattle.front_reference.specs.Parts.{taken_out, Inserts, TakesOut, inserted, takes_nothing}
use Rattle.cache_front.specs.Parts.{Part, Stored, IsProper, service_answers, nanos, drained, AreLight, part_settings}
use Rattle.cache_front.specs.Keeping.{at_moment, IsProperRecord, IsServicePart, IsStorable, common_by, belongs_to, IsKeptPart}
use Rattle.std.proofs.lemmas.Bool.{leb-false, eq-eqb}
use Rattle.engine_reference.specs.declared.data.Notice.{Notice}
use Rattle.engine_reference.specs.Laws.{CallsStaySound}
use Rattle.engine_reference.specs.Scanning.{NotesLookUp}
use Rattle.engine_reference.specs.Visible.{visible_record}
use Rattle.engine_reference.proofs.SoundSteps.{runs_stay_sound}
use Rattle.engine_reference.proofs.run_laws.Fronting.{or_right}
use Rattle.front_reference.specs.Keeping.{Common, IsKept}
use Rattle.front_reference.specs.Laws.Laws.{CallsKeep}
use Rattle.front_reference.proofs.laws.Kept.{calls_keep}
use Rattle.cache_front.proofs.parts.Writing.{same_laws}

-- of each predicate
abbrev pub EachPredicate : {P : Type 0} → (Registered P → Type 0) → List (Registered P) → Type 0
EachPredicate {P = P} Q ps = (place : ℕ) (p : Registered P) → slice_get ps place ≡ Some p → Q p

each-removed : {P : Type 0} (Q : Registered P → Type 0) (ps : List (Registered P)) (i : ℕ) → EachPredicate Q ps → EachPredicate Q (remove ps i)
each-removed Q [] zero h place p there = absurd (none-some p there)
each-removed Q [] (suc i) h place p there = absurd (none-some p there)
each-removed Q (x ∷ ps) zero h place p there = h (suc place) p there
each-removed Q (x ∷ ps) (suc i) h zero p there = h zero p there
each-removed Q (x ∷ ps) (suc i) h (suc place) p there = each-removed Q ps i (λ k q at. h (suc k) q at) place p there

-- where none can be, there is none
pub none_left : {P : Type 0} (ps : List (Registered P)) → EachPredicate (λ p. ⊥) ps → ps ≡ []
none_left [] h = refl
none_left (p ∷ ps) h = absurd (h zero p refl)

module _ {K V P S R : Type 0} where
  with_left-predicates : (why : RemovalCause) (s : State K V P S R) (o : Option (Record K V)) → (with_left why s o).predicates ≡ s.predicates
  with_left-predicates why s None = refl
  with_left-predicates why s (Some r) = refl

  left-predicates : (why : RemovalCause) (number : ℕ) (s : State K V P S R) → (left why number s).predicates ≡ s.predicates
  left-predicates why number s = with_left-predicates why s (record_at s.records number)

  all_left-predicates : (why : RemovalCause) (rs : List (Record K V)) (s : State K V P S R) → (all_left why rs s).predicates ≡ s.predicates
  all_left-predicates why [] s = refl
  all_left-predicates why (r ∷ rs) s = all_left-predicates why rs (left why r.number s) ∙ left-predicates why r.number s

  judged-predicates : (u : Upsert) (r : Record K V) (s : State K V P S R) (v : Verdict K V) → (judged u r s v).predicates ≡ s.predicates
  judged-predicates u r s admit = refl
  judged-predicates u r s (displace victims) = all_left-predicates cause.Size victims s
  judged-predicates u r s refuse = grind (arith, left-predicates cause.Size u.number s)

  after_put-predicates : (u : Upsert) (o : Option (Record K V)) (s : State K V P S R) → (after_put u o s).predicates ≡ s.predicates
  after_put-predicates u None s = refl
  after_put-predicates u (Some r) s = grind (arith, judged-predicates u r s (verdict s u))

  after_removal-predicates : (o : Option (Record K V)) (s : State K V P S R) → (after_removal o s).predicates ≡ s.predicates
  after_removal-predicates None s = refl
  after_removal-predicates (Some r) s = grind arith

  after_write-predicates : (w : Write) (s : State K V P S R) → (after_write w s).predicates ≡ s.predicates
  after_write-predicates (Put u) s = after_put-predicates u (record_at s.records u.number) s
  after_write-predicates (Removed number) s = after_removal-predicates (record_at s.records number) s

  after_hit-predicates : (o : Option (Record K V)) (s : State K V P S R) → (after_hit o s).predicates ≡ s.predicates
  after_hit-predicates None s = refl
  after_hit-predicates (Some r) s = grind arith

  after_read-predicates : (r : Read) (s : State K V P S R) → (after_read r s).predicates ≡ s.predicates
  after_read-predicates (Hit number hash) s = after_hit-predicates (record_at s.records number) (record s { sketch = incremented s.sketch hash })
  after_read-predicates (Miss hash) s = refl

  module _ (Q : Registered P → Type 0) (answers : Answers K V P R) (now : ℕ) where
    as-before : (old new : State K V P S R) → new.predicates ≡ old.predicates → EachPredicate Q old.predicates → EachPredicate Q new.predicates
    as-before old new e h = subst (λ ps. EachPredicate Q ps) (sym e) h

    step-predicates : (old new : State K V P S R) → Step answers now old new → EachPredicate Q old.predicates → EachPredicate Q new.predicates
    step-predicates old new (reads r rest e after) h = as-before old new (ap (λ s. s.predicates) after ∙ after_read-predicates r (record old { reads = rest })) h
    step-predicates old new (writes w rest none e after) h = as-before old new (ap (λ s. s.predicates) after ∙ after_write-predicates w (record old { writes = rest })) h
    step-predicates old new (grows words applied wants capacity is_set size after) h = as-before old new (ap (λ s. s.predicates) after) h
    step-predicates old new (leaves r why applied there held due after) h = as-before old new (ap (λ s. s.predicates) after ∙ left-predicates why r.number old) h
    step-predicates old new (evicts r applied clean above next after) h = as-before old new (ap (λ s. s.predicates) after ∙ left-predicates cause.Size r.number old) h
    step-predicates old new (ends place p applied there none after) h = subst (λ ps. EachPredicate Q ps) (sym (ap (λ s. s.predicates) after)) (each-removed Q old.predicates place h)

    steps-predicates : (old : State K V P S R) (mids : List (State K V P S R)) (new : State K V P S R) → Steps answers now old mids new → EachPredicate Q old.predicates → EachPredicate Q new.predicates
    steps-predicates old [] new e h = as-before old new (ap (λ s. s.predicates) e) h
    steps-predicates old (mid ∷ mids) new e h = steps-predicates mid mids new e.1 (step-predicates old mid e.0 h)

    -- what holds of each predicate holds after a run
    pub run-predicates : (old new : State K V P S R) → Runs answers now old new → EachPredicate Q old.predicates → EachPredicate Q new.predicates
    run-predicates old new run h = as-before run.last new (ap (λ s. s.predicates) run.after) (steps-predicates old run.stages run.last run.steps h)

-- ---- what the service adds to what the front keeps of a part, kept by each run and each single call

light-append : (ws : List Write) (w : Write) → AreLight 8192 ws → AreLight 8192 (w ∷ []) → AreLight 8192 (ws ++ w ∷ [])
light-append [] w a b = b
light-append (x ∷ ws) w a b = (a.0, light-append ws w a.1 b)

-- a short value weighs little
pub weighs-little : (weight : Weight) (bytes : List ℕ) → length bytes ≤ 8192 → weight_of weight bytes ≤ 8192
weighs-little One bytes short = omega arith
weighs-little Bytes bytes short = short

-- a value without a time of its own has no deadline of its own
none-own : (now : ℕ) (own : Bool) (ms : Option ℕ) → IsTrue (own || is_none ms) → IsTrue (own || is_none (own_expiration now (option_map nanos ms)))
none-own now own ms h = grind (arith, h)

proper-later : (frame : Frame) (part step now next : ℕ) → frame.latest ≤ now → step ≤ next → (e : Entry (List ℕ) Stored) → IsProper frame part step e → IsProper (at_moment frame now) part next e
proper-later frame part step now next less rises e p = grind arith

module _ {S : Type 0} where
  -- time passes
  pub own-later : (frame : Frame) (part step now next : ℕ) (s : Part S) → frame.latest ≤ now → step ≤ next → IsServicePart frame part step s → IsServicePart (at_moment frame now) part next s
  own-later frame part step now next s less rises h = record {
    rules = h.rules;
    proper = each-map (IsProperRecord frame part step) (IsProperRecord (at_moment frame now) part next) (λ r k held. proper-later frame part step now next less rises r.entry (k held)) s.records h.proper;
    fresh = record {
      cleared = let c = h.fresh.cleared in omega (arith, c, rises);
      predicates = λ place p there. let q = h.fresh.predicates place p there in omega (arith, q, rises);
    };
    undropped = h.undropped;
    light = h.light;
  }

  -- notices are taken
  pub own-drained : (frame : Frame) (part step : ℕ) (s : Part S) → IsServicePart frame part step s → IsServicePart frame part step (drained s)
  own-drained frame part step s h = grind arith

  -- ---- runs

  pub own-run : (frame : Frame) (part step now : ℕ) (s new : Part S) → IsSound s → Runs service_answers now s new → IsServicePart frame part step s → IsServicePart frame part step new
  own-run frame part step now s new sound run h =
      let keeps = (run_tells service_answers now s new run).keeps in
      record {
        rules = keeps.rules ∙ h.rules;
        proper = each-run (IsProperRecord frame part step) (λ r applied counts k. k) service_answers now s new sound h.proper run;
        fresh = record {
          cleared = subst (λ c. c ≤ step) (sym keeps.cleared) h.fresh.cleared;
          predicates = run-predicates (λ p. p.step ≤ step) service_answers now s new run h.fresh.predicates;
        };
        undropped = λ e. none_left new.predicates (run-predicates (λ p. ⊥) service_answers now s new run (λ place p there. none-some p (sym (ap (λ ps. slice_get ps place) (h.undropped e)) ∙ there)));
        light = subst (λ ws. AreLight 8192 ws) (sym (ap (λ (x : Part S). x.writes) run.after ∙ run.applied.writes)) tt;
      }

  pub own-maintained : (frame : Frame) (part step now : ℕ) (s new : Part S) → IsSound s → MaintainsIfDue service_answers now s new → IsServicePart frame part step s → IsServicePart frame part step new
  own-maintained frame part step now s new sound m h = grind (arith, MatchBool, own-run frame part step now s new sound)

  -- ---- look-ups

  pub own-read : (frame : Frame) (part step hash : ℕ) (s : Part S) (o : Option (Record (List ℕ) Stored)) → IsSound s → IsServicePart frame part step s → IsServicePart frame part step (with_read service_answers o hash frame.latest s)
  own-read frame part step hash s None sound h = record { rules = h.rules; proper = h.proper; fresh = record { cleared = h.fresh.cleared; predicates = h.fresh.predicates }; undropped = h.undropped; light = h.light }
  own-read frame part step hash s (Some r) sound h = record {
    rules = h.rules;
    proper = each-changed r.number (λ x. record x { entry = used_entry service_answers s frame.latest x.entry }) (IsProperRecord frame part step) (IsProperRecord frame part step)
        (λ x at k held. used (k held)) (λ x other k. k) s.records sound.records.numbered h.proper;
    fresh = record { cleared = h.fresh.cleared; predicates = h.fresh.predicates };
    undropped = h.undropped;
    light = h.light;
  }
    where
      used : {e : Entry (List ℕ) Stored} → IsProper frame part step e → IsProper frame part step (record e { used = frame.latest })
      used p = record { placed = p.placed; weighs = p.weighs; short = p.short; written = p.written; used = omega arith; earlier = p.earlier; timed = p.timed }

  -- ---- writes

  module _ (frame : Frame) (part step hash : ℕ) (s : Part S) (key : List ℕ) (value : Stored) (v : IsStorable frame part key value) (h : IsServicePart frame part step s) where
    -- what is written is as the service writes it
    proper-new : (e : Entry (List ℕ) Stored) → e.key ≡ key → e.value ≡ value → e.step ≡ step → e.written ≡ frame.latest → e.used ≡ frame.latest → e.weight ≡ weight_of s.rules value.bytes → e.expires ≡ own_expiration frame.latest (option_map nanos value.milliseconds)
        → IsProper frame part step e
    proper-new e key_is value_is step_is written_is used_is weight_is expires_is = grind (arith, IsTrue, none-own frame.latest frame.config.own_deadlines value.milliseconds v.timed)

    little : weight_of s.rules value.bytes ≤ 8192
    little = weighs-little s.rules value.bytes v.short

    pub own-put : s.unsent ≡ [] → IsSound s → IsServicePart frame part step (sent s.next_ticket (written service_answers same s key hash value frame.latest step))
    own-put sent_all sound = go (held_at same s.records key)
      where
        go : (o : Option (Record (List ℕ) Stored)) → IsServicePart frame part step (sent s.next_ticket (with_written service_answers o s key hash value frame.latest step))
        go None =
            let x : Record (List ℕ) Stored = record { number = s.next_number; hash = hash; entry = first_entry service_answers s key value frame.latest step; is_held = true; writes = 1; applied = 0; counts = None } in
            let u : Unsent = record { ticket = s.next_ticket; write = Put (record { number = s.next_number; write = 1; weight = x.entry.weight; hash = hash; kept = held_weight (s.records ++ x ∷ []) }) } in
            subst (λ t. IsServicePart frame part step t) (sym (sent-one u (with_written service_answers None s key hash value frame.latest step) (ap (λ us. us ++ u ∷ []) sent_all)))
            (record {
              rules = h.rules;
              proper = each-push (IsProperRecord frame part step) s.records x h.proper (λ held. proper-new x.entry refl refl refl refl refl refl refl);
              fresh = record { cleared = h.fresh.cleared; predicates = h.fresh.predicates };
              undropped = h.undropped;
              light = light-append s.writes u.write h.light (little, tt);
            })
        go (Some r) =
            let f : Record (List ℕ) Stored → Record (List ℕ) Stored = λ x. record x { entry = next_entry service_answers s r.entry key value frame.latest step; writes = x.writes + 1 } in
            let records = changed_at r.number f s.records in
            let u : Unsent = record { ticket = s.next_ticket; write = Put (record { number = r.number; write = r.writes + 1; weight = (next_entry service_answers s r.entry key value frame.latest step).weight; hash = hash; kept = held_weight records }) } in
            subst (λ t. IsServicePart frame part step t) (sym (sent-one u (with_written service_answers (Some r) s key hash value frame.latest step) (ap (λ us. us ++ u ∷ []) sent_all)))
            (record {
              rules = h.rules;
              proper = each-changed r.number f (IsProperRecord frame part step) (IsProperRecord frame part step)
                  (λ x at k held. proper-new (next_entry service_answers s r.entry key value frame.latest step) refl refl refl refl refl refl refl) (λ x other k. k) s.records sound.records.numbered h.proper;
              fresh = record { cleared = h.fresh.cleared; predicates = h.fresh.predicates };
              undropped = h.undropped;
              light = light-append s.writes u.write h.light (little, tt);
            })

  -- room is made
  pub own-room : (frame : Frame) (part step : ℕ) (s : Part S) → IsServicePart frame part step s → IsServicePart frame part step (with_room s)
  own-room frame part step s h = record { rules = h.rules; proper = h.proper; fresh = record { cleared = h.fresh.cleared; predicates = h.fresh.predicates }; undropped = h.undropped; light = h.light }

  -- ---- removals

  pub own-taken_out : (frame : Frame) (part step now : ℕ) (s : Part S) (r : Record (List ℕ) Stored) → s.unsent ≡ [] → IsSound s → IsServicePart frame part step s → IsServicePart frame part step (taken_out service_answers r now s)
  own-taken_out frame part step now s r sent_all sound h =
      let u : Unsent = record { ticket = s.next_ticket; write = Removed r.number } in
      subst (λ t. IsServicePart frame part step (removal_told service_answers r.entry now t)) (sym (sent-one u (with_removed (Some r) s) (ap (λ us. us ++ u ∷ []) sent_all)))
      (record {
        rules = h.rules;
        proper = each-changed r.number (λ x. record x { is_held = false; writes = x.writes + 1 }) (IsProperRecord frame part step) (IsProperRecord frame part step)
            (λ x at k held. absurd (true≢false (sym held))) (λ x other k. k) s.records sound.records.numbered h.proper;
        fresh = record { cleared = h.fresh.cleared; predicates = h.fresh.predicates };
        undropped = h.undropped;
        light = light-append s.writes u.write h.light (omega arith, tt);
      })

-- ---- what a store keeps of a part, kept by each call

read-more : (n : ℕ) → n < 64 → n + 1 ≤ 64
read-more n lt = omega (arith, lt)

few-reads : (few_writes : Bool) (n : ℕ) (late : Bool) → ((few_writes || nat_le 64 n) || late) ≡ false → n < 64
few-reads few_writes n late h = leb-false 64 n (or_right few_writes (nat_le 64 n) (or_right (few_writes || nat_le 64 n) late h).0).1

module _ {S : Type 0} where
  keep : CallsKeep (List ℕ) Stored (List ℕ) S Weight
  keep = calls_keep (List ℕ) Stored (List ℕ) S Weight

  sound-calls : CallsStaySound (List ℕ) Stored (List ℕ) S Weight
  sound-calls = calls_stay_sound (List ℕ) Stored (List ℕ) S Weight

  -- ---- what the front keeps

  -- it keeps it without the notices that were taken
  front-drained : (common : Common S Weight) (belongs : List ℕ → Bool) (moment step : ℕ) (s : Part S) → IsKept 63 same common belongs moment step s → IsKept 63 same common belongs moment step (drained s)
  front-drained common belongs moment step s h = go s.notices h
    where
      go : (ns : List (Notice (List ℕ) Stored)) → IsKept 63 same common belongs moment step (record s { notices = ns }) → IsKept 63 same common belongs moment step (record s { notices = [] })
      go [] h = h
      go (n ∷ ns) h = go ns (keep.taken common 63 same belongs moment step (record s { notices = n ∷ ns }) h)

  sound-maintained : (now : ℕ) (s new : Part S) → IsSound s → MaintainsIfDue service_answers now s new → IsSound new
  sound-maintained now s new sound m = grind (arith, MatchBool, runs_stay_sound (List ℕ) Stored (List ℕ) S Weight service_answers now s new sound, sound)

  -- fewer than 64 reads wait where a call looked whether a run is due
  reads-maintained : (now : ℕ) (s new : Part S) → MaintainsIfDue service_answers now s new → length new.reads < 64
  reads-maintained now s new m = grind (arith, MatchBool, few-reads (nat_le 64 (length s.writes)) (length s.reads) (is_reached (end_of s.ran (Some 300000000)) now))

  sound-taken_out : (key : List ℕ) (now : ℕ) (s : Part S) (r : Record (List ℕ) Stored) → held_at same s.records key ≡ Some r → IsSound s → IsSound (taken_out service_answers r now s)
  sound-taken_out key now s r e sound =
      sound-calls.removal_told service_answers r.entry now (sent s.next_ticket (with_removed (Some r) s))
      (sound-calls.sent s.next_ticket (with_removed (Some r) s) (subst (λ o. IsSound (with_removed o s)) e (sound-calls.removed same key s sound)))

  module _ (frame : Frame) (part step now next : ℕ) (s : Part S) (less : frame.latest ≤ now) (rises : step ≤ next) (h : IsKeptPart frame part step s) where
    abbrev after : Frame
    after = at_moment frame now

    abbrev common : Common S Weight
    common = common_by frame h.hasher

    abbrev belongs : List ℕ → Bool
    belongs = belongs_to frame part

    sound : IsSound s
    sound = h.front.ordered.sound

    own : IsServicePart after part next s
    own = own-later frame part step now next s less rises h.own

    -- another part's call
    pub kept-later : IsKeptPart after part next s
    kept-later = record { hasher = h.hasher; front = keep.later common 63 same belongs frame.latest step now next s less rises h.front; own = own; reads = h.reads; taken = h.taken }

    -- a run that is asked for
    pub kept-ran : (new : Part S) → RunsToEnd service_answers now s new → IsKeptPart after part next (drained new)
    kept-ran new run = record {
      hasher = h.hasher;
      front = front-drained common belongs now next new (keep.ran common same same_laws belongs service_answers frame.latest step now next s new less rises run h.front);
      own = own-drained after part next new (own-run after part next now s new sound run.runs own);
      reads = let e = ap length (ap (λ (x : Part S). x.reads) run.runs.after ∙ run.runs.applied.reads) in omega (arith, e);
      taken = refl;
    }

    -- a look-up
    pub kept-looked_up : (key : List ℕ) (hash : ℕ) (new : Part S) → NotesLookUp service_answers same key hash now false s new → IsKeptPart after part next (drained new)
    kept-looked_up key hash new look = record {
      hasher = h.hasher;
      front = front-drained common belongs now next new (keep.looked_up common same same_laws belongs service_answers frame.latest step now next s new key hash false less rises look h.front);
      own = own-drained after part next new (subst (λ x. IsServicePart after part next x) (sym look.reads)
          (own-read after part next hash look.mid (visible_record service_answers same s now key) (sound-maintained now s look.mid sound look.maintains) (own-maintained after part next now s look.mid sound look.maintains own)));
      reads = subst (λ (x : Part S). length x.reads ≤ 64) (sym look.reads) (one_more (visible_record service_answers same s now key));
      taken = refl;
    }
      where
        one_more : (o : Option (Record (List ℕ) Stored)) → length (with_read service_answers o hash now look.mid).reads ≤ 64
        one_more None = let n = reads-maintained now s look.mid look.maintains in let l = length-append look.mid.reads (_ ∷ []) in subst (λ m. m ≤ 64) (sym l) (read-more (length look.mid.reads) n)
        one_more (Some r) = let n = reads-maintained now s look.mid look.maintains in let l = length-append look.mid.reads (_ ∷ []) in subst (λ m. m ≤ 64) (sym l) (read-more (length look.mid.reads) n)

    -- an acceptance
    pub kept-accepted : (key : List ℕ) (hash : ℕ) (value : Stored) (new : Part S) → IsStorable frame part key value → takes_nothing common.settings.capacity ≡ false → Inserts service_answers same key hash value now next s new → IsKeptPart after part next (drained new)
    kept-accepted key hash value new v enabled call =
        let room = own-room after part next s own in
        let written_own = own-put after part next hash (with_room s) key value (record { placed = v.placed; short = v.short; timed = v.timed }) room h.front.sent (sound-calls.room s sound) in
        let t = inserted service_answers same key hash value now next s in
        let maintains = call.takes (subst (λ c. takes_nothing c ≡ false) (sym (ap (λ (c : Common S Weight). c.settings.capacity) h.front.made)) enabled) in
        let sound_t : IsSound t = sound-calls.sent s.next_ticket (written service_answers same (with_room s) key hash value now next) (sound-calls.written same service_answers (with_room s) key hash value now next (sound-calls.room s sound)) in
        let few = reads-maintained now t new maintains in
        record {
          hasher = h.hasher;
          front = front-drained common belongs now next new (keep.inserted common same same_laws belongs service_answers frame.latest step now next s new key hash value less rises (eq-eqb (frame.part_of key) part v.placed) call h.front);
          own = own-drained after part next new (own-maintained after part next now t new sound_t maintains written_own);
          reads = omega (arith, few);
          taken = refl;
        }

    -- a removal, whether the key is there or not
    pub kept-removed : (key : List ℕ) (new : Part S) → TakesOut service_answers same key now s new → IsKeptPart after part next (drained new)
    kept-removed key new call = record {
      hasher = h.hasher;
      front = front-drained common belongs now next new (keep.taken_out common same same_laws belongs service_answers frame.latest step now next s new key less rises call h.front);
      own = own-drained after part next new (go_own (held_at same s.records key) refl call);
      reads = go_reads (held_at same s.records key) call;
      taken = refl;
    }
      where
        go_own : (o : Option (Record (List ℕ) Stored)) → held_at same s.records key ≡ o → MatchOption o (new ≡ s) (λ r. MaintainsIfDue service_answers now (taken_out service_answers r now s) new) → IsServicePart after part next new
        go_own None e is = subst (λ x. IsServicePart after part next x) (sym is) own
        go_own (Some r) e maintains =
            own-maintained after part next now (taken_out service_answers r now s) new (sound-taken_out key now s r e sound) maintains (own-taken_out after part next now s r h.front.sent sound own)

        go_reads : (o : Option (Record (List ℕ) Stored)) → MatchOption o (new ≡ s) (λ r. MaintainsIfDue service_answers now (taken_out service_answers r now s) new) → length new.reads ≤ 64
        go_reads None is = subst (λ (x : Part S). length x.reads ≤ 64) (sym is) h.reads
        go_reads (Some r) maintains = let few = reads-maintained now (taken_out service_answers r now s) new maintains in omega (arith, few)

    -- a clear at the call's step
    pub kept-cleared : IsKeptPart after part next (cleared_by next s)
    kept-cleared = record {
      hasher = h.hasher;
      front = keep.cleared common 63 same belongs now next next s (keep.later common 63 same belongs frame.latest step now next s less rises h.front);
      own = record {
        rules = own.rules;
        proper = own.proper;
        fresh = record { cleared = (let c = own.fresh.cleared in omega (arith, c)); predicates = own.fresh.predicates };
        undropped = own.undropped;
        light = own.light;
      };
      reads = h.reads;
      taken = h.taken;
    }

    -- a predicate of the call's step, in room that was made before
    pub kept-covered : (room : ℕ) (p : Registered (List ℕ)) → p.step ≡ next → IsKeptPart (record after { dropped = true }) part next (with_predicate p (record s { reserved = room }))
    kept-covered room p at = record {
      hasher = h.hasher;
      front = keep.covered common 63 same belongs now next p (record s { reserved = room }) (keep.reserved common 63 same belongs now next room s (keep.later common 63 same belongs frame.latest step now next s less rises h.front));
      own = record {
        rules = own.rules;
        proper = each-map (IsProperRecord after part next) (IsProperRecord (record after { dropped = true }) part next)
            (λ r k held. let q = k held in record { placed = q.placed; weighs = q.weighs; short = q.short; written = q.written; used = q.used; earlier = q.earlier; timed = q.timed }) s.records own.proper;
        fresh = record { cleared = own.fresh.cleared; predicates = λ place q there. pushed s.predicates place q own.fresh.predicates there };
        undropped = λ e. absurd (true≢false e);
        light = own.light;
      };
      reads = h.reads;
      taken = h.taken;
    }
      where
        pushed : (ps : List (Registered (List ℕ))) (place : ℕ) (q : Registered (List ℕ)) → ((k : ℕ) (x : Registered (List ℕ)) → slice_get ps k ≡ Some x → x.step ≤ next) → slice_get (ps ++ p ∷ []) place ≡ Some q → q.step ≤ next
        pushed [] zero q all there = let is : p ≡ q = cc in let e = ap (λ (x : Registered (List ℕ)). x.step) is in omega (arith, e, at)
        pushed [] (suc k) q all there = absurd (none-some q there)
        pushed (x ∷ ps) zero q all there = all zero q there
        pushed (x ∷ ps) (suc k) q all there = pushed ps k q (λ i y h. all (suc i) y h) there

  -- a part that was just made
  pub kept-new : (frame : Frame) (part : ℕ) (name : Option (List ℕ)) (hasher : S) (s : Part S) → frame.latest ≡ frame.made → IsNew name (part_settings frame.config frame.made) hasher frame.config.weight s → IsKeptPart frame part 0 s
  kept-new frame part name hasher s first made = record {
    hasher = hasher;
    front = subst (λ m. IsKept 63 same (common_by frame hasher) (belongs_to frame part) m 0 s) (sym first) (keep.empty (common_by frame hasher) same (belongs_to frame part) name s made);
    own = record {
      rules = made.rules_are;
      proper = subst (λ rs. Each (IsProperRecord frame part 0) rs) (sym made.records) tt;
      fresh = record { cleared = (let e = made.cleared in omega (arith, e)); predicates = λ place p there. absurd (none-some p (sym (ap (λ ps. slice_get ps place) made.predicates) ∙ there)) };
      undropped = λ e. made.predicates;
      light = subst (λ ws. AreLight 8192 ws) (sym made.writes) tt;
    };
    reads = (let e = ap length made.reads in omega (arith, e));
    taken = made.notices;
  }
