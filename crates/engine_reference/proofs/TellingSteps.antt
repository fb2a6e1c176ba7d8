-- Each step tells what it takes away.
use Rattle.std.proofs.Common.{◌≡◌, refl, ap, sym, ◌∙◌, ℕ, zero, suc, ◌+◌, ◌&&◌, ◌||◌, Bool, true, false, true≢false, cond, not, List, [], ◌∷◌, ◌++◌, Option, Some, None, is_some, append_assoc, append-nil, inl, inr, ◌⊎◌}
use Rattle.std.specs.List.{list_any}
use Rattle.std.proofs.lemmas.Bool.{cases_Bool, cond_both, and_parts, not-true}
use Rattle.engine_reference.specs.declared.data.Registered.{Registered}
use Rattle.std.specs.Prelude.{slice_get, remove, nat_lt, if◌then◌else◌}
use Rattle.policy_base.specs.Counts.{incremented}
use Rattle.std.proofs.Math.Nat.{add-zero}
use Rattle.std.proofs.lemmas.List.{map-append}
use Rattle.engine_reference.specs.declared.rules.causes.RemovalCause.{RemovalCause}
use Rattle.engine_reference.specs.declared.rules.causes.RemovalCause.TheVariants as cause
use Rattle.engine_reference.specs.declared.data.Entry.{Entry}
use Rattle.engine_reference.specs.declared.data.Record.{Record}
use Rattle.engine_reference.specs.declared.data.Upsert.{Upsert}
use Rattle.engine_reference.specs.declared.data.Notice.{Notice}
use Rattle.engine_reference.specs.declared.data.Read.{Read}
use Rattle.engine_reference.specs.declared.data.Write.{Write}
use Rattle.engine_reference.specs.declared.data.Read.TheVariants.{Hit, Miss}
use Rattle.engine_reference.specs.declared.data.Write.TheVariants.{Put, Removed}
use Rattle.engine_reference.specs.Admission.{Verdict, admit, displace, refuse, verdict, verdict_of_full, is_above}
use Rattle.engine_reference.specs.Laws.{StepTells, StepsTell, RunsTell, NothingTakenForSize}
use Rattle.engine_reference.specs.Records.{record_at, held_entries, admitted_weight, settled_in, without, without_record, moved_to_back}
use Rattle.engine_reference.specs.Runs.{covers_none, is_due_for, Step, reads, writes, grows, leaves, evicts, ends, Steps, Runs, with_left, left, all_left, after_read, after_hit, after_write, after_put, after_removal, counting, put_off, judged, is_overtaken, running_weight, oldest_weight}
use Rattle.engine_reference.specs.State.{State, Answers}
use Rattle.engine_reference.specs.Telling.{TakesAway, KeepsCover, Removal, Tells, Keeps, NoneWith, notices_of, removed_entries, notice_of_removal}
use Rattle.engine_reference.specs.Visible.{told, is_covered_by}
use Rattle.engine_reference.proofs.HeldRecords.{record_at-number, held-changed, held-without, held-without_other}

module _ {K V : Type 0} where
  -- no removals, and two stretches of them
  pub notices_of-none : (tells : Bool) → notices_of {K = K} {V = V} tells [] ≡ []
  notices_of-none true = refl
  notices_of-none false = refl

  pub notices_of-append : (tells : Bool) (xs ys : List (Removal K V)) → notices_of tells (xs ++ ys) ≡ notices_of tells xs ++ notices_of tells ys
  notices_of-append true xs ys = map-append notice_of_removal xs ys
  notices_of-append false xs ys = refl

  pub NoneWith-append : (why : RemovalCause) (xs ys : List (Removal K V)) → NoneWith why xs → NoneWith why ys → NoneWith why (xs ++ ys)
  NoneWith-append why [] ys h k = k
  NoneWith-append why (x ∷ xs) ys h k = (h.0, NoneWith-append why xs ys h.1 k)

  TakesAway-trans : (xs ys : List (Removal K V)) (a b c : List (Entry K V)) → TakesAway (removed_entries xs) a b → TakesAway (removed_entries ys) b c → TakesAway (removed_entries (xs ++ ys)) a c
  TakesAway-trans [] ys a b c h k = rw (← h) k
  TakesAway-trans (x ∷ xs) ys a b c h k = (h.0, h.1, TakesAway-trans xs ys (remove a h.0) b c h.2 k)

  pub told_once : (tells : Bool) (why : RemovalCause) (e : Entry K V) (notices : List (Notice K V))
      → told tells why e notices ≡ notices ++ notices_of tells ((record { cause = why; entry = e }) ∷ [])
  told_once true why e notices = refl
  told_once false why e notices = sym (append-nil notices)

-- what is left after a removal was there before
slice_get-remove_from : {X : Type 0} (xs : List X) (i k : ℕ) (x : X) → slice_get (remove xs i) k ≡ Some x → (j : ℕ) × (slice_get xs j ≡ Some x)
slice_get-remove_from [] zero k x h = absurd (cc)
slice_get-remove_from [] (suc i) k x h = absurd (cc)
slice_get-remove_from (y ∷ xs) zero k x h = (suc k, h)
slice_get-remove_from (y ∷ xs) (suc i) zero x h = (zero, h)
slice_get-remove_from (y ∷ xs) (suc i) (suc k) x h = let r = slice_get-remove_from xs i k x h in (suc r.0, r.1)

pub TakesAway-from : {K V : Type 0} (gone old new : List (Entry K V)) (k : ℕ) (e : Entry K V) → TakesAway gone old new → slice_get new k ≡ Some e → (j : ℕ) × (slice_get old j ≡ Some e)
TakesAway-from [] old new k e h there = (k, ap (λ es. slice_get es k) (sym h) ∙ there)
TakesAway-from (x ∷ gone) old new k e h there =
    let later = TakesAway-from gone (remove old h.0) new k e h.2 there in
    slice_get-remove_from old h.0 later.0 e later.1

-- an element at which the test fails makes no difference
pub list_any-remove : {X : Type 0} (test : X → Bool) (xs : List X) (i : ℕ) (x : X) → slice_get xs i ≡ Some x → test x ≡ false → list_any test (remove xs i) ≡ list_any test xs
list_any-remove test [] i x there fails = absurd (cc)
list_any-remove test (y ∷ xs) zero x there fails = let same : y ≡ x = cc in sym (ap (λ b. b || list_any test xs) (ap test same ∙ fails))
list_any-remove test (y ∷ xs) (suc i) x there fails = ap (λ b. test y || b) (list_any-remove test xs i x there fails)

module _ {K V P R : Type 0} (answers : Answers K V P R) where
  none_covered : (rules : R) (p : Registered P) (rs : List (Record K V)) (k : ℕ) (e : Entry K V) → covers_none answers rules p rs ≡ true → slice_get (held_entries rs) k ≡ Some e → is_covered_by answers rules p e ≡ false
  none_covered rules p [] k e none there = absurd (cc)
  none_covered rules p (r ∷ rs) k e none there =
      let parts = and_parts (not (r.is_held && is_covered_by answers rules p r.entry)) (covers_none answers rules p rs) none in
      elim (cases_Bool r.is_held) [
        | inl held ↦ let first = rw held at parts.0 in at_head k first (rw held at there) (λ j. none_covered rules p rs j e parts.1)
        | inr out ↦ none_covered rules p rs k e parts.1 (rw out at there)
      ]
    where
      at_head : (k : ℕ) → not (is_covered_by answers rules p r.entry) ≡ true → slice_get (r.entry ∷ held_entries rs) k ≡ Some e
          → ((j : ℕ) → slice_get (held_entries rs) j ≡ Some e → is_covered_by answers rules p e ≡ false) → is_covered_by answers rules p e ≡ false
      at_head zero h there later = let same : r.entry ≡ e = cc in ap (λ x. is_covered_by answers rules p x) (sym same) ∙ not-true (is_covered_by answers rules p r.entry) h
      at_head (suc k) h there later = later k there

module _ {K V P S R : Type 0} where
  pub Keeps-refl : (s : State K V P S R) → Keeps s s
  Keeps-refl s = record { settings = refl; cleared = refl; rules = refl; unsent = refl; predicates = refl }

  pub Keeps-trans : (a b c : State K V P S R) → Keeps a b → Keeps b c → Keeps a c
  Keeps-trans a b c h k = record { settings = k.settings ∙ h.settings; cleared = k.cleared ∙ h.cleared; rules = k.rules ∙ h.rules; unsent = k.unsent ∙ h.unsent; predicates = k.predicates ∙ h.predicates }

  -- nothing is told, and what is held stays
  pub Tells-nothing : (old new : State K V P S R) → new.notices ≡ old.notices → held_entries new.records ≡ held_entries old.records → Tells old [] new
  Tells-nothing old new notices held = record {
    notices = notices ∙ sym (append-nil old.notices) ∙ ap (λ ns. old.notices ++ ns) (sym (notices_of-none old.settings.tells));
    entries = held;
  }

  pub Tells-trans : (a b c : State K V P S R) (xs ys : List (Removal K V)) → b.settings ≡ a.settings → Tells a xs b → Tells b ys c → Tells a (xs ++ ys) c
  Tells-trans a b c xs ys same h k = record {
    notices = k.notices ∙ ap (λ ns. ns ++ notices_of b.settings.tells ys) h.notices
        ∙ ap (λ settings. (a.notices ++ notices_of a.settings.tells xs) ++ notices_of settings.tells ys) same
        ∙ append_assoc a.notices (notices_of a.settings.tells xs) (notices_of a.settings.tells ys)
        ∙ ap (λ ns. a.notices ++ ns) (sym (notices_of-append a.settings.tells xs ys));
    entries = TakesAway-trans xs ys (held_entries a.records) (held_entries b.records) (held_entries c.records) h.entries k.entries;
  }

  -- the same after a change that tells nothing and keeps what is held
  pub Tells-after : (a b c : State K V P S R) (xs : List (Removal K V)) → Tells a xs b → c.notices ≡ b.notices → held_entries c.records ≡ held_entries b.records → Tells a xs c
  Tells-after a b c xs h notices held = record { notices = notices ∙ h.notices; entries = rw held h.entries }

  -- what was told has one cause
  pub record Stretch (why : RemovalCause) (old new : State K V P S R) : Type 0 where
    pub removals : List (Removal K V)
    pub tells : Tells old removals new
    pub keeps : Keeps old new
    pub only : (why ≡ cause.Size → ⊥) → NoneWith cause.Size removals

  Stretch-nothing : (why : RemovalCause) (old new : State K V P S R) → Keeps old new → new.notices ≡ old.notices → held_entries new.records ≡ held_entries old.records → Stretch why old new
  Stretch-nothing why old new keeps notices held = record { removals = []; tells = Tells-nothing old new notices held; keeps = keeps; only = λ other. tt }

  Stretch-after : (why : RemovalCause) (a b c : State K V P S R) → Stretch why a b → Keeps b c → c.notices ≡ b.notices → held_entries c.records ≡ held_entries b.records → Stretch why a c
  Stretch-after why a b c h keeps notices held = record { removals = h.removals; tells = Tells-after a b c h.removals h.tells notices held; keeps = Keeps-trans a b c h.keeps keeps; only = h.only }

  pub with_left-tells : (why : RemovalCause) (s : State K V P S R) (number : ℕ) (o : Option (Record K V)) → record_at s.records number ≡ o → Stretch why s (with_left why s o)
  with_left-tells why s number None there = Stretch-nothing why s s (Keeps-refl s) refl refl
  with_left-tells why s number (Some r) there = elim (cases_Bool r.is_held) [
    | inl held ↦ record {
      removals = (record { cause = why; entry = r.entry }) ∷ [];
      tells = record {
        notices = ap (λ h. cond h (told s.settings.tells why r.entry s.notices) s.notices) held ∙ told_once s.settings.tells why r.entry s.notices;
        entries = let h = held-without s.records r.number r here held in (h.place, h.there, h.after);
      };
      keeps = record { settings = refl; cleared = refl; rules = refl; unsent = refl; predicates = refl };
      only = λ other. (other, tt);
    }
    | inr out ↦ Stretch-nothing why s (with_left why s (Some r)) (record { settings = refl; cleared = refl; rules = refl; unsent = refl; predicates = refl })
        (ap (λ h. cond h (told s.settings.tells why r.entry s.notices) s.notices) out) (held-without_other s.records r.number r here out)
  ]
    where
      here : record_at s.records r.number ≡ Some r
      here = ap (λ n. record_at s.records n) (record_at-number s.records number r there) ∙ there

  pub left-tells : (why : RemovalCause) (number : ℕ) (s : State K V P S R) → Stretch why s (left why number s)
  left-tells why number s = with_left-tells why s number (record_at s.records number) refl

  pub all_left-tells : (why : RemovalCause) (rs : List (Record K V)) (s : State K V P S R) → Stretch why s (all_left why rs s)
  all_left-tells why [] s = Stretch-nothing why s s (Keeps-refl s) refl refl
  all_left-tells why (r ∷ rs) s =
      let first = left-tells why r.number s in
      let rest = all_left-tells why rs (left why r.number s) in
      record {
        removals = first.removals ++ rest.removals;
        tells = Tells-trans s (left why r.number s) (all_left why (r ∷ rs) s) first.removals rest.removals first.keeps.settings first.tells rest.tells;
        keeps = Keeps-trans s (left why r.number s) (all_left why (r ∷ rs) s) first.keeps rest.keeps;
        only = λ other. NoneWith-append cause.Size first.removals rest.removals (first.only other) (rest.only other);
      }

  -- ---- writes

  counting-held : (u : Upsert) (s : State K V P S R) → held_entries (counting u s).records ≡ held_entries s.records
  counting-held u s = held-changed u.number (λ r. record r { applied = u.write; counts = Some u.weight }) (λ r. refl) (λ r. refl) s.records

  Keeps-counting : (u : Upsert) (s : State K V P S R) → Keeps s (counting u s)
  Keeps-counting u s = record { settings = refl; cleared = refl; rules = refl; unsent = refl; predicates = refl }

  pub judged-tells : (u : Upsert) (r : Record K V) (s : State K V P S R) (v : Verdict K V) → Stretch cause.Size s (judged u r s v)
  judged-tells u r s admit = Stretch-nothing cause.Size s (counting u s) (Keeps-counting u s) refl (counting-held u s)
  judged-tells u r s (displace victims) =
      let t = all_left cause.Size victims s in
      Stretch-after cause.Size s t (counting u t) (all_left-tells cause.Size victims s) (Keeps-counting u t) refl (counting-held u t)
  judged-tells u r s refuse =
      cond_both (is_overtaken u r) _ _ (Stretch cause.Size s) (λ _. Stretch-nothing cause.Size s (put_off u s) (record { settings = refl; cleared = refl; rules = refl; unsent = refl; predicates = refl }) refl (held-changed u.number (λ r. record r { applied = u.write }) (λ r. refl) (λ r. refl) s.records)) (λ _. left-tells cause.Size u.number s)

  -- what an applied write tells, and why
  pub record WriteTells (weight : ℕ) (old new : State K V P S R) : Type 0 where
    pub removals : List (Removal K V)
    pub tells : Tells old removals new
    pub keeps : Keeps old new
    pub for_size : NoneWith cause.Size removals ⊎ (is_above old.settings.capacity (admitted_weight old.records + weight) ≡ true)

  nothing_written : (weight : ℕ) (old new : State K V P S R) → Keeps old new → new.notices ≡ old.notices → held_entries new.records ≡ held_entries old.records → WriteTells weight old new
  nothing_written weight old new keeps notices held = record { removals = []; tells = Tells-nothing old new notices held; keeps = keeps; for_size = inl tt }

  pub after_put-tells : (u : Upsert) (o : Option (Record K V)) (s : State K V P S R) → WriteTells u.weight s (after_put u o s)
  after_put-tells u None s = nothing_written u.weight s s (Keeps-refl s) refl refl
  after_put-tells u (Some r) s =
      let Well = WriteTells u.weight s in
      let counts = nothing_written u.weight s (counting u s) (Keeps-counting u s) refl (counting-held u s) in
      cond_both (nat_lt r.applied u.write) _ _ Well (λ _. cond_both (is_some r.counts) _ _ Well (λ _. counts) (λ _. by_room)) (λ _. nothing_written u.weight s s (Keeps-refl s) refl refl)
    where
      full : Verdict K V
      full = if is_above s.settings.capacity u.weight then refuse else verdict_of_full s.settings.policy s.sketch u (settled_in s.records s.access)

      by_room : WriteTells u.weight s (judged u r s (verdict s u))
      by_room =
          let h = judged-tells u r s full in
          cond_both (is_above s.settings.capacity (admitted_weight s.records + u.weight)) full admit (λ v. WriteTells u.weight s (judged u r s v))
          (λ above. record { removals = h.removals; tells = h.tells; keeps = h.keeps; for_size = inr above })
          (λ _. nothing_written u.weight s (counting u s) (Keeps-counting u s) refl (counting-held u s))

  pub after_removal-tells : (s : State K V P S R) (number : ℕ) (o : Option (Record K V)) → record_at s.records number ≡ o → WriteTells 0 s (after_removal o s)
  after_removal-tells s number None there = nothing_written 0 s s (Keeps-refl s) refl refl
  after_removal-tells s number (Some r) there =
      cond_both r.is_held _ _ (WriteTells 0 s) (λ _. nothing_written 0 s s (Keeps-refl s) refl refl) (λ e. nothing_written 0 s gone (record { settings = refl; cleared = refl; rules = refl; unsent = refl; predicates = refl }) refl (held-without_other s.records r.number r here e))
    where
      here : record_at s.records r.number ≡ Some r
      here = ap (λ n. record_at s.records n) (record_at-number s.records number r there) ∙ there

      gone : State K V P S R
      gone = record s { records = without_record r.number s.records; access = without r.number s.access; order = without r.number s.order }

  -- ---- steps

  -- taking the oldest operation off its queue tells nothing
  pub Tells-popped : (old new : State K V P S R) (rs : List Read) (ws : List Write) (xs : List (Removal K V)) → Tells (record old { reads = rs; writes = ws }) xs new → Tells old xs new
  Tells-popped old new rs ws xs h = record { notices = h.notices; entries = h.entries }

  Keeps-popped : (old new : State K V P S R) (rs : List Read) (ws : List Write) → Keeps (record old { reads = rs; writes = ws }) new → Keeps old new
  Keeps-popped old new rs ws h = record { settings = h.settings; cleared = h.cleared; rules = h.rules; unsent = h.unsent; predicates = h.predicates }

module _ {K V P S R : Type 0} (answers : Answers K V P R) where
  cover : (old new : State K V P S R) → Keeps old new → KeepsCover answers old new
  cover old new h = record {
    settings = h.settings;
    cleared = h.cleared;
    rules = h.rules;
    unsent = h.unsent;
    covered = λ place e there. ap (λ c. nat_lt e.step c || list_any (λ p. is_covered_by answers new.rules p e) new.predicates) h.cleared
        ∙ ap (λ r. nat_lt e.step old.cleared || list_any (λ p. is_covered_by answers r p e) new.predicates) h.rules
        ∙ ap (λ ps. nat_lt e.step old.cleared || list_any (λ p. is_covered_by answers old.rules p e) ps) h.predicates;
  }

  cover-trans : (a b c : State K V P S R) (ys : List (Removal K V)) → Tells b ys c → KeepsCover answers a b → KeepsCover answers b c → KeepsCover answers a c
  cover-trans a b c ys tells h k = record {
    settings = k.settings ∙ h.settings;
    cleared = k.cleared ∙ h.cleared;
    rules = k.rules ∙ h.rules;
    unsent = k.unsent ∙ h.unsent;
    covered = λ place e there.
        let before = TakesAway-from (removed_entries ys) (held_entries b.records) (held_entries c.records) place e tells.entries there in
        k.covered place e there ∙ h.covered before.0 e before.1;
  }

  write-tells : (old new : State K V P S R) (w : Write) (rest : List Write) → old.writes ≡ w ∷ rest → new ≡ after_write w (record old { writes = rest }) → StepTells K V P S R answers old new
  write-tells old new (Put u) rest e after =
      let s = record old { writes = rest } in
      let h = after_put-tells u (record_at s.records u.number) s in
      rw after (record {
        removals = h.removals;
        tells = Tells-popped old (after_write (Put u) s) old.reads rest h.removals h.tells;
        keeps = cover old _ (Keeps-popped old (after_write (Put u) s) old.reads rest h.keeps);
        for_size = elim h.for_size [ inl none ↦ inl none | inr above ↦ inr (ap (λ ws. is_above old.settings.capacity (admitted_weight old.records + oldest_weight ws)) e ∙ above) ];
      })
  write-tells old new (Removed number) rest e after =
      let s = record old { writes = rest } in
      let h = after_removal-tells s number (record_at s.records number) refl in
      rw after (record {
        removals = h.removals;
        tells = Tells-popped old (after_write (Removed number) s) old.reads rest h.removals h.tells;
        keeps = cover old _ (Keeps-popped old (after_write (Removed number) s) old.reads rest h.keeps);
        for_size = elim h.for_size [ inl none ↦ inl none | inr above ↦ inr (ap (λ ws. is_above old.settings.capacity (admitted_weight old.records + oldest_weight ws)) e ∙ above) ];
      })

  step-nothing : (old new : State K V P S R) → Keeps old new → new.notices ≡ old.notices → held_entries new.records ≡ held_entries old.records → StepTells K V P S R answers old new
  step-nothing old new keeps notices held = record { removals = []; tells = Tells-nothing old new notices held; keeps = cover old new keeps; for_size = inl tt }

  hit-tells : (old s : State K V P S R) (o : Option (Record K V)) → Keeps old s → s.notices ≡ old.notices → held_entries s.records ≡ held_entries old.records → StepTells K V P S R answers old (after_hit o s)
  hit-tells old s None keeps notices held = step-nothing old s keeps notices held
  hit-tells old s (Some r) keeps notices held =
      cond_both (is_some r.counts) _ _ (StepTells K V P S R answers old) (λ _. step-nothing old moved (record { settings = keeps.settings; cleared = keeps.cleared; rules = keeps.rules; unsent = keeps.unsent; predicates = keeps.predicates }) notices held) (λ _. step-nothing old s keeps notices held)
    where
      moved : State K V P S R
      moved = record s { access = moved_to_back r.number s.access }

  read-tells : (old new : State K V P S R) (r : Read) (rest : List Read) → new ≡ after_read r (record old { reads = rest }) → StepTells K V P S R answers old new
  read-tells old new (Hit number hash) rest after =
      rw after (hit-tells old (record old { reads = rest; sketch = incremented old.sketch hash }) (record_at old.records number) (record { settings = refl; cleared = refl; rules = refl; unsent = refl; predicates = refl }) refl refl)
  read-tells old new (Miss hash) rest after = rw after (step-nothing old _ (record { settings = refl; cleared = refl; rules = refl; unsent = refl; predicates = refl }) refl refl)

module _ {K V P S R : Type 0} (answers : Answers K V P R) (now : ℕ) where
  not_for_size : (old : State K V P S R) (r : Record K V) (why : RemovalCause) → is_due_for answers old now r why ≡ true → why ≡ cause.Size → ⊥
  not_for_size old r why due same = true≢false (sym due ∙ ap (λ w. is_due_for answers old now r w) same)

  pub step_tells : (old new : State K V P S R) → Step answers now old new → StepTells K V P S R answers old new
  step_tells old new (reads r rest e after) = read-tells answers old new r rest after
  step_tells old new (writes w rest none e after) = write-tells answers old new w rest e after
  step_tells old new (grows words applied wants capacity is_set size after) = rw after (step-nothing answers old _ (record { settings = refl; cleared = refl; rules = refl; unsent = refl; predicates = refl }) refl refl)
  step_tells old new (leaves r why applied there held due after) =
      let h = left-tells why r.number old in
      rw after (record { removals = h.removals; tells = h.tells; keeps = cover answers old _ h.keeps; for_size = inl (h.only (not_for_size old r why due)) })
  step_tells old new (evicts r applied clean above next after) =
      let h = left-tells cause.Size r.number old in
      rw after (record {
        removals = h.removals;
        tells = h.tells;
        keeps = cover answers old _ h.keeps;
        for_size = inr (ap (λ w. is_above old.settings.capacity w) (ap (λ ws. admitted_weight old.records + oldest_weight ws) applied.writes ∙ add-zero (admitted_weight old.records)) ∙ above);
      })
  step_tells old new (ends place p applied there none after) = rw after (record {
    removals = [];
    tells = Tells-nothing old _ refl refl;
    keeps = record {
      settings = refl;
      cleared = refl;
      rules = refl;
      unsent = refl;
      covered = λ k e held. ap (λ b. nat_lt e.step old.cleared || b) (list_any-remove (λ q. is_covered_by answers old.rules q e) old.predicates place p there (none_covered answers old.rules p old.records k e none held));
    };
    for_size = inl tt;
  })

  -- ---- chains

  pub record ChainTells (old new : State K V P S R) : Type 0 where
    pub removals : List (Removal K V)
    pub tells : Tells old removals new
    pub keeps : KeepsCover answers old new
    pub none : old.settings.capacity ≡ None → NoneWith cause.Size removals

  none_without : (old : State K V P S R) (removals : List (Removal K V)) (weight : ℕ) → NoneWith cause.Size removals ⊎ (is_above old.settings.capacity weight ≡ true) → old.settings.capacity ≡ None → NoneWith cause.Size removals
  none_without old removals weight (inl h) e = h
  none_without old removals weight (inr above) e = absurd (true≢false (sym above ∙ ap (λ c. is_above c weight) e))

  pub chain_tells : (stages : List (State K V P S R)) (old new : State K V P S R) → Steps answers now old stages new → ChainTells old new
  chain_tells [] old new h = rw h (record { removals = []; tells = Tells-nothing old old refl refl; keeps = cover answers old old (Keeps-refl old); none = λ e. tt })
  chain_tells (mid ∷ stages) old new h =
      let first = step_tells old mid h.0 in
      let rest = chain_tells stages mid new h.1 in
      record {
        removals = first.removals ++ rest.removals;
        tells = Tells-trans old mid new first.removals rest.removals first.keeps.settings first.tells rest.tells;
        keeps = cover-trans answers old mid new rest.removals rest.tells first.keeps rest.keeps;
        none = λ e. NoneWith-append cause.Size first.removals rest.removals
            (none_without old first.removals (running_weight old) first.for_size e)
            (rest.none (ap (λ settings. settings.capacity) first.keeps.settings ∙ e));
      }

  pub run_tells : (old new : State K V P S R) → Runs answers now old new → ChainTells old new
  run_tells old new h =
      let c = chain_tells h.stages old h.last h.steps in
      rw h.after (record {
        removals = c.removals;
        tells = Tells-after old h.last _ c.removals c.tells refl refl;
        keeps = record { settings = c.keeps.settings; cleared = c.keeps.cleared; rules = c.keeps.rules; unsent = c.keeps.unsent; covered = c.keeps.covered };
        none = c.none;
      })

module _ (K V P S R : Type 0) where
  pub steps_tell : StepsTell K V P S R
  steps_tell answers now old new h = step_tells answers now old new h

  pub runs_tell : RunsTell K V P S R
  runs_tell answers now old new h = let c = run_tells answers now old new h in record { removals = c.removals; tells = c.tells; keeps = c.keeps }

  pub nothing_taken_for_size : NothingTakenForSize K V P S R
  nothing_taken_for_size answers now old new e h = let c = run_tells answers now old new h in record { removals = c.removals; tells = c.tells; none = c.none e }
