-- What is not live becomes live only by a newly accepted value.
use Rattle.std.proofs.Common.{inr, inl, ◌≡◌, refl, ap, sym, subst, ℕ, ◌≤◌, Bool, true, true≢false, not, ◌&&◌, List, [], ◌∷◌, ◌++◌, map, Option, Some, None, is_some, nat_le, arith}
use Rattle.std.specs.List.{find, cons_option, All, Contains}
use Rattle.std.specs.Option.{option_map, option_map_or, option_and_then, option_to_list}
use Rattle.std.proofs.lemmas.Bool.{cases_Bool, and_parts, and_from}
use Rattle.std.proofs.lemmas.Bool.Decides.{nat_tests}
use Rattle.std.proofs.lemmas.List.Elements.{All-contains_itself, All-head, All-tail, filter_map-append}
use Rattle.audit_model.specs.Bytewise.{same}
use Rattle.audit_model.specs.Changes.{newly_held, held_after, left_held, all_held_after, after_step}
use Rattle.audit_model.specs.Commands.{Deed, deed_of}
use Rattle.audit_model.specs.Follows.{after_event, tasks_in, placed_step_in, after_steps, after_record, after_records}
use Rattle.audit_model.specs.History.{Value}
use Rattle.audit_model.specs.Obeys.{accepted_values}
use Rattle.audit_model.specs.Places.{due, first_due, left_after, steps_of}
use Rattle.audit_model.specs.Situation.{Situation, HeldValue, may_run_in, is_live_at, live_at}
use Rattle.audit_model.specs.Steps.{Task, PlacedStep, is_right}
use Rattle.audit_model.specs.Values.{deadline, deadline_has_come}
use Rattle.audit_model.specs.declared.config.Config.{Config}
use Rattle.audit_model.specs.declared.event.Event.{Event}
use Rattle.audit_model.specs.declared.transcript.Note.{Note}
use Rattle.audit_model.specs.declared.transcript.Record.{Record}
use Rattle.audit_model.specs.declared.transcript.Step.{Step}
use Rattle.audit_laws.specs.Placing.{Stage, stage_after, placed_steps_in, placed_in, all_placed_in}
use Rattle.audit_laws.specs.Laws.{LiveByAcceptance}
use Rattle.audit_laws.proofs.Told.{Each, each-append, each-map, each-more, each-untold}
use Rattle.audit_laws.proofs.Following.{passed}
use Rattle.audit_laws.proofs.Stages.{some_rest}
use Rattle.audit_laws.proofs.Kept.{held-stepped, latest-stepped, event-ages}

-- ---- what a search finds

found : {X Y : Type 0} (p : X → Bool) (f : X → Y) (Q : Y → Type 0) (xs : List X) → Each (λ x. p x ≡ true → Q (f x)) xs → (y : Y) → option_map f (find p xs) ≡ Some y → Q y
found p f Q [] h y e = absurd (true≢false (sym (ap is_some e)))
found p f Q (x ∷ xs) (q, h) y e = let next = found p f Q xs h y in grind (arith, nat_tests, q, next, e)

missed : {X Y : Type 0} (p : X → Bool) (f : X → Y) (Q : Y → Type 0) (xs : List X) → option_map f (find p xs) ≡ None → Each (λ x. p x ≡ true → Q (f x)) xs
missed p f Q [] e = tt
missed p f Q (x ∷ xs) e =
    ((λ is. absurd (true≢false (ap is_some (rw is at e)))), missed p f Q xs ((elim (cases_Bool (p x)) [ inl is ↦ absurd (true≢false (ap is_some (rw is at e))) | inr is ↦ rw is at e ])))

-- ---- deadlines come, and stay

come-later : (d : Option ℕ) (now later : ℕ) → now ≤ later → not (deadline_has_come d later) ≡ true → not (deadline_has_come d now) ≡ true
come-later None now later h e = refl
come-later (Some moment) now later h e = before moment now later h e
  where
    before : (moment now later : ℕ) → now ≤ later → not (nat_le moment later) ≡ true → not (nat_le moment now) ≡ true
    before moment now later h e = grind (arith, nat_tests)

live-earlier : (config : Config) (now later : ℕ) (h : HeldValue) → now ≤ later → is_live_at config later h ≡ true → is_live_at config now h ≡ true
live-earlier config now later h le e =
    let p = and_parts (not h.covered) (not (deadline_has_come (deadline config h.value h.last_use) later)) e in
    and_from (not h.covered) (not (deadline_has_come (deadline config h.value h.last_use) now)) p.0 (come-later (deadline config h.value h.last_use) now later le p.1)

-- what a step leaves live was live
live-before : (config : Config) (now : ℕ) (held : List HeldValue) (deed : Deed) (notes : List Note) (values : List Value) (h : HeldValue)
    → is_live_at config now (held_after config now held deed notes values h) ≡ true → is_live_at config now h ≡ true
live-before config now held deed notes values h e = grind (arith, nat_tests)

-- ---- each live value of the key is one of those that count

module _ (config : Config) (key : List ℕ) (Counts : Value → Type 0) where
  abbrev Stays : ℕ → HeldValue → Type 0
  Stays now h = (same key h.value.key && is_live_at config now h) ≡ true → Counts h.value

  abbrev Lives : Situation → Type 0
  Lives s = Each (Stays s.latest) s.held

  lives-later : (now later : ℕ) (held : List HeldValue) → now ≤ later → Each (Stays now) held → Each (Stays later) held
  lives-later now later held le =
      each-more (Stays now) (Stays later) held
      (λ h stays e. let p = and_parts (same key h.value.key) (is_live_at config later h) e in stays (and_from (same key h.value.key) (is_live_at config now h) p.0 (live-earlier config now later h le p.1)))

  lives-event : (e : Event) (s : Situation) → Lives s → Lives (after_event e s)
  lives-event e s lives =
      let ages = event-ages e s in
      subst (Each (Stays (after_event e s).latest)) (sym ages.held) (lives-later s.latest (after_event e s).latest s.held ages.latest lives)

  new-stays : (now : ℕ) (o : Option Value) → Each Counts (option_to_list o) → Each (Stays now) (option_to_list (option_map newly_held o))
  new-stays now None counts = tt
  new-stays now (Some v) counts = ((λ e. counts.0), tt)

  lives-deed : (now : ℕ) (held : List HeldValue) (deed : Deed) (notes : List Note) → Each (Stays now) held → Each Counts (option_to_list deed.value) → Each (Stays now) (all_held_after config now held deed notes)
  lives-deed now held deed notes stays counts =
      let left = left_held held deed notes in
      let values = map (λ (h : HeldValue). h.value) left in
      each-map (Stays now) (held_after config now held deed notes values) left
      (each-more (Stays now) (λ h. Stays now (held_after config now held deed notes values h)) left
      (λ h was e. let p = and_parts (same key h.value.key) (is_live_at config now (held_after config now held deed notes values h)) e in was (and_from (same key h.value.key) (is_live_at config now h) p.0 (live-before config now held deed notes values h p.1)))
      (each-untold (Stays now) (λ h. h.value.key) notes (held ++ option_to_list (option_map newly_held deed.value)) (each-append (Stays now) held _ stays (new-stays now deed.value counts))))

  lives-step : (s : Situation) (placed : PlacedStep) → Lives s → Each Counts (option_to_list placed.effect.value) → Lives (after_step config s placed.task placed.step placed.effect)
  lives-step s placed lives counts =
      subst (λ now. Each (Stays now) (after_step config s placed.task placed.step placed.effect).held) (sym (latest-stepped config s placed.task placed.step placed.effect))
      (subst (Each (Stays s.latest)) (sym (held-stepped config s placed.task placed.step placed.effect)) (lives-deed s.latest s.held (deed_of placed.effect) placed.effect.notes lives counts))

  first-counts : (o : Option Value) (vs : List Value) → Each Counts (option_to_list o ++ vs) → Each Counts (option_to_list o) × Each Counts vs
  first-counts None vs counts = (tt, counts)
  first-counts (Some v) vs counts = ((counts.0, tt), counts.1)

  as_append : (o : Option Value) (vs : List Value) → cons_option o vs ≡ option_to_list o ++ vs
  as_append None vs = refl
  as_append (Some v) vs = refl

  lives-steps : (steps : List Step) (s t : Situation) (tasks : List Task) → after_steps config s tasks steps ≡ Some t → Each Counts (accepted_values (placed_steps_in config s tasks steps)) → Lives s → Lives t
  lives-steps [] s t tasks e counts lives = grind (arith, nat_tests, e)
  lives-steps (step ∷ steps) s t tasks e counts lives =
      let now_due = due (may_run_in s) tasks in
      let placed = placed_step_in config s (first_due now_due) step in
      let next = after_step config s placed.task step placed.effect in
      let later = accepted_values (placed_steps_in config next (left_after now_due) steps) in
      let split = first-counts placed.effect.value later (subst (Each Counts) (as_append placed.effect.value later) counts) in
      lives-steps steps next t (left_after now_due) (passed (is_right config placed) (after_steps config next (left_after now_due) steps) t e).rest split.1 (lives-step s placed lives split.0)

  lives-record : (entry : Record) (s t : Situation) → after_record config s entry ≡ Some t → Each Counts (accepted_values (placed_in config s entry)) → Lives s → Lives t
  lives-record entry s t e counts lives =
      lives-steps (steps_of entry) (after_event entry.event s) t (tasks_in s entry.event) (passed _ (after_steps config (after_event entry.event s) (tasks_in s entry.event) (steps_of entry)) t e).rest counts (lives-event entry.event s lives)

  each-parts : {X : Type 0} (P : X → Type 0) (xs ys : List X) → Each P (xs ++ ys) → Each P xs × Each P ys
  each-parts P [] ys h = (tt, h)
  each-parts P (x ∷ xs) ys (p, h) = let both = each-parts P xs ys h in ((p, both.0), both.1)

  lives-records : (entries : List Record) (s t : Situation) → after_records config s entries ≡ Some t → Each Counts (accepted_values (all_placed_in config s entries)) → Lives s → Lives t
  lives-records [] s t e counts lives = let is : s ≡ t = cc in subst Lives is lives
  lives-records (entry ∷ entries) s t e counts lives =
      go (after_record config s entry) refl e
      (subst (Each Counts) (filter_map-append (λ (placed : PlacedStep). placed.effect.value) (placed_in config s entry) (option_map_or (λ u. all_placed_in config u entries) (after_record config s entry) [])) counts)
      (λ u. lives-records entries u t)
    where
      go : (o : Option Situation) → after_record config s entry ≡ o → option_and_then (λ u. after_records config u entries) o ≡ Some t
          → Each Counts (accepted_values (placed_in config s entry) ++ accepted_values (option_map_or (λ u. all_placed_in config u entries) o []))
          → ((u : Situation) → after_records config u entries ≡ Some t → Each Counts (accepted_values (all_placed_in config u entries)) → Lives u → Lives t) → Lives t
      go None k e c ih = absurd (true≢false (sym (ap is_some e)))
      go (Some u) k e c ih =
          let parts = each-parts Counts (accepted_values (placed_in config s entry)) (accepted_values (all_placed_in config u entries)) c in
          ih u e parts.1 (lives-record entry s u k parts.0 lives)

each-all : {X : Type 0} (P : X → Type 0) (xs : List X) → All P xs → Each P xs
each-all P [] h = tt
each-all P (x ∷ xs) h = (All-head P x xs h, each-all P xs (All-tail P x xs h))

-- a key without a live value has none that counts, whatever counts
none-lives : (config : Config) (key : List ℕ) (Counts : Value → Type 0) (s : Situation) → live_at config s.latest s.held key ≡ None → Lives config key Counts s
none-lives config key Counts s none = missed (λ h. same key h.value.key && is_live_at config s.latest h) (λ h. h.value) Counts s.held none

-- and if each live value of a key counts, its live value does
one-counts : (config : Config) (key : List ℕ) (Counts : Value → Type 0) (now : ℕ) (held : List HeldValue) → Each (Stays config key Counts now) held → (value : Value) → live_at config now held key ≡ Some value → Counts value
one-counts config key Counts now held lives value live = found (λ h. same key h.value.key && is_live_at config now h) (λ h. h.value) Counts held lives value live

nothing : (o : Option Value) → ((value : Value) → o ≡ Some value → ⊥) → o ≡ None
nothing None never = refl
nothing (Some value) never = absurd (never value refl)

live-event : (config : Config) (e : Event) (s : Situation) (key : List ℕ) → live_at config s.latest s.held key ≡ None → live_at config (after_event e s).latest (after_event e s).held key ≡ None
live-event config e s key none =
    let t = after_event e s in
    nothing (live_at config t.latest t.held key) (one-counts config key (λ _. ⊥) t.latest t.held (lives-event config key (λ _. ⊥) e s (none-lives config key (λ _. ⊥) s none)))

itself-counts : (o : Option Value) → Each (λ v. o ≡ Some v) (option_to_list o)
itself-counts None = tt
itself-counts (Some v) = (refl, tt)

live-step : (config : Config) (s : Situation) (task : Option Task) (step : Step) (key : List ℕ) (value : Value) → live_at config s.latest s.held key ≡ None
    → (let t = after_step config s task step (placed_step_in config s task step).effect in live_at config t.latest t.held key ≡ Some value) → (placed_step_in config s task step).effect.value ≡ Some value
live-step config s task step key value none live =
    let placed = placed_step_in config s task step in
    let Counts : Value → Type 0 = λ v. placed.effect.value ≡ Some v in
    let t = after_step config s task step placed.effect in
    one-counts config key Counts t.latest t.held (lives-step config key Counts s placed (none-lives config key Counts s none) (itself-counts placed.effect.value)) value live

-- steps of one record keep that each live value counts, if those that they accept do
lives-front : (config : Config) (key : List ℕ) (Counts : Value → Type 0) (front : List Step) (stage reached : Stage) → stage_after config stage front ≡ Some reached
    → Each Counts (accepted_values (placed_steps_in config stage.situation stage.left front)) → Lives config key Counts stage.situation → Lives config key Counts reached.situation
lives-front config key Counts [] stage reached e counts lives = let is : stage ≡ reached = cc in subst (λ (u : Stage). Lives config key Counts u.situation) is lives
lives-front config key Counts (step ∷ front) stage reached e counts lives =
    let s = stage.situation in
    let now_due = due (may_run_in s) stage.left in
    let placed = placed_step_in config s (first_due now_due) step in
    let next : Stage = record { situation = after_step config s placed.task step placed.effect; left = left_after now_due } in
    let later = accepted_values (placed_steps_in config next.situation next.left front) in
    let split = first-counts config key Counts placed.effect.value later (subst (Each Counts) (as_append config key Counts placed.effect.value later) counts) in
    lives-front config key Counts front next reached (some_rest config step front stage reached e) split.1 (lives-step config key Counts s placed lives split.0)

itself-contained : (accepted : List Value) → Each (Contains accepted) accepted
itself-contained accepted = each-all (Contains accepted) accepted (All-contains_itself accepted)

live-steps : (config : Config) (stage reached : Stage) (front : List Step) (key : List ℕ) (value : Value) → stage_after config stage front ≡ Some reached
    → live_at config stage.situation.latest stage.situation.held key ≡ None → live_at config reached.situation.latest reached.situation.held key ≡ Some value
    → Contains (accepted_values (placed_steps_in config stage.situation stage.left front)) value
live-steps config stage reached front key value e none live =
    let accepted = accepted_values (placed_steps_in config stage.situation stage.left front) in
    one-counts config key (Contains accepted) reached.situation.latest reached.situation.held
    (lives-front config key (Contains accepted) front stage reached e (itself-contained accepted) (none-lives config key (Contains accepted) stage.situation none)) value live

live-records : (config : Config) (records : List Record) (s t : Situation) (key : List ℕ) (value : Value) → after_records config s records ≡ Some t
    → live_at config s.latest s.held key ≡ None → live_at config t.latest t.held key ≡ Some value → Contains (accepted_values (all_placed_in config s records)) value
live-records config records s t key value e none live =
    let accepted = accepted_values (all_placed_in config s records) in
    one-counts config key (Contains accepted) t.latest t.held
    (lives-records config key (Contains accepted) records s t e (itself-contained accepted) (none-lives config key (Contains accepted) s none)) value live

pub live_by_acceptance : LiveByAcceptance
live_by_acceptance = record { event = live-event; step = live-step; steps = live-steps; records = live-records }
