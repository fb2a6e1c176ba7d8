-- A closed connection's bytes count no more, whatever is fed to it.
use Rattle.std.proofs.Common.{inr, inl, ◌≡◌, refl, ap, ◌∙◌, sym, subst, ℕ, ◌≤◌, Bool, true, false, true≢false, not, ◌&&◌, ◌||◌, cond, List, [], ◌∷◌, ◌++◌, map, length, length-append, Option, Some, None, is_some, is_none, nat_lt, arith}
use Rattle.std.specs.Prelude.{◌==◌}
use Rattle.std.specs.List.{list_all, filter, cons_option}
use Rattle.std.proofs.Math.Path.{fun_ext}
use Rattle.std.proofs.lemmas.Bool.{cases_Bool, and_parts, and_right, eqb-true}
use Rattle.std.proofs.lemmas.Bool.Decides.{nat_tests}
use Rattle.audit_model.specs.Bytewise.{cut_at, is_empty}
use Rattle.audit_model.specs.History.{Effect}
use Rattle.audit_model.specs.Obeys.{is_numbered, has_right_own_value, accepted_values}
use Rattle.audit_model.specs.Places.{happening_of, tasks_to_answer, tasks_to_give_up, due, first_due, left_after, steps_of}
use Rattle.audit_model.specs.Steps.{Task, Store, Deliver, RunAgain, RunHeld, RunLines, PlacedStep, is_task_of, is_in_turn, is_right}
use Rattle.audit_model.specs.Stream.{is_held, is_waiting, first_line}
use Rattle.audit_model.specs.declared.command.Closing.{Closing}
use Rattle.audit_model.specs.declared.command.Closing.TheVariants as by
use Rattle.audit_model.specs.declared.config.Config.{Config}
use Rattle.audit_model.specs.declared.event.Event.{Event}
use Rattle.audit_model.specs.declared.event.Event.TheVariants as event
use Rattle.audit_model.specs.declared.event.Outcome.{Outcome}
use Rattle.audit_model.specs.declared.transcript.Record.{Record}
use Rattle.audit_model.specs.declared.transcript.Step.{Step}
use Rattle.audit_laws.proofs.Connections.{Facts, last_is, bytes_left, unread_in, open_in, closing_in}
use Rattle.audit_laws.proofs.CutTraces.{runs_by, unread-more, ran-other, with_own, own-with}
use Rattle.audit_laws.proofs.FedMore.{cut-longer}
use Rattle.audit_laws.proofs.LinesRead.{Complete, with_bytes, complete-fed}
use Rattle.audit_laws.proofs.Told.{Each, each-append}
use Rattle.audit_laws.proofs.Traces.{Traces, ran_on, then_traces, may_by, tasks_by, waiting_by, key_by, effect_by, placed_by, Walked, then_step, walk_by, walked_by, is_right_by, are_right_by, values_by}

-- it is closed, and holds nothing back
pub record Shut (f : Facts) : Type 0 where
  pub shut : is_some (closing_in f) ≡ true
  pub unheld : last_is is_held f.effect ≡ false
  pub complete : Complete f

-- ---- it stays closed

shut_by : (c q w h A B A' B' : Bool) → (A ≡ true → A' ≡ true) → (B ≡ true → B' ≡ true)
    → is_some (cond c (Some by.Asked) (cond q (Some by.Quit) (cond (w && A) (Some by.Behind) (cond (not w && not h && B) (Some by.Long) None)))) ≡ true
    → is_some (cond c (Some by.Asked) (cond q (Some by.Quit) (cond (w && A') (Some by.Behind) (cond (not w && not h && B') (Some by.Long) None)))) ≡ true
shut_by c q w h A B A' B' f g e = grind (arith, f, g, e)

over_more : (m n : ℕ) → m ≤ n → nat_lt 8192 m ≡ true → nat_lt 8192 n ≡ true
over_more m n h e = grind (arith, nat_tests)

pub shut-fed : (piece : List ℕ) (f : Facts) → Shut f → Shut (with_bytes piece f)
shut-fed piece f s =
    record {
      shut =
          shut_by f.closed f.quit (last_is is_waiting f.effect) (last_is is_held f.effect) _ _ (nat_lt 8192 (length (unread_in (with_bytes piece f)))) (nat_lt 8192 (length (cut_at 10 (unread_in (with_bytes piece f))).0))
          (λ e. ap (λ bs. nat_lt 8192 (length bs)) unread ∙ over_more _ _ (longer (unread_in f)) e)
          (λ e. ap (λ bs. nat_lt 8192 (length (cut_at 10 bs).0)) unread ∙ over_more _ _ (cut-longer (unread_in f) piece) e) s.shut;
      unheld = s.unheld;
      complete = complete-fed piece f s.complete;
    }
  where
    unread : unread_in (with_bytes piece f) ≡ unread_in f ++ piece
    unread = unread-more f piece s.complete

    longer : (xs : List ℕ) → length xs ≤ length (xs ++ piece)
    longer xs = omega (arith, length-append xs piece)

shut-opened : (b : Bool) (f : Facts) → Shut f → Shut (record f { opened = b })
shut-opened b f s = record { shut = s.shut; unheld = s.unheld; complete = record { answered = s.complete.answered; read = s.complete.read } }

shut-closed : (b : Bool) (f : Facts) → Shut f → Shut (record f { closed = b || f.closed })
shut-closed true f s = record { shut = refl; unheld = s.unheld; complete = record { answered = s.complete.answered; read = s.complete.read } }
shut-closed false f s = s

none_of : (o : Option Closing) → is_some o ≡ true → is_none o ≡ false
none_of (Some x) e = refl
none_of None e = absurd (true≢false (sym e))

pub not-open : (f : Facts) → Shut f → open_in f ≡ false
not-open f s = and_right f.opened (is_none (closing_in f)) (none_of (closing_in f) s.shut)

pub not-run : (f : Facts) → Shut f → runs_by f ≡ false
not-run f s = ap (λ b. b && not (last_is is_waiting f.effect) && not (last_is is_held f.effect) && is_some (first_line (unread_in f))) (not-open f s)

in_its_turn : (config : Config) (p : PlacedStep) → is_right config p ≡ true → is_in_turn p ≡ true
in_its_turn config p e = grind (arith, nat_tests)

module _ (config : Config) (conn : ℕ) where
  -- it is closed, also with those bytes
  pub record BothShut (bytes : List ℕ) (t : Traces) : Type 0 where
    pub here : Shut (t.connection conn)
    pub there : Shut (record (t.connection conn) { bytes = bytes })

  abbrev other : List ℕ → Traces → Traces
  other bytes t = with_own config conn bytes t

  same-of : (test : Facts → Bool) (bytes : List ℕ) (t : Traces) → test (record (t.connection conn) { bytes = bytes }) ≡ false → test (t.connection conn) ≡ false → (c : ℕ) (same : Bool) → (c == conn) ≡ same
      → test ((other bytes t).connection c) ≡ test (t.connection c)
  same-of test bytes t h k c true e =
      ap (λ d. test ((other bytes t).connection d)) (eqb-true c conn e) ∙ ap test (own-with config conn bytes t) ∙ h ∙ sym (ap (λ d. test (t.connection d)) (eqb-true c conn e) ∙ k)
  same-of test bytes t h k c false e = ap (λ s. test (record (t.connection c) { bytes = cond s bytes (t.connection c).bytes })) e

  module _ (bytes : List ℕ) (t : Traces) (s : BothShut bytes t) where
    pub may-same : may_by config (other bytes t) ≡ may_by config t
    may-same = fun_ext (λ c. same-of runs_by bytes t (not-run _ s.there) (not-run _ s.here) c (c == conn) refl)

    abbrev opens : Traces → ℕ → Bool
    opens u c = open_in (u.connection c)

    open-same : opens (other bytes t) ≡ opens t
    open-same = fun_ext (λ c. same-of open_in bytes t (not-open _ s.there) (not-open _ s.here) c (c == conn) refl)

    waiting-same : (key : Option (List ℕ)) → waiting_by config (other bytes t) key ≡ waiting_by config t key
    waiting-same None = refl
    waiting-same (Some key) = ap (λ p. filter p (t.waiters key)) open-same

    tasks-same : (e : Event) → tasks_by config (other bytes t) e ≡ tasks_by config t e
    tasks-same (event.Open c) = refl
    tasks-same (event.Close c) = refl
    tasks-same (event.Feed c piece moment) = refl
    tasks-same (event.Answer load outcome moment) = ap (tasks_to_answer (key_by config t load) outcome) (waiting-same (key_by config t load))
    tasks-same (event.GiveUp load moment) = ap tasks_to_give_up (waiting-same (key_by config t load))

  -- ---- no task but of other connections

  abbrev Away : Task → Type 0
  Away (Store key outcome) = Unit {0}
  Away (Deliver c outcome) = (c == conn) ≡ false
  Away (RunAgain c) = (c == conn) ≡ false
  Away (RunHeld c) = (c == conn) ≡ false
  Away (RunLines c) = Unit {0}

  abbrev AwayNow : Option Task → Type 0
  AwayNow None = Unit {0}
  AwayNow (Some (Store key outcome)) = Unit {0}
  AwayNow (Some (Deliver c outcome)) = (c == conn) ≡ false
  AwayNow (Some (RunAgain c)) = (c == conn) ≡ false
  AwayNow (Some (RunHeld c)) = (c == conn) ≡ false
  AwayNow (Some (RunLines c)) = (c == conn) ≡ false

  due-away : (may : ℕ → Bool) → may conn ≡ false → (tasks : List Task) → Each Away tasks → AwayNow (first_due (due may tasks)) × Each Away (left_after (due may tasks))
  due-away may not_own [] h = (tt, tt)
  due-away may not_own (RunLines c ∷ tasks) (a, h) = let next = due-away may not_own tasks h in grind (arith, nat_tests, next)
  due-away may not_own (Store key outcome ∷ tasks) (a, h) = (tt, h)
  due-away may not_own (Deliver c outcome ∷ tasks) (a, h) = (a, h)
  due-away may not_own (RunAgain c ∷ tasks) (a, h) = (a, h)
  due-away may not_own (RunHeld c ∷ tasks) (a, h) = (a, h)

  filtered : (p : ℕ → Bool) → p conn ≡ false → (cs : List ℕ) → Each (λ c. (c == conn) ≡ false) (filter p cs)
  filtered p not_own [] = tt
  filtered p not_own (c ∷ cs) = let next = filtered p not_own cs in grind (arith, nat_tests, next)

  waiting-away : (t : Traces) → Shut (t.connection conn) → (key : Option (List ℕ)) → Each (λ c. (c == conn) ≡ false) (waiting_by config t key)
  waiting-away t s None = tt
  waiting-away t s (Some key) = filtered (λ c. open_in (t.connection c)) (not-open _ s) (t.waiters key)

  delivers-away : (outcome : Outcome) (cs : List ℕ) → Each (λ c. (c == conn) ≡ false) cs → Each Away (map (λ c. Deliver c outcome) cs)
  delivers-away outcome [] h = tt
  delivers-away outcome (c ∷ cs) (a, h) = (a, delivers-away outcome cs h)

  lines-away : (cs : List ℕ) → Each Away (map RunLines cs)
  lines-away [] = tt
  lines-away (c ∷ cs) = (tt, lines-away cs)

  given_up-away : (cs : List ℕ) → Each (λ c. (c == conn) ≡ false) cs → Each Away (tasks_to_give_up cs)
  given_up-away [] h = tt
  given_up-away (c ∷ cs) (a, h) = (a, (tt, given_up-away cs h))

  tasks-away : (t : Traces) → Shut (t.connection conn) → (e : Event) → Each Away (tasks_by config t e)
  tasks-away t s (event.Open c) = tt
  tasks-away t s (event.Close c) = tt
  tasks-away t s (event.Feed c piece moment) = grind (arith, nat_tests)
  tasks-away t s (event.Answer load outcome moment) =
      let cs = waiting_by config t (key_by config t load) in
      (tt, each-append Away (map (λ c. Deliver c outcome) cs) (map RunLines cs) (delivers-away outcome cs (waiting-away t s (key_by config t load))) (lines-away cs))
  tasks-away t s (event.GiveUp load moment) = given_up-away (waiting_by config t (key_by config t load)) (waiting-away t s (key_by config t load))

  -- ---- steps

  module _ (bytes : List ℕ) (t : Traces) where
    abbrev lined : Task → Step → Option (List ℕ) → PlacedStep
    lined task x line = record (placed_by config t (Some task) x) { line = line }

    abbrev line_in : Traces → Step → Option (List ℕ)
    line_in u x = first_line (bytes_left (u.connection x.conn))

    beside : (task : Task) (c : ℕ) (x : Step) → is_task_of x.conn (Some task) ≡ (c == x.conn) → (c == conn) ≡ false
        → is_right config (lined task x (line_in (other bytes t) x)) ≡ is_right config (lined task x (line_in t x))
    beside task c x e a = grind (arith, nat_tests)

    right-same : (o : Option Task) (x : Step) → AwayNow o → is_right config (placed_by config (other bytes t) o x) ≡ is_right config (placed_by config t o x)
    right-same None x a = refl
    right-same (Some (Store key outcome)) x a = refl
    right-same (Some (Deliver c outcome)) x a = beside (Deliver c outcome) c x refl a
    right-same (Some (RunAgain c)) x a = beside (RunAgain c) c x refl a
    right-same (Some (RunHeld c)) x a = beside (RunHeld c) c x refl a
    right-same (Some (RunLines c)) x a = beside (RunLines c) c x refl a

    then-same : (o : Option Task) (x : Step) → then_step config (other bytes t) o x ≡ other bytes (then_step config t o x)
    then-same None x = refl
    then-same (Some (Store key outcome)) x = refl
    then-same (Some (Deliver c outcome)) x = refl
    then-same (Some (RunAgain c)) x = refl
    then-same (Some (RunHeld c)) x = refl
    then-same (Some (RunLines c)) x = refl

    ran-shut : (effect : Effect) (c n : ℕ) → (c == n) ≡ true → (c == conn) ≡ false → Shut (t.connection conn) → Shut (record (t.connection conn) { bytes = bytes })
        → Shut (ran_on effect (t.connection conn) (n == conn)) × Shut (record (ran_on effect (t.connection conn) (n == conn)) { bytes = bytes })
    ran-shut effect c n e a s r =
        let q = ap (ran_on effect (t.connection conn)) (ap (λ d. d == conn) (sym (eqb-true c n e)) ∙ a) ∙ ran-other effect (t.connection conn) in
        (subst Shut (sym q) s, subst Shut (ap (λ (f : Facts). record f { bytes = bytes }) (sym q)) r)

    both-of : (u : Traces) → Shut (u.connection conn) × Shut (record (u.connection conn) { bytes = bytes }) → BothShut bytes u
    both-of u h = record { here = h.0; there = h.1 }

    shut-then : (o : Option Task) (x : Step) → AwayNow o → is_right config (placed_by config t o x) ≡ true → BothShut bytes t → BothShut bytes (then_step config t o x)
    shut-then None x a r s = absurd (true≢false (sym r))
    shut-then (Some (Store key outcome)) x a r s = record { here = s.here; there = s.there }
    shut-then (Some (Deliver c outcome)) x a r s =
        both-of (then_step config t (Some (Deliver c outcome)) x) (ran-shut (effect_by config t (Some (Deliver c outcome)) x) c x.conn (in_its_turn config (placed_by config t (Some (Deliver c outcome)) x) r) a s.here s.there)
    shut-then (Some (RunAgain c)) x a r s =
        both-of (then_step config t (Some (RunAgain c)) x) (ran-shut (effect_by config t (Some (RunAgain c)) x) c x.conn (in_its_turn config (placed_by config t (Some (RunAgain c)) x) r) a s.here s.there)
    shut-then (Some (RunHeld c)) x a r s =
        both-of (then_step config t (Some (RunHeld c)) x) (ran-shut (effect_by config t (Some (RunHeld c)) x) c x.conn (in_its_turn config (placed_by config t (Some (RunHeld c)) x) r) a s.here s.there)
    shut-then (Some (RunLines c)) x a r s =
        both-of (then_step config t (Some (RunLines c)) x) (ran-shut (effect_by config t (Some (RunLines c)) x) c x.conn (in_its_turn config (placed_by config t (Some (RunLines c)) x) r) a s.here s.there)

  -- ---- walks

  abbrev Right : Walked → Bool
  Right w = list_all (is_right config) w.placed

  -- the same is left, the same values were accepted, and only the bytes differ still
  pub record Then (bytes : List ℕ) (w' w : Walked) : Type 0 where
    pub left : w'.left ≡ w.left
    pub values : accepted_values w'.placed ≡ accepted_values w.placed
    pub after : w'.after ≡ with_own config conn bytes w.after
    pub shut : BothShut bytes w.after

  pub record SameWalk (bytes : List ℕ) (w' w : Walked) : Type 0 where
    pub right : list_all (is_right config) w'.placed ≡ list_all (is_right config) w.placed
    pub then' : list_all (is_right config) w.placed ≡ true → Then bytes w' w

  abbrev onto : PlacedStep → Walked → Walked
  onto placed w = record { placed = placed ∷ w.placed; left = w.left; after = w.after }

  walk-on : (bytes : List ℕ) (t : Traces) (o : Option Task) (x : Step) (w' w : Walked) → AwayNow o
      → (is_right config (placed_by config t o x) ≡ true → SameWalk bytes w' w) → SameWalk bytes (onto (placed_by config (other bytes t) o x) w') (onto (placed_by config t o x) w)
  walk-on bytes t o x w' w a f =
      elim (cases_Bool (is_right config (placed_by config t o x))) [
        | inl is ↦ let ih : SameWalk bytes w' w = f is in record { right = ap (λ b. b && Right w') (right-same bytes t o x a) ∙ ap (λ b. is_right config (placed_by config t o x) && b) ih.right; then' = λ z. let h : Then bytes w' w = ih.then' (and_parts (is_right config (placed_by config t o x)) (Right w) z).1 in record { left = h.left; values = ap (cons_option (effect_by config t o x).value) h.values; after = h.after; shut = h.shut } }
        | inr is ↦ record { right = ap (λ b. b && Right w') (right-same bytes t o x a ∙ is) ∙ sym (ap (λ b. b && Right w) is); then' = λ z. absurd (true≢false (sym z ∙ ap (λ b. b && Right w) is)) }
      ]

  shut-walk : (steps : List Step) (bytes : List ℕ) (t : Traces) (tasks : List Task) → Each Away tasks → BothShut bytes t
      → SameWalk bytes (walk_by config (other bytes t) tasks steps) (walk_by config t tasks steps)
  shut-walk [] bytes t tasks h s =
      record { right = refl; then' = λ z. record { left = ap (λ may. due may tasks) (may-same bytes t s); values = refl; after = refl; shut = s } }
  shut-walk (x ∷ steps) bytes t tasks h s =
      let now = due (may_by config t) tasks in
      let away = due-away (may_by config t) (not-run _ s.here) tasks h in
      let o = first_due now in
      subst (λ may. SameWalk bytes (onto (placed_by config (other bytes t) (first_due (due may tasks)) x) (walk_by config (then_step config (other bytes t) (first_due (due may tasks)) x) (left_after (due may tasks)) steps)) (walk_by config t tasks (x ∷ steps)))
      (sym (may-same bytes t s))
      (walk-on bytes t o x (walk_by config (then_step config (other bytes t) o x) (left_after now) steps) (walk_by config (then_step config t o x) (left_after now) steps) away.0
      (λ r. subst (λ u. SameWalk bytes (walk_by config u (left_after now) steps) (walk_by config (then_step config t o x) (left_after now) steps)) (sym (then-same bytes t o x))
      (shut-walk steps bytes (then_step config t o x) (left_after now) away.1 (shut-then bytes t o x away.0 r s))))

  -- ---- records

  -- after an event only the bytes differ still
  record AfterEvent (bytes : List ℕ) (t : Traces) (e : Event) : Type 0 where
    bytes' : List ℕ
    same : then_traces config (happening_of e) (other bytes t) ≡ other bytes' (then_traces config (happening_of e) t)
    shut : BothShut bytes' (then_traces config (happening_of e) t)

  fed_one : (bytes piece : List ℕ) (t : Traces) (d c : ℕ) (same : Bool) → (c == conn) ≡ same
      → cond (c == conn) bytes (t.connection c).bytes ++ cond (d == c) piece [] ≡ cond (c == conn) (bytes ++ cond (d == conn) piece []) ((t.connection c).bytes ++ cond (d == c) piece [])
  fed_one bytes piece t d c true e =
      ap (λ b. cond b bytes (t.connection c).bytes ++ cond (d == c) piece []) e ∙ ap (λ n. bytes ++ cond (d == n) piece []) (eqb-true c conn e)
      ∙ sym (ap (λ b. cond b (bytes ++ cond (d == conn) piece []) ((t.connection c).bytes ++ cond (d == c) piece [])) e)
  fed_one bytes piece t d c false e =
      ap (λ b. cond b bytes (t.connection c).bytes ++ cond (d == c) piece []) e
      ∙ sym (ap (λ b. cond b (bytes ++ cond (d == conn) piece []) ((t.connection c).bytes ++ cond (d == c) piece [])) e)

  shut-event : (bytes : List ℕ) (t : Traces) (e : Event) → BothShut bytes t → AfterEvent bytes t e
  shut-event bytes t (event.Open d) s =
      record { bytes' = bytes; same = refl; shut = record { here = shut-opened ((d == conn) || (t.connection conn).opened) (t.connection conn) s.here; there = shut-opened ((d == conn) || (t.connection conn).opened) (record (t.connection conn) { bytes = bytes }) s.there } }
  shut-event bytes t (event.Close d) s =
      record { bytes' = bytes; same = refl; shut = record { here = shut-closed (d == conn) (t.connection conn) s.here; there = shut-closed (d == conn) (record (t.connection conn) { bytes = bytes }) s.there } }
  shut-event bytes t (event.Feed d piece moment) s =
      record {
        bytes' = bytes ++ cond (d == conn) piece [];
        same =
            ap (λ (bs : ℕ → List ℕ). record (then_traces config (happening_of (event.Feed d piece moment)) t) { connection = λ c. record (t.connection c) { bytes = bs c } })
            (fun_ext (λ c. fed_one bytes piece t d c (c == conn) refl));
        shut =
            record {
              here = shut-fed (cond (d == conn) piece []) (t.connection conn) s.here;
              there = shut-fed (cond (d == conn) piece []) (record (t.connection conn) { bytes = bytes }) s.there;
            };
      }
  shut-event bytes t (event.Answer load outcome moment) s = record { bytes' = bytes; same = refl; shut = record { here = s.here; there = s.there } }
  shut-event bytes t (event.GiveUp load moment) s = record { bytes' = bytes; same = refl; shut = record { here = s.here; there = s.there } }

  record SameRecord (t' t : Traces) (entry : Record) : Type 0 where
    bytes' : List ℕ
    walk : SameWalk bytes' (walked_by config t' entry) (walked_by config t entry)

  shut-record : (bytes : List ℕ) (t : Traces) (entry : Record) → BothShut bytes t → SameRecord (other bytes t) t entry
  shut-record bytes t entry s =
      let e = entry.event in
      let a : AfterEvent bytes t e = shut-event bytes t e s in
      record {
        bytes' = a.bytes';
        walk =
            subst (λ u. SameWalk a.bytes' (walk_by config u (tasks_by config (other bytes t) e) (steps_of entry)) (walked_by config t entry)) (sym a.same)
            (subst (λ ts. SameWalk a.bytes' (walk_by config (other a.bytes' (then_traces config (happening_of e) t)) ts (steps_of entry)) (walked_by config t entry)) (sym (tasks-same bytes t s e))
            (shut-walk (steps_of entry) a.bytes' (then_traces config (happening_of e) t) (tasks_by config t e) (tasks-away t s.here e) a.shut));
      }

  and_where : (a a' b r r' : Bool) → r' ≡ r → (r ≡ true → a' ≡ a) → (a' && b && r') ≡ (a && b && r)
  and_where a a' b r r' e f = grind (arith, e, f)

  pub record SameRecords (t' t : Traces) (entries : List Record) : Type 0 where
    pub right : are_right_by config t' entries ≡ are_right_by config t entries
    pub values : are_right_by config t entries ≡ true → values_by config t' entries ≡ values_by config t entries

  record-right : (bytes : List ℕ) (t : Traces) (entry : Record) → BothShut bytes t → is_right_by config (other bytes t) entry ≡ is_right_by config t entry
  record-right bytes t entry s =
      let one : SameRecord (other bytes t) t entry = shut-record bytes t entry s in
      and_where _ _ (has_right_own_value entry) (Right (walked_by config t entry)) (Right (walked_by config (other bytes t) entry)) one.walk.right
      (λ r. ap (λ ts. is_numbered t.count entry.event && is_empty ts) (one.walk.then' r).left)

  -- the same records are right, and accept the same
  pub shut-records : (entries : List Record) (bytes : List ℕ) (t : Traces) → BothShut bytes t → SameRecords (with_own config conn bytes t) t entries
  shut-records [] bytes t s = record { right = refl; values = λ z. refl }
  shut-records (entry ∷ entries) bytes t s = elim (cases_Bool (is_right_by config t entry)) [ inl e ↦ right_one e (λ bs u h. shut-records entries bs u h) | inr e ↦ wrong_one e ]
    where
      wrong_one : is_right_by config t entry ≡ false → SameRecords (other bytes t) t (entry ∷ entries)
      wrong_one e =
          record {
            right = ap (λ b. b && are_right_by config (walked_by config (other bytes t) entry).after entries) (record-right bytes t entry s ∙ e) ∙ sym (ap (λ b. b && are_right_by config (walked_by config t entry).after entries) e);
            values = λ z. absurd (true≢false (sym z ∙ ap (λ b. b && are_right_by config (walked_by config t entry).after entries) e));
          }

      right_one : is_right_by config t entry ≡ true → ((bs : List ℕ) (u : Traces) → BothShut bs u → SameRecords (with_own config conn bs u) u entries) → SameRecords (other bytes t) t (entry ∷ entries)
      right_one e ih =
          let one : SameRecord (other bytes t) t entry = shut-record bytes t entry s in
          let h : Then one.bytes' (walked_by config (other bytes t) entry) (walked_by config t entry) = one.walk.then' (and_parts (is_numbered t.count entry.event && is_empty (walked_by config t entry).left && has_right_own_value entry) _ e).1 in
          let more : SameRecords (with_own config conn one.bytes' (walked_by config t entry).after) (walked_by config t entry).after entries = ih one.bytes' (walked_by config t entry).after h.shut in
          record {
            right =
                ap (λ b. b && are_right_by config (walked_by config (other bytes t) entry).after entries) (record-right bytes t entry s)
                ∙ ap (λ u. is_right_by config t entry && are_right_by config u entries) h.after
                ∙ ap (λ b. is_right_by config t entry && b) more.right;
            values =
                λ z.
                ap (λ vs. vs ++ values_by config (walked_by config (other bytes t) entry).after entries) h.values
                ∙ ap (λ u. accepted_values (walked_by config t entry).placed ++ values_by config u entries) h.after
                ∙ ap (λ vs. accepted_values (walked_by config t entry).placed ++ vs) (more.values (and_parts (is_right_by config t entry) _ z).1);
          }
