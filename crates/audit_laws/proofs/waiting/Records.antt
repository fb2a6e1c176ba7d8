-- Records that follow, and who waits after them.
use Rattle.std.proofs.Common.{inr, inl, ◌≡◌, ℕ, ◌+◌, ◌≤◌, max, Bool, true, false, not, ◌&&◌, ◌==◌, List, [], ◌∷◌, ◌++◌, map, Option, Some, None, if◌then◌else◌, refl, sym, ap, ◌∙◌, subst, arith}
use Rattle.std.specs.Prelude.{length, nat_lt, ◌||◌}
use Rattle.std.specs.List.{find, flat_map}
use Rattle.std.specs.Option.{option_map_or}
use Rattle.std.proofs.lemmas.Bool.{cases_Bool, eqb-true}
use Rattle.std.proofs.lemmas.List.{append-nil}
use Rattle.audit_model.specs.Bytewise.{cut_at}
use Rattle.audit_model.specs.Changes.{after_step}
use Rattle.audit_model.specs.Follows.{Follows, after_event, after_steps, placed_step_in, tasks_in, without_load}
use Rattle.audit_model.specs.Places.{due, first_due, left_after, steps_of, tasks_to_answer, tasks_to_feed, tasks_to_give_up}
use Rattle.audit_model.specs.Situation.{Situation, Connection, Standing, Ready, Held, Waiting, is_ready, connection_in, is_holding, is_holding_in, is_waiting_now, pending_key, may_run_in, waiting_in, with_connection, without_connection, without_number, without_waiting}
use Rattle.audit_model.specs.Steps.{Task, Store, Deliver, RunAgain, RunHeld, RunLines, is_right}
use Rattle.audit_model.specs.declared.config.Config.{Config}
use Rattle.audit_model.specs.declared.event.Event.{Event}
use Rattle.audit_model.specs.declared.event.Event.TheVariants as event
use Rattle.audit_model.specs.declared.event.Outcome.{Outcome}
use Rattle.audit_model.specs.declared.transcript.Record.{Record}
use Rattle.audit_model.specs.declared.transcript.Step.{Step}
use Rattle.audit_laws.specs.Waiting.Tidy.{SuitsTask, Tidy, times_loaded, times_waiting, told_of_load, waits_now}
use Rattle.audit_laws.proofs.waiting.Counts.{fewer-loaded, loaded-out, one_if, settled-out, waiting-others, waiting-out}
use Rattle.audit_laws.proofs.waiting.Standing.{found-left, found-own, put-tidy, wait_of}
use Rattle.audit_laws.proofs.waiting.Turns.{found-number, steps}
use Rattle.std.proofs.lemmas.Bool.Decides.{nat_tests}
use Rattle.audit_laws.proofs.Following.{passed}

-- those that the tasks tell of their load
abbrev pub told_in : List Task → List ℕ
told_in tasks = flat_map told_of_load tasks

-- none of the tasks runs a held command
abbrev pub has_no_held : List Task → Bool
has_no_held [] = true
has_no_held (RunHeld conn ∷ tasks) = false
has_no_held (task ∷ tasks) = has_no_held tasks

-- ---- what is due

pub told-due : (may : ℕ → Bool) (tasks : List Task) → told_in (due may tasks) ≡ told_in tasks
told-due may [] = refl
told-due may (Store key outcome ∷ tasks) = refl
told-due may (Deliver conn outcome ∷ tasks) = refl
told-due may (RunAgain conn ∷ tasks) = refl
told-due may (RunHeld conn ∷ tasks) = refl
told-due may (RunLines conn ∷ tasks) = let next = told-due may tasks in grind (arith, nat_tests, next)

pub no-held-due : (may : ℕ → Bool) (tasks : List Task) → has_no_held tasks ≡ true → has_no_held (due may tasks) ≡ true
no-held-due may [] e = refl
no-held-due may (Store key outcome ∷ tasks) e = e
no-held-due may (Deliver conn outcome ∷ tasks) e = e
no-held-due may (RunAgain conn ∷ tasks) e = e
no-held-due may (RunHeld conn ∷ tasks) e = e
no-held-due may (RunLines conn ∷ tasks) e = let next = no-held-due may tasks e in grind (arith, nat_tests, next)

-- lines that are due may run
may-due : (may : ℕ → Bool) (tasks : List Task) (conn : ℕ) (rest : List Task) → due may tasks ≡ RunLines conn ∷ rest → may conn ≡ true
may-due may [] conn rest e = let no : [] ≡ RunLines conn ∷ rest = e in cc
may-due may (Store key outcome ∷ tasks) conn rest e = let no : Store key outcome ∷ tasks ≡ RunLines conn ∷ rest = e in cc
may-due may (Deliver c outcome ∷ tasks) conn rest e = let no : Deliver c outcome ∷ tasks ≡ RunLines conn ∷ rest = e in cc
may-due may (RunAgain c ∷ tasks) conn rest e = let no : RunAgain c ∷ tasks ≡ RunLines conn ∷ rest = e in cc
may-due may (RunHeld c ∷ tasks) conn rest e = let no : RunHeld c ∷ tasks ≡ RunLines conn ∷ rest = e in cc
may-due may (RunLines c ∷ tasks) conn rest e = let next = may-due may tasks conn rest in grind (arith, nat_tests, next, e)

pub told-left : (task : Task) (rest : List Task) → told_in (left_after (task ∷ rest)) ≡ told_in rest
told-left (Store key outcome) rest = refl
told-left (Deliver conn outcome) rest = refl
told-left (RunAgain conn) rest = refl
told-left (RunHeld conn) rest = refl
told-left (RunLines conn) rest = refl

pub no-held-left : (task : Task) (rest : List Task) → has_no_held (task ∷ rest) ≡ true → has_no_held (left_after (task ∷ rest)) ≡ true
no-held-left (Store key outcome) rest e = e
no-held-left (Deliver conn outcome) rest e = e
no-held-left (RunAgain conn) rest e = e
no-held-left (RunHeld conn) rest e = let no : false ≡ true = e in cc
no-held-left (RunLines conn) rest e = e

pub fit-due : (s : Situation) (tasks : List Task) (task : Task) (rest : List Task) → due (may_run_in s) tasks ≡ task ∷ rest → has_no_held (task ∷ rest) ≡ true → SuitsTask task s
fit-due s tasks (Store key outcome) rest e none = tt
fit-due s tasks (Deliver conn outcome) rest e none = tt
fit-due s tasks (RunAgain conn) rest e none = tt
fit-due s tasks (RunHeld conn) rest e none = let no : false ≡ true = none in cc
fit-due s tasks (RunLines conn) rest e none = may-due (may_run_in s) tasks conn rest e

-- ---- steps of a record

-- one step, and what follows it
abbrev after_one : Config → Situation → List Task → Step → List Step → Option Situation
after_one config s now_due step more =
    let placed = placed_step_in config s (first_due now_due) step in
    if is_right config placed then after_steps config (after_step config s placed.task step placed.effect) (left_after now_due) more else None

steps-first : (config : Config) (s t : Situation) (task : Task) (rest : List Task) (step : Step) (more : List Step) → SuitsTask task s → Tidy (told_in (task ∷ rest)) s
    → ((u : Situation) → Tidy (told_in (left_after (task ∷ rest))) u → after_steps config u (left_after (task ∷ rest)) more ≡ Some t → Tidy [] t)
    → after_one config s (task ∷ rest) step more ≡ Some t → Tidy [] t
steps-first config s t task rest step more fit tidy next e =
    next _ (subst (λ told. Tidy told (after_step config s (Some task) step (placed_step_in config s (Some task) step).effect)) (sym (told-left task rest)) (steps config s task step (told_in rest) fit (passed _ _ _ e).test tidy)) (passed _ _ _ e).rest

pub steps-tidy : (config : Config) (s t : Situation) (tasks : List Task) (more : List Step) → has_no_held tasks ≡ true → Tidy (told_in tasks) s → after_steps config s tasks more ≡ Some t → Tidy [] t
steps-tidy config s t tasks [] none tidy e = grind (arith, nat_tests, e)
steps-tidy config s t tasks (step ∷ more) none tidy e = go (λ u left h k. steps-tidy config u t left more h k) (due (may_run_in s) tasks) refl (no-held-due (may_run_in s) tasks none) (subst (λ told. Tidy told s) (sym (told-due (may_run_in s) tasks)) tidy) e
  where
    go : ((u : Situation) (left : List Task) → has_no_held left ≡ true → Tidy (told_in left) u → after_steps config u left more ≡ Some t → Tidy [] t)
        → (ts : List Task) → due (may_run_in s) tasks ≡ ts → has_no_held ts ≡ true → Tidy (told_in ts) s → after_one config s ts step more ≡ Some t → Tidy [] t
    go next [] is h tidies k = let no : None ≡ Some t = k in cc
    go next (task ∷ rest) is h tidies k = steps-first config s t task rest step more (fit-due s tasks task rest is h) tidies (λ u. next u (left_after (task ∷ rest)) (no-held-left task rest h)) k

-- a feed that may run a held command first
pub feed-tidy : (config : Config) (s t : Situation) (conn : ℕ) (held : Bool) (more : List Step) → (held ≡ true → is_holding_in s conn ≡ true) → Tidy [] s → after_steps config s (tasks_to_feed conn held) more ≡ Some t → Tidy [] t
feed-tidy config s t conn false more holds tidy e = steps-tidy config s t (RunLines conn ∷ []) more refl tidy e
feed-tidy config s t conn true [] holds tidy e = let no : None ≡ Some t = e in cc
feed-tidy config s t conn true (step ∷ more) holds tidy e =
    steps-first config s t (RunHeld conn) (RunLines conn ∷ []) step more (holds refl) tidy (λ u k h. steps-tidy config u t (RunLines conn ∷ []) more refl k h) e

-- ---- events

pub told-delivers : (outcome : Outcome) (conns : List ℕ) (tasks : List Task) → told_in (map (λ conn. Deliver conn outcome) conns ++ tasks) ≡ conns ++ told_in tasks
told-delivers outcome [] tasks = refl
told-delivers outcome (c ∷ cs) tasks = ap (λ ds. c ∷ ds) (told-delivers outcome cs tasks)

pub told-lines : (conns : List ℕ) → told_in (map RunLines conns) ≡ []
told-lines [] = refl
told-lines (c ∷ cs) = told-lines cs

no-held-delivers : (outcome : Outcome) (conns : List ℕ) (tasks : List Task) → has_no_held tasks ≡ true → has_no_held (map (λ conn. Deliver conn outcome) conns ++ tasks) ≡ true
no-held-delivers outcome [] tasks e = e
no-held-delivers outcome (c ∷ cs) tasks e = no-held-delivers outcome cs tasks e

no-held-lines : (conns : List ℕ) → has_no_held (map RunLines conns) ≡ true
no-held-lines [] = refl
no-held-lines (c ∷ cs) = no-held-lines cs

pub told-again : (conns : List ℕ) → told_in (tasks_to_give_up conns) ≡ conns
told-again [] = refl
told-again (c ∷ cs) = ap (λ ds. c ∷ ds) (told-again cs)

no-held-again : (conns : List ℕ) → has_no_held (tasks_to_give_up conns) ≡ true
no-held-again [] = refl
no-held-again (c ∷ cs) = no-held-again cs

pub settled-tidy : (number moment : ℕ) (s : Situation) → Tidy [] s → Tidy (waiting_in number s) (without_load number moment s)
settled-tidy number moment s t = record {
  once = λ k. let a = settled-out number k s.pending in let b = t.once k in omega arith;
  keys = λ key. let a = fewer-loaded (λ load. not (load.number == number)) key s.pending in let b = t.keys key in omega arith;
}

-- a connection opens
found-opened : (d : ℕ) (k : Connection) (ks : List Connection) → is_waiting_now k.standing ≡ false → wait_of (find (λ x. x.number == d) (ks ++ k ∷ [])) ≡ wait_of (find (λ x. x.number == d) ks)
found-opened d k [] e = grind (arith, nat_tests)
found-opened d k (x ∷ xs) e = let next = found-opened d k xs e in grind (arith, nat_tests, next)

closed-tidy : (conn : ℕ) (s : Situation) → Tidy [] s → Tidy [] (without_connection conn s)
closed-tidy conn s t = record {
  once = λ d. elim (cases_Bool (conn == d)) [ inl e ↦ own d e | inr e ↦ apart d e ];
  keys = λ key. let a = loaded-out key conn s.pending in let b = t.keys key in omega arith;
}
  where
    own : (d : ℕ) → (conn == d) ≡ true → 0 + times_waiting d (map (without_waiting conn) s.pending) ≤ wait_of (find (λ x. x.number == d) (without_number conn s.connections))
    own d e =
        let gone : times_waiting d (map (without_waiting conn) s.pending) ≡ 0 = ap (λ m. times_waiting d (map (without_waiting m) s.pending)) (eqb-true conn d e) ∙ waiting-out d s.pending in omega arith

    apart : (d : ℕ) → (conn == d) ≡ false → 0 + times_waiting d (map (without_waiting conn) s.pending) ≤ wait_of (find (λ x. x.number == d) (without_number conn s.connections))
    apart d e =
        let stays : wait_of (find (λ x. x.number == d) (without_number conn s.connections)) ≡ waits_now d s = ap wait_of (found-left d conn s.connections e) in
        let left = waiting-others d conn s.pending e in
        let before = t.once d in omega arith

fed-tidy : (conn : ℕ) (piece : List ℕ) (s u : Situation) → u.connections ≡ s.connections → u.pending ≡ s.pending → Tidy [] s → (o : Option Connection) → connection_in conn s ≡ o
    → Tidy [] (option_map_or (λ c. with_connection false (record c { unread = c.unread ++ piece }) u) o u)
fed-tidy conn piece s u same loads t None at = record {
  once = λ d.
      let before = t.once d in
      let waits : waits_now d u ≡ waits_now d s = ap (λ ks. wait_of (find (λ (k : Connection). k.number == d) ks)) same in
      let stay : times_waiting d u.pending ≡ times_waiting d s.pending = ap (times_waiting d) loads in omega arith;
  keys = λ key. subst (λ ps. times_loaded key ps ≤ 1) (sym loads) (t.keys key);
}
fed-tidy conn piece s u same loads t (Some c) at =
    put-tidy [] s u conn c (record c { unread = c.unread ++ piece }) false at (found-number conn s.connections c at) t refl same (λ d ne. ap (times_waiting d) loads)
    (let before = t.once conn in let waits : waits_now conn s ≡ one_if (is_waiting_now c.standing) = ap wait_of at in let stay : times_waiting conn u.pending ≡ times_waiting conn s.pending = ap (times_waiting conn) loads in omega arith)
    (λ key. subst (λ ps. times_loaded key ps ≤ 1) (sym loads) (t.keys key))

-- a held command stays held where a piece comes
unlong : (standing : Standing) (a b : Bool) → is_holding standing ≡ true → ((is_ready standing && a) || (is_waiting_now standing && b)) ≡ false
unlong Ready a b e = let no : false ≡ true = e in cc
unlong (Held line) a b e = refl
unlong (Waiting line) a b e = let no : false ≡ true = e in cc

fed-holds : (conn : ℕ) (piece : List ℕ) (s u : Situation) → u.connections ≡ s.connections → (o : Option Connection) → connection_in conn s ≡ o → option_map_or (λ (k : Connection). is_holding k.standing) o false ≡ true
    → is_holding_in (option_map_or (λ c. with_connection false (record c { unread = c.unread ++ piece }) u) o u) conn ≡ true
fed-holds conn piece s u same None at holds = let no : false ≡ true = holds in cc
fed-holds conn piece s u same (Some c) at holds =
    let k = record c { unread = c.unread ++ piece } in
    let is = found-number conn s.connections c at in
    ap (λ b. option_map_or (λ (x : Connection). is_holding x.standing) (find (λ x. x.number == conn) (if b then without_number k.number u.connections else map (λ x. if x.number == k.number then k else x) u.connections)) false)
    (unlong c.standing (nat_lt 8192 (length (cut_at 10 k.unread).0)) (nat_lt 8192 (length k.unread)) holds)
    ∙ ap (λ o. option_map_or (λ (x : Connection). is_holding x.standing) o false)
    (ap (λ ks. find (λ x. x.number == conn) (map (λ x. if x.number == k.number then k else x) ks)) same
    ∙ subst (λ m. find (λ x. x.number == m) (map (λ x. if x.number == k.number then k else x) s.connections) ≡ Some k) is (found-own k c s.connections (ap (λ m. find (λ x. x.number == m) s.connections) is ∙ at)))
    ∙ holds

by-event : (config : Config) (s t : Situation) (happened : Event) (more : List Step) → Tidy [] s → after_steps config (after_event happened s) (tasks_in s happened) more ≡ Some t → Tidy [] t
by-event config s t (event.Open conn) more tidy e =
    steps-tidy config (after_event (event.Open conn) s) t [] more refl (record { once = λ d. let before = tidy.once d in let stays = found-opened d (record { number = conn; unread = []; standing = Ready; waited = 0 }) s.connections refl in omega arith; keys = tidy.keys }) e
by-event config s t (event.Close conn) more tidy e = steps-tidy config (without_connection conn s) t [] more refl (closed-tidy conn s tidy) e
by-event config s t (event.Feed conn piece moment) more tidy e =
    feed-tidy config (after_event (event.Feed conn piece moment) s) t conn (is_holding_in s conn) more
    (λ holds. fed-holds conn piece s (record s { latest = max moment.nanos s.latest }) refl (connection_in conn s) refl holds)
    (fed-tidy conn piece s (record s { latest = max moment.nanos s.latest }) refl refl tidy (connection_in conn s) refl) e
by-event config s t (event.Answer load outcome moment) more tidy e =
    let conns = waiting_in load s in
    steps-tidy config (without_load load moment.nanos s) t (tasks_to_answer (pending_key load s) outcome conns) more (no-held-delivers outcome conns (map RunLines conns) (no-held-lines conns))
    (subst (λ told. Tidy told (without_load load moment.nanos s)) (sym (told-delivers outcome conns (map RunLines conns) ∙ ap (λ ds. conns ++ ds) (told-lines conns) ∙ append-nil conns)) (settled-tidy load moment.nanos s tidy)) e
by-event config s t (event.GiveUp load moment) more tidy e =
    let conns = waiting_in load s in
    steps-tidy config (without_load load moment.nanos s) t (tasks_to_give_up conns) more (no-held-again conns)
    (subst (λ told. Tidy told (without_load load moment.nanos s)) (sym (told-again conns)) (settled-tidy load moment.nanos s tidy)) e

pub records : (config : Config) (s t : Situation) (entry : Record) → Follows config s entry t → Tidy [] s → Tidy [] t
records config s t entry e tidy =
    by-event config s t entry.event (steps_of entry) tidy (passed _ _ _ e).rest
