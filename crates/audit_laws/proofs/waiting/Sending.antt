-- The loads that records send and settle.
use Rattle.std.proofs.Common.{inr, inl, ◌≡◌, ℕ, ◌<◌, ◌≤◌, Bool, true, false, not, ◌||◌, ◌==◌, List, [], ◌∷◌, ◌++◌, map, Option, Some, None, refl, ap, subst, arith, ⊎_elim, sym}
use Rattle.std.specs.Prelude.{nat_lt, IsTrue}
use Rattle.std.specs.List.{filter}
use Rattle.std.specs.Option.{option_map_or}
use Rattle.std.proofs.lemmas.Bool.{cases_Bool, and_from, and_parts, eq-eqb, eqb-true, lt-ltb, ne_eqb, or_cases, or_left, or_right}
use Rattle.audit_model.specs.Bytewise.{same}
use Rattle.audit_model.specs.Changes.{after_step, connection_after, join_by, join_load}
use Rattle.audit_model.specs.Commands.{quits}
use Rattle.audit_model.specs.Follows.{Follows, after_event, after_steps, placed_step_in, tasks_in}
use Rattle.audit_model.specs.History.{Effect}
use Rattle.audit_model.specs.Loads.{key_loaded}
use Rattle.audit_model.specs.Places.{due, first_due, left_after, steps_of}
use Rattle.audit_model.specs.Situation.{Situation, Connection, PendingLoad, connection_in, is_overlong, may_run_in, with_connection, with_waiting, without_waiting}
use Rattle.audit_model.specs.Steps.{Task, Store, is_right}
use Rattle.audit_model.specs.Stream.{is_waiting}
use Rattle.audit_model.specs.declared.config.Config.{Config}
use Rattle.audit_model.specs.declared.event.Event.{Event}
use Rattle.audit_model.specs.declared.event.Event.TheVariants as event
use Rattle.audit_model.specs.declared.transcript.Record.{Record}
use Rattle.audit_model.specs.declared.transcript.Step.{Step}
use Rattle.audit_laws.specs.Waiting.Sending.{IsSettlingOf, are_all, are_others, are_old_or_later, is_under_way}
use Rattle.audit_laws.proofs.waiting.Keys.{Sends, sends-right}
use Rattle.std.proofs.lemmas.Bool.Decides.{nat_tests}
use Rattle.audit_laws.proofs.Following.{passed}

-- ---- lists of loads

pub all-filter : (p : ℕ → Bool) (q : PendingLoad → Bool) (loads : List PendingLoad) → are_all p loads ≡ true → are_all p (filter q loads) ≡ true
all-filter p q [] all = refl
all-filter p q (load ∷ loads) all = let parts = and_parts (p load.number) (are_all p loads) all in let next = all-filter p q loads parts.1 in grind (arith, nat_tests, parts.0, next)

pub all-without : (p : ℕ → Bool) (conn : ℕ) (loads : List PendingLoad) → are_all p loads ≡ true → are_all p (map (without_waiting conn) loads) ≡ true
all-without p conn [] all = refl
all-without p conn (load ∷ loads) all =
    let parts = and_parts (p load.number) (are_all p loads) all in and_from (p load.number) (are_all p (map (without_waiting conn) loads)) parts.0 (all-without p conn loads parts.1)

all-joined : (p : ℕ → Bool) (conn : ℕ) (of : List ℕ) (loads : List PendingLoad) → are_all p loads ≡ true → are_all p (map (with_waiting conn of) loads) ≡ true
all-joined p conn of [] all = refl
all-joined p conn of (load ∷ loads) all =
    let parts = and_parts (p load.number) (are_all p loads) all in
    and_from (p (with_waiting conn of load).number) (are_all p (map (with_waiting conn of) loads)) ((elim (cases_Bool (same load.key of)) [ inl e ↦ rw e parts.0 | inr e ↦ rw e parts.0 ])) (all-joined p conn of loads parts.1)

-- each of these loads is one of them
pub all-own : (p : ℕ → Bool) (loads : List PendingLoad) → ((n : ℕ) → is_under_way n loads ≡ true → p n ≡ true) → are_all p loads ≡ true
all-own p [] h = refl
all-own p (load ∷ loads) h =
    and_from (p load.number) (are_all p loads) (h load.number (or_left (load.number == load.number) (is_under_way load.number loads) (eq-eqb load.number load.number refl)))
    (all-own p loads (λ n e. h n (or_right (load.number == n) (is_under_way n loads) e)))

-- what passes of all passes of one of them
pub one-of : (p : ℕ → Bool) (n : ℕ) (loads : List PendingLoad) → are_all p loads ≡ true → is_under_way n loads ≡ true → p n ≡ true
one-of p n [] all e = let no : false ≡ true = e in cc
one-of p n (load ∷ loads) all e =
    let parts = and_parts (p load.number) (are_all p loads) all in
    ⊎_elim (λ here. subst (λ m. p m ≡ true) (eqb-true load.number n here) parts.0) (λ later. one-of p n loads parts.1 later) (or_cases (load.number == n) (is_under_way n loads) e)

-- what follows of each from two that pass
pub all-from : (p q r : ℕ → Bool) (loads : List PendingLoad) → ((n : ℕ) → p n ≡ true → q n ≡ true → r n ≡ true) → are_all p loads ≡ true → are_all q loads ≡ true → are_all r loads ≡ true
all-from p q r [] h a b = refl
all-from p q r (load ∷ loads) h a b =
    let x = and_parts (p load.number) (are_all p loads) a in
    let y = and_parts (q load.number) (are_all q loads) b in
    and_from (r load.number) (are_all r loads) (h load.number x.0 y.0) (all-from p q r loads h x.1 y.1)

-- what passes of each but one passes of the others
pub all-but : (p : ℕ → Bool) (number : ℕ) (loads : List PendingLoad) → are_all (λ n. n == number || p n) loads ≡ true → are_all p (filter (λ l. not (l.number == number)) loads) ≡ true
all-but p number [] all = refl
all-but p number (load ∷ loads) all =
    let parts = and_parts (load.number == number || p load.number) (are_all (λ n. n == number || p n) loads) all in let next = all-but p number loads parts.1 in grind (arith, nat_tests, parts.0, next)

-- ---- what passes of the loads under way, and of each that is yet to be sent

abbrev pub Passes : (ℕ → Bool) → Situation → Type 0
Passes p s = ((n : ℕ) → s.sent < n → p n ≡ true) × (are_all p s.pending ≡ true)

passes-join : (p : ℕ → Bool) (conn : ℕ) (waits : Bool) (of : Option (List ℕ)) (load : Option ℕ) (s : Situation) → Sends of load s.sent → Passes p s → Passes p (join_by conn waits of load s)
passes-join p conn waits None load s sends passes = passes
passes-join p conn waits (Some of) (Some number) s sends passes =
    ((λ n above. passes.0 n (omega (arith, above))), and_from (p number) (are_all p s.pending) (passes.0 number (omega (arith, sends))) passes.1)
passes-join p conn true (Some of) None s sends passes = (passes.0, all-joined p conn of s.pending passes.1)
passes-join p conn false (Some of) None s sends passes = passes

passes-put : (p : ℕ → Bool) (quits : Bool) (k : Connection) (s : Situation) → Passes p s → Passes p (with_connection quits k s)
passes-put p quits k s passes = (passes.0, (elim (cases_Bool (quits || is_overlong k)) [ inl e ↦ rw e (all-without p k.number s.pending passes.1) | inr e ↦ rw e passes.1 ]))

passes-own : (p : ℕ → Bool) (task : Option Task) (step : Step) (effect : Effect) (s : Situation) → Sends (key_loaded effect.action) effect.load s.sent → Passes p s → (o : Option Connection)
    → Passes p (option_map_or (λ c. with_connection (quits effect) (connection_after task step effect c) (join_load step.conn effect s)) o s)
passes-own p task step effect s sends passes None = passes
passes-own p task step effect s sends passes (Some c) =
    passes-put p (quits effect) (connection_after task step effect c) (join_load step.conn effect s) (passes-join p step.conn (is_waiting effect) (key_loaded effect.action) effect.load s sends passes)

passes-step : (config : Config) (p : ℕ → Bool) (s : Situation) (task : Option Task) (step : Step) (effect : Effect) → Sends (key_loaded effect.action) effect.load s.sent → Passes p s → Passes p (after_step config s task step effect)
passes-step config p s (Some (Store of outcome)) step effect sends passes = passes
passes-step config p s task step effect sends passes = passes-own p task step effect _ sends passes (connection_in step.conn s)

-- ---- the steps of a record

passes-steps : (config : Config) (p : ℕ → Bool) (s t : Situation) (tasks : List Task) (more : List Step) → Passes p s → after_steps config s tasks more ≡ Some t → Passes p t
passes-steps config p s t tasks [] passes e = grind (arith, nat_tests, e)
passes-steps config p s t tasks (step ∷ more) passes e =
    let task = first_due (due (may_run_in s) tasks) in
    let right = passed (is_right config (placed_step_in config s task step)) _ t e in
    passes-steps config p (after_step config s task step (placed_step_in config s task step).effect) t (left_after (due (may_run_in s) tasks)) more (passes-step config p s task step _ (sends-right config s task step right.test) passes) right.rest

-- ---- a record

-- by what passes where its steps begin
passes-from : (config : Config) (p : ℕ → Bool) (s t : Situation) (entry : Record) → Follows config s entry t → Passes p (after_event entry.event s) → Passes p t
passes-from config p s t entry e passes = passes-steps config p (after_event entry.event s) t (tasks_in s entry.event) (steps_of entry) passes (passed _ _ _ e).rest

fed-passes : (p : ℕ → Bool) (piece : List ℕ) (u : Situation) → Passes p u → (o : Option Connection) → Passes p (option_map_or (λ c. with_connection false (record c { unread = c.unread ++ piece }) u) o u)
fed-passes p piece u passes None = passes
fed-passes p piece u passes (Some c) = passes-put p false (record c { unread = c.unread ++ piece }) u passes

passes-event : (p : ℕ → Bool) (s : Situation) (happened : Event) → Passes p s → Passes p (after_event happened s)
passes-event p s (event.Open c) passes = passes
passes-event p s (event.Close c) passes = (passes.0, all-without p c s.pending passes.1)
passes-event p s (event.Feed c piece moment) passes = fed-passes p piece _ passes (connection_in c s)
passes-event p s (event.Answer load outcome moment) passes = (passes.0, all-filter p (λ l. not (l.number == load)) s.pending passes.1)
passes-event p s (event.GiveUp load moment) passes = (passes.0, all-filter p (λ l. not (l.number == load)) s.pending passes.1)

pub passes-record : (config : Config) (p : ℕ → Bool) (s t : Situation) (entry : Record) → Follows config s entry t → Passes p s → Passes p t
passes-record config p s t entry e passes = passes-from config p s t entry e (passes-event p s entry.event passes)

settled-event : (p : ℕ → Bool) (number : ℕ) (s : Situation) (happened : Event) → IsSettlingOf number happened → Passes (λ n. n == number || p n) s → ((n : ℕ) → s.sent < n → p n ≡ true) → Passes p (after_event happened s)
settled-event p number s (event.Open c) is passes above = absurd is
settled-event p number s (event.Close c) is passes above = absurd is
settled-event p number s (event.Feed c piece moment) is passes above = absurd is
settled-event p number s (event.Answer load outcome moment) is passes above = (above, all-but p load s.pending (subst (λ m. are_all (λ n. n == m || p n) s.pending ≡ true) (sym is) passes.1))
settled-event p number s (event.GiveUp load moment) is passes above = (above, all-but p load s.pending (subst (λ m. are_all (λ n. n == m || p n) s.pending ≡ true) (sym is) passes.1))

-- ---- the laws

pub send-later : (config : Config) (s t : Situation) (entry : Record) → Follows config s entry t → IsTrue (are_old_or_later s.pending s.sent t.pending)
send-later config s t entry e =
    let p : ℕ → Bool = λ n. is_under_way n s.pending || nat_lt s.sent n in
    (passes-record config p s t entry e
    ((λ n above. or_right (is_under_way n s.pending) (nat_lt s.sent n) (lt-ltb s.sent n above)), all-own p s.pending (λ n is. or_left (is_under_way n s.pending) (nat_lt s.sent n) is))).1

-- it is that number, or another
pub settle : (config : Config) (s t : Situation) (entry : Record) (number : ℕ) → Follows config s entry t → IsSettlingOf number entry.event → number ≤ s.sent → IsTrue (are_others number t.pending)
settle config s t entry number e is sent =
    let p : ℕ → Bool = λ n. not (n == number) in
    let above : (n : ℕ) → s.sent < n → p n ≡ true = λ n lt. ap not (ne_eqb n number (λ same. absurd (omega (arith, lt, same, sent)))) in
    let any : (n : ℕ) → (n == number || p n) ≡ true = λ n. grind arith in
    (passes-from config p s t entry e (settled-event p number s entry.event is ((λ n lt. any n), all-own (λ n. n == number || p n) s.pending (λ n under. any n)) above)).1
