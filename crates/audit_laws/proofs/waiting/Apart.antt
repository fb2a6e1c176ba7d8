-- What steps of one connection leave to the others.
use Rattle.std.proofs.Common.{inr, inl, arith, ◌≡◌, ◌≢◌, ℕ, max, Bool, true, false, ◌||◌, ◌==◌, List, [], ◌∷◌, ◌++◌, map, Option, Some, None, if◌then◌else◌, refl, sym, ap, ◌∙◌}
use Rattle.std.specs.List.{find}
use Rattle.std.specs.Option.{option_map_or}
use Rattle.std.proofs.lemmas.Bool.{cases_Bool, ne_eqb}
use Rattle.audit_model.specs.Changes.{after_step, connection_after, join_by, join_load}
use Rattle.audit_model.specs.Commands.{quits}
use Rattle.audit_model.specs.Follows.{Follows, after_event, after_steps, placed_step_in, tasks_in, without_load}
use Rattle.audit_model.specs.History.{Effect}
use Rattle.audit_model.specs.Loads.{key_loaded}
use Rattle.audit_model.specs.Places.{due, first_due, left_after, steps_of, tasks_to_feed, tasks_to_give_up}
use Rattle.audit_model.specs.Situation.{Situation, Connection, connection_in, is_holding_in, is_overlong, pending_key, may_run_in, waiting_in, with_connection}
use Rattle.audit_model.specs.Steps.{Task, Store, Deliver, RunAgain, RunHeld, RunLines, is_right}
use Rattle.audit_model.specs.Stream.{is_waiting}
use Rattle.audit_model.specs.declared.config.Config.{Config}
use Rattle.audit_model.specs.declared.event.Event.{Event}
use Rattle.audit_model.specs.declared.event.Event.TheVariants as event
use Rattle.audit_model.specs.declared.event.Outcome.{Outcome}
use Rattle.audit_model.specs.declared.transcript.Record.{Record}
use Rattle.audit_model.specs.declared.transcript.Step.{Step}
use Rattle.audit_laws.proofs.waiting.Standing.{found-apart, found-left}
use Rattle.audit_laws.proofs.waiting.Turns.{found-number}
use Rattle.audit_laws.specs.Waiting.Alone.{IsTurnOf, WaitsAlone}
use Rattle.audit_laws.proofs.waiting.Steps.{IsOf, TasksOf, due-of, left-of, step-of}
use Rattle.audit_laws.proofs.waiting.Events.{again-of, delivers-of, feed-of, found-alone, lines-of}
use Rattle.std.proofs.lemmas.Bool.Decides.{nat_tests}
use Rattle.audit_laws.proofs.Following.{passed}

-- ---- a step

joins-none : (n : ℕ) (waits : Bool) (key : Option (List ℕ)) (load : Option ℕ) (s : Situation) → (join_by n waits key load s).connections ≡ s.connections
joins-none n waits None load s = refl
joins-none n waits (Some key) (Some number) s = refl
joins-none n true (Some key) None s = refl
joins-none n false (Some key) None s = refl

-- a connection of another number is put in its place, or closes
put-apart : (other : ℕ) (quits : Bool) (k : Connection) (u : Situation) → (k.number == other) ≡ false → connection_in other (with_connection quits k u) ≡ connection_in other u
put-apart other quits k u ne = elim (cases_Bool (quits || is_overlong k)) [ inl e ↦ rw e (found-left other k.number u.connections ne) | inr e ↦ rw e (found-apart other k u.connections ne) ]

own-apart : (conn other : ℕ) (task : Option Task) (step : Step) (effect : Effect) (s : Situation) → (conn == other) ≡ false → step.conn ≡ conn → (o : Option Connection) → connection_in step.conn s ≡ o
    → connection_in other (option_map_or (λ c. with_connection (quits effect) (connection_after task step effect c) (join_load step.conn effect s)) o s) ≡ connection_in other s
own-apart conn other task step effect s ne is None at = refl
own-apart conn other task step effect s ne is (Some c) at =
    put-apart other (quits effect) (connection_after task step effect c) (join_load step.conn effect s) (ap (λ n. n == other) (found-number step.conn s.connections c at ∙ is) ∙ ne)
    ∙ ap (λ ks. find (λ (x : Connection). x.number == other) ks) (joins-none step.conn (is_waiting effect) (key_loaded effect.action) effect.load s)

step-apart : (config : Config) (conn other : ℕ) (s : Situation) (task : Task) (step : Step) (effect : Effect) → (conn == other) ≡ false → IsOf conn task → step.conn ≡ conn
    → connection_in other (after_step config s (Some task) step effect) ≡ connection_in other s
step-apart config conn other s (Store key outcome) step effect ne of is = absurd of
step-apart config conn other s (Deliver c outcome) step effect ne of is = own-apart conn other (Some (Deliver c outcome)) step effect _ ne is (connection_in step.conn s) refl
step-apart config conn other s (RunAgain c) step effect ne of is = own-apart conn other (Some (RunAgain c)) step effect _ ne is (connection_in step.conn s) refl
step-apart config conn other s (RunHeld c) step effect ne of is = own-apart conn other (Some (RunHeld c)) step effect _ ne is (connection_in step.conn s) refl
step-apart config conn other s (RunLines c) step effect ne of is = own-apart conn other (Some (RunLines c)) step effect _ ne is (connection_in step.conn s) refl

-- ---- the steps of a record

abbrev after_one : Config → Situation → List Task → Step → List Step → Option Situation
after_one config s now_due step more =
    let placed = placed_step_in config s (first_due now_due) step in
    if is_right config placed then after_steps config (after_step config s placed.task step placed.effect) (left_after now_due) more else None

steps-apart : (config : Config) (conn other : ℕ) (s t : Situation) (tasks : List Task) (more : List Step) → (conn == other) ≡ false → TasksOf conn tasks → after_steps config s tasks more ≡ Some t → connection_in other t ≡ connection_in other s
steps-apart config conn other s t tasks [] ne all e = grind (arith, nat_tests, e)
steps-apart config conn other s t tasks (step ∷ more) ne all e =
    by-due (λ u left of h. steps-apart config conn other u t left more ne of h) (due (may_run_in s) tasks) (due-of conn (may_run_in s) tasks all) e
  where
    Next : Type 0
    Next = (u : Situation) (left : List Task) → TasksOf conn left → after_steps config u left more ≡ Some t → connection_in other t ≡ connection_in other u

    by-due : Next → (ts : List Task) → TasksOf conn ts → after_one config s ts step more ≡ Some t → connection_in other t ≡ connection_in other s
    by-due next [] of h = let no : None ≡ Some t = h in cc
    by-due next (task ∷ rest) of h =
        next (after_step config s (Some task) step (placed_step_in config s (Some task) step).effect) (left_after (task ∷ rest)) (left-of conn task rest of) (passed _ _ _ h).rest ∙ step-apart config conn other s task step (placed_step_in config s (Some task) step).effect ne of.0 (step-of config conn s task step of.0 (passed _ _ _ h).test)

-- ---- events

fed-apart : (c other : ℕ) (piece : List ℕ) (s u : Situation) → u.connections ≡ s.connections → (c == other) ≡ false → (o : Option Connection) → connection_in c s ≡ o
    → connection_in other (option_map_or (λ k. with_connection false (record k { unread = k.unread ++ piece }) u) o u) ≡ connection_in other s
fed-apart c other piece s u same ne None at = ap (λ ks. find (λ (x : Connection). x.number == other) ks) same
fed-apart c other piece s u same ne (Some k) at =
    put-apart other false (record k { unread = k.unread ++ piece }) u (ap (λ n. n == other) (found-number c s.connections k at) ∙ ne) ∙ ap (λ ks. find (λ (x : Connection). x.number == other) ks) same

stored : (config : Config) (conn other : ℕ) (s t : Situation) (key : Option (List ℕ)) (outcome : Outcome) (tasks : List Task) (own : Step) (more : List Step) → (conn == other) ≡ false → TasksOf conn tasks
    → after_steps config s (Store key outcome ∷ tasks) (own ∷ more) ≡ Some t → connection_in other t ≡ connection_in other s
stored config conn other s t key outcome tasks own more ne of e =
    steps-apart config conn other (after_step config s (Some (Store key outcome)) own (placed_step_in config s (Some (Store key outcome)) own).effect) t tasks more ne of (passed _ _ _ e).rest

by-event : (config : Config) (s t : Situation) (entry : Record) (conn other : ℕ) (happened : Event) → (conn == other) ≡ false → IsTurnOf conn happened → WaitsAlone conn s.pending
    → after_steps config (after_event happened s) (tasks_in s happened) (steps_of (record entry { event = happened })) ≡ Some t → connection_in other t ≡ connection_in other s
by-event config s t entry conn other (event.Open c) ne turn alone e = absurd turn
by-event config s t entry conn other (event.Close c) ne turn alone e = absurd turn
by-event config s t entry conn other (event.Feed c piece moment) ne turn alone e =
    steps-apart config conn other (after_event (event.Feed c piece moment) s) t (tasks_to_feed c (is_holding_in s c)) entry.steps ne (feed-of conn c (is_holding_in s c) turn) e
    ∙ fed-apart c other piece s (record s { latest = max moment.nanos s.latest }) refl (ap (λ n. n == other) turn ∙ ne) (connection_in c s) refl
by-event config s t entry conn other (event.Answer load outcome moment) ne turn alone e =
    let waiting = found-alone conn load s.pending alone in
    let conns = waiting_in load s in
    stored config conn other (without_load load moment.nanos s) t (pending_key load s) outcome (map (λ c. Deliver c outcome) conns ++ map RunLines conns)
    (record { conn = 0; line = []; held = false; reply = None; load = None; accepted = entry.own; notices = entry.notices }) entry.steps ne
    (delivers-of conn outcome conns (map RunLines conns) waiting (lines-of conn conns waiting)) e
by-event config s t entry conn other (event.GiveUp load moment) ne turn alone e =
    let waiting = found-alone conn load s.pending alone in
    steps-apart config conn other (without_load load moment.nanos s) t (tasks_to_give_up (waiting_in load s)) entry.steps ne (again-of conn (waiting_in load s) waiting) e

pub records : (config : Config) (s t : Situation) (entry : Record) (conn other : ℕ) → Follows config s entry t → IsTurnOf conn entry.event → WaitsAlone conn s.pending → other ≢ conn → connection_in other t ≡ connection_in other s
records config s t entry conn other e turn alone differs = by-event config s t entry conn other entry.event (ne_eqb conn other (λ same. differs (sym same))) turn alone (passed _ _ _ e).rest
