-- Steps of one connection that alone waits.
use Rattle.std.proofs.Common.{inr, inl, arith, ◌≡◌, ℕ, Bool, true, false, not, ◌||◌, ◌==◌, List, [], ◌∷◌, ◌++◌, map, Option, Some, None, if◌then◌else◌, refl, sym, ◌∙◌, subst}
use Rattle.std.specs.List.{filter}
use Rattle.std.specs.Option.{option_map_or}
use Rattle.std.proofs.lemmas.Bool.{cond_both, cases_Bool, and_parts, eqb-true}
use Rattle.audit_model.specs.Bytewise.{same}
use Rattle.audit_model.specs.Changes.{after_step, connection_after, join_by, join_load}
use Rattle.audit_model.specs.Commands.{quits}
use Rattle.audit_model.specs.Follows.{after_steps, placed_step_in}
use Rattle.audit_model.specs.History.{Effect}
use Rattle.audit_model.specs.Places.{due, first_due, left_after}
use Rattle.audit_model.specs.Situation.{Situation, Connection, PendingLoad, connection_in, is_overlong, may_run_in, with_connection, with_waiting, without_waiting}
use Rattle.audit_model.specs.Steps.{Task, Store, Deliver, RunAgain, RunHeld, RunLines, is_right, is_task_of}
use Rattle.audit_model.specs.Stream.{is_waiting}
use Rattle.audit_model.specs.Loads.{key_loaded}
use Rattle.audit_model.specs.declared.config.Config.{Config}
use Rattle.audit_model.specs.declared.transcript.Step.{Step}
use Rattle.audit_laws.specs.Waiting.Alone.{AreAll, StepsOf, WaitsAlone}
use Rattle.std.proofs.lemmas.Bool.Decides.{nat_tests}
use Rattle.audit_laws.proofs.Following.{passed}

-- ---- lists

pub all-filter : (conn : ℕ) (p : ℕ → Bool) (cs : List ℕ) → AreAll conn cs → AreAll conn (filter p cs)
all-filter conn p [] all = tt
all-filter conn p (c ∷ cs) all = let next = all-filter conn p cs all.1 in grind (arith, nat_tests, next)

pub all-more : (conn : ℕ) (cs : List ℕ) → AreAll conn cs → AreAll conn (cs ++ conn ∷ [])
all-more conn [] all = (refl, tt)
all-more conn (c ∷ cs) all = (all.0, all-more conn cs all.1)

pub alone-filter : (conn : ℕ) (p : PendingLoad → Bool) (loads : List PendingLoad) → WaitsAlone conn loads → WaitsAlone conn (filter p loads)
alone-filter conn p [] alone = tt
alone-filter conn p (load ∷ loads) alone = let next = alone-filter conn p loads alone.1 in grind (arith, nat_tests, next)

pub alone-without : (conn n : ℕ) (loads : List PendingLoad) → WaitsAlone conn loads → WaitsAlone conn (map (without_waiting n) loads)
alone-without conn n [] alone = tt
alone-without conn n (load ∷ loads) alone = (all-filter conn (λ c. not (c == n)) load.waiting alone.0, alone-without conn n loads alone.1)

alone-joined : (conn : ℕ) (key : List ℕ) (loads : List PendingLoad) → WaitsAlone conn loads → WaitsAlone conn (map (with_waiting conn key) loads)
alone-joined conn key [] alone = tt
alone-joined conn key (load ∷ loads) alone = ((elim (cases_Bool (same load.key key)) [ inl e ↦ rw e (all-more conn load.waiting alone.0) | inr e ↦ rw e alone.0 ]), alone-joined conn key loads alone.1)

-- ---- a step

alone-join : (conn : ℕ) (waits : Bool) (key : Option (List ℕ)) (load : Option ℕ) (s : Situation) → WaitsAlone conn s.pending → WaitsAlone conn (join_by conn waits key load s).pending
alone-join conn waits None load s alone = alone
alone-join conn waits (Some key) (Some number) s alone = ((refl, tt), alone)
alone-join conn true (Some key) None s alone = alone-joined conn key s.pending alone
alone-join conn false (Some key) None s alone = alone

pub alone-put : (conn : ℕ) (quits : Bool) (k : Connection) (s : Situation) → WaitsAlone conn s.pending → WaitsAlone conn (with_connection quits k s).pending
alone-put conn quits k s alone = cond_both (quits || is_overlong k) _ _ (WaitsAlone conn) (λ _. alone-without conn k.number s.pending alone) (λ _. alone)

alone-own : (conn : ℕ) (task : Option Task) (step : Step) (effect : Effect) (s : Situation) → step.conn ≡ conn → WaitsAlone conn s.pending → (o : Option Connection)
    → WaitsAlone conn (option_map_or (λ c. with_connection (quits effect) (connection_after task step effect c) (join_load step.conn effect s)) o s).pending
alone-own conn task step effect s is alone None = alone
alone-own conn task step effect s is alone (Some c) =
    alone-put conn (quits effect) (connection_after task step effect c) (join_load step.conn effect s)
    (subst (λ n. WaitsAlone conn (join_by n (is_waiting effect) (key_loaded effect.action) effect.load s).pending) (sym is) (alone-join conn (is_waiting effect) (key_loaded effect.action) effect.load s alone))

-- the task is of that connection; to store an answer is none's
abbrev pub IsOf : ℕ → Task → Type 0
IsOf conn (Store key outcome) = ⊥
IsOf conn (Deliver c outcome) = c ≡ conn
IsOf conn (RunAgain c) = c ≡ conn
IsOf conn (RunHeld c) = c ≡ conn
IsOf conn (RunLines c) = c ≡ conn

abbrev pub TasksOf : ℕ → List Task → Type 0
TasksOf conn [] = Unit {0}
TasksOf conn (task ∷ tasks) = IsOf conn task × TasksOf conn tasks

alone-step : (config : Config) (conn : ℕ) (s : Situation) (task : Task) (step : Step) (effect : Effect) → IsOf conn task → step.conn ≡ conn → WaitsAlone conn s.pending → WaitsAlone conn (after_step config s (Some task) step effect).pending
alone-step config conn s (Store key outcome) step effect of is alone = absurd of
alone-step config conn s (Deliver c outcome) step effect of is alone = alone-own conn (Some (Deliver c outcome)) step effect _ is alone (connection_in step.conn s)
alone-step config conn s (RunAgain c) step effect of is alone = alone-own conn (Some (RunAgain c)) step effect _ is alone (connection_in step.conn s)
alone-step config conn s (RunHeld c) step effect of is alone = alone-own conn (Some (RunHeld c)) step effect _ is alone (connection_in step.conn s)
alone-step config conn s (RunLines c) step effect of is alone = alone-own conn (Some (RunLines c)) step effect _ is alone (connection_in step.conn s)

in-turn : (config : Config) (s : Situation) (task : Option Task) (step : Step) → is_right config (placed_step_in config s task step) ≡ true → is_task_of step.conn task ≡ true
in-turn config s task step right =
    let parts = and_parts _ _ (and_parts _ _ (and_parts _ _ (and_parts _ _ (and_parts _ _ right).0).0).0).0 in
    (and_parts _ _ (and_parts _ _ (and_parts _ _ parts.0).0).0).0

pub step-of : (config : Config) (conn : ℕ) (s : Situation) (task : Task) (step : Step) → IsOf conn task → is_right config (placed_step_in config s (Some task) step) ≡ true → step.conn ≡ conn
step-of config conn s (Store key outcome) step of right = absurd of
step-of config conn s (Deliver c outcome) step of right = sym (eqb-true c step.conn (in-turn config s (Some (Deliver c outcome)) step right)) ∙ of
step-of config conn s (RunAgain c) step of right = sym (eqb-true c step.conn (in-turn config s (Some (RunAgain c)) step right)) ∙ of
step-of config conn s (RunHeld c) step of right = sym (eqb-true c step.conn (in-turn config s (Some (RunHeld c)) step right)) ∙ of
step-of config conn s (RunLines c) step of right = sym (eqb-true c step.conn (in-turn config s (Some (RunLines c)) step right)) ∙ of

-- ---- the tasks that are due

pub due-of : (conn : ℕ) (may : ℕ → Bool) (tasks : List Task) → TasksOf conn tasks → TasksOf conn (due may tasks)
due-of conn may [] all = tt
due-of conn may (Store key outcome ∷ tasks) all = all
due-of conn may (Deliver c outcome ∷ tasks) all = all
due-of conn may (RunAgain c ∷ tasks) all = all
due-of conn may (RunHeld c ∷ tasks) all = all
due-of conn may (RunLines c ∷ tasks) all = let next = due-of conn may tasks all.1 in grind (arith, nat_tests, next)

pub left-of : (conn : ℕ) (task : Task) (rest : List Task) → TasksOf conn (task ∷ rest) → TasksOf conn (left_after (task ∷ rest))
left-of conn (Store key outcome) rest all = absurd all.0
left-of conn (Deliver c outcome) rest all = all.1
left-of conn (RunAgain c) rest all = all.1
left-of conn (RunHeld c) rest all = all.1
left-of conn (RunLines c) rest all = all

-- ---- the steps of a record

-- one step, and what follows it
abbrev after_one : Config → Situation → List Task → Step → List Step → Option Situation
after_one config s now_due step more =
    let placed = placed_step_in config s (first_due now_due) step in
    if is_right config placed then after_steps config (after_step config s placed.task step placed.effect) (left_after now_due) more else None

pub alone-steps : (config : Config) (conn : ℕ) (s t : Situation) (tasks : List Task) (more : List Step) → TasksOf conn tasks → WaitsAlone conn s.pending → after_steps config s tasks more ≡ Some t → StepsOf conn more × WaitsAlone conn t.pending
alone-steps config conn s t tasks [] all alone e = grind (arith, nat_tests, e)
alone-steps config conn s t tasks (step ∷ more) all alone e =
    by-due (λ u left of waits h. alone-steps config conn u t left more of waits h) (due (may_run_in s) tasks) (due-of conn (may_run_in s) tasks all) e
  where
    Next : Type 0
    Next = (u : Situation) (left : List Task) → TasksOf conn left → WaitsAlone conn u.pending → after_steps config u left more ≡ Some t → StepsOf conn more × WaitsAlone conn t.pending

    by-due : Next → (ts : List Task) → TasksOf conn ts → after_one config s ts step more ≡ Some t → StepsOf conn (step ∷ more) × WaitsAlone conn t.pending
    by-due next [] of h = let no : None ≡ Some t = h in cc
    by-due next (task ∷ rest) of h =
        let own = step-of config conn s task step of.0 (passed _ _ _ h).test in let behind = next (after_step config s (Some task) step (placed_step_in config s (Some task) step).effect) (left_after (task ∷ rest)) (left-of conn task rest of) (alone-step config conn s task step (placed_step_in config s (Some task) step).effect of.0 own alone) (passed _ _ _ h).rest in ((own, behind.0), behind.1)
