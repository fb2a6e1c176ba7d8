-- Who waits for loads: each connection once, and its `LOAD` does wait.
use Rattle.std.specs.Prelude.{◌≡◌, ℕ, ◌+◌, ◌≤◌, true, ◌==◌, List, [], ◌∷◌, ◌++◌, Some, if◌then◌else◌}
use Rattle.std.specs.Option.{option_map_or}
use Rattle.audit_model.specs.Bytewise.{same}
use Rattle.audit_model.specs.Changes.{after_step}
use Rattle.audit_model.specs.Follows.{Follows, placed_step_in}
use Rattle.audit_model.specs.Situation.{Situation, PendingLoad, connection_in, empty_situation, is_holding_in, is_waiting_now, may_run_in, waiting_in}
use Rattle.audit_model.specs.Follows.{without_load}
use Rattle.audit_model.specs.Steps.{Task, Store, Deliver, RunAgain, RunHeld, RunLines, is_right}
use Rattle.audit_model.specs.declared.config.Config.{Config}
use Rattle.audit_model.specs.declared.transcript.Record.{Record}
use Rattle.audit_model.specs.declared.transcript.Step.{Step}

-- how often the connection is in the list
abbrev pub times_in : ℕ → List ℕ → ℕ
times_in c [] = 0
times_in c (d ∷ ds) = (if d == c then 1 else 0) + times_in c ds

-- how often it is among those that wait for these loads
abbrev pub times_waiting : ℕ → List PendingLoad → ℕ
times_waiting c [] = 0
times_waiting c (load ∷ loads) = times_in c load.waiting + times_waiting c loads

-- how many of the loads have this key
abbrev pub times_loaded : List ℕ → List PendingLoad → ℕ
times_loaded key [] = 0
times_loaded key (load ∷ loads) = (if same load.key key then 1 else 0) + times_loaded key loads

-- 1 if the connection is open and its `LOAD` waits, otherwise 0
abbrev pub waits_now : ℕ → Situation → ℕ
waits_now c s =
    option_map_or (λ k. if is_waiting_now k.standing then 1 else 0) (connection_in c s) 0

-- A connection that waits for a load, or still has to be told of one that was settled, is open, its `LOAD` waits, and it is there once; and
-- no two loads under way have the same key.
pub record Tidy (told : List ℕ) (s : Situation) : Type 0 where
  pub once : (c : ℕ) → times_in c told + times_waiting c s.pending ≤ waits_now c s
  pub keys : (key : List ℕ) → times_loaded key s.pending ≤ 1

-- the connection to which a task delivers its load
abbrev pub told_of_load : Task → List ℕ
told_of_load (Store key outcome) = []
told_of_load (Deliver conn outcome) = conn ∷ []
told_of_load (RunAgain conn) = conn ∷ []
told_of_load (RunHeld conn) = []
told_of_load (RunLines conn) = []

-- lines are due as long as one may run, and a held command while one is held
abbrev pub SuitsTask : Task → Situation → Type 0
SuitsTask (RunHeld conn) s = is_holding_in s conn ≡ true
SuitsTask (RunLines conn) s = may_run_in s conn ≡ true
SuitsTask task s = Unit {0}

-- before the first record nobody waits
abbrev pub TidyAtFirst : Type 0
TidyAtFirst = (made : ℕ) → Tidy [] (empty_situation made)

-- when a load is settled, those that waited for it still have to be told
abbrev pub TidySettled : Type 0
TidySettled =
    (number moment : ℕ) (s : Situation) → Tidy [] s
    → Tidy (waiting_in number s) (without_load number moment s)

-- a step that is right keeps the others tidy
abbrev pub StepsTidy : Type 0
StepsTidy =
    (config : Config) (s : Situation) (task : Task) (step : Step) (rest : List ℕ) → SuitsTask task s
    → is_right config (placed_step_in config s (Some task) step) ≡ true
    → Tidy (told_of_load task ++ rest) s → Tidy rest
    (after_step config s (Some task) step (placed_step_in config s (Some task) step).effect)

-- a record that follows keeps it tidy
abbrev pub RecordsTidy : Type 0
RecordsTidy =
    (config : Config) (s t : Situation) (entry : Record) → Follows config s entry t → Tidy [] s
    → Tidy [] t
