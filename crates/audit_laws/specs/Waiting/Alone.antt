-- One connection that waits for loads, and no other does.
use Rattle.std.specs.Prelude.{◌≡◌, ℕ, List, [], ◌∷◌}
use Rattle.audit_model.specs.Follows.{Follows}
use Rattle.audit_model.specs.Situation.{Situation, PendingLoad}
use Rattle.audit_model.specs.declared.config.Config.{Config}
use Rattle.audit_model.specs.declared.event.Event.{Event}
use Rattle.audit_model.specs.declared.event.Event.TheVariants as event
use Rattle.audit_model.specs.declared.transcript.Record.{Record}
use Rattle.audit_model.specs.declared.transcript.Step.{Step}

-- each of these is this connection
abbrev pub AreAll : ℕ → List ℕ → Type 0
AreAll conn [] = Unit {0}
AreAll conn (c ∷ cs) = (c ≡ conn) × AreAll conn cs

-- no other connection waits for these loads
abbrev pub WaitsAlone : ℕ → List PendingLoad → Type 0
WaitsAlone conn [] = Unit {0}
WaitsAlone conn (load ∷ loads) = AreAll conn load.waiting × WaitsAlone conn loads

-- each step is of this connection
abbrev pub StepsOf : ℕ → List Step → Type 0
StepsOf conn [] = Unit {0}
StepsOf conn (step ∷ steps) = (step.conn ≡ conn) × StepsOf conn steps

-- the connection is fed, or a load is settled
abbrev pub IsTurnOf : ℕ → Event → Type 0
IsTurnOf conn (event.Open c) = ⊥
IsTurnOf conn (event.Close c) = ⊥
IsTurnOf conn (event.Feed c piece moment) = c ≡ conn
IsTurnOf conn (event.Answer load outcome moment) = Unit {0}
IsTurnOf conn (event.GiveUp load moment) = Unit {0}

-- if no other connection waits, such a record has steps of this connection only, and no other waits after it
abbrev pub RecordsAlone : Type 0
RecordsAlone =
    (config : Config) (s t : Situation) (entry : Record) (conn : ℕ) → Follows config s entry t
    → IsTurnOf conn entry.event → WaitsAlone conn s.pending
    → StepsOf conn entry.steps × WaitsAlone conn t.pending
