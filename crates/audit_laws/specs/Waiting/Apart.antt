-- The records of a connection, if no other one waits, leave the others as they were.
use Rattle.std.specs.Prelude.{◌≡◌, ◌≢◌, ℕ}
use Rattle.audit_model.specs.Follows.{Follows}
use Rattle.audit_model.specs.Situation.{Situation, connection_in}
use Rattle.audit_model.specs.declared.config.Config.{Config}
use Rattle.audit_model.specs.declared.transcript.Record.{Record}
use Rattle.audit_laws.specs.Waiting.Alone.{IsTurnOf, WaitsAlone}

-- if no other connection waits, such a record leaves each other connection as it was
abbrev pub RecordsApart : Type 0
RecordsApart =
    (config : Config) (s t : Situation) (entry : Record) (conn other : ℕ) → Follows config s entry t
    → IsTurnOf conn entry.event → WaitsAlone conn s.pending → other ≢ conn
    → connection_in other t ≡ connection_in other s
