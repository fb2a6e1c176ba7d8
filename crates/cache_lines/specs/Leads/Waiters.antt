-- What waits for a load.
use Rattle.std.specs.Prelude.{◌≡◌, ℕ, List, true, Some}
use Rattle.audit_model.specs.Follows.{Follows}
use Rattle.audit_model.specs.Grammar.{reading}
use Rattle.audit_model.specs.Situation.{Situation, connection_in}
use Rattle.audit_model.specs.declared.config.Config.{Config}
use Rattle.audit_model.specs.declared.transcript.Record.{Record}
use Rattle.audit_model.specs.Situation as model
use Rattle.cache_lines.specs.Waiting.{is_load}

-- the line that waits on each open connection is a `LOAD`
abbrev pub WaitForLoads : Config → Situation → Type 0
WaitForLoads config s =
    (n : ℕ) (c : model.Connection) (line : List ℕ) → connection_in n s ≡ Some c
    → c.standing ≡ model.Waiting line → is_load (reading config line) ≡ true

-- after a record that follows, what waits are `LOAD`s, if this was so before
abbrev pub RecordsWaitForLoads : Type 0
RecordsWaitForLoads =
    (config : Config) (s t : Situation) (entry : Record) → Follows config s entry t
    → WaitForLoads config s → WaitForLoads config t
