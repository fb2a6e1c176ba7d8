-- A record in which a load is settled, and where its steps lead.
use Rattle.std.specs.Prelude.{ℕ, List, []}
use Rattle.std.specs.List.{flat_map}
use Rattle.audit_laws.specs.Waiting.Tidy.{told_of_load}
use Rattle.audit_model.specs.Follows.{Follows, after_event, tasks_in}
use Rattle.audit_model.specs.Places.{steps_of}
use Rattle.audit_model.specs.Situation.{Situation}
use Rattle.audit_model.specs.Steps.{Task}
use Rattle.audit_model.specs.declared.transcript.Record.{Record}
use Rattle.cache_commands.specs.Order.{Order}
use Rattle.cache_lines.specs.Drawing.{Identifiers, StepsDraw}
use Rattle.cache_lines.specs.Leading.{StepsLead, point}
use Rattle.cache_lines.specs.Making.{Making}

-- those that the tasks still tell of their load
abbrev pub still_told : List Task → List ℕ
still_told tasks = flat_map told_of_load tasks

-- The record of a settled load follows; its steps lead to this situation, in which no task is left; and identifiers are drawn as its
-- connections' steps say.
pub record SettlingLeads (making : Making) (places : ℕ) (s : Situation) (entry : Record)
    (t : Situation) (drawn drawing : Identifiers) (order behind : Order) : Type 0 where
  pub follows : Follows making.config s entry t
  pub leads : StepsLead making places (point (after_event entry.event s) drawn order)
      (tasks_in s entry.event) (steps_of entry) (point t drawing behind) []
  pub draws : StepsDraw making.config entry.steps drawn drawing
