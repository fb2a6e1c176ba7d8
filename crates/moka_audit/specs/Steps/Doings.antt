-- What a step does, with its reply and load.
use Rattle.std.specs.Prelude.{ℕ, List, [], Option, None}
use Rattle.audit_model.specs.Changes.{with_connection_after}
use Rattle.audit_model.specs.History.{Action, Effect}
use Rattle.audit_model.specs.Situation.{Situation}
use Rattle.audit_model.specs.Steps.{Task}
use Rattle.audit_model.specs.declared.transcript.Step.{Step}

-- a step that does this, with this reply and load; nothing else about it matters
abbrev pub acting : Action → Option (List ℕ) → Option ℕ → Effect
acting action reply load =
    record { at = 0; action = action; reply = reply; load = load; value = None; notes = [] }

-- the situation after a step that does this has moved its connection on
abbrev pub passed_on : Option Task → Action → Step → Situation → Situation
passed_on task action step s =
    with_connection_after task step (acting action step.reply step.load) s
