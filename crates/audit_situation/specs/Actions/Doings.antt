-- What a step does, with its words in place.
use Rattle.std.specs.Option.{option_map}
use Rattle.audit_lines.specs.Request.{said}
use Rattle.audit_model.specs.History.{Action, Holding, Delivering, Abandoning, Storing}
use Rattle.audit_model.specs.Steps.{action_by}
use Rattle.audit_situation.specs.declared.actions.doing.Doing.{Doing}
use Rattle.audit_situation.specs.declared.actions.doing.Doing.TheVariants as does

-- in terms of the definitions
abbrev pub action_of : Doing → Action
action_of (does.Line request) = action_by (said request)
action_of does.Hold = Holding
action_of (does.Deliver outcome) = Delivering outcome.now
action_of does.Abandon = Abandoning
action_of (does.Store key outcome) = Storing (option_map (λ k. k.now) key) outcome.now
