-- Which inputs ask for events, and what the outputs are, by the records that they make.
use Rattle.std.specs.Prelude.{ℕ, Bool, false, List, [], ◌∷◌, if◌then◌else◌}
use Rattle.audit_model.specs.declared.event.Event.{Event}
use Rattle.audit_model.specs.declared.event.Event.TheVariants as event
use Rattle.audit_model.specs.declared.input.Input.{Input}
use Rattle.audit_model.specs.declared.input.Input.TheVariants as input
use Rattle.audit_model.specs.declared.transcript.Record.{Record}
use Rattle.audit_model.specs.declared.transcript.Step.{Step}
use Rattle.audit_laws.specs.declared.receipts.output.Output.{Output}
use Rattle.audit_laws.specs.declared.receipts.output.Output.TheVariants.{Opened, All, Held, Done}

-- the input that asks a namespace for an event
abbrev pub input_of : ℕ → Event → Input
input_of namespace (event.Open conn) = input.Open namespace
input_of namespace (event.Close conn) =
    input.Close (record { namespace = namespace; number = conn })
input_of namespace (event.Feed conn piece moment) =
    input.Feed (record { namespace = namespace; number = conn }) piece moment
input_of namespace (event.Answer load outcome moment) =
    input.Answer (record { namespace = namespace; number = load }) outcome moment
input_of namespace (event.GiveUp load moment) =
    input.GiveUp (record { namespace = namespace; number = load }) moment

-- the last step is held back
abbrev pub last_is_held : List Step → Bool
last_is_held [] = false
last_is_held (step ∷ []) = step.held
last_is_held (step ∷ next ∷ steps) = last_is_held (next ∷ steps)

-- the output of an event with its steps
abbrev pub output_with : ℕ → Event → List Step → Output
output_with namespace (event.Open conn) steps =
    Opened (record { namespace = namespace; number = conn })
output_with namespace (event.Feed conn piece moment) steps =
    if last_is_held steps then Held else All
output_with namespace happened steps = Done

-- the output of a record of a namespace
abbrev pub output_of : ℕ → Record → Output
output_of namespace entry = output_with namespace entry.event entry.steps
