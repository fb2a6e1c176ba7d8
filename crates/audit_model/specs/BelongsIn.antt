-- Which records belong to a list of inputs, step by step from situation to situation.
use Rattle.std.specs.Prelude.{◌≡◌, ℕ, List, [], ◌∷◌, MatchOption, ◌⊎◌}
use Rattle.audit_model.specs.Belongs.{refusal_of, event_in}
use Rattle.audit_model.specs.Follows.{known_in, Follows}
use Rattle.audit_model.specs.Situation.{Situation}
use Rattle.audit_model.specs.declared.config.Config.{Config}
use Rattle.audit_model.specs.declared.event.Event.{Event}
use Rattle.audit_model.specs.declared.input.Input.{Input}
use Rattle.audit_model.specs.declared.transcript.Record.{Record}

-- the record is of this event and follows, and the rest continues from the situation to which it leads
pub record Taken (config : Config) (s : Situation) (happened : Event) (entry : Record)
    (Rest : Situation → Type 0) : Type 0 where
  pub event : entry.event ≡ happened
  pub next : Situation
  pub follows : Follows config s entry next
  pub rest : Rest next

-- the next record is of this event and follows, or the event was left out for lack of memory
abbrev pub TakenOrNotIn : Config → Situation → Event → List Record
    → (Situation → List Record → Type 0) → Type 0
TakenOrNotIn config s happened [] Rest = Rest s []
TakenOrNotIn config s happened (entry ∷ entries) Rest =
    Taken config s happened entry (λ t. Rest t entries) ⊎ Rest s (entry ∷ entries)

-- the records follow one another from this situation to the last one, and their events are the namespace's inputs in order, except those
-- that are refused and some that were left out for lack of memory
abbrev pub BelongsIn : Config → ℕ → Situation → List Input → List Record → Situation → Type 0
BelongsIn config namespace s [] entries last = (entries ≡ []) × (s ≡ last)
BelongsIn config namespace s (i ∷ inputs) entries last =
    MatchOption (event_in namespace s.opened i) (BelongsIn config namespace s inputs entries last)
    (λ happened. MatchOption (refusal_of config (known_in s) happened)
    (TakenOrNotIn config s happened entries
    (λ t rest. BelongsIn config namespace t inputs rest last))
    (λ refused. BelongsIn config namespace s inputs entries last))
