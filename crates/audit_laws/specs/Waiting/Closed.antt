-- Loads for which nobody waits.
use Rattle.std.specs.Prelude.{◌≡◌, ℕ, List, [], ◌∷◌, None}
use Rattle.audit_model.specs.Follows.{Follows, without_load}
use Rattle.audit_model.specs.Situation.{Situation, PendingLoad, connection_in}
use Rattle.audit_model.specs.declared.config.Config.{Config}
use Rattle.audit_model.specs.declared.event.Event.TheVariants as event
use Rattle.audit_model.specs.declared.event.Instant.{Instant}
use Rattle.audit_model.specs.declared.transcript.Record.{Record}
use Rattle.audit_laws.specs.Waiting.Tidy.{Tidy}
use Rattle.audit_laws.specs.Waiting.Alone.{WaitsAlone}

-- nobody waits for any of these loads
abbrev pub NobodyWaits : List PendingLoad → Type 0
NobodyWaits [] = Unit {0}
NobodyWaits (load ∷ loads) = (load.waiting ≡ []) × NobodyWaits loads

-- if no other connection waits, and this one is not open, nobody waits
abbrev pub ClosedUnwaited : Type 0
ClosedUnwaited =
    (s : Situation) (conn : ℕ) → Tidy [] s → WaitsAlone conn s.pending → connection_in conn s ≡ None
    → NobodyWaits s.pending

-- a give-up while nobody waits has no steps, and only removes its load
abbrev pub GivesUpUnwaited : Type 0
GivesUpUnwaited =
    (config : Config) (s t : Situation) (entry : Record) (load : ℕ) (moment : Instant)
    → entry.event ≡ event.GiveUp load moment → Follows config s entry t → NobodyWaits s.pending
    → (entry.steps ≡ []) × (t ≡ without_load load moment.nanos s) × NobodyWaits t.pending
