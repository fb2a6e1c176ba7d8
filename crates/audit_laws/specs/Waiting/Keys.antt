-- The keys of loads under way.
use Rattle.std.specs.Prelude.{◌≡◌, ℕ, ◌≤◌, List, [], ◌∷◌}
use Rattle.audit_model.specs.Follows.{Follows}
use Rattle.audit_model.specs.Situation.{Situation, PendingLoad}
use Rattle.audit_model.specs.declared.config.Config.{Config}
use Rattle.audit_model.specs.declared.transcript.Record.{Record}

-- a load with this number has this key
abbrev pub HasKey : ℕ → List ℕ → List PendingLoad → Type 0
HasKey number key [] = Unit {0}
HasKey number key (load ∷ loads) = (load.number ≡ number → load.key ≡ key) × HasKey number key loads

-- a load with this number was sent, and if it is under way it has this key
abbrev pub IsKnown : ℕ → List ℕ → Situation → Type 0
IsKnown number key s = (number ≤ s.sent) × HasKey number key s.pending

-- a record that follows leaves each load that was sent its key
abbrev pub RecordsKeepKeys : Type 0
RecordsKeepKeys =
    (config : Config) (s t : Situation) (entry : Record) (number : ℕ) (key : List ℕ)
    → Follows config s entry t → IsKnown number key s → IsKnown number key t
