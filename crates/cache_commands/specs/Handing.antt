-- Notes on their way from a store to whoever takes them: they are taken in the order in which they were reported.
use Rattle.std.specs.Prelude.{◌≡◌, List, [], ◌∷◌, ◌++◌, Option, Some, None}
use Rattle.audit_model.specs.declared.transcript.Note.{Note}

-- the notes that were reported come after those that wait, whichever part their keys are in
pub record AppendsNotes (old new told : List Note) : Type 0 where
  pub added : new ≡ old ++ told

-- none waits, or the first is taken
abbrev pub TakesFirstNote : List Note → List Note → Option Note → Type 0
TakesFirstNote old new None = (old ≡ []) × (new ≡ [])
TakesFirstNote old new (Some note) = old ≡ note ∷ new

-- no note is reported
pub record TellsNone (old new told : List Note) : Type 0 where
  pub none : told ≡ []
  pub same : new ≡ old
