-- Notices that wait in the part at a place.
use Rattle.std.specs.Prelude.{ℕ, zero, suc, List, [], ◌∷◌, map}
use Rattle.audit_model.specs.declared.transcript.Note.{Note}
use Rattle.cache_front.specs.Parts.{Part, drained, note_from}

module _ {S : Type 0} where
  abbrev pub waiting_at : (place : ℕ) → List (Part S) → List Note
  waiting_at place [] = []
  waiting_at zero (s ∷ parts) = map note_from s.notices
  waiting_at (suc place) (s ∷ parts) = waiting_at place parts

  -- the parts without them
  abbrev pub drained_at : (place : ℕ) → List (Part S) → List (Part S)
  drained_at place [] = []
  drained_at zero (s ∷ parts) = drained s ∷ parts
  drained_at (suc place) (s ∷ parts) = s ∷ drained_at place parts
