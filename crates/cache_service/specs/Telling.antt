-- What a teller is told.
use Rattle.std.specs.Prelude.{◌≡◌, List, [], ◌∷◌}
use Rattle.std.specs.List.{All}
use Rattle.audit_model.specs.declared.transcript.Note.{Note}

module _ {T : Type 0} (tells : T → List Note → T → Type 0) where
  -- a teller received some notes, and then others
  abbrev pub Tellings : T → List (List Note) → T → Type 0
  Tellings t [] u = u ≡ t
  Tellings t (notes ∷ more) u = (m : T) × tells t notes m × Tellings m more u

  -- It received these notes, all of them and at once, if there are any, and then others, each of which was so.
  abbrev pub TellsAll : (List Note → Type 0) → T → T → List Note → Type 0
  TellsAll Fact t u [] = u ≡ t
  TellsAll Fact t u (note ∷ notes) =
      (more : List (List Note)) × All Fact more × Tellings t ((note ∷ notes) ∷ more) u
