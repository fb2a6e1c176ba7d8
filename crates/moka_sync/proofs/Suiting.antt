-- What a turn may end with is what a call of its kind may answer.
use Rattle.std.proofs.Common.{◌≡◌, true, Some, None}
use Rattle.front_parts.specs.Access.Answering.{Suits}
use Rattle.front_reference.specs.declared.data.Made.{Made}
use Rattle.front_reference.specs.declared.data.Made.TheVariants.{Value, Nothing, Fault}
use Rattle.front_reference.specs.declared.data.TurnKind.TheVariants.{With, Optionally, Try}
use Rattle.sync_desk.specs.Slots.Endings.{suits}

module _ {V F : Type 0} where
  pub makes-value : (made : Made V F) → suits With made ≡ true → Suits None made
  makes-value (Value v) e = tt
  makes-value Nothing e = absurd (let no : ⊥ = cc in no)
  makes-value (Fault f) e = absurd (let no : ⊥ = cc in no)

  pub makes-option : (made : Made V F) → suits Optionally made ≡ true → Suits (Some Optionally) made
  makes-option (Value v) e = tt
  makes-option Nothing e = tt
  makes-option (Fault f) e = absurd (let no : ⊥ = cc in no)

  pub makes-result : (made : Made V F) → suits Try made ≡ true → Suits (Some Try) made
  makes-result (Value v) e = tt
  makes-result Nothing e = absurd (let no : ⊥ = cc in no)
  makes-result (Fault f) e = tt
