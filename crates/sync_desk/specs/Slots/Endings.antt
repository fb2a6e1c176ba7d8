-- How turns end.
use Rattle.std.specs.Prelude.{◌≡◌, Bool, true, false}
use Rattle.front_reference.specs.declared.data.Made.{Made}
use Rattle.front_reference.specs.declared.data.Made.TheVariants.{Value, Nothing, Fault}
use Rattle.front_reference.specs.declared.data.TurnKind.{TurnKind}
use Rattle.front_reference.specs.declared.data.TurnKind.TheVariants.{Optionally, Try}
use Rattle.sync_desk.specs.declared.slots.slot.Ending.{Ending}
use Rattle.sync_desk.specs.declared.slots.slot.Ending.TheVariants.{Underway, Done, GivenUp}

module _ {V F : Type 0} where
  -- whether a turn of a kind may end with this: with a value, with none if that is allowed, with a fault if that is allowed
  abbrev pub suits : TurnKind → Made V F → Bool
  suits kind (Value v) = true
  suits Optionally Nothing = true
  suits Try (Fault f) = true
  suits kind other = false

  -- whether it can have ended like this
  abbrev pub fits : TurnKind → Ending V F → Bool
  fits kind Underway = true
  fits kind (Done made) = suits kind made
  fits kind GivenUp = true

  -- whether a turn is under way
  abbrev pub is_underway : Ending V F → Bool
  is_underway Underway = true
  is_underway other = false

-- a clone is the same
abbrev pub IsExact : {V : Type 0} → (V → V → Type 0) → Type 0
IsExact {V} is_clone = (x y : V) → is_clone x y → y ≡ x
