-- What a call that makes a value returns if it waits for nobody.
use Rattle.std.specs.Prelude.{Bool, true, false}
use Rattle.front_reference.specs.declared.data.Made.{Made}
use Rattle.front_reference.specs.declared.data.Made.TheVariants.{Value}

-- it was made, or a value was there
abbrev pub IsMadeOrFound : {V F : Type 0} → (Made V F → Type 0) → Made V F → (is_fresh : Bool)
    → Type 0
IsMadeOrFound Makes answer true = Makes answer
IsMadeOrFound Makes (Value v) false = Unit {0}
IsMadeOrFound Makes other false = ⊥
