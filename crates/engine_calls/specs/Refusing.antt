-- Why a write, a removal or a predicate is refused.
use Rattle.std.specs.Prelude.{◌≡◌, ℕ, ◌+◌, ◌≤◌, ◌^◌, false}
use Rattle.rand_core.specs.Stream.{Stream}
use Rattle.engine_reference.specs.declared.rules.refusal.Refusal.{Refusal}
use Rattle.engine_reference.specs.declared.rules.refusal.Refusal.TheVariants as refusal
use Rattle.engine_reference.specs.Identifiers.Drawing.{AreInUse, is_registered}
use Rattle.engine_reference.specs.State.{State}

-- the cause of a refusal, if the generator had one stream and another is left: an identifier was drawn only if all that were are in use
abbrev pub IsCauseToRegister : {K V P S R : Type 0} → State K V P S R → Stream → Stream → Refusal
    → Type 0
IsCauseToRegister s drawn left refusal.OutOfMemory = left ≡ drawn
IsCauseToRegister s drawn left refusal.InvalidationClosuresDisabled =
    (left ≡ drawn) × (s.settings.takes_predicates ≡ false)
IsCauseToRegister s drawn left refusal.UsedUp =
    (left ≡ drawn) × (2 ^ 64 ≤ s.next_ticket + s.reserved + 1)
IsCauseToRegister s drawn left refusal.IdsInUse = AreInUse drawn left (is_registered s.predicates)
IsCauseToRegister s drawn left refusal.UnknownTicket = ⊥
IsCauseToRegister s drawn left refusal.QueueFull = ⊥

-- why a call that needs room for this many writes and notices is refused: there was no memory, or the 64-bit tickets do not suffice
abbrev pub LacksRoom : {K V P S R : Type 0} → (rooms : ℕ) → State K V P S R → Refusal → Type 0
LacksRoom rooms s refusal.OutOfMemory = Unit {0}
LacksRoom rooms s refusal.UsedUp = 2 ^ 64 ≤ s.next_ticket + s.reserved + rooms
LacksRoom rooms s other = ⊥
