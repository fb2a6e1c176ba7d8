-- What a shared cache says of the calls of its selectors. Nothing is said about what a closure was shown.
use Rattle.std.specs.Prelude.{◌≡◌, ℕ, Bool, true, Option, Some, Result, Ok, ⊤}
use Rattle.front_parts.specs.Access.Answering.{IsOptionOf, IsResultOf, IsValueOf, passes_none}
use Rattle.front_parts.specs.Access.Entries.{entry_in, result_shown}
use Rattle.front_parts.specs.Access.Selecting.{GivesOption, GivesResult, PutsAlways}
use Rattle.front_parts.specs.declared.access.entry.CompResult.{CompResult}
use Rattle.front_parts.specs.declared.access.entry.Entry.{Entry}
use Rattle.front_reference.specs.declared.data.Computed.{Computed}
use Rattle.front_reference.specs.declared.data.Made.TheVariants.{Value}
use Rattle.front_reference.specs.declared.data.Op.{Op}
use Rattle.front_reference.specs.declared.data.TurnKind.{TurnKind}
use Rattle.front_reference.specs.declared.data.TurnKind.TheVariants.{Optionally, Try}
use Rattle.front_state.specs.Calls.{Ways}
use Rattle.moka_sync.specs.Making.{DecidesUnderLock, GivesUnderLock}

module _ {K V P S R : Type 0} (ways : Ways K V P S R) (lock : ℕ) where
  -- the entry of a call that always makes a value
  abbrev pub IsValueMade : (F : Type 0) → Option TurnKind → K → (Ignores : V → Bool → Type 0)
      → (Makes : V → Type 0) → Entry K V → Type 0
  IsValueMade F kind key Ignores Makes e =
      GivesUnderLock ways lock {F = F} kind key Ignores (IsValueOf Makes) (Value e.value) e.is_fresh

  -- a call that may make no value
  abbrev pub IsOptionMade : (F : Type 0) → K → (Makes : Option V → Type 0) → Option (Entry K V) → Type 0
  IsOptionMade F key Makes shown =
      GivesOption {F = F} key
      (GivesUnderLock ways lock (Some Optionally) key passes_none (IsOptionOf Makes)) shown

  -- a call that may fail
  abbrev pub IsResultMade : {F : Type 0} → K → (Makes : Result V F → Type 0) → Result (Entry K V) F
      → Type 0
  IsResultMade key Makes shown =
      GivesResult key (GivesUnderLock ways lock (Some Try) key passes_none (IsResultOf Makes)) shown

  -- a closure decided about the entry that it was shown, and what it decided was done; or its error is returned
  pub record ComputesAsDecided {E : Type 0} (key : K) (Says : Option V → Result (Op V) E → Type 0)
      (shown : Result (CompResult K V) E) : Type 0 where
    pub answer : Result (Computed V) E
    pub does : DecidesUnderLock ways lock key Says answer
    pub shows : shown ≡ result_shown key answer

  -- a closure made a value from the entry that it was shown, it was put, and the entry shows it
  pub record PutsAsMade (key : K) (Makes : Option V → V → Type 0) (shown : Entry K V) : Type 0 where
    pub done : CompResult K V
    pub does : ComputesAsDecided {E = ⊤} key (PutsAlways Makes) (Ok done)
    pub entry : entry_in done ≡ Some shown
    pub fresh : shown.is_fresh ≡ true
