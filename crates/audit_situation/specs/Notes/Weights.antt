-- The weight that a part may have.
use Rattle.std.specs.Prelude.{◌≡◌, ◌<◌, ℕ, Bool, List, map, Option, Some, get_or, false}
use Rattle.std.specs.Option.{option_map}
use Rattle.audit_model.specs.Commands.{Deed}
use Rattle.audit_model.specs.History.{share}
use Rattle.audit_model.specs.Notes.{overfills}
use Rattle.audit_model.specs.Situation.{HeldValue, candidate_at}
use Rattle.audit_model.specs.View.{Candidate}
use Rattle.audit_model.specs.declared.config.Config.{Config}

-- it is a part's share of the capacity, if there is a capacity
abbrev pub IsShare : Config → ℕ → Type 0
IsShare config limit =
    (capacity : ℕ) → config.capacity ≡ Some capacity → limit ≡ share config capacity

-- these say which parts exceed their share right after the step's acceptance
abbrev pub AreOverfilled : Config → List Candidate → Deed → List Bool → Type 0
AreOverfilled config held deed marks =
    (part : ℕ) → part < 256 → get_or marks part false ≡ overfills config held deed part

-- the same for any moment and for each step that accepts this value
abbrev pub AreOverfilledBy : Config → List HeldValue → Option HeldValue → List Bool → Type 0
AreOverfilledBy config held newcomer marks =
    (now : ℕ) (deed : Deed) → deed.value ≡ option_map (λ h. h.value) newcomer
    → AreOverfilled config (map (candidate_at config now) held) deed marks
