-- A front that was just created.
use Rattle.std.specs.Prelude.{◌≡◌, ℕ, ◌^◌, List, Option, Some, None, option_map, slice_get}
use Rattle.engine_reference.specs.Calls.{IsNew}
use Rattle.engine_reference.specs.State.{State}
use Rattle.engine_reference.specs.declared.data.Settings.{Settings}
use Rattle.front_reference.specs.Fronts.{Front, share_of}
use Rattle.front_reference.specs.Wholes.{IsNewFront}

-- each part was just created
abbrev pub AreNew : {K V P S R : Type 0} → Settings → S → R → List (State K V P S R) → Type 0
AreNew {K} {V} {P} {S} {R} settings hasher rules parts =
    (place : ℕ) (s : State K V P S R) → slice_get parts place ≡ Some s
    → IsNew None settings hasher rules s

-- the settings with which each of this many parts is created: its share of the capacity
abbrev pub with_share : ℕ → Settings → Settings
with_share parts settings =
    record settings { capacity = option_map (share_of parts) settings.capacity }

-- it is new, and was created with these
pub record IsMadeWith {K V P S R : Type 0} (name : Option (List ℕ)) (bits : ℕ) (settings : Settings)
    (hasher : S) (rules : R) (f : Front K V P S R) : Type 0 where
  pub new : IsNewFront f
  pub named : f.name ≡ name
  pub bits_are : f.bits ≡ bits
  pub wants : f.capacity ≡ settings.capacity
  pub common : f.common ≡ record {
    settings = with_share (2 ^ bits) settings;
    hasher = hasher;
    rules = rules;
  }
