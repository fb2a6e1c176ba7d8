-- Places as a tree: each but 0 lies below another, and a place that others lie below keeps the first expiry of its own and theirs.
use Rattle.std.specs.Prelude.{◌≡◌, ℕ, ◌+◌, ◌*◌, ◌<◌, ◌≤◌, ◌⊎◌, List, length, slice_index_or}
use Rattle.engine_pending.specs.Timers.Awaited.{never, expiry_at}

-- eight places lie right below each, seven below 0
pub record LiesBelow (below place : ℕ) : Type 0 where
  pub positive : 0 < below
  pub from : 8 * place ≤ below
  pub to : below < 8 * place + 8

-- when the first expires of a place and all below it
abbrev pub first_at : List ℕ → List ℕ → ℕ → ℕ
first_at expiries firsts place = slice_index_or firsts place (expiry_at expiries place)

-- a place right below expires first, or one below that
pub record IsFirstBelow (expiries firsts : List ℕ) (place first : ℕ) : Type 0 where
  pub below : ℕ
  pub lies : LiesBelow below place
  pub is : first_at expiries firsts below ≡ first

-- a moment is the first expiry of a place and all below it
pub record IsFirstExpiry (expiries firsts : List ℕ) (place first : ℕ) : Type 0 where
  pub own : first ≤ expiry_at expiries place
  pub others : (below : ℕ) → LiesBelow below place → first ≤ first_at expiries firsts below
  pub one : (expiry_at expiries place ≡ first) ⊎ IsFirstBelow expiries firsts place first

abbrev pub ShowsFirst : List ℕ → List ℕ → ℕ → Type 0
ShowsFirst expiries firsts place = IsFirstExpiry expiries firsts place (first_at expiries firsts place)

-- every place but this one has its first expiry
abbrev pub ShowFirstsBut : List ℕ → List ℕ → ℕ → Type 0
ShowFirstsBut expiries firsts but =
    (place : ℕ) → (place ≡ but → ⊥) → ShowsFirst expiries firsts place

-- no place expires later than never, and no place has others below it without keeping their first expiry
pub record IsCovering (expiries firsts : List ℕ) : Type 0 where
  pub bounded : (place : ℕ) → expiry_at expiries place ≤ never
  pub enough : length expiries ≤ 8 * length firsts

pub record AreFirsts (expiries firsts : List ℕ) : Type 0 where
  pub covering : IsCovering expiries firsts
  pub show : (place : ℕ) → ShowsFirst expiries firsts place
