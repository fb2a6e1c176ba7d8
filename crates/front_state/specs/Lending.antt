-- The parts of a front, one of which is lent.
use Rattle.std.specs.Prelude.{◌≡◌, ℕ, ◌^◌, ◌≤◌, List, Vec, length}
use Rattle.std.specs.Borrow.{Fml, MutBor, RattleType}
use Rattle.std.specs.Global.{Global}
use Rattle.std.specs.Vec.{vec_follows_item}
use Rattle.std.specs.contracts.alloc.Global as global
use Rattle.std.specs.contracts.impls.GlobalAllocator.TheImpl.{ghosts}

-- there are as many parts as a hash of which this many bits are read selects
abbrev pub AreParts : {X : Type 0} → (bits : ℕ) → List X → Type 0
AreParts bits parts = (bits ≤ 16) × (length parts ≡ 2 ^ bits)

-- once the borrow ends, the place has the last value written through it, and the others are as they were
abbrev pub lends_part : (T : RattleType) → MutBor (Vec T.Denot Global) → (place : ℕ)
    → MutBor T.Denot → Fml
lends_part T parts place part = vec_follows_item T global.the_row ghosts parts place part
