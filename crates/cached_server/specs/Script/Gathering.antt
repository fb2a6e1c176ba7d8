-- Text that is gathered before it is written.
use Rattle.std.specs.Prelude.{◌≡◌, ℕ, List, ◌++◌, Option}
use Rattle.std.specs.Io.KnownBytes.{Appends}

-- the text was appended to what was gathered, and a prefix of both was written
pub record Gathers (contents : Option (List ℕ)) (gathered text : List ℕ) (written : Option (List ℕ))
    (left : List ℕ) : Type 0 where
  pub sent : List ℕ
  pub wrote : Appends contents written sent
  pub whole : sent ++ left ≡ gathered ++ text
