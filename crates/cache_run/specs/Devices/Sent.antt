-- Output of which a prefix was sent.
use Rattle.std.specs.Prelude.{◌≡◌, ℕ, List, ◌++◌, Option}
use Rattle.std.specs.Io.KnownBytes.{Appends}

-- all of the output was written except for the rest
pub record SentBut (rest output : List ℕ) (before after : Option (List ℕ)) : Type 0 where
  pub sent : List ℕ
  pub whole : sent ++ rest ≡ output
  pub wrote : Appends before after sent
