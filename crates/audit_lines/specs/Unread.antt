-- What is seen of a buffer.
use Rattle.std.specs.Prelude.{ℕ, List}

-- the bytes that no line has used, and how many more can be appended without memory
pub record Unread : Type 0 where
  pub bytes : List ℕ
  pub room : ℕ
