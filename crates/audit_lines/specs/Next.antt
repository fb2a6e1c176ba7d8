-- What stands at the front of a stream of bytes.
use Rattle.std.specs.Prelude.{◌≡◌, ℕ, ◌+◌, ◌<◌, ◌≤◌, List, length, take, drop, Some, None}
use Rattle.audit_model.specs.Bytewise.{cut_at}
use Rattle.audit_lines.specs.declared.buffer.Next.{Next}
use Rattle.audit_lines.specs.declared.buffer.Next.TheVariants.{Line, More, TooLong}

-- the first n bytes are a line, and the line feed behind it has come
pub record IsLine (bytes : List ℕ) (n : ℕ) : Type 0 where
  pub inside : n < length bytes
  pub short : n ≤ 8192
  pub cut : cut_at 10 bytes ≡ (take n bytes, Some (drop (n + 1) bytes))

-- no line feed has come, and the line may still end in time
pub record IsPartial (bytes : List ℕ) : Type 0 where
  pub short : length bytes ≤ 8192
  pub none : cut_at 10 bytes ≡ (bytes, None)

-- what stands at the front of the bytes
abbrev pub IsNext : List ℕ → Next → Type 0
IsNext bytes (Line n) = IsLine bytes n
IsNext bytes More = IsPartial bytes
IsNext bytes TooLong = 8192 < length (cut_at 10 bytes).0
