-- The identifiers that a step draws and registers.
use Rattle.std.specs.Prelude.{◌≡◌, ℕ, ◌&&◌, ◌||◌, nat_lt, List, IsTrue}
use Rattle.audit_model.specs.Bytewise.{same}
use Rattle.cache_commands.specs.Identifiers.{Register, stream_left, identifier_after}
use Rattle.rand_core.specs.Stream.{Stream}

-- this many identifiers are drawn, and each part registers one of them at most
pub record DrawsForParts (old_stream new_stream : Stream) (old new : Register) : Type 0 where
  pub number : ℕ
  pub stream : new_stream ≡ stream_left number old_stream
  pub registered : (part : ℕ) → (place : ℕ) × ((id : List ℕ) → IsTrue (new part id)
      → IsTrue (old part id || (nat_lt place number && same id (identifier_after place old_stream))))
