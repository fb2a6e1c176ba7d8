-- Laws of what stands at the front of a stream.
use Rattle.std.specs.Prelude.{◌≡◌, ℕ, ◌≤◌, List, ◌++◌}
use Rattle.memcache_model.specs.Commands.{Request}
use Rattle.memcache_model.specs.Grammar.{arrived, request}

-- a request that has arrived is the same with more bytes behind it
abbrev pub IsCutFree : Type 0
IsCutFree = (most : ℕ) (bytes more : List ℕ) (r : Request) (used : ℕ)
    → arrived most bytes ≡ request r used → arrived most (bytes ++ more) ≡ request r used

-- a request takes at least one byte
abbrev pub TakesBytes : Type 0
TakesBytes = (most : ℕ) (bytes : List ℕ) (r : Request) (used : ℕ)
    → arrived most bytes ≡ request r used → 1 ≤ used
