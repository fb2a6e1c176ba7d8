-- Room in the record of a settled load.
use Rattle.std.specs.Prelude.{ℕ, ◌+◌, length}
use Rattle.cache_lines.specs.Waiting.{UnderWay}
use Rattle.cache_core.specs.Settling.{waiting_on}

-- two lines for each connection that waits: for its `LOAD`, and for a line after it
abbrev pub lines_for : ℕ → UnderWay → ℕ
lines_for load loads = length (waiting_on load loads) + length (waiting_on load loads)
