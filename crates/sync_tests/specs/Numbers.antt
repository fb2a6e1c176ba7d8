-- What a hasher reads of a number, byte by byte, the lowest first.
use Rattle.std.specs.Prelude.{ℕ, ◌+◌, ◌*◌, ◌/◌, ◌%◌, ◌^◌}

abbrev pub number_after_byte : ℕ → ℕ → ℕ
number_after_byte n b = (n / 256 + b * 72057594037927936 % 2 ^ 64) % 2 ^ 64
