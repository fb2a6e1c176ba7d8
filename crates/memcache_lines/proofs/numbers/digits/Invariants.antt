use Rattle.std.proofs.Common.{◌≡◌, ◌≤◌, ◌<◌, ◌^◌, length, take}
use Rattle.std.specs.Str.Parse.{digits_value}
use Rattle.memcache_lines.proofs.numbers.digits.Given as goal

abbrev pub invariant-loop-digit : goal.invariant-loop-digit
invariant-loop-digit l = record { inside : l.digit-index ≤ length l.word; value : l.value ≡ digits_value 10 (take l.digit-index l.word); small : l.value < 2 ^ 64 }
