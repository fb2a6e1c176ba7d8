use Rattle.std.proofs.Common.{◌≡◌, ◌≤◌, [], ◌∷◌, ◌++◌, length, take}
use Rattle.std.specs.Prelude.{codes}
use Rattle.std.specs.List.{flat_map}
use Rattle.audit_text.specs.Words.{byte_digits}
use Rattle.audit_text.proofs.words.put_bytes.Given as goal

abbrev pub invariant-loop-byte : goal.invariant-loop-byte
invariant-loop-byte l = record { inside : l.byte-index ≤ length l.bytes; text : l.text.items ≡ (l.fn.text.items ++ 120 ∷ []) ++ flat_map byte_digits (take l.byte-index l.bytes) }
