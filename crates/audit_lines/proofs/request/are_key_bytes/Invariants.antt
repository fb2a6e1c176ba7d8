use Rattle.std.proofs.Common.{◌≡◌, ◌≤◌, length, take}
use Rattle.std.specs.List.{list_all}
use Rattle.audit_model.specs.Grammar.{is_key_byte}
use Rattle.audit_lines.proofs.request.are_key_bytes.Given as goal

abbrev pub invariant-loop-byte : goal.invariant-loop-byte
invariant-loop-byte l = record { inside : l.byte-index ≤ length l.word; all : l.all ≡ list_all is_key_byte (take l.byte-index l.word) }
