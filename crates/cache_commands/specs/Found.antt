-- What is written for what a look-up found.
use Rattle.std.specs.Prelude.{ℕ, List, Option, Some, None, codes}
use Rattle.audit_model.specs.Bytewise.{text_line}
use Rattle.audit_model.specs.Replies.{value_reply}

-- `VAL` and the bytes, or `NONE`
abbrev pub found_text : Option (List ℕ) → List ℕ
found_text None = text_line (codes "NONE")
found_text (Some bytes) = value_reply bytes
