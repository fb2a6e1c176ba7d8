use Rattle.std.proofs.Common.{◌≡◌, ◌<◌, ◌+◌, ℕ, List, length, take, drop, Option, Some, None, MatchOption}
use Rattle.memchr.specs.Find.{IsFirstByte, is_byte}
use Rattle.audit_model.specs.Bytewise.{cut_at}
use Rattle.audit_lines.proofs.Cuts.{cut_at-searched, cut_at-missed}
use Rattle.audit_situation.proofs.link.end_of_line.Goals as goal

ends : (bytes : List ℕ) (end : Option ℕ) → IsFirstByte (is_byte 10) bytes end
    → MatchOption end (cut_at 10 bytes ≡ (bytes, None)) (λ n. (n < length bytes) × (cut_at 10 bytes ≡ (take n bytes, Some (drop (n + 1) bytes))))
ends bytes None none = cut_at-missed 10 bytes none
ends bytes (Some n) found = (found.0.high, cut_at-searched 10 n bytes found)

pub returns : goal.returns
returns c = ends c.args.bytes.now c.memchr.result c.memchr.ensures
