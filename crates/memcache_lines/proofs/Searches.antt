-- A search for a byte, as the first place that passes a test.
use Rattle.std.proofs.Common.{◌≡◌, ℕ, ◌+◌, ◌<◌, ◌≤◌, List, length, take, Option, Some, None, min, sym, ap, ◌∙◌, arith}
use Rattle.std.specs.List.{position, position_or_len}
use Rattle.std.proofs.lemmas.Bool.{false_from_ne_true, cond-true, cond-false, lt-ltb, le-ltb}
use Rattle.std.proofs.lemmas.List.{take_min, length-take-le}
use Rattle.std.proofs.lemmas.List.Sums.{position_or_len_is}
use Rattle.std.specs.Prelude.{IfSome}
use Rattle.memchr.specs.Find.{IsFirstByte, is_byte}
use Rattle.memcache_model.specs.Bytes.{is_feed}

-- what a search of bytes gives is the first place
pub position-searched : (bytes : List ℕ) (r : Option ℕ) → IsFirstByte (is_byte 10) bytes r → position is_feed bytes ≡ r
position-searched bytes None none =
    let end = position_or_len_is is_feed bytes (length bytes) 0 (omega arith) (λ k under. false_from_ne_true _ (none k (omega arith) under)) (λ under. absurd (omega arith)) in
    cond-false _ (Some (position_or_len is_feed bytes)) None (le-ltb (position_or_len is_feed bytes) (length bytes) (omega arith))
position-searched bytes (Some k) found =
    let high = found.0.high in
    let place = position_or_len_is is_feed bytes k 0 (omega arith) (λ j under. false_from_ne_true _ (found.0.before j (omega arith) under)) (λ under. found.1) in
    cond-true _ (Some (position_or_len is_feed bytes)) None (lt-ltb (position_or_len is_feed bytes) (length bytes) (omega arith)) ∙ ap Some place

-- a search of at most so many first bytes
pub position-within : (bytes : List ℕ) (most end : ℕ) (r : Option ℕ) → end ≡ min (length bytes) most → IsFirstByte (is_byte 10) (take end bytes) r → position is_feed (take most bytes) ≡ r
position-within bytes most end r is searched =
    let same : take end bytes ≡ take most bytes = ap (λ n. take n bytes) (omega (arith, is)) ∙ take_min most bytes in
    ap (position is_feed) (sym same) ∙ position-searched (take end bytes) r searched

-- what it finds is inside
pub found-within : (bytes : List ℕ) (most end : ℕ) (r : Option ℕ) → end ≡ min (length bytes) (most + 1) → IsFirstByte (is_byte 10) (take end bytes) r → IfSome r (λ at. (at < length bytes) × (at ≤ most))
found-within bytes most end None is none = tt
found-within bytes most end (Some at) is found =
    let high = found.0.high in
    let long = length-take-le end bytes (omega (arith, is)) in
    (omega (arith, high, long, is), omega (arith, high, long, is))
