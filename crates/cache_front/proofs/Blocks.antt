-- What stands in the block of a value.
use Rattle.std.proofs.Common.{◌≡◌, refl, ap, sym, ◌∙◌, subst, ℕ, ◌-◌, ◌+◌, ◌≤◌, ◌<◌, ◌^◌, arith, List, [], ◌∷◌, ◌++◌, Some, None, length, take, drop, if◌then◌else◌, ◌==◌}
use Rattle.std.specs.Int.{to_le_bytes, from_le_bytes, w64}
use Rattle.std.proofs.lemmas.List.{append_assoc, drop_at, get_or_at, length_push, length-append, length-take-le, take_at}
use Rattle.std.proofs.lemmas.Nat.{from_le_bytes-to_le_bytes_8}
use Rattle.cache_front.specs.Parts.{Stored}
use Rattle.cache_front.specs.View.{kept_value}
use Rattle.cache_front.specs.Blocks.{own_bytes, stored_in, tail_of, time_in_block}

pub own_length : (block : List ℕ) (n : ℕ) → tail_of block ≤ length block → n ≡ length block - tail_of block → n ≡ length (own_bytes block)
own_length block n fits e = e ∙ sym (length-take-le (length block - tail_of block) block (omega arith))

-- a value of at most 8192 bytes stands in it
record StandsIn (value : Stored) (block : List ℕ) : Type 0 where
  pub ends : 1 ≤ tail_of block
  pub fits : tail_of block ≤ length block
  pub short : length block - tail_of block ≤ 8192
  pub shown : stored_in block ≡ value

plain : (xs : List ℕ) → length xs ≤ 8192 → StandsIn (kept_value xs None) (xs ++ 1 ∷ [])
plain xs small =
    let b = xs ++ 1 ∷ [] in
    let long : length b ≡ length xs + 1 = length_push xs 1 in
    let tail : tail_of b ≡ 1 = get_or_at xs 1 [] 0 (length b - 1) (omega (arith, long)) in
    let own : own_bytes b ≡ xs = take_at xs (1 ∷ []) (length b - tail_of b) (omega (arith, long, tail)) in
    let time : time_in_block b ≡ None
    = ap (λ t. if t == 9 then Some (from_le_bytes w64 (take 8 (drop (length b - 9) b))) else None) tail in
    record {
      ends = omega (arith, tail);
      fits = omega (arith, long, tail);
      short = omega (arith, small, long, tail);
      shown = ap (λ bytes. kept_value bytes (time_in_block b)) own ∙ ap (kept_value xs) time;
    }

timed : (xs : List ℕ) (n : ℕ) → length xs ≤ 8192 → n < 2 ^ 64 → StandsIn (kept_value xs (Some n)) ((xs ++ to_le_bytes w64 n) ++ 9 ∷ [])
timed xs n small fits =
    let bytes = to_le_bytes w64 n in
    let b = (xs ++ bytes) ++ 9 ∷ [] in
    let parts : b ≡ xs ++ (bytes ++ 9 ∷ []) = append_assoc xs bytes (9 ∷ []) in
    let eight : length bytes ≡ 8 = refl in
    let most : length (xs ++ bytes) ≡ length xs + length bytes = length-append xs bytes in
    let long : length b ≡ length (xs ++ bytes) + 1 = length_push (xs ++ bytes) 9 in
    let tail : tail_of b ≡ 9 = get_or_at (xs ++ bytes) 9 [] 0 (length b - 1) (omega (arith, long)) in
    let own : own_bytes b ≡ xs
    = ap (take (length b - tail_of b)) parts
    ∙ take_at xs (bytes ++ 9 ∷ []) (length b - tail_of b) (omega (arith, long, most, eight, tail)) in
    let rest : drop (length b - 9) b ≡ bytes ++ 9 ∷ []
    = ap (drop (length b - 9)) parts
    ∙ drop_at xs (bytes ++ 9 ∷ []) (length b - 9) (omega (arith, long, most, eight)) in
    let first : take 8 (drop (length b - 9) b) ≡ bytes = ap (take 8) rest ∙ take_at bytes (9 ∷ []) 8 refl in
    let number : from_le_bytes w64 (take 8 (drop (length b - 9) b)) ≡ n
    = ap (from_le_bytes w64) first ∙ from_le_bytes-to_le_bytes_8 n fits in
    let time : time_in_block b ≡ Some n
    = ap (λ t. if t == 9 then Some (from_le_bytes w64 (take 8 (drop (length b - 9) b))) else None) tail ∙ ap Some number in
    record {
      ends = omega (arith, tail);
      fits = omega (arith, long, most, eight, tail);
      short = omega (arith, small, long, most, eight, tail);
      shown = ap (λ bytes. kept_value bytes (time_in_block b)) own ∙ ap (kept_value xs) time;
    }

-- the same of a block that is known to be of the form
pub plain_ends : (xs block : List ℕ) → length xs ≤ 8192 → block ≡ xs ++ 1 ∷ [] → 1 ≤ tail_of block
plain_ends xs block small e = subst (λ b. 1 ≤ tail_of b) (sym e) (plain xs small).ends

pub plain_fits : (xs block : List ℕ) → length xs ≤ 8192 → block ≡ xs ++ 1 ∷ [] → tail_of block ≤ length block
plain_fits xs block small e = subst (λ b. tail_of b ≤ length b) (sym e) (plain xs small).fits

pub plain_short : (xs block : List ℕ) → length xs ≤ 8192 → block ≡ xs ++ 1 ∷ [] → length block - tail_of block ≤ 8192
plain_short xs block small e = subst (λ b. length b - tail_of b ≤ 8192) (sym e) (plain xs small).short

pub plain_shown : (xs block : List ℕ) → length xs ≤ 8192 → block ≡ xs ++ 1 ∷ [] → stored_in block ≡ kept_value xs None
plain_shown xs block small e = subst (λ b. stored_in b ≡ kept_value xs None) (sym e) (plain xs small).shown

pub timed_ends : (xs block : List ℕ) (n : ℕ) → n < 2 ^ 64 → length xs ≤ 8192 → block ≡ (xs ++ to_le_bytes w64 n) ++ 9 ∷ [] → 1 ≤ tail_of block
timed_ends xs block n fits small e = subst (λ b. 1 ≤ tail_of b) (sym e) (timed xs n small fits).ends

pub timed_fits : (xs block : List ℕ) (n : ℕ) → n < 2 ^ 64 → length xs ≤ 8192 → block ≡ (xs ++ to_le_bytes w64 n) ++ 9 ∷ [] → tail_of block ≤ length block
timed_fits xs block n fits small e = subst (λ b. tail_of b ≤ length b) (sym e) (timed xs n small fits).fits

pub timed_short : (xs block : List ℕ) (n : ℕ) → n < 2 ^ 64 → length xs ≤ 8192 → block ≡ (xs ++ to_le_bytes w64 n) ++ 9 ∷ [] → length block - tail_of block ≤ 8192
timed_short xs block n fits small e = subst (λ b. length b - tail_of b ≤ 8192) (sym e) (timed xs n small fits).short

pub timed_shown : (xs block : List ℕ) (n : ℕ) → n < 2 ^ 64 → length xs ≤ 8192 → block ≡ (xs ++ to_le_bytes w64 n) ++ 9 ∷ [] → stored_in block ≡ kept_value xs (Some n)
timed_shown xs block n fits small e = subst (λ b. stored_in b ≡ kept_value xs (Some n)) (sym e) (timed xs n small fits).shown
