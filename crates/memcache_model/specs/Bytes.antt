-- Words and numbers in bytes.
use Rattle.std.specs.Prelude.{ℕ, Bool, true, false, ◌&&◌, ◌==◌, nat_le, nat_lt, List, [], ◌∷◌, length, Option, Some, None, if◌then◌else◌}
use Rattle.std.specs.List.{filter, list_all, slice_split}
use Rattle.std.specs.Str.Parse.{digits_value}

-- there is at least one element
abbrev pub is_filled : {A : Type 0} → List A → Bool
is_filled [] = false
is_filled (x ∷ xs) = true

-- a space
abbrev pub is_space : ℕ → Bool
is_space b = b == 32

-- a line feed
abbrev pub is_feed : ℕ → Bool
is_feed b = b == 10

-- the words of a line: what stands between its spaces
abbrev pub tokens : List ℕ → List (List ℕ)
tokens line = filter is_filled (slice_split is_space line)

-- the line without one carriage return at its end
abbrev pub without_one_return : List ℕ → List ℕ
without_one_return [] = []
without_one_return (b ∷ []) = if b == 13 then [] else b ∷ []
without_one_return (b ∷ c ∷ bs) = b ∷ without_one_return (c ∷ bs)

-- a digit
abbrev pub is_decimal_digit : ℕ → Bool
is_decimal_digit b = nat_le 48 b && nat_le b 57

-- 1 to 20 digits
abbrev pub is_decimal_number : List ℕ → Bool
is_decimal_number word = nat_le 1 (length word) && nat_le (length word) 20 && list_all is_decimal_digit word

-- the number that 1 to 20 digits write, if it is below the limit
abbrev pub digits_below : ℕ → List ℕ → Option ℕ
digits_below limit word =
    if is_decimal_number word && nat_lt (digits_value 10 word) limit then Some (digits_value 10 word)
    else None

-- the word without a plus before it
abbrev pub without_plus : List ℕ → List ℕ
without_plus [] = []
without_plus (b ∷ bs) = if b == 43 then bs else b ∷ bs

-- the number that digits write, behind a plus or alone, if it is below the limit
abbrev pub number_below : ℕ → List ℕ → Option ℕ
number_below limit word = digits_below limit (without_plus word)

-- a key has 1 to 250 bytes
abbrev pub is_item_key : List ℕ → Bool
is_item_key word = nat_le 1 (length word) && nat_le (length word) 250
