-- Numbers of digits.
use Rattle.std.proofs.Common.{◌≡◌, ℕ, ◌+◌, ◌-◌, ◌*◌, ◌^◌, ◌<◌, ◌≤◌, Bool, true, false, List, length, take, get_or, Some, None, refl, sym, ap, ◌∙◌, arith, rules}
use Rattle.std.specs.Prelude.{◌&&◌, nat_lt}
use Rattle.std.specs.List.{list_all}
use Rattle.std.specs.Int.{IsInRange}
use Rattle.std.specs.Str.Parse.{digits_value}
use Rattle.std.proofs.lemmas.Bool.{and_parts, and_from, and_right, leb-true, le-leb, lt-ltb, le-ltb, cond-true, cond-false}
use Rattle.std.proofs.lemmas.List.{take_more, length-take-le}
use Rattle.std.proofs.lemmas.List.Folds.{list_all_more, list_all_at}
use Rattle.std.proofs.lemmas.Int.Digits.{digits_value_push}
use Rattle.std.proofs.lemmas.Str.{digit_value_digit}
use Rattle.std.proofs.lemmas.Str.Parse.{IsDigitsTest, IsNumeralModel, numerals_by_value, digits_value_short, digits_value-take-le}
use Rattle.audit_model.specs.Grammar.{is_digit, is_numeral, number_in}

abbrev pub AreDigits : List ℕ → Type 0
AreDigits word = list_all is_digit word ≡ true

-- the grammar's test of digits is one of std's kind
digits_tested : IsDigitsTest AreDigits
digits_tested = search rules

-- so std's lemmas on digits hold of it
numerals : IsNumeralModel AreDigits (digits_value 10)
numerals = numerals_by_value AreDigits digits_tested

-- a digit is a byte from 48 to 57
is_digit-range : (b : ℕ) → is_digit b ≡ true → IsInRange 48 57 b
is_digit-range b digit = let parts = and_parts _ _ digit in (leb-true 48 b parts.0, leb-true b 57 parts.1)

-- one digit more
pub digits_more : (word : List ℕ) (i : ℕ) → i < length word → is_digit (get_or word i 0) ≡ true → AreDigits (take i word) → AreDigits (take (i + 1) word)
digits_more word i inside digit before = list_all_more is_digit word i 0 inside ∙ and_from _ _ before digit

-- one digit more makes the number ten times as large, and adds the digit
pub digits_value_more : (word : List ℕ) (i : ℕ) → i < length word → is_digit (get_or word i 0) ≡ true → digits_value 10 (take (i + 1) word) ≡ digits_value 10 (take i word) * 10 + (get_or word i 0 - 48)
digits_value_more word i inside digit =
    let low : IsInRange 48 57 (get_or word i 0) = is_digit-range (get_or word i 0) digit in
    let value = digit_value_digit (get_or word i 0) low in
    ap (digits_value 10) (take_more word i 0 inside) ∙ digits_value_push 10 (take i word) (get_or word i 0) ∙ ap (λ d. digits_value 10 (take i word) * 10 + d) (omega arith)

-- fewer than twelve digits write a number below 10 ^ 11, and twelve one below 10 ^ 12
pub digits_value_front : (word : List ℕ) (i : ℕ) → i < length word → length word ≤ 12 → AreDigits (take i word) → digits_value 10 (take i word) < 100000000000
digits_value_front word i inside short digits = digits_value_short numerals (take i word) 11 digits (omega (arith, length-take-le i word (omega arith)))

-- twelve digits write a number of at most 999999999999
pub digits_value_whole : (word : List ℕ) → length word ≤ 12 → AreDigits word → digits_value 10 word ≤ 999999999999
digits_value_whole word short digits = omega (arith, digits_value_short numerals word 12 digits short)

-- each digit of a word of digits
pub digit-at : (word : List ℕ) (i : ℕ) → i < length word → AreDigits word → is_digit (get_or word i 0) ≡ true
digit-at word i inside digits = not-other (is_digit (get_or word i 0)) refl
  where
    not-other : (b : Bool) → is_digit (get_or word i 0) ≡ b → is_digit (get_or word i 0) ≡ true
    not-other true e = e
    not-other false e = let h : false ≡ true = sym (list_all_at is_digit word i 0 inside e) ∙ digits in cc

-- a number that has grown too large in front is too large
pub number_in-large : (word : List ℕ) (i : ℕ) → i < length word → AreDigits word → 2 ^ 64 ≤ digits_value 10 (take i word) * 10 + (get_or word i 0 - 48) → number_in word ≡ None
number_in-large word i inside digits large =
    let front = digits_value_more word i inside (digit-at word i inside digits) in
    let grows = digits_value-take-le 10 word (i + 1) (omega arith) in
    cond-false (is_numeral 20 word && nat_lt (digits_value 10 word) (2 ^ 64)) _ _ (and_right _ _ (le-ltb (digits_value 10 word) (2 ^ 64) (omega arith)))

-- a number that fits
pub number_in-fits : (word : List ℕ) → 1 ≤ length word → length word ≤ 20 → AreDigits word → digits_value 10 word < 2 ^ 64 → number_in word ≡ Some (digits_value 10 word)
number_in-fits word some short digits small =
    cond-true (is_numeral 20 word && nat_lt (digits_value 10 word) (2 ^ 64)) _ _
    (and_from _ _ (and_from _ _ (and_from _ _ (le-leb 1 (length word) some) (le-leb (length word) 20 short)) digits) (lt-ltb (digits_value 10 word) (2 ^ 64) small))
