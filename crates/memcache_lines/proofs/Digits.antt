-- Numbers of digits.
use Rattle.std.proofs.Common.{◌≡◌, ℕ, Option, ⊎_elim, cond, ◌+◌, ◌-◌, ◌*◌, ◌^◌, ◌<◌, ◌≤◌, Bool, true, false, true≢false, List, length, take, get_or, Some, None, refl, sym, ap, ◌∙◌, arith}
use Rattle.std.specs.Prelude.{◌&&◌, nat_lt}
use Rattle.std.specs.List.{list_all}
use Rattle.std.specs.Int.{IsInRange}
use Rattle.std.specs.Str.Parse.{digits_value}
use Rattle.std.proofs.lemmas.Bool.{and_parts, and_from, and_right, leb-true, le-leb, lt-ltb, le-ltb, cond-true, cond-false, cases_Bool, cases_lt}
use Rattle.std.proofs.lemmas.List.{take_more}
use Rattle.std.proofs.lemmas.List.Folds.{list_all_at}
use Rattle.std.proofs.lemmas.Int.Digits.{digits_value_push}
use Rattle.std.proofs.lemmas.Str.{digit_value_digit}
use Rattle.std.proofs.lemmas.Str.Parse.{digits_value-take-le}
use Rattle.memcache_model.specs.Bytes.{is_decimal_digit, is_decimal_number, digits_below}

abbrev pub AreDigits : List ℕ → Type 0
AreDigits word = list_all is_decimal_digit word ≡ true

-- a digit is a byte from 48 to 57
is_decimal_digit-range : (b : ℕ) → is_decimal_digit b ≡ true → IsInRange 48 57 b
is_decimal_digit-range b digit = let parts = and_parts _ _ digit in (leb-true 48 b parts.0, leb-true b 57 parts.1)

-- one digit more makes the number ten times as large, and adds the digit
pub digits_value_more : (word : List ℕ) (i : ℕ) → i < length word → is_decimal_digit (get_or word i 0) ≡ true → digits_value 10 (take (i + 1) word) ≡ digits_value 10 (take i word) * 10 + (get_or word i 0 - 48)
digits_value_more word i inside digit =
    let low : IsInRange 48 57 (get_or word i 0) = is_decimal_digit-range (get_or word i 0) digit in
    let value = digit_value_digit (get_or word i 0) low in
    ap (digits_value 10) (take_more word i 0 inside) ∙ digits_value_push 10 (take i word) (get_or word i 0) ∙ ap (λ d. digits_value 10 (take i word) * 10 + d) (omega arith)

-- each digit of a word of digits
pub digit-at : (word : List ℕ) (i : ℕ) → i < length word → AreDigits word → is_decimal_digit (get_or word i 0) ≡ true
digit-at word i inside digits = ⊎_elim (λ e. e) (λ e. absurd (true≢false (sym digits ∙ list_all_at is_decimal_digit word i 0 inside e))) (cases_Bool (is_decimal_digit (get_or word i 0)))

-- a number that has grown too large in front is too large
pub digits_below-large : (word : List ℕ) (i : ℕ) → i < length word → AreDigits word → 2 ^ 64 ≤ digits_value 10 (take i word) * 10 + (get_or word i 0 - 48) → digits_below (2 ^ 64) word ≡ None
digits_below-large word i inside digits large =
    let front = digits_value_more word i inside (digit-at word i inside digits) in
    let grows = digits_value-take-le 10 word (i + 1) (omega arith) in
    cond-false (is_decimal_number word && nat_lt (digits_value 10 word) (2 ^ 64)) _ _ (and_right _ _ (le-ltb (digits_value 10 word) (2 ^ 64) (omega arith)))

-- a number that fits
pub digits_below-fits : (word : List ℕ) → 1 ≤ length word → length word ≤ 20 → AreDigits word → digits_value 10 word < 2 ^ 64 → digits_below (2 ^ 64) word ≡ Some (digits_value 10 word)
digits_below-fits word some short digits small =
    cond-true (is_decimal_number word && nat_lt (digits_value 10 word) (2 ^ 64)) _ _
    (and_from _ _ (and_from _ _ (and_from _ _ (le-leb 1 (length word) some) (le-leb (length word) 20 short)) digits) (lt-ltb (digits_value 10 word) (2 ^ 64) small))

-- ---- smaller limits

-- a number if it passes
abbrev below : Bool → ℕ → ℕ → Option ℕ
below numeral n limit = cond (numeral && nat_lt n limit) (Some n) None

below-none : (numeral : Bool) (n limit most : ℕ) → limit ≤ most → below numeral n most ≡ None → below numeral n limit ≡ None
below-none false n limit most less none = refl
below-none true n limit most less none = ⊎_elim
    (λ fits. let found : Some n ≡ None = sym (cond-true (nat_lt n most) (Some n) None (lt-ltb n most fits)) ∙ none in cc)
    (λ large. cond-false (nat_lt n limit) (Some n) None (le-ltb n limit (omega arith)))
    (cases_lt n most)

-- what is no number below a limit is none below a lesser one
pub digits_below-none : (limit most : ℕ) (word : List ℕ) → limit ≤ most → digits_below most word ≡ None → digits_below limit word ≡ None
digits_below-none limit most word less none = below-none (is_decimal_number word) (digits_value 10 word) limit most less none

below-some : (numeral : Bool) (n limit most value : ℕ) → below numeral n most ≡ Some value → below numeral n limit ≡ below true value limit
below-some false n limit most value some = let none : None ≡ Some value = some in cc
below-some true n limit most value some = ⊎_elim
    (λ fits. let is : Some n ≡ Some value = sym (cond-true (nat_lt n most) (Some n) None (lt-ltb n most fits)) ∙ some in ap (λ v. below true v limit) (the_value is))
    (λ large. let none : None ≡ Some value = sym (cond-false (nat_lt n most) (Some n) None (le-ltb n most large)) ∙ some in cc)
    (cases_lt n most)
  where
    the_value : Some n ≡ Some value → n ≡ value
    the_value same = cc

-- what is a number below a limit, tested by a lesser one
pub digits_below-some : (limit most value : ℕ) (word : List ℕ) → digits_below most word ≡ Some value → digits_below limit word ≡ cond (nat_lt value limit) (Some value) None
digits_below-some limit most value word some = below-some (is_decimal_number word) (digits_value 10 word) limit most value some
