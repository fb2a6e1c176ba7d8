-- What a word of the form says.
use Rattle.std.proofs.Common.{◌≡◌, ◌≢◌, ℕ, zero, suc, ◌+◌, ◌-◌, ◌*◌, ◌/◌, ◌%◌, ◌^◌, ◌<◌, ◌≤◌, Bool, true, false, cond, List, [], ◌∷◌, ◌++◌, length, Option, Some, None, refl, sym, ap, ◌∙◌, arith, rules}
use Rattle.std.specs.Prelude.{nat_lt, nat_le, ◌&&◌, codes, decimal, option_map}
use Rattle.std.specs.List.{flat_map, list_all}
use Rattle.std.specs.Str.{bytes_eq}
use Rattle.std.specs.Str.Parse.{digits_value}
use Rattle.std.proofs.lemmas.Bool.{and_parts, and_from, and_right, and_left, leb-true, le-leb, lt-ltb, le-ltb, ltb-true, cond-true, cond-false}
use Rattle.std.proofs.lemmas.Bool.Decides.{nat_tests}
use Rattle.std.proofs.lemmas.Fmt.{decimal_nonempty, length-decimal-le, digits_decimal, digits_value-decimal}
use Rattle.std.proofs.lemmas.List.{append_assoc, append-nil}
use Rattle.std.proofs.lemmas.Str.Parse.{IsDigitsTest, IsNumeralModel, numerals_by_value}
use Rattle.audit_model.specs.Grammar.{is_digit, number_in}
use Rattle.audit_model.specs.declared.config.EvictionPolicy.{EvictionPolicy}
use Rattle.audit_model.specs.declared.config.EvictionPolicy.TheVariants as policy
use Rattle.audit_model.specs.declared.config.Weight.{Weight}
use Rattle.audit_model.specs.declared.config.Weight.TheVariants as weight
use Rattle.audit_model.specs.declared.transcript.Accepted.{Accepted}
use Rattle.audit_model.specs.declared.transcript.RemovalCause.{RemovalCause}
use Rattle.audit_model.specs.declared.transcript.RemovalCause.TheVariants as cause
use Rattle.audit_text.specs.Words.{hex_digit, byte_digits, bytes_word, option_word, flag_word, held_word, policy_word, weight_word}
use Rattle.audit_model.specs.Notes.{cause_word}
use Rattle.audit_text.specs.Text.{part_word}
use Rattle.audit_lines.proofs.Digits.{AreDigits, number_in-fits}
use Rattle.audit_text.specs.Reader.Fields.{◌>>=◌, option_in, part_in_words, flag_in, held_in, policy_in, weight_in_words, cause_in, digit_in, byte_in, digits_in, bytes_in}
use Rattle.audit_text.specs.Reader.Fits.{IfAny, FitsNumber, FitsBytes, FitsPart}
use Rattle.audit_text.proofs.reader.Joined.{IsWord}
use Rattle.audit_text.proofs.reader.Wording.{bytes_eq-differ}

-- ---- numbers

digits_tested : IsDigitsTest AreDigits
digits_tested = search rules

numerals : IsNumeralModel AreDigits (digits_value 10)
numerals = numerals_by_value AreDigits digits_tested

pub number_in-decimal : (n : ℕ) → n < 2 ^ 64 → number_in (decimal n) ≡ Some n
number_in-decimal n fits =
    let value = digits_value-decimal numerals n fits in
    number_in-fits (decimal n) (decimal_nonempty n fits) (length-decimal-le 20 n (omega arith) (omega arith) fits) (digits_decimal numerals n fits) (omega arith) ∙ ap Some value

digits-word : (w : List ℕ) → AreDigits w → IsWord w
digits-word [] digits = tt
digits-word (b ∷ w) digits =
    let parts = and_parts (is_digit b) (list_all is_digit w) digits in
    let low = leb-true 48 b (and_parts (nat_le 48 b) (nat_le b 57) parts.0).0 in
    (omega arith, digits-word w parts.1)

pub word-decimal : (n : ℕ) → n < 2 ^ 64 → IsWord (decimal n)
word-decimal n fits = digits-word (decimal n) (digits_decimal numerals n fits)

-- ---- bytes

digit_in-low : (n : ℕ) → n < 10 → digit_in (48 + n) ≡ Some n
digit_in-low n low =
    cond-true (nat_le 48 (48 + n) && nat_le (48 + n) 57) _ _ (and_from _ _ (le-leb 48 (48 + n) (omega arith)) (le-leb (48 + n) 57 (omega arith)))
    ∙ ap Some (let e : 48 + n - 48 ≡ n = omega arith in e)

digit_in-high : (n : ℕ) → n < 16 → 10 ≤ n → digit_in (87 + n) ≡ Some n
digit_in-high n below high =
    cond-false (nat_le 48 (87 + n) && nat_le (87 + n) 57) _ _ (grind (arith, nat_tests))
    ∙ cond-true (nat_le 97 (87 + n) && nat_le (87 + n) 102) _ _ (and_from _ _ (le-leb 97 (87 + n) (omega arith)) (le-leb (87 + n) 102 (omega arith)))
    ∙ ap Some (let e : 87 + n - 87 ≡ n = omega arith in e)

by_digit : (P : ℕ → Type 0) (n : ℕ) → (n < 10 → P (48 + n)) → (10 ≤ n → P (87 + n)) → P (hex_digit n)
by_digit P n low high = by_test (nat_lt n 10) refl
  where
    by_test : (t : Bool) → nat_lt n 10 ≡ t → P (cond t (48 + n) (87 + n))
    by_test true e = low (grind (arith, nat_tests))
    by_test false e = high (grind (arith, nat_tests))

pub digit_in-hex : (n : ℕ) → n < 16 → digit_in (hex_digit n) ≡ Some n
digit_in-hex n below = by_digit (λ d. digit_in d ≡ Some n) n (λ low. digit_in-low n low) (λ high. digit_in-high n below high)

above-hex : (n : ℕ) → 32 < hex_digit n
above-hex n = by_digit (λ d. 32 < d) n (λ low. omega arith) (λ high. omega arith)

byte_in-digits : (b : ℕ) → b < 256 → byte_in (hex_digit (b / 16)) (hex_digit (b % 16)) ≡ Some b
byte_in-digits b fits =
    ap (λ o. o >>= (λ h. digit_in (hex_digit (b % 16)) >>= (λ l. Some (h * 16 + l)))) (digit_in-hex (b / 16) (omega arith))
    ∙ ap (λ o. o >>= (λ l. Some (b / 16 * 16 + l))) (digit_in-hex (b % 16) (omega arith))
    ∙ ap Some (let e : b / 16 * 16 + b % 16 ≡ b = omega arith in e)

digits_in-bytes : (front bytes : List ℕ) → FitsBytes bytes → digits_in front (flat_map byte_digits bytes) ≡ Some (front ++ bytes)
digits_in-bytes front [] fits = ap Some (sym (append-nil front))
digits_in-bytes front (b ∷ bytes) fits =
    ap (λ o. o >>= (λ byte. digits_in (front ++ byte ∷ []) (flat_map byte_digits bytes))) (byte_in-digits b fits.0)
    ∙ digits_in-bytes (front ++ b ∷ []) bytes fits.1
    ∙ ap Some (append_assoc front (b ∷ []) bytes)

pub bytes_in-word : (bytes : List ℕ) → FitsBytes bytes → bytes_in (bytes_word bytes) ≡ Some bytes
bytes_in-word bytes fits = digits_in-bytes [] bytes fits

digits-words : (bytes : List ℕ) → IsWord (flat_map byte_digits bytes)
digits-words [] = tt
digits-words (b ∷ bytes) = (above-hex (b / 16), (above-hex (b % 16), digits-words bytes))

pub word-bytes : (bytes : List ℕ) → IsWord (bytes_word bytes)
word-bytes bytes = (omega arith, digits-words bytes)

-- ---- what may be missing

pub option_in-word : {A : Type 0} (says : List ℕ → Option A) (word : A → List ℕ) (x : Option A) → says (codes "-") ≡ None → IfAny (λ a. says (word a) ≡ Some a) x → option_in says (option_word word x) ≡ Some x
option_in-word says word None dash said = refl
option_in-word says word (Some a) dash said =
    cond-false (bytes_eq (word a) (codes "-")) _ _ (bytes_eq-differ (word a) (codes "-") (λ e. let f = sym said ∙ ap says e ∙ dash in cc))
    ∙ ap (option_map Some) said

pub word-option : {A : Type 0} (word : A → List ℕ) (x : Option A) → IfAny (λ a. IsWord (word a)) x → IsWord (option_word word x)
word-option word None fits = (omega arith, tt)
word-option word (Some a) fits = fits

pub IfAny-map : {A : Type 0} (P Q : A → Type 0) (x : Option A) → ((a : A) → P a → Q a) → IfAny P x → IfAny Q x
IfAny-map P Q None more h = tt
IfAny-map P Q (Some a) more h = more a h

pub number_or_none : (x : Option ℕ) → IfAny FitsNumber x → option_in number_in (option_word decimal x) ≡ Some x
number_or_none x fits = option_in-word number_in decimal x refl (IfAny-map FitsNumber _ x number_in-decimal fits)

pub word-number_or_none : (x : Option ℕ) → IfAny FitsNumber x → IsWord (option_word decimal x)
word-number_or_none x fits = word-option decimal x (IfAny-map FitsNumber _ x word-decimal fits)

pub part_in-word : (accepted : Accepted) → FitsPart accepted → part_in_words (part_word accepted) ≡ Some accepted
part_in-word accepted fits = ap (option_map (λ part. record { part = part })) (number_in-decimal accepted.part fits)

pub part_or_none : (x : Option Accepted) → IfAny FitsPart x → option_in part_in_words (option_word part_word x) ≡ Some x
part_or_none x fits = option_in-word part_in_words part_word x refl (IfAny-map FitsPart _ x part_in-word fits)

pub word-part_or_none : (x : Option Accepted) → IfAny FitsPart x → IsWord (option_word part_word x)
word-part_or_none x fits = word-option part_word x (IfAny-map FitsPart _ x (λ a. word-decimal a.part) fits)

pub bytes_or_none : (x : Option (List ℕ)) → IfAny FitsBytes x → option_in bytes_in (option_word bytes_word x) ≡ Some x
bytes_or_none x fits = option_in-word bytes_in bytes_word x refl (IfAny-map FitsBytes _ x bytes_in-word fits)

pub word-bytes_or_none : (x : Option (List ℕ)) → IfAny FitsBytes x → IsWord (option_word bytes_word x)
word-bytes_or_none x fits = word-option bytes_word x (IfAny-map FitsBytes _ x (λ bytes fits. word-bytes bytes) fits)

-- ---- words of a few

pub flag_in-word : (flag : Bool) → flag_in (flag_word flag) ≡ Some flag
flag_in-word true = refl
flag_in-word false = refl

pub held_in-word : (held : Bool) → held_in (held_word held) ≡ Some held
held_in-word true = refl
held_in-word false = refl

pub policy_in-word : (p : EvictionPolicy) → policy_in (policy_word p) ≡ Some p
policy_in-word policy.Lru = refl
policy_in-word policy.TinyLfu = refl

pub weight_in-word : (w : Weight) → weight_in_words (weight_word w) ≡ Some w
weight_in-word weight.One = refl
weight_in-word weight.Bytes = refl

pub cause_in-word : (c : RemovalCause) → cause_in (cause_word c) ≡ Some c
cause_in-word cause.Expired = refl
cause_in-word cause.Explicit = refl
cause_in-word cause.Replaced = refl
cause_in-word cause.Size = refl

-- ---- words by a test that computes

abbrev pub is_word : List ℕ → Bool
is_word w = list_all (λ x. nat_lt 32 x) w

pub word-tested : (w : List ℕ) → is_word w ≡ true → IsWord w
word-tested [] e = tt
word-tested (x ∷ w) e = let parts = and_parts (nat_lt 32 x) (list_all (λ x. nat_lt 32 x) w) e in (ltb-true 32 x parts.0, word-tested w parts.1)

pub word-flag : (flag : Bool) → IsWord (flag_word flag)
word-flag true = word-tested (codes "1") refl
word-flag false = word-tested (codes "0") refl

pub word-held : (held : Bool) → IsWord (held_word held)
word-held true = word-tested (codes "held") refl
word-held false = word-tested (codes "run") refl

pub word-policy : (p : EvictionPolicy) → IsWord (policy_word p)
word-policy policy.Lru = word-tested (codes "lru") refl
word-policy policy.TinyLfu = word-tested (codes "tinylfu") refl

pub word-weight : (w : Weight) → IsWord (weight_word w)
word-weight weight.One = word-tested (codes "one") refl
word-weight weight.Bytes = word-tested (codes "bytes") refl

pub word-cause : (c : RemovalCause) → IsWord (cause_word c)
word-cause cause.Expired = word-tested (codes "Expired") refl
word-cause cause.Explicit = word-tested (codes "Explicit") refl
word-cause cause.Replaced = word-tested (codes "Replaced") refl
word-cause cause.Size = word-tested (codes "Size") refl
