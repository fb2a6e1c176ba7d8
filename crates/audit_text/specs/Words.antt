-- The words of the text form.
use Rattle.std.specs.Prelude.{ℕ, ◌+◌, ◌/◌, ◌%◌, nat_lt, Bool, true, false, if◌then◌else◌, List, [], ◌∷◌, ◌++◌, Option, Some, None, codes}
use Rattle.std.specs.List.{flat_map}
use Rattle.audit_model.specs.declared.config.EvictionPolicy.{EvictionPolicy}
use Rattle.audit_model.specs.declared.config.EvictionPolicy.TheVariants as policy
use Rattle.audit_model.specs.declared.config.Weight.{Weight}
use Rattle.audit_model.specs.declared.config.Weight.TheVariants as weight

-- the digit of a number below 16, in lower case
abbrev pub hex_digit : ℕ → ℕ
hex_digit n = if nat_lt n 10 then 48 + n else 87 + n

-- the two digits of a byte
abbrev pub byte_digits : ℕ → List ℕ
byte_digits b = hex_digit (b / 16) ∷ hex_digit (b % 16) ∷ []

-- bytes: `x`, and two digits for each byte
abbrev pub bytes_word : List ℕ → List ℕ
bytes_word bytes = 120 ∷ flat_map byte_digits bytes

-- what may be missing: `-` for none
abbrev pub option_word : {A : Type 0} → (A → List ℕ) → Option A → List ℕ
option_word word None = codes "-"
option_word word (Some x) = word x

-- yes or no: 1 or 0
abbrev pub flag_word : Bool → List ℕ
flag_word true = codes "1"
flag_word false = codes "0"

-- whether a step ran, or was held back
abbrev pub held_word : Bool → List ℕ
held_word true = codes "held"
held_word false = codes "run"

abbrev pub policy_word : EvictionPolicy → List ℕ
policy_word policy.Lru = codes "lru"
policy_word policy.TinyLfu = codes "tinylfu"

abbrev pub weight_word : Weight → List ℕ
weight_word weight.One = codes "one"
weight_word weight.Bytes = codes "bytes"

-- a line: its words, separated by one space, and a line feed
abbrev pub line : List (List ℕ) → List ℕ
line [] = 10 ∷ []
line (w ∷ []) = w ++ 10 ∷ []
line (w ∷ v ∷ ws) = w ++ 32 ∷ line (v ∷ ws)
