-- What the words of a line say.
use Rattle.std.specs.Prelude.{◌≡◌, ℕ, ◌+◌, ◌-◌, ◌*◌, Bool, true, false, ◌&&◌, nat_le, ◌==◌, if◌then◌else◌, List, [], ◌∷◌, ◌++◌, codes, Option, Some, None, option_map, option_and_then, Result, Ok, Err, Vec, ◌≢◌}
use Rattle.std.specs.Borrow.{Bor}
use Rattle.std.specs.Str.{bytes_eq}
use Rattle.audit_model.specs.Grammar.{number_in}
use Rattle.audit_model.specs.declared.config.EvictionPolicy.{EvictionPolicy}
use Rattle.audit_model.specs.declared.config.EvictionPolicy.TheVariants as policy
use Rattle.audit_model.specs.declared.config.Weight.{Weight}
use Rattle.audit_model.specs.declared.config.Weight.TheVariants as weight
use Rattle.audit_model.specs.declared.transcript.Accepted.{Accepted}
use Rattle.audit_model.specs.declared.transcript.RemovalCause.{RemovalCause}
use Rattle.audit_model.specs.declared.transcript.RemovalCause.TheVariants as cause
use Rattle.audit_text.specs.Reader.Lines.{line_words}
use Rattle.audit_text.specs.declared.reader.fields.LineFault.{LineFault}
use Rattle.audit_text.specs.declared.reader.fields.LineFault.TheVariants as fault
use Rattle.audit_text.specs.declared.reader.fields.TextError.{TextError}
use Rattle.audit_text.specs.declared.reader.fields.TextError.TheVariants as error
use Rattle.audit_text.specs.declared.reader.fields.Words.{Words}

infixl 10 ◌>>=◌
abbrev pub ◌>>=◌ : {A B : Type 0} → Option A → (A → Option B) → Option B
o >>= f = option_and_then f o

-- the fault, of the line with this number
abbrev pub at_line : LineFault → ℕ → TextError
at_line fault.Form number = error.Line number
at_line fault.OutOfMemory number = error.OutOfMemory

-- there is a fault of form only if the definition gives nothing; if memory ran out nothing is said
abbrev pub IsFault : {A : Type 0} → Option A → LineFault → Type 0
IsFault said fault.Form = said ≡ None
IsFault said fault.OutOfMemory = Unit {0}

-- a result that is as the definition says: its value is the one that the definition gives, and it has a fault of form only if the
-- definition gives none
abbrev pub IsRead : {A : Type 0} → Option A → Result A LineFault → Type 0
IsRead said (Ok a) = said ≡ Some a
IsRead said (Err f) = IsFault said f

-- the same for a reading that leaves words
abbrev pub IsReadOff : {A : Type 0} → Option (A × List (List ℕ)) → Result A LineFault
    → List (List ℕ) → Type 0
IsReadOff said (Ok a) left = said ≡ Some (a, left)
IsReadOff said (Err f) left = IsFault said f

-- the words of what is left, if anything is
abbrev pub words_of_rest : Option (Bor (List ℕ)) → List (List ℕ)
words_of_rest None = []
words_of_rest (Some rest) = line_words rest.now

-- the words that are still to be read
abbrev pub words_left : Words → List (List ℕ)
words_left it = words_of_rest it.rest

-- the next word was read, and those after it are left; there is no next word only if there is none
abbrev pub IsNextWord : List (List ℕ) → Result (Bor (List ℕ)) LineFault → List (List ℕ) → Type 0
IsNextWord old (Ok word) left = old ≡ word.now ∷ left
IsNextWord old (Err fault.Form) left = old ≡ []
IsNextWord old (Err fault.OutOfMemory) left = ⊥

-- all words were read
abbrev pub IsEnd : {A : Type 0} → List (List ℕ) → Result A LineFault → Type 0
IsEnd left (Ok done) = left ≡ []
IsEnd left (Err fault.Form) = left ≢ []
IsEnd left (Err fault.OutOfMemory) = ⊥

-- what comes after a prefix was returned, or it has no such prefix
abbrev pub IsBehind : Option (List ℕ) → Result (Bor (List ℕ)) LineFault → Type 0
IsBehind said (Ok rest) = said ≡ Some rest.now
IsBehind said (Err fault.Form) = said ≡ None
IsBehind said (Err fault.OutOfMemory) = ⊥

-- a result that is as the definition says, as a `Vec`
abbrev pub IsReadItems : {S : Type 0} → Option (List ℕ) → Result (Vec ℕ S) LineFault → Type 0
IsReadItems said (Ok bytes) = said ≡ Some bytes.items
IsReadItems said (Err f) = IsFault said f

-- what the next word says, and the words after it
abbrev pub field : {A : Type 0} → (List ℕ → Option A) → List (List ℕ) → Option (A × List (List ℕ))
field says [] = None
field says (w ∷ ws) = option_map (λ a. (a, ws)) (says w)

-- what was said, if no word is left
abbrev pub if_no_word_left : {A : Type 0} → A × List (List ℕ) → Option A
if_no_word_left (a, []) = Some a
if_no_word_left (a, w ∷ ws) = None

-- what may be missing
abbrev pub option_in : {A : Type 0} → (List ℕ → Option A) → List ℕ → Option (Option A)
option_in says word = if bytes_eq word (codes "-") then Some None else option_map Some (says word)

-- a part
abbrev pub part_in_words : List ℕ → Option Accepted
part_in_words word = option_map (λ part. record { part = part }) (number_in word)

-- yes or no
abbrev pub flag_in : List ℕ → Option Bool
flag_in word =
    if bytes_eq word (codes "1") then Some true
    else (if bytes_eq word (codes "0") then Some false else None)

-- whether a step was held back
abbrev pub held_in : List ℕ → Option Bool
held_in word =
    if bytes_eq word (codes "held") then Some true
    else (if bytes_eq word (codes "run") then Some false else None)

abbrev pub policy_in : List ℕ → Option EvictionPolicy
policy_in word =
    if bytes_eq word (codes "lru") then Some policy.Lru
    else (if bytes_eq word (codes "tinylfu") then Some policy.TinyLfu else None)

abbrev pub weight_in_words : List ℕ → Option Weight
weight_in_words word =
    if bytes_eq word (codes "one") then Some weight.One
    else (if bytes_eq word (codes "bytes") then Some weight.Bytes else None)

abbrev pub cause_in : List ℕ → Option RemovalCause
cause_in word =
    if bytes_eq word (codes "Expired") then Some cause.Expired
    else (if bytes_eq word (codes "Explicit") then Some cause.Explicit
    else (if bytes_eq word (codes "Replaced") then Some cause.Replaced
    else (if bytes_eq word (codes "Size") then Some cause.Size else None)))

-- what comes after a prefix
abbrev pub behind_prefix : List ℕ → List ℕ → Option (List ℕ)
behind_prefix [] word = Some word
behind_prefix (n ∷ name) [] = None
behind_prefix (n ∷ name) (b ∷ word) = if b == n then behind_prefix name word else None

-- what comes after this name in the next word was returned, and the words after it are left
abbrev pub IsSetting : List ℕ → List (List ℕ) → Result (Bor (List ℕ)) LineFault → List (List ℕ)
    → Type 0
IsSetting name old (Ok rest) left = field (behind_prefix name) old ≡ Some (rest.now, left)
IsSetting name old (Err f) left = IsFault (field (behind_prefix name) old) f

-- the value of a setting of this name, which ends in `=`
abbrev pub setting_in : {A : Type 0} → List ℕ → (List ℕ → Option A) → List ℕ → Option A
setting_in name says word = behind_prefix name word >>= says

-- the value of a lower-case hex digit
abbrev pub digit_in : ℕ → Option ℕ
digit_in d =
    if nat_le 48 d && nat_le d 57 then Some (d - 48)
    else (if nat_le 97 d && nat_le d 102 then Some (d - 87) else None)

-- the byte that two digits write
abbrev pub byte_in : ℕ → ℕ → Option ℕ
byte_in high low = do
  h ← digit_in high
  l ← digit_in low
  Some (h * 16 + l)

-- bytes after those of `front`, two digits each
abbrev pub digits_in : List ℕ → List ℕ → Option (List ℕ)
digits_in front [] = Some front
digits_in front (high ∷ []) = None
digits_in front (high ∷ low ∷ rest) = do
  byte ← byte_in high low
  digits_in (front ++ byte ∷ []) rest

-- bytes: `x`, and two digits for each byte
abbrev pub bytes_in : List ℕ → Option (List ℕ)
bytes_in word = behind_prefix (codes "x") word >>= digits_in []
