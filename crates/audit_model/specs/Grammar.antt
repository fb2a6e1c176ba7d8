-- Which lines can be read, and what they say.
use Rattle.std.specs.Prelude.{ℕ, ◌^◌, Bool, not, ◌&&◌, ◌==◌, nat_le, nat_lt, List, [], ◌∷◌, length, Option, Some, None, Result, Ok, Err, if◌then◌else◌, codes}
use Rattle.std.specs.List.{list_all}
use Rattle.std.specs.Str.Parse.{digits_value}
use Rattle.audit_model.specs.Bytewise.{same, cut_at, words, words_up_to}
use Rattle.audit_model.specs.declared.config.Config.{Config}
use Rattle.audit_model.specs.declared.command.Command.{Command}
use Rattle.audit_model.specs.declared.command.Command.TheVariants as says
use Rattle.audit_model.specs.declared.command.LineError.{LineError}
use Rattle.audit_model.specs.declared.command.LineError.TheVariants as fault

-- a byte that a key may have
abbrev pub is_key_byte : ℕ → Bool
is_key_byte b = nat_le 33 b && nat_le b 126

-- a key or prefix has 1 to 250 bytes of 33 to 126
abbrev pub is_key : List ℕ → Bool
is_key word = nat_le 1 (length word) && nat_le (length word) 250 && list_all is_key_byte word

-- a value has no line feed and no carriage return
abbrev pub is_value : List ℕ → Bool
is_value bytes = list_all (λ b. not (b == 10) && not (b == 13)) bytes

-- a digit
abbrev pub is_digit : ℕ → Bool
is_digit b = nat_le 48 b && nat_le b 57

-- 1 to n digits
abbrev pub is_numeral : ℕ → List ℕ → Bool
is_numeral n word = nat_le 1 (length word) && nat_le (length word) n && list_all is_digit word

-- the number that 1 to 20 digits write, below 2 ^ 64
abbrev pub number_in : List ℕ → Option ℕ
number_in word =
    if is_numeral 20 word && nat_lt (digits_value 10 word) (2 ^ 64) then Some (digits_value 10 word)
    else None

-- a deadline is `-` for none, or 1 to 12 digits of milliseconds if own deadlines are allowed
abbrev pub deadline_in : Config → List ℕ → Option (Option ℕ)
deadline_in config word =
    if same word (codes "-") then Some None
    else (if config.own_deadlines && is_numeral 12 word then Some (Some (digits_value 10 word))
    else None)

-- the commands
pub data Verb : Type 0 where
  set get has load del add clear dropif keys sync quit : Verb

-- the table of command words, in capital letters
abbrev pub verb_in : List ℕ → Option Verb
verb_in word =
    if same word (codes "SET") then Some set
    else (if same word (codes "GET") then Some get
    else (if same word (codes "HAS") then Some has
    else (if same word (codes "LOAD") then Some load
    else (if same word (codes "DEL") then Some del
    else (if same word (codes "ADD") then Some add
    else (if same word (codes "CLEAR") then Some clear
    else (if same word (codes "DROPIF") then Some dropif
    else (if same word (codes "KEYS") then Some keys
    else (if same word (codes "SYNC") then Some sync
    else (if same word (codes "QUIT") then Some quit else None))))))))))

-- the result of reading a line: a command or a fault
abbrev pub Reading : Type 0
Reading = Result Command LineError

-- the command, if its key is a key
abbrev pub with_key : List ℕ → Command → Reading
with_key key command = if is_key key then Ok command else Err fault.Syntax

-- a `SET` with the deadline that was read
abbrev pub read_set : List ℕ → List ℕ → Option (Option ℕ) → Reading
read_set key value None = Err fault.Deadline
read_set key value (Some deadline) = Ok (says.Set key deadline value)

-- an `ADD` with the deadline and the number that were read; the deadline is tested first
abbrev pub read_add : List ℕ → Option (Option ℕ) → Option ℕ → Reading
read_add key None number = Err fault.Deadline
read_add key (Some deadline) None = Err fault.Number
read_add key (Some deadline) (Some number) = Ok (says.Add key deadline number)

-- a command's word with the words after it
abbrev pub read_words : Config → Verb → List (List ℕ) → Reading
read_words config set (key ∷ deadline ∷ value ∷ []) =
    if is_key key && is_value value then read_set key value (deadline_in config deadline)
    else Err fault.Syntax
read_words config get (key ∷ []) = with_key key (says.Get key)
read_words config has (key ∷ []) = with_key key (says.Has key)
read_words config load (key ∷ []) = with_key key (says.Load key)
read_words config del (key ∷ []) = with_key key (says.Del key)
read_words config add (key ∷ deadline ∷ number ∷ []) =
    if is_key key then read_add key (deadline_in config deadline) (number_in number)
    else Err fault.Syntax
read_words config clear [] = Ok says.Clear
read_words config dropif (prefix ∷ []) = with_key prefix (says.DropIf prefix)
read_words config keys [] = Ok says.Keys
read_words config sync [] = Ok says.Sync
read_words config quit [] = Ok says.Quit
read_words config verb _ = Err fault.Syntax

-- the words after the command's word; a value is the rest of its line, with its spaces
abbrev pub words_behind : Verb → Option (List ℕ) → List (List ℕ)
words_behind verb None = []
words_behind set (Some rest) = words_up_to 2 rest
words_behind verb (Some rest) = words rest

-- what comes after the command's word, if there is one
abbrev pub read_verb : Config → Option Verb → Option (List ℕ) → Reading
read_verb config None rest = Err fault.Command
read_verb config (Some verb) rest = read_words config verb (words_behind verb rest)

-- what a line says: a command, or the first fault that applies
abbrev pub reading : Config → List ℕ → Reading
reading config line = read_verb config (verb_in (cut_at 32 line).0) (cut_at 32 line).1
