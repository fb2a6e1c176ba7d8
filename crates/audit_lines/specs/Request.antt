-- What a request says, and what is known of its words.
use Rattle.std.specs.Prelude.{◌≡◌, ℕ, ◌≤◌, false, List, length, Option, None, Ok, Err, IsTrue, IfSome, ◌⊎◌}
use Rattle.audit_model.specs.Grammar.{Reading, Verb, set, get, has, load, del, add, clear, dropif, keys, sync, quit, is_key, is_value}
use Rattle.audit_model.specs.declared.config.Config.{Config}
use Rattle.audit_model.specs.declared.command.Command.TheVariants as says
use Rattle.audit_lines.specs.declared.request.Request.{Request}
use Rattle.audit_lines.specs.declared.request.Request.TheVariants.{Set, Get, Has, Load, Del, Add, Clear, DropIf, Keys, Sync, Quit, Fault}
use Rattle.audit_lines.specs.declared.request.Word.{Word}
use Rattle.audit_lines.specs.declared.request.Word.TheVariants as word

-- the command, or the fault
abbrev pub said : Request → Reading
said (Set key deadline value) = Ok (says.Set key.now deadline value.now)
said (Get key) = Ok (says.Get key.now)
said (Has key) = Ok (says.Has key.now)
said (Load key) = Ok (says.Load key.now)
said (Del key) = Ok (says.Del key.now)
said (Add key deadline number) = Ok (says.Add key.now deadline number)
said Clear = Ok says.Clear
said (DropIf prefix) = Ok (says.DropIf prefix.now)
said Keys = Ok says.Keys
said Sync = Ok says.Sync
said Quit = Ok says.Quit
said (Fault error) = Err error

-- the command that a word begins
abbrev pub verb_of : Word → Verb
verb_of word.Set = set
verb_of word.Get = get
verb_of word.Has = has
verb_of word.Load = load
verb_of word.Del = del
verb_of word.Add = add
verb_of word.Clear = clear
verb_of word.DropIf = dropif
verb_of word.Keys = keys
verb_of word.Sync = sync
verb_of word.Quit = quit

-- there are milliseconds only if there are own deadlines, and they have at most twelve digits
abbrev pub IsOwn : Config → Option ℕ → Type 0
IsOwn config deadline = IfSome deadline (λ ms. (ms ≤ 999999999999) × IsTrue config.own_deadlines)

-- the words of a `SET` that can be read
pub record IsFitSet (config : Config) (line key : List ℕ) (deadline : Option ℕ) (value : List ℕ) :
    Type 0 where
  pub key_fits : IsTrue (is_key key)
  pub value_fits : IsTrue (is_value value)
  pub short : length value ≤ length line
  pub own : IsOwn config deadline

-- the words of a request are such as the grammar has, and no longer than its line
abbrev pub IsFit : Config → List ℕ → Request → Type 0
IsFit config line (Set key deadline value) = IsFitSet config line key.now deadline value.now
IsFit config line (Get key) = IsTrue (is_key key.now)
IsFit config line (Has key) = IsTrue (is_key key.now)
IsFit config line (Load key) = IsTrue (is_key key.now)
IsFit config line (Del key) = IsTrue (is_key key.now)
IsFit config line (Add key deadline number) = IsTrue (is_key key.now) × IsOwn config deadline
IsFit config line Clear = Unit {0}
IsFit config line (DropIf prefix) = IsTrue (is_key prefix.now)
IsFit config line Keys = Unit {0}
IsFit config line Sync = Unit {0}
IsFit config line Quit = Unit {0}
IsFit config line (Fault error) = Unit {0}

-- no key stands before the first space, or there is no space
abbrev pub IsUnkeyed : List ℕ × Option (List ℕ) → Type 0
IsUnkeyed cut = (is_key cut.0 ≡ false) ⊎ (cut.1 ≡ None)
