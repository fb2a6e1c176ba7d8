-- What the lines of inputs say, one by one and together.
use Rattle.std.specs.Prelude.{◌≡◌, ℕ, Bool, not, ◌&&◌, ◌||◌, nat_eq, if◌then◌else◌, List, [], ◌∷◌, ◌++◌, length, codes, Option, Some, None, is_none, Result, Ok, Err, option_map}
use Rattle.std.specs.List.{flat_map}
use Rattle.std.specs.Option.{option_map_or}
use Rattle.std.specs.Str.{bytes_eq}
use Rattle.audit_model.specs.Grammar.{number_in}
use Rattle.audit_model.specs.declared.config.Config.{Config}
use Rattle.audit_model.specs.declared.event.Event.{Event}
use Rattle.audit_model.specs.declared.event.Event.TheVariants as event
use Rattle.audit_model.specs.declared.event.Instant.{Instant}
use Rattle.audit_model.specs.declared.input.Input.{Input}
use Rattle.audit_model.specs.declared.input.Input.TheVariants as input
use Rattle.audit_text.specs.Text.{config_words, made_words}
use Rattle.audit_text.specs.Words.{line}
use Rattle.audit_text.specs.Reader.Fields.{◌>>=◌, field, if_no_word_left}
use Rattle.audit_text.specs.Reader.Inputs.{input_words}
use Rattle.audit_text.specs.Reader.Items.{config_in_words, event_of}
use Rattle.audit_text.specs.Reader.Lines.{line_words, said_lines}
use Rattle.audit_text.specs.declared.reader.fields.TextError.{TextError}
use Rattle.audit_text.specs.declared.reader.fields.TextError.TheVariants as error
use Rattle.audit_text.specs.declared.reader.inputs.Begun.{Begun}
use Rattle.audit_text.specs.declared.reader.inputs.InputLine.{InputLine}
use Rattle.audit_text.specs.declared.reader.inputs.InputLine.TheVariants as entry
use Rattle.audit_text.specs.declared.reader.inputs.Replay.{Replay}

-- the line of an entry
abbrev pub entry_line : InputLine → List ℕ
entry_line (entry.Config config) = line (config_words config)
entry_line (entry.Made made) = line (made_words made.nanos)
entry_line (entry.Input input) = line (input_words input)

-- the event, asked of a namespace
abbrev pub input_asking : ℕ → Event → Input
input_asking namespace (event.Open conn) = input.Open namespace
input_asking namespace (event.Close conn) = input.Close (record { namespace = namespace; number = conn })
input_asking namespace (event.Feed conn piece moment) = input.Feed (record { namespace = namespace; number = conn }) piece moment
input_asking namespace (event.Answer load outcome moment) = input.Answer (record { namespace = namespace; number = load }) outcome moment
input_asking namespace (event.GiveUp load moment) = input.GiveUp (record { namespace = namespace; number = load }) moment

-- what is asked, by its kind
unfoldable pub asked_of : ℕ → List ℕ → List (List ℕ) → Option (Input × List (List ℕ))
asked_of namespace kind ws =
    if bytes_eq kind (codes "open") then Some (input.Open namespace, ws) else option_map (λ event. (input_asking namespace event.0, event.1)) (event_of kind ws)

-- an input after its word
unfoldable pub input_in : List (List ℕ) → Option (Input × List (List ℕ))
input_in ws = do
  namespace ← field number_in ws
  kind ← field Some namespace.1
  asked_of namespace.0 kind.0 kind.1

-- what is said, by its kind
unfoldable pub entry_of : List ℕ → List (List ℕ) → Option (InputLine × List (List ℕ))
entry_of kind ws =
    if bytes_eq kind (codes "input") then option_map (λ input. (entry.Input input.0, input.1)) (input_in ws)
    else (if bytes_eq kind (codes "config") then option_map (λ config. (entry.Config config.0, config.1)) (config_in_words ws)
    else (if bytes_eq kind (codes "made") then option_map (λ nanos. (entry.Made (record { nanos = nanos.0 }), nanos.1)) (field number_in ws)
    else None))

-- what the words of a whole line say, less strictly
unfoldable pub entry_words_in : List (List ℕ) → Option InputLine
entry_words_in ws = do
  kind ← field Some ws
  said ← entry_of kind.0 kind.1
  if_no_word_left said

-- what a line says; it is well-formed only as it would be written
unfoldable pub entry_in : List ℕ → Option InputLine
entry_in line = do
  said ← entry_words_in (line_words line)
  (if bytes_eq (entry_line said) (line ++ 10 ∷ []) then Some said else None)

-- ---- together

-- nothing was read
abbrev pub none_begun : Begun
none_begun = record { configs = []; made = None; inputs = [] }

-- the text of what was read
abbrev pub begun_text : Begun → List ℕ
begun_text b =
    flat_map (λ config. line (config_words config)) b.configs
    ++ option_map_or (λ made. line (made_words made.nanos)) b.made []
    ++ flat_map (λ input. line (input_words input)) b.inputs

-- nothing but configurations was read
abbrev pub has_only_configs : Begun → Bool
has_only_configs b = is_none b.made && nat_eq (length b.inputs) 0

unfoldable pub begin_config : Begun → Config → Option Begun
begin_config b config = if not (has_only_configs b) then None else Some (record b { configs = b.configs ++ config ∷ [] })

unfoldable pub begin_made : Begun → Instant → Option Begun
begin_made b made = if not (has_only_configs b) || nat_eq (length b.configs) 0 then None else Some (record b { made = Some made })

unfoldable pub begin_input : Begun → Input → Option Begun
begin_input b input = if is_none b.made then None else Some (record b { inputs = b.inputs ++ input ∷ [] })

-- what was read with one more entry, if it may come there
abbrev pub add_entry : Begun → InputLine → Option Begun
add_entry b (entry.Config config) = begin_config b config
add_entry b (entry.Made made) = begin_made b made
add_entry b (entry.Input input) = begin_input b input

-- lines that say something, after what was read
abbrev pub begin_lines : Begun → List (List ℕ) → Option Begun
begin_lines b [] = Some b
begin_lines b (l ∷ ls) = do
  said ← entry_in l
  more ← add_entry b said
  begin_lines more ls

-- the replay, if the moment of creation was read
abbrev pub replay_of : Begun → Option Replay
replay_of b = option_map {T = Instant} (λ made. record { configs = b.configs; made = made; inputs = b.inputs }) b.made

-- what a text says
unfoldable pub replay_reading : List ℕ → Option Replay
replay_reading text = begin_lines none_begun (said_lines text) >>= replay_of

-- this replay was read, or there was no memory
abbrev pub IsReplay : Result Replay TextError → Replay → Type 0
IsReplay (Ok r) replay = r ≡ replay
IsReplay (Err (error.Line number)) replay = ⊥
IsReplay (Err error.OutOfMemory) replay = Unit {0}
