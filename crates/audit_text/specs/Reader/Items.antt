-- What a line says, by its words in order.
use Rattle.std.specs.Prelude.{ℕ, ◌^◌, nat_lt, if◌then◌else◌, List, [], ◌∷◌, ◌++◌, codes, Option, Some, None, option_map, option_and_then}
use Rattle.std.specs.Str.{bytes_eq}
use Rattle.audit_model.specs.Grammar.{number_in}
use Rattle.audit_model.specs.declared.config.Config.{Config}
use Rattle.audit_model.specs.declared.event.Event.{Event}
use Rattle.audit_model.specs.declared.event.Event.TheVariants as event
use Rattle.audit_model.specs.declared.event.Outcome.{Outcome}
use Rattle.audit_model.specs.declared.event.Outcome.TheVariants as outcome
use Rattle.audit_model.specs.declared.transcript.Note.{Note}
use Rattle.audit_model.specs.declared.transcript.Step.{Step}
use Rattle.audit_text.specs.Reader.Fields.{◌>>=◌, field, if_no_word_left, option_in, part_in_words, flag_in, held_in, policy_in, weight_in_words, cause_in, setting_in, bytes_in}
use Rattle.audit_text.specs.Reader.Gathered.{item_line}
use Rattle.audit_text.specs.Reader.Lines.{line_words}
use Rattle.audit_text.specs.declared.reader.item.Item.{Item}
use Rattle.audit_text.specs.declared.reader.item.Item.TheVariants as item

-- the settings after the word `config`
unfoldable pub config_in_words : List (List ℕ) → Option (Config × List (List ℕ))
config_in_words ws = do
  capacity ← field (setting_in (codes "capacity=") (option_in number_in)) ws
  kept ← field (setting_in (codes "policy=") policy_in) capacity.1
  parts ← field (setting_in (codes "parts=") number_in) kept.1
  weight ← field (setting_in (codes "weight=") weight_in_words) parts.1
  live ← field (setting_in (codes "live_ms=") (option_in number_in)) weight.1
  idle ← field (setting_in (codes "idle_ms=") (option_in number_in)) live.1
  own ← field (setting_in (codes "deadlines=") flag_in) idle.1
  (if nat_lt parts.0 (2 ^ 32) then Some (record { capacity = capacity.0; policy = kept.0; parts = parts.0; weight = weight.0; live_ms = live.0; idle_ms = idle.0; own_deadlines = own.0 }, own.1) else None)

-- a piece of a connection's bytes, after the word `feed`
unfoldable pub feed_in_words : List (List ℕ) → Option (Event × List (List ℕ))
feed_in_words ws = do
  conn ← field number_in ws
  nanos ← field number_in conn.1
  piece ← field bytes_in nanos.1
  Some (event.Feed conn.0 piece.0 (record { nanos = nanos.0 }), piece.1)

-- a loader's value
unfoldable pub value_in_words : List (List ℕ) → Option (Outcome × List (List ℕ))
value_in_words ws = do
  bytes ← field bytes_in ws
  ms ← field (option_in number_in) bytes.1
  Some (outcome.Value bytes.0 ms.0, ms.1)

-- what a loader returned, by its kind
unfoldable pub outcome_of : List ℕ → List (List ℕ) → Option (Outcome × List (List ℕ))
outcome_of kind ws =
    if bytes_eq kind (codes "value") then value_in_words ws
    else (if bytes_eq kind (codes "none") then Some (outcome.None, ws)
    else (if bytes_eq kind (codes "fault") then option_map (λ text. (outcome.Fault text.0, text.1)) (field bytes_in ws) else None))

-- an answer, after its word
unfoldable pub answer_in_words : List (List ℕ) → Option (Event × List (List ℕ))
answer_in_words ws = do
  load ← field number_in ws
  nanos ← field number_in load.1
  kind ← field Some nanos.1
  said ← outcome_of kind.0 kind.1
  Some (event.Answer load.0 said.0 (record { nanos = nanos.0 }), said.1)

-- a load that was given up, after its word
unfoldable pub give_up_in_words : List (List ℕ) → Option (Event × List (List ℕ))
give_up_in_words ws = do
  load ← field number_in ws
  nanos ← field number_in load.1
  Some (event.GiveUp load.0 (record { nanos = nanos.0 }), nanos.1)

-- an event, by its kind
unfoldable pub event_of : List ℕ → List (List ℕ) → Option (Event × List (List ℕ))
event_of kind ws =
    if bytes_eq kind (codes "feed") then feed_in_words ws
    else (if bytes_eq kind (codes "answer") then answer_in_words ws
    else (if bytes_eq kind (codes "giveup") then give_up_in_words ws
    else (if bytes_eq kind (codes "open") then option_map (λ conn. (event.Open conn.0, conn.1)) (field number_in ws)
    else (if bytes_eq kind (codes "close") then option_map (λ conn. (event.Close conn.0, conn.1)) (field number_in ws) else None))))

-- a note after its word
unfoldable pub note_in_words : List (List ℕ) → Option (Note × List (List ℕ))
note_in_words ws = do
  why ← field cause_in ws
  key ← field bytes_in why.1
  value ← field bytes_in key.1
  Some (record { cause = why.0; key = key.0; value = value.0 }, value.1)

-- a step after its word, without notes
unfoldable pub step_in_words : List (List ℕ) → Option (Step × List (List ℕ))
step_in_words ws = do
  conn ← field number_in ws
  held ← field held_in conn.1
  line ← field bytes_in held.1
  reply ← field (option_in bytes_in) line.1
  load ← field (option_in number_in) reply.1
  accepted ← field (option_in part_in_words) load.1
  Some (record { conn = conn.0; line = line.0; held = held.0; reply = reply.0; load = load.0; accepted = accepted.0; notices = [] }, accepted.1)

-- a line of the head, or an event, by its kind
abbrev pub item_of_kind : List ℕ → List (List ℕ) → Option (Item × List (List ℕ))
item_of_kind kind ws =
    if bytes_eq kind (codes "config") then option_map (λ config. (item.Config config.0, config.1)) (config_in_words ws)
    else (if bytes_eq kind (codes "made") then option_map (λ nanos. (item.Made (record { nanos = nanos.0 }), nanos.1)) (field number_in ws)
    else option_map (λ event. (item.Event event.0, event.1)) (event_of kind ws))

-- what is said, by its kind
unfoldable pub item_of : List ℕ → List (List ℕ) → Option (Item × List (List ℕ))
item_of kind ws =
    if bytes_eq kind (codes "step") then option_map (λ step. (item.Step step.0, step.1)) (step_in_words ws)
    else (if bytes_eq kind (codes "note") then option_map (λ note. (item.Note note.0, note.1)) (note_in_words ws)
    else (if bytes_eq kind (codes "own") then option_map (λ part. (item.Own part.0, part.1)) (field part_in_words ws)
    else (if bytes_eq kind (codes "ownnote") then option_map (λ note. (item.OwnNote note.0, note.1)) (note_in_words ws)
    else item_of_kind kind ws)))

-- what the words of a whole line say, less strictly
unfoldable pub words_in : List (List ℕ) → Option Item
words_in ws = do
  kind ← field Some ws
  said ← item_of kind.0 kind.1
  if_no_word_left said

-- what a line says; it is well-formed only as it would be written
unfoldable pub item_in : List ℕ → Option Item
item_in line = do
  said ← words_in (line_words line)
  (if bytes_eq (item_line said) (line ++ 10 ∷ []) then Some said else None)
