-- What the lines that were read so far say.
use Rattle.std.specs.Prelude.{ℕ, List, [], ◌∷◌, ◌++◌, Option, Some, codes}
use Rattle.std.specs.List.{flat_map}
use Rattle.std.specs.Option.{option_map_or}
use Rattle.audit_text.specs.Text.{config_words, made_words, event_words, own_text, note_line, record_text, step_text}
use Rattle.audit_text.specs.Words.{line}
use Rattle.audit_text.specs.declared.reader.gathering.Gathered.{Gathered}
use Rattle.audit_text.specs.declared.reader.item.Item.{Item}
use Rattle.audit_text.specs.declared.reader.item.Item.TheVariants as item

-- the line of an item; a step comes without its notes
abbrev pub item_line : Item → List ℕ
item_line (item.Config config) = line (config_words config)
item_line (item.Made made) = line (made_words made.nanos)
item_line (item.Event event) = line (event_words event)
item_line (item.Own own) = own_text (Some own)
item_line (item.OwnNote note) = note_line (codes "ownnote") note
item_line (item.Step step) = step_text step
item_line (item.Note note) = note_line (codes "note") note

-- the text of what was gathered
abbrev pub gathered_text : Gathered → List ℕ
gathered_text g =
    option_map_or (λ config. line (config_words config)) g.config []
    ++ option_map_or (λ made. line (made_words made.nanos)) g.made []
    ++ flat_map record_text g.records
    ++ option_map_or record_text g.last []
    ++ option_map_or step_text g.step []
