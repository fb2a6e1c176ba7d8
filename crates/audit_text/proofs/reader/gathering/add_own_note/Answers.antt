use Rattle.std.proofs.Common.{◌≡◌, List, [], ◌++◌, sym, ◌∙◌, subst}
use Rattle.std.specs.Prelude.{codes, OnOk}
use Rattle.std.specs.List.{flat_map}
use Rattle.std.specs.Option.{option_map_or}
use Rattle.audit_text.specs.Text.{config_words, made_words, note_line, record_text, step_text}
use Rattle.audit_text.specs.Words.{line}
use Rattle.audit_text.proofs.reader.Growing.{recorded-if}
use Rattle.audit_text.proofs.reader.gathering.add_own_note.Goals as goal

pub returns-in-Some-clause-text : goal.returns-in-Some-clause-text
returns-in-Some-clause-text c =
    let g = c.args.gathered.now in
    let front = option_map_or (λ config. line (config_words config)) g.config [] ++ option_map_or (λ made. line (made_words made.nanos)) g.made [] ++ flat_map record_text g.records in
    let more = note_line (codes "ownnote") c.args.note in
    let new = record_text c.put_own_note.new.last in
    let last = option_map_or step_text g.step [] in
    subst (λ was. OnOk c.put_own_note.result ((front ++ new) ++ last ≡ ((front ++ option_map_or record_text was []) ++ last) ++ more)) (sym c.in-Some.is)
    (recorded-if c.put_own_note.result front more (record_text c.in-Some.record) new g.step (sym c.is_some.ensures ∙ c.if-is_some.false) c.put_own_note.ensures.text)
