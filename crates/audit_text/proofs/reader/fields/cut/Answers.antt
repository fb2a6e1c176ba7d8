use Rattle.std.proofs.Common.{◌+◌, ◌∷◌, take, sym, ap, ◌∙◌}
use Rattle.std.proofs.lemmas.List.{take_rest}
use Rattle.audit_text.specs.Reader.Lines.{line_words}
use Rattle.audit_text.proofs.reader.Cutting.{pieces-found, pieces-missed}
use Rattle.audit_text.proofs.reader.fields.cut.Goals as goal

pub returns-in-Some : goal.returns-in-Some
returns-in-Some c =
    let line = c.args.line.now in
    let at = c.in-Some.at in
    pieces-found 32 at line c.in-Some.ensures ∙ ap (λ behind. take at line ∷ line_words behind) (sym (take_rest line (at + 1)))

pub returns-in-None : goal.returns-in-None
returns-in-None c = pieces-missed 32 c.args.line.now c.in-None.ensures
