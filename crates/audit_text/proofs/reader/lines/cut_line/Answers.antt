use Rattle.std.proofs.Common.{◌+◌, ◌∷◌, ◌++◌, take, sym, ap, ◌∙◌}
use Rattle.std.specs.List.{flat_map}
use Rattle.std.proofs.lemmas.List.{take_rest}
use Rattle.audit_text.specs.Reader.Lines.{lines, telling_line, said_line}
use Rattle.audit_text.proofs.reader.Cutting.{pieces-found, pieces-missed}
use Rattle.audit_text.proofs.reader.lines.cut_line.Goals as goal

pub returns-in-Some-clause-kept : goal.returns-in-Some-clause-kept
returns-in-Some-clause-kept c =
    let text = c.args.text.now in
    let at = c.in-Some.at in
    ap (flat_map telling_line) (pieces-found 10 at text c.in-Some.ensures ∙ ap (λ behind. take at text ∷ lines behind) (sym (take_rest text (at + 1))))

pub returns-in-Some-clause-said : goal.returns-in-Some-clause-said
returns-in-Some-clause-said c =
    let text = c.args.text.now in
    let at = c.in-Some.at in
    ap (flat_map said_line) (pieces-found 10 at text c.in-Some.ensures ∙ ap (λ behind. take at text ∷ lines behind) (sym (take_rest text (at + 1))))

pub returns-in-None-clause-kept : goal.returns-in-None-clause-kept
returns-in-None-clause-kept c = ap (flat_map telling_line) (pieces-missed 10 c.args.text.now c.in-None.ensures)

pub returns-in-None-clause-said : goal.returns-in-None-clause-said
returns-in-None-clause-said c = ap (flat_map said_line) (pieces-missed 10 c.args.text.now c.in-None.ensures)
