use Rattle.std.proofs.Common.{◌≡◌, ◌++◌, ◌+◌, None, length, sym, ap, ◌∙◌, subst}
use Rattle.std.specs.Prelude.{Err}
use Rattle.audit_text.specs.Reader.Entries.{begin_lines, none_begun, replay_of, replay_reading}
use Rattle.audit_text.specs.Reader.Fields.{◌>>=◌, at_line}
use Rattle.audit_text.specs.Reader.Gathering.{IsReadText}
use Rattle.audit_text.specs.Reader.Lines.{said_line, said_lines}
use Rattle.audit_text.proofs.reader.Gatherings.{begin_lines_append, at_line-fault}
use Rattle.audit_text.proofs.reader.inputs.read_entries.Goals as goal

pub returns-in-Err-clause-said : goal.returns-in-Err-clause-said
unfolding replay_reading
returns-in-Err-clause-said c =
    let text = c.args.text.now in
    let b = c.loop-rest.begun in
    let line = c.cut_line.result.0.now in
    let behind = c.cut_line.result.1.now in
    subst (λ e. IsReadText (replay_reading text) (Err e)) (sym c.at.ensures)
    (at_line-fault (begin_lines b (said_line line)) (replay_reading text) c.in-Err.fault (c.loop-rest.number + 1) c.in-Err.ensures.said (λ none.
    ap (λ o. o >>= replay_of)
    (sym c.loop-rest.invariant.said ∙ ap (begin_lines b) c.cut_line.ensures.said ∙ begin_lines_append b (said_line line) (said_lines behind) ∙ ap (λ o. o >>= (λ more. begin_lines more (said_lines behind))) none)))
