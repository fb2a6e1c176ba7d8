use Rattle.std.proofs.Common.{◌≡◌, ◌++◌, ◌+◌, None, length, sym, ap, ◌∙◌, subst}
use Rattle.std.specs.Prelude.{Err}
use Rattle.std.proofs.lemmas.Bool.{eqb-true}
use Rattle.std.proofs.lemmas.List.{nil_from_length}
use Rattle.audit_text.specs.Reader.Fields.{◌>>=◌, at_line}
use Rattle.audit_text.specs.Reader.Gathering.{add_lines, IsReadText, none_gathered, transcript_in_words, finished}
use Rattle.audit_text.specs.Reader.Lines.{said_line, said_lines}
use Rattle.audit_text.proofs.reader.Gatherings.{add_lines_append, at_line-fault}
use Rattle.audit_text.proofs.reader.reading.read_lines.Goals as goal

pub returns-in-Err-clause-said : goal.returns-in-Err-clause-said
unfolding transcript_in_words
returns-in-Err-clause-said c =
    let text = c.args.text.now in
    let g = c.loop-rest.gathered in
    let line = c.cut_line.result.0.now in
    let behind = c.cut_line.result.1.now in
    subst (λ e. IsReadText (transcript_in_words text) (Err e)) (sym c.at.ensures)
    (at_line-fault (add_lines g (said_line line)) (transcript_in_words text) c.in-Err.fault (c.loop-rest.number + 1) c.in-Err.ensures.said (λ none.
    ap (λ o. o >>= finished)
    (sym c.loop-rest.invariant.said ∙ ap (add_lines g) c.cut_line.ensures.said ∙ add_lines_append g (said_line line) (said_lines behind) ∙ ap (λ o. o >>= (λ more. add_lines more (said_lines behind))) none)))

pub returns-in-Err-finish-clause-said : goal.returns-in-Err-finish-clause-said
unfolding transcript_in_words
returns-in-Err-finish-clause-said c =
    let text = c.args.text.now in
    let g = c.loop-rest.gathered in
    let rest = c.loop-rest.rest.now in
    let over : length rest ≡ 0 = eqb-true (length rest) 0 (sym c.is_empty.ensures ∙ c.loop-rest-test.false) in
    subst (λ e. IsReadText (transcript_in_words text) (Err e)) (sym c.at-in-Err-finish.ensures)
    (at_line-fault (finished g) (transcript_in_words text) c.in-Err-finish.fault (c.loop-rest.number + 1) c.in-Err-finish.ensures.said (λ none.
    ap (λ o. o >>= finished) (sym c.loop-rest.invariant.said ∙ ap (λ rest. add_lines g (said_lines rest)) (nil_from_length rest over)) ∙ none))
