use Rattle.std.proofs.Common.{◌∷◌, [], ◌++◌, ◌-◌, take, drop, length, sym, ap, ◌∙◌}
use Rattle.std.proofs.lemmas.List.{take_rest}
use Rattle.audit_text.specs.Reader.Fields.{digits_in}
use Rattle.audit_text.proofs.reader.Wording.{digits_step}
use Rattle.audit_text.proofs.reader.fields.read_digits.Goals as goal

pub loop-rest-preserved : goal.loop-rest-preserved
loop-rest-preserved c =
    let bytes = c.loop-rest.bytes.items in
    let rest = c.loop-rest.rest.now in
    let byte = c.in-Some.byte in
    ap (λ b. digits_in b (take (length rest - 2) (drop 2 rest))) c.in_ok-push-in-Some.ensures.items
    ∙ ap (digits_in (bytes ++ byte ∷ [])) (take_rest rest 2)
    ∙ sym (digits_step bytes rest byte c.in-len2-up.len_at_least (sym c.in-Some.ensures))
    ∙ c.loop-rest.invariant
