use Rattle.std.proofs.Common.{◌≡◌, [], ap, ◌∙◌, sym, refl, subst}
use Rattle.std.specs.Prelude.{IfOk}
use Rattle.audit_model.specs.Situation.{empty_situation}
use Rattle.moka_audit.specs.Records.Auditing.{audited_from}
use Rattle.moka_audit.proofs.records.Parts.{breaks-are}
use Rattle.moka_audit.proofs.records.records.find_break.Goals as goal

pub returns : goal.returns
returns c =
    let config = c.args.config.now in
    let transcript = c.args.transcript.now in
    subst (λ n. IfOk c.audited.result (λ found. found ≡ n))
    (ap (audited_from config [] (empty_situation transcript.made.nanos) 0) c.as_slice.ensures
    ∙ breaks-are config [] [] (empty_situation transcript.made.nanos) 0 transcript.records (λ key part. refl) refl ∙ sym (c.breaks_agree.ensures config transcript)) c.audited.ensures
