use Rattle.std.proofs.Common.{◌≡◌, ◌∙◌, sym, subst}
use Rattle.std.specs.Prelude.{IfOk}
use Rattle.audit_text.specs.Text.{transcript_text}
use Rattle.audit_text.specs.Reader.Fields.{IsRead}
use Rattle.audit_text.proofs.reader.Finished.{finished-bare, bare-text}
use Rattle.audit_text.proofs.reader.gathering.finish.Goals as goal

pub returns-clause-text : goal.returns-clause-text
returns-clause-text c =
    subst (λ t. IfOk c.join.result (λ r. transcript_text r.0 r.1 ≡ t)) (bare-text c.close.new.gathered c.in_ok-close.ensures.closed c.in_ok-close.ensures.step ∙ c.in_ok-close.ensures.text) c.join.ensures.text

pub returns-clause-said : goal.returns-clause-said
returns-clause-said c = subst (λ o. IsRead o c.join.result) (sym (finished-bare c.args.gathered c.close.new.gathered c.in_ok-close.ensures.said)) c.join.ensures.said
