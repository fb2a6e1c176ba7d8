use Rattle.std.proofs.Common.{◌∙◌, sym, subst}
use Rattle.std.specs.Prelude.{MatchOption}
use Rattle.audit_laws.specs.Breaking.{IsFaultless, BreaksFirstAt}
use Rattle.moka_audit.proofs.Whole.{broken-whole}
use Rattle.moka_audit.proofs.auditing.audit.Goals as goal

pub returns-in-None : goal.returns-in-None
returns-in-None c =
    let config = c.args.config.now in
    let transcript = c.args.transcript.now in
    subst (λ o. MatchOption o (IsFaultless config transcript) (BreaksFirstAt config transcript)) (sym c.in-Ok.ensures ∙ c.in-None.is) (c.first_break_is_first.ensures config transcript)

pub returns-in-Some : goal.returns-in-Some
returns-in-Some c =
    let config = c.args.config.now in
    let transcript = c.args.transcript.now in
    broken-whole config transcript c.in-Some.n
    (subst (λ o. MatchOption o (IsFaultless config transcript) (BreaksFirstAt config transcript)) (sym c.in-Ok.ensures ∙ c.in-Some.is) (c.first_break_is_first.ensures config transcript))
