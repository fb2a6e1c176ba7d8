use Rattle.std.proofs.Common.{sym, subst, None}
use Rattle.std.specs.Option.{option_map}
use Rattle.audit_situation.specs.Actions.Doings.{action_of}
use Rattle.moka_audit.specs.Steps.Judging.{AcceptsOffer, Accepts}
use Rattle.audit_situation.specs.States.{shown_situation}
use Rattle.moka_audit.proofs.steps.accepting.accept.Goals as goal

pub returns-in-None-clause-accepts : goal.returns-in-None-clause-accepts
returns-in-None-clause-accepts c =
    let s = shown_situation c.args.s.now in
    subst (λ a. Accepts c.args.config.now s (action_of c.args.doing) (option_map (λ p. p.part) a) c.none_for.result) (sym c.in-None.is)
    (subst (λ o. AcceptsOffer c.args.config.now s.latest None o c.none_for.result) c.in_ok-offer.ensures (c.none_for.ensures.takes c.args.config.now s.latest))
