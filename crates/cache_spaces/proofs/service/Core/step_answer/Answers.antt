use Rattle.std.proofs.Common.{refl}
use Rattle.audit_model.specs.declared.input.Input.TheVariants as input
use Rattle.audit_laws.specs.declared.receipts.output.Output.TheVariants.{Done}
use Rattle.cache_spaces.proofs.Reaching.{refused-input, settled-performs}
use Rattle.cache_spaces.proofs.Placing.{at-map, refuses-map}
use Rattle.cache_spaces.proofs.service.Core.step_answer.Goals as goal

pub returns-in-Ok-clause-performed : goal.returns-in-Ok-clause-performed
returns-in-Ok-clause-performed g c =
    let a = c.args in
    at-map _ _ a.self.now c.answer.new.self a.load.namespace c.in-Ok.ensures.taken
    (λ was is f. settled-performs g.T.Tape.view (input.Answer a.load a.outcome a.moment) was is Done (λ steps. refl) f)

pub returns-in-Err-clause-refused : goal.returns-in-Err-clause-refused
returns-in-Err-clause-refused g c =
    let a = c.args in
    refuses-map a.self.now a.load.namespace _ (λ was f. refused-input (input.Answer a.load a.outcome a.moment) _ was f) c.in-Err.ensures.refused
