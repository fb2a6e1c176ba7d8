use Rattle.cache_shared.proofs.Stepping.{held}
use Rattle.cache_shared.specs.Events.{RefusesStep}
use Rattle.cache_shared.specs.Intakes.{input_in}
use Rattle.cache_shared.specs.declared.intake.IntakeError.{IntakeError}
use Rattle.cache_shared.proofs.shared.SharedService.turn.Goals as goal

pub returns-clause-refused : goal.returns-clause-refused
returns-clause-refused g c = held _ _ (λ (refused : IntakeError). RefusesStep (input_in c.args.intake) refused.error c.args.seat.now.count) c.turn-turn.result _ _ c.deref_mut.result.now.booked.stands.reached c.turn-turn.ensures.refused
