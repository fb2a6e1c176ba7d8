use Rattle.cache_shared.proofs.Moving.{bare-input}
use Rattle.cache_shared.proofs.Performing.{refused}
use Rattle.cache_spaces.specs.Services.{bare_tape}
use Rattle.cache_shared.proofs.bare.ServiceShareable.step.Goals as goal

pub returns-clause-taken : goal.returns-clause-taken
returns-clause-taken c = bare-input c.args.input c.step.result c.args.self.now c.step.new.self c.step.ensures.performed

pub returns-clause-refused : goal.returns-clause-refused
returns-clause-refused c = refused bare_tape c.args.input c.step.result c.args.self.now c.step.ensures.refused
