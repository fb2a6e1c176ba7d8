use Rattle.std.proofs.Common.{rules}
use Rattle.std.proofs.Math.Logic.{∥∥₁_map}
use Rattle.cache_spaces.specs.Calls.{At, Performs, namespace_of}
use Rattle.cache_spaces.proofs.Reaching.{reached-more, reached-result}
use Rattle.cache_spaces.proofs.service.Core.step.Goals as goal

pub returns-in-Answer-clause-reached : goal.returns-in-Answer-clause-reached
returns-in-Answer-clause-reached g c = reached-result g.T.Tape.view c.args.input c.step_answer.result c.args.self.now c.step_answer.new.self (rw c.in-Answer.is c.step_answer.ensures.performed)

pub returns-in-Ok-clause-reached : goal.returns-in-Ok-clause-reached
returns-in-Ok-clause-reached g c =
    let a : At c.args.self.now c.perform.new.self (namespace_of c.args.input) (Performs g.T.Tape.view c.args.input c.in-Ok.output) = search rules in
    λ n w. ∥∥₁_map w (reached-more g.T.Tape.view c.args.input c.in-Ok.output c.args.self.now c.perform.new.self n a)
