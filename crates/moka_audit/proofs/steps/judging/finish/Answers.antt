use Rattle.std.proofs.Common.{◌∙◌, sym}
use Rattle.std.specs.Option.{option_map}
use Rattle.moka_audit.specs.Steps.Showing.{task_of}
use Rattle.moka_audit.proofs.steps.judging.finish.Goals as goal

pub returns-then-not-branch-clause-right : goal.returns-then-not-branch-clause-right
returns-then-not-branch-clause-right c = sym c.if-not-branch.true ∙ c.in_ok-do_values.ensures.right (option_map task_of c.args.duty)

pub returns-clause-right : goal.returns-clause-right
returns-clause-right c = sym c.if-not-branch.false ∙ c.in_ok-do_values.ensures.right (option_map task_of c.args.duty)
