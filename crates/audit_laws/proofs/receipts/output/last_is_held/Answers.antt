use Rattle.std.proofs.Common.{rules}
use Rattle.audit_laws.proofs.receipts.Lasts.{held-last}
use Rattle.audit_laws.proofs.receipts.output.last_is_held.Goals as goal

pub returns-in-Some : goal.returns-in-Some
returns-in-Some c = held-last c.args.steps.now c.in-Some.step.now (search rules)
