use Rattle.std.proofs.Common.{rules}
use Rattle.std.specs.Fn.{FnOnceReturnsAt}
use Rattle.moka_sync.proofs.Resting.{said-once}
use Rattle.moka_sync.proofs.shared.SharedDesk.ask_once.Goals as goal

pub returns-in-Some-clause-may : goal.returns-in-Some-clause-may
returns-in-Some-clause-may g c = said-once (FnOnceReturnsAt g.P.FnOnce c.args.replace_if) c.last_write-written.result c.replace_if.result c.in-Some.value (search rules)
