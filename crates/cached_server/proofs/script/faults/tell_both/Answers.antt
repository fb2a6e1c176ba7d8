use Rattle.cached_server.proofs.script.Twice.{tells-both, tells-first}
use Rattle.cached_server.proofs.script.faults.tell_both.Goals as goal

pub returns-in-Ok : goal.returns-in-Ok
returns-in-Ok g c = tells-both _ _ _ _ _ _ _ _ c.in-Ok.ensures.ok c.tell.ensures.told c.in-Ok.ensures.count c.tell.ensures.later

pub returns-in-Err : goal.returns-in-Err
returns-in-Err g c = tells-first _ _ _ _ _ _ _ c.in-Err.ensures.err.1 c.in-Err.ensures.cause.1
