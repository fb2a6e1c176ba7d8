use Rattle.std.proofs.Common.{arith}
use Rattle.cache_spaces.specs.Services.{bare_tape, IsSoundSpace}
use Rattle.cache_spaces.specs.Calls.{OpensNext}
use Rattle.cache_run.proofs.Driving.{known-opened}
use Rattle.cache_spaces.proofs.Placing.{at-given}
use Rattle.cache_run.proofs.lent.LentHost.open.Goals as goal

pub returns-in-Ok : goal.returns-in-Ok
returns-in-Ok c =
    let number = c.in-Ok.conn.number in
    let same = c.in-Ok.ensures.taken.0 in
    let opens = at-given (λ was is. OpensNext bare_tape was is number) (λ was is. IsSoundSpace bare_tape was × OpensNext bare_tape was is number) _ _ _ c.in-Ok.ensures.taken.1 (λ x y at behind h. (c.sound.ensures x at, h)) in
    record { opens = ((same, opens), known-opened _ _ _ _ number same opens); rests = tt; count = omega arith; why = tt }

pub returns-in-Err : goal.returns-in-Err
returns-in-Err c = record { opens = tt; rests = c.in-Err.ensures.unchanged; count = omega arith; why = tt }
