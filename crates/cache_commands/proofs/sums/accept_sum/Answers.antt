use Rattle.std.proofs.Common.{true}
use Rattle.cache_commands.proofs.sums.accept_sum.Goals as goal

pub returns-clause-accepted : goal.returns-clause-accepted
returns-clause-accepted g c =
    rw c.format.ensures.text at (rw c.as_bytes-digits.ensures.value at (c.in_ok-part.ensures.does true))
