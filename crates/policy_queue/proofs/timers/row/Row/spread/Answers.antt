use Rattle.std.proofs.Common.{arith, rules}
use Rattle.policy_queue.proofs.timers.Comings.{starts_all}
use Rattle.policy_queue.proofs.timers.row.Row.spread.Goals as goal

pub deal-requires-clause-starts : goal.deal-requires-clause-starts
deal-requires-clause-starts c =
    let ok = c.compact.new.places.ok in
    let count = c.compact.ensures.all in
    let all = starts_all c.compact.new.places.items (omega arith) in
    search (rules, all)
