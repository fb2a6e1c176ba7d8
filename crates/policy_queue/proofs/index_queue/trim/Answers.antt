use Rattle.policy_queue.proofs.Order.{order_take_all}
use Rattle.policy_queue.proofs.Closing.{take_alike}
use Rattle.policy_queue.proofs.index_queue.trim.Goals as goal

pub returns-then-len-cursors-clause-same : goal.returns-then-len-cursors-clause-same
returns-then-len-cursors-clause-same c =
    let none = rw c.as_slice.ensures.value at c.occupied_len-len.ensures.empty in
    rw c.truncate.ensures.items (record { order = order_take_all c.args.places.now.items _ none; places = take_alike c.args.places.now.items _ none })

pub returns-else-len-cursors-clause-same : goal.returns-else-len-cursors-clause-same
returns-else-len-cursors-clause-same c =
    let none = rw c.as_slice.ensures.value at c.occupied_len-len.ensures.empty in
    rw c.truncate.ensures.items (record { order = order_take_all c.args.places.now.items _ none; places = take_alike c.args.places.now.items _ none })
