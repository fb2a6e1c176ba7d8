-- How the queues end once one of them is no longer borrowed.
use Rattle.std.specs.Borrow.{Lends, Fml, RattleType, MutBor}
use Rattle.policy_base.specs.declared.name.CacheRegion.{CacheRegion}
use Rattle.policy_queue.specs.contracts.deque.Deque as deque
use Rattle.policy_base.specs.contracts.records.KeyHashDate as date
use Rattle.moka_policy.specs.contracts.deques.deques.Deques as deques
use Rattle.moka_policy.specs.Deques.Queues.{Queues, Entries, with_queue}

-- the queues end with the last value of the one that was borrowed
abbrev pub lends_queue : (K : RattleType) → CacheRegion → MutBor Queues → MutBor Entries → Fml
lends_queue K region s r =
    Lends (deques.the_row K) (deque.the_row date.the_row) s r (with_queue region s.now)
