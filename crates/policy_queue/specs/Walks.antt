-- How a queue ends once the element that a walk returned is no longer read.
use Rattle.std.specs.Prelude.{◌≡◌, ⊤}
use Rattle.std.specs.Borrow.{follows_so, Fml, RattleType, MutBor}
use mathlib.Core.Option.{none}
use Rattle.policy_queue.specs.Queue.{Queue, to_give, cursor_past}
use Rattle.policy_queue.specs.contracts.deque.Deque.{the_row}

-- the cursor moved on, and nothing else changed
abbrev pub walks : (T : RattleType) → MutBor (Queue T.Denot) → Fml
walks T s =
    follows_so (the_row T) (the_row T) s.ghost_name none (λ _ _. ⊤) (λ v. v ≡ record s.now {
      cursor = cursor_past (to_give s.now.cursor s.now.nodes);
    })
