use Rattle.std.proofs.Common.{[], refl}
use Rattle.policy_queue.proofs.timers.Draining.{drains, Draining-start}
use Rattle.policy_queue.proofs.timers.laws.advances_give_the_due.Goals as goal

pub returns : goal.returns
returns g c = λ now before after events a. drains c.args.entries.now now before events c.args.entries.now before after [] (λ k. refl) (Draining-start c.args.entries.now now before) a
