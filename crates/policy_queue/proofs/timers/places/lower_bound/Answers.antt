use Rattle.std.proofs.Common.{rules, ltb, arith}
use Rattle.std.proofs.lemmas.Bool.{ltb-true, ltb-false}
use Rattle.std.proofs.lemmas.List.Sorted.{IsPartitionPoint-from_clause, IsPartitionedBy-ltb}
use Rattle.policy_queue.specs.Timers.Places.{key_in}
use Rattle.policy_queue.proofs.timers.Spreads.{rises, under_all, from_all}
use Rattle.policy_queue.proofs.timers.places.lower_bound.Goals as goal

pub returns-clause-under : goal.returns-clause-under
returns-clause-under c =
    let ps = c.args.places.now in
    let split = IsPartitionPoint-from_clause (λ p. ltb (key_in p) c.args.bound) ps c.partition_point.result c.partition_point.ensures.partitioned (IsPartitionedBy-ltb key_in ps c.args.bound (rises ps c.requires)) (λ a r f' called. search rules) in
    under_all c.args.bound ps c.partition_point.result (λ k d lt inside. ltb-true _ _ (split.0 k d (omega arith) lt))

pub returns-clause-from : goal.returns-clause-from
returns-clause-from c =
    let ps = c.args.places.now in
    let split = IsPartitionPoint-from_clause (λ p. ltb (key_in p) c.args.bound) ps c.partition_point.result c.partition_point.ensures.partitioned (IsPartitionedBy-ltb key_in ps c.args.bound (rises ps c.requires)) (λ a r f' called. search rules) in
    from_all c.args.bound ps c.partition_point.result (λ k d ge lt. ltb-false _ _ (split.1 k d ge lt))
