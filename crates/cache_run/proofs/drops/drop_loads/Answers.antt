use Rattle.std.proofs.Common.{subst}
use Rattle.cache_spaces.specs.Calls.{At}
use Rattle.cache_run.specs.Loading.{is_left, GivesLoads}
use Rattle.cache_run.specs.Lent.{Drops, DropsBoth}
use Rattle.cache_run.proofs.Dropping.{dropped-both}
use Rattle.cache_spaces.proofs.Placing.{at-more}
use Rattle.cache_run.proofs.drops.drop_loads.Goals as goal

pub returns : goal.returns
returns c =
    let number = c.args.conn.number in
    let n = c.args.conn.namespace in
    let hand = c.args.hand.now in
    let loads = c.take_sent-loads.result.items in
    let last = subst (λ outs. At c.take_sent-loads.new.service c.drop_all-2.new.service n (Drops number (λ m. is_left m outs))) c.as_slice.ensures.value c.drop_all-2.ensures.dropped in
    at-more (Drops number (λ m. is_left m hand)) (λ y w. (z : _) × GivesLoads loads y z × Drops number (λ m. is_left m loads) z w) (DropsBoth number hand) _ _ _ n c.drop_all.ensures.dropped
    (at-more (GivesLoads loads) (Drops number (λ m. is_left m loads)) (λ y w. (z : _) × GivesLoads loads y z × Drops number (λ m. is_left m loads) z w) _ _ _ n c.take_sent-loads.ensures.taken last (λ y z w p q. (z, p, q)))
    (λ x y w p q. dropped-both number hand loads x y q.0 w p q.1 q.2)
