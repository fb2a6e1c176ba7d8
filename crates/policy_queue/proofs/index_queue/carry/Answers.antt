use Rattle.std.proofs.Common.{◌<◌, sym, ◌∙◌, subst, arith, length}
use Rattle.std.proofs.lemmas.List.{get_or_default, length-set}
use Rattle.policy_queue.specs.Indices.{vacant}
use Rattle.policy_queue.proofs.Seats.{seat_within}
use Rattle.policy_queue.proofs.Closing.{Carries-some, Carries-none}
use Rattle.policy_queue.proofs.index_queue.carry.Goals as goal
use Rattle.policy_queue.proofs.index_queue.carry.Goals.{then-index, else-index}

pub bounds-seats-index : goal.bounds-seats-index
bounds-seats-index c =
    let lt : c.loop-k.k < length c.loop-k.places = omega arith in
    let read = get_or_default c.loop-k.places c.loop-k.k 0 vacant lt in
    let at = seat_within c.loop-k.places c.loop-k.seats c.loop-k.invariant.carries.seated c.loop-k.k (omega arith) (λ e. c.if-index.true (read ∙ e)) in
    subst (λ i. i < length c.loop-k.seats) (sym read) at

pub loop-k-preserved : goal.loop-k-preserved
loop-k-preserved c =
    let lt : c.loop-k.k < length c.loop-k.places = omega arith in
    let read = get_or_default c.loop-k.places c.loop-k.k 0 vacant lt in
    let was = c.loop-k.invariant in
    elim c.if-index.branch [
      | then-index w ↦ rw (w.places-is, w.seats-is, w.next-is) (record {
        carries = Carries-some c.args.places.now c.args.to c.args.from c.requires.places.0 _ _ _ _ was.carries _ (sym read) w.if-index.true (omega arith) (omega arith);
        bound = length-set _ _ _ ∙ was.bound;
        len = length-set _ _ _ ∙ length-set _ _ _ ∙ was.len;
      })
      | else-index w ↦ rw (w.places-is, w.seats-is, w.next-is) (record {
        carries = Carries-none c.args.places.now c.args.to c.args.from c.requires.places.0 _ _ _ _ was.carries (sym read ∙ w.if-index.false);
        bound = was.bound;
        len = was.len;
      })
    ]
