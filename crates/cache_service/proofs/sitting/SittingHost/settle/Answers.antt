use Rattle.std.proofs.Common.{[], ap, arith}
use Rattle.cache_service.specs.Asked.{Tally}
use Rattle.cache_service.specs.Sitting.{tally}
use Rattle.cache_service.proofs.Exchanging.{came-left, comes-as, comes-same}
use Rattle.cache_service.proofs.sitting.SittingHost.settle.Goals as goal

pub returns-in-Some-clause-came : goal.returns-in-Some-clause-came
returns-in-Some-clause-came g c = λ key.
    let settled = rw c.in-Some.is at (c.in_ok-given.ensures.settled key) in
    comes-as g.L.Seating.configs g.C.Shareable.spaces g.C.Shareable.untaken g.C.Shareable.untold c.args.conn _ _ g.C.Shareable.KEEPS c.in-Some.given settled.0 settled.1 (rw c.in-Some.is at c.in_ok-given.ensures.given)

pub returns-in-None-clause-came : goal.returns-in-None-clause-came
returns-in-None-clause-came g c = λ key.
    let settled = rw c.in-None.is at (c.in_ok-given.ensures.settled key) in
    comes-same g.L.Seating.configs g.C.Shareable.spaces g.C.Shareable.untaken g.C.Shareable.untold c.args.conn c.args.place.now.claims c.take_owed.new.seat.claims g.C.Shareable.KEEPS (tally c.take_owed.new.seat) c.take_owed.result c.take_owed.ensures.seat (comes-as g.L.Seating.configs g.C.Shareable.spaces g.C.Shareable.untaken g.C.Shareable.untold c.args.conn c.args.place.now.claims c.take_owed.new.seat.claims g.C.Shareable.KEEPS c.take_owed.result settled.0 (came-left g.L.Seating.configs g.C.Shareable.spaces g.C.Shareable.untaken g.C.Shareable.untold c.args.conn _ _ c.take_owed.result _ settled.0.settling c.args.moment settled.1 c.take_owed.ensures.looked) c.take_owed.ensures.given)

pub returns-in-Some-clause-count : goal.returns-in-Some-clause-count
returns-in-Some-clause-count g c = let settled = (c.settle_load.ensures.settled []).0 in omega (arith, settled.counts)

pub returns-in-None-clause-count : goal.returns-in-None-clause-count
returns-in-None-clause-count g c = let settled = (c.settle_load.ensures.settled []).0 in let same = ap (λ (t : Tally). t.count) c.take_owed.ensures.seat in omega (arith, settled.counts, same)
