use Rattle.std.proofs.Common.{sym}
use Rattle.std.specs.Fn.{FnOnceReturnsAt}
use Rattle.front_parts.specs.Places.Calls.{ways_by}
use Rattle.moka_sync.proofs.Resting.{gives-by, gives-held, gives-kind}
use Rattle.moka_sync.proofs.attached.Attached.coalesce_at.Goals as goal

pub returns-in-Some-clause-gives : goal.returns-in-Some-clause-gives
returns-in-Some-clause-gives g c =
    let ways = ways_by g.R.Rules g.K.PartialEq.eq g.K.Hash.hash_input g.S.BuildHasher g.S.Hasher.Hasher in
    let number = c.of-desk.ensures.number in
    let asks = FnOnceReturnsAt g.P.FnOnce c.args.replace_if in
    let r = c.coalesce_asking_once.result in
    gives-by ways (cc (number, c.deref.ensures, c.deref-2.ensures)) (sym c.in-Some.is) c.args.key asks _ r (gives-kind ways c.of-desk.result.now.number c.args.key _ _ asks c.in-Some.kind r c.coalesce_asking_once.ensures.answer)

pub returns-clause-gives : goal.returns-clause-gives
returns-clause-gives g c =
    let ways = ways_by g.R.Rules g.K.PartialEq.eq g.K.Hash.hash_input g.S.BuildHasher g.S.Hasher.Hasher in
    let number = c.of-desk.ensures.number in
    let asks = FnOnceReturnsAt g.P.FnOnce c.args.replace_if in
    let r = c.coalesce_now.result in
    gives-by ways (cc (number, c.deref.ensures, c.deref-2.ensures)) (sym c.in-None.is) c.args.key asks _ r (gives-held ways c.of-desk.result.now.number c.args.key _ _ asks r c.coalesce_now.ensures.did c.coalesce_now.ensures.answer)
