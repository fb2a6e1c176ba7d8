use Rattle.std.proofs.Common.{◌≡◌, true, IfOk, subst}
use Rattle.std.specs.Fn.{FnReturnsAt}
use Rattle.front_parts.specs.Places.Calls.{ways_by}
use Rattle.moka_sync.proofs.Resting.{answered, led}
use Rattle.moka_sync.specs.Holding.{DoneUnderLock}
use Rattle.moka_sync.specs.Making.{BegunUnderLock, DidFinish, MayPass}
use Rattle.sync_desk.specs.Slots.Endings.{suits}
use Rattle.moka_sync.proofs.shared.SharedDesk.coalesce.Goals as goal

pub returns-in-Ok-Answered-clause-answer : goal.returns-in-Ok-Answered-clause-answer
returns-in-Ok-Answered-clause-answer g c =
    let ways = ways_by g.R.Rules g.K.PartialEq.eq g.K.Hash.hash_input g.S.BuildHasher g.S.Hasher.Hasher in
    let lock = c.args.self.now.number in
    let key = g.A.Names.named_key c.loop.asked in
    let over = c.in-Ok.known.1 in
    let may = c.loop.invariant.may over c.in-Ok.ensures.may in
    let begun = subst (λ s. BegunUnderLock ways lock c.args.kind key (λ passed. passed ≡ over) c.loop.asked s) c.in-Ok-Answered.field-0-is c.in-Ok-Answered.ensures.begun in
    answered ways lock c.args.kind key (g.A.Names.named_key c.args.asked) c.loop.invariant.named over (MayPass c.args.passing (FnReturnsAt g.P.Fn c.args.replace_if)) may _ c.in-Ok-Answered.made begun

pub returns-in-Ok-Led-clause-answer : goal.returns-in-Ok-Led-clause-answer
returns-in-Ok-Led-clause-answer g c =
    let ways = ways_by g.R.Rules g.K.PartialEq.eq g.K.Hash.hash_input g.S.BuildHasher g.S.Hasher.Hasher in
    let lock = c.args.self.now.number in
    let key = g.A.Names.named_key c.loop.asked in
    let over = c.in-Ok.known.1 in
    let may = c.loop.invariant.may over c.in-Ok.ensures.may in
    let begun = subst (λ s. BegunUnderLock ways lock c.args.kind key (λ passed. passed ≡ over) c.loop.asked s) c.in-Ok-Led.field-0-is c.in-Ok-Led.ensures.begun in
    let r = c.make.result in
    let held = subst (λ l. IfOk r (λ a. DoneUnderLock l (DidFinish ways c.new.result.number a.0))) c.new.ensures.lock c.make.ensures.did in
    let ends = subst (λ n. IfOk r (λ a. DoneUnderLock lock (DidFinish ways n a.0))) c.new.ensures.number held in
    let suit = subst (λ k. IfOk r (λ a. suits k a.0 ≡ true)) c.new.ensures.kind c.make.ensures.suits in
    led ways lock c.args.kind key (g.A.Names.named_key c.args.asked) c.loop.invariant.named over (MayPass c.args.passing (FnReturnsAt g.P.Fn c.args.replace_if)) may _ c.in-Ok-Led.number r begun ends c.make.ensures.made suit c.make.ensures.fresh
