use Rattle.std.proofs.Common.{ap, ◌∙◌, arith, length}
use Rattle.moka_engine.proofs.Keeping.{well-as, well-sent, well-written}
use Rattle.moka_engine.proofs.cache.BaseCache.insert_and_send_with_hash.Goals as goal

pub invariant_of-self : goal.invariant_of-self
invariant_of-self g c =
    let moment = c.as_nanos-moment.ensures.in_range in
    let s = c.self.inside.tables.state in
    well-as _ _ c.write.ensures (well-sent s.next_ticket _ (well-written g.R.Rules.answers g.K.PartialEq.eq s c.args.key c.args.hash c.args.value c.args.now c.args.step (omega (arith, moment, c.as_nanos-moment.ensures.nanos)) c.self.invariant))

pub write-requires-clause-queue : goal.write-requires-clause-queue
write-requires-clause-queue g c at_once =
    let long = ap (λ s. length s.writes) c.self.view_is in
    record { sent_all = ap (λ s. s.unsent) c.self.view_is ∙ c.requires.sent; room = omega arith }
