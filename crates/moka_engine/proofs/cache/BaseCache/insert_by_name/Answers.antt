use Rattle.std.proofs.Common.{ap, ◌∙◌, arith, length}
use Rattle.engine_reference.specs.Calls.{sent, with_room, written}
use Rattle.moka_engine.proofs.Keeping.{well-call, well-room, well-sent, well-written}
use Rattle.moka_engine.proofs.cache.BaseCache.insert_by_name.Goals as goal

pub write_by_name-requires-clause-queue : goal.write_by_name-requires-clause-queue
write_by_name-requires-clause-queue g c =
    let long = ap (λ s. length s.writes) c.self.view_is in
    record { sent_all = ap (λ s. s.unsent) c.self.view_is ∙ c.requires.queue.sent_all; room = let short = c.requires.queue.room in omega (arith, long, short) }

pub invariant_of-self : goal.invariant_of-self
invariant_of-self g c =
    let a = g.R.Rules.answers in
    let eq = g.K.PartialEq.eq in
    let moment = c.as_nanos-moment.ensures.in_range in
    let s = c.self.inside.tables.state in
    let named = g.Q.Names.named_key c.args.name in
    well-call c.write_by_name.result c.self.inside.tables c.write_by_name.new.tables (λ done. sent s.next_ticket (written a eq (with_room s) named c.args.hash c.args.value c.args.now c.args.step)) c.write_by_name.ensures.ok c.write_by_name.ensures.err
    (λ done h. well-sent s.next_ticket _ (well-written a eq (with_room s) named c.args.hash c.args.value c.args.now c.args.step (omega (arith, moment, c.as_nanos-moment.ensures.nanos)) (well-room s _ h))) c.self.invariant
