use Rattle.std.proofs.Common.{ap, ◌∙◌, arith, length}
use Rattle.moka_engine.proofs.Keeping.{well-as, well-taken_out}
use Rattle.moka_engine.proofs.cache.BaseCache.remove_with_hash.Goals as goal

pub remove_in-requires-clause-queue : goal.remove_in-requires-clause-queue
remove_in-requires-clause-queue g c =
    let long = ap (λ s. length s.writes) c.self.view_is in
    record { sent_all = ap (λ s. s.unsent) c.self.view_is ∙ c.requires.queue.sent_all; room = let short = c.requires.queue.room in omega (arith, long, short) }

pub invariant_of-self : goal.invariant_of-self
invariant_of-self g c = well-as _ _ (ap (λ t. t.state) c.in_err-remove_in-in-Some.ensures.err) c.self.invariant

pub invariant_of-self-in-Some : goal.invariant_of-self-in-Some
invariant_of-self-in-Some g c =
    let f = c.in-Some.ensures.found in
    well-as _ _ (c.in_ok-remove_in-in-Some.ensures.ok f.0 f.1) (well-taken_out g.R.Rules.answers g.K.PartialEq.eq (g.Q.Names.named_key c.args.key.now) f.0 c.args.now c.self.inside.tables.state f.2 c.self.invariant)
