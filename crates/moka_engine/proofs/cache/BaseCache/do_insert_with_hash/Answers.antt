use Rattle.std.proofs.Common.{arith}
use Rattle.moka_engine.proofs.Keeping.{well-as, well-written}
use Rattle.moka_engine.proofs.cache.BaseCache.do_insert_with_hash.Goals as goal

pub invariant_of-self : goal.invariant_of-self
invariant_of-self g c =
    let moment = c.as_nanos-moment.ensures.in_range in
    well-as _ _ c.write.ensures (well-written g.R.Rules.answers g.K.PartialEq.eq c.self.inside.tables.state c.args.key c.args.hash c.args.value c.args.now c.args.step (omega (arith, moment, c.as_nanos-moment.ensures.nanos)) c.self.invariant)
