use Rattle.std.proofs.Common.{ap}
use Rattle.moka_engine.proofs.Keeping.{well-as, well-empty}
use Rattle.moka_engine.proofs.cache.BaseCache.new.Goals as goal

pub invariant_of-result : goal.invariant_of-result
invariant_of-result g c = well-as _ _ (ap (λ t. t.state) c.make_space-has_space.ensures) (well-empty _ c.args.settings c.args.hasher c.args.rules c.in_ok-tables.tables.state c.in_ok-tables.ensures)
