use Rattle.std.proofs.Common.{subst}
use Rattle.cache_history.specs.Histories.{IsHistory}
use Rattle.cache_history.proofs.keeper.Keeper.stands.Goals as goal

pub returns : goal.returns
returns g c = subst (λ cs. IsHistory g.R.Law.starts g.R.Law.holds cs) c.self.view_is
    c.self.invariant.4
