use Rattle.std.proofs.Common.{subst}
use Rattle.cache_loop.proofs.loading.Loading.end.Goals as goal

pub returns : goal.returns
returns g c =
    let gone = c.give_up_pending in
    (gone.new.place, gone.ensures.each, subst (λ conn. g.H.Host.closes conn gone.new.place c.close.new.place) gone.ensures.kept.0 c.close.ensures.closes)
