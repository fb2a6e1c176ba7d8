use Rattle.cache_loop.proofs.SetApart.{comes-apart}
use Rattle.cache_loop.proofs.apart.ApartHost.settle.Goals as goal

pub returns-in-Ok-clause-came : goal.returns-in-Ok-clause-came
returns-in-Ok-clause-came g c = λ key.
    let settled = c.in-Ok.ensures.came key in
    (settled.0, settled.1, comes-apart g.H.Host.came c.args.conn c.args.place.now _ (λ held. settled.0) _ _ c.set_apart.ensures.given settled.2)
