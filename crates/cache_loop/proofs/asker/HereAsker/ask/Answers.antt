use Rattle.std.proofs.Common.{refl, subst}
use Rattle.cache_loop.proofs.asker.HereAsker.ask.Goals as goal

pub returns : goal.returns
returns g c = (c.load.result, refl, subst (λ key. g.D.Loader.loads c.args.self.now.loader key c.load.result c.load.new.self) c.as_slice.ensures c.load.ensures)
