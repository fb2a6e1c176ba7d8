use Rattle.cache_spaces.proofs.Reaching.{reached-none}
use Rattle.cache_spaces.proofs.service.Core.new.Goals as goal

pub returns-in-Ok-clause-reached : goal.returns-in-Ok-clause-reached
returns-in-Ok-clause-reached g c = ∣ reached-none g.T.Tape.view _ c.args.configs.now c.args.generator c.args.moment c.in-Ok.spaces.items c.in-Ok.ensures ∣₁
