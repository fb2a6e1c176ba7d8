use Rattle.std.proofs.Common.{◌∙◌}
use Rattle.cache_commands.proofs.loads.Numbers.{numbered}
use Rattle.cache_commands.proofs.loads.loads.Loads.find.Goals as goal

pub returns : goal.returns
returns c =
    let loads = c.args.self.now in
    c.number_at.ensures ∙ numbered loads.keys c.args.key.now loads.loads loads.keeps.keyed loads.live
