use Rattle.std.proofs.Common.{ap, ◌∙◌}
use Rattle.std.specs.Option.{option_map}
use Rattle.cache_commands.specs.Loads.Keys.{pending_load}
use Rattle.cache_commands.specs.Loads.Numbers.{load_numbered}
use Rattle.cache_commands.proofs.loads.Numbers.{found-at, shown}
use Rattle.cache_commands.proofs.loads.numbered.Numbered.get.Goals as goal

pub returns : goal.returns
returns c =
    let inside = c.self.inside in
    shown c.get.result ∙ ap (option_map pending_load) c.get.ensures.value ∙ found-at c.args.number inside.loads.entries inside.own ∙ ap (load_numbered c.args.number) c.self.view_is
