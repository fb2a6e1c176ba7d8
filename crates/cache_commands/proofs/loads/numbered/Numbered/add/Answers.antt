use Rattle.std.proofs.Common.{ap, ◌∙◌, ◌∷◌}
use Rattle.cache_commands.specs.Loads.Keys.{pending_load}
use Rattle.cache_commands.specs.Loads.Numbers.{are_below, loads_of}
use Rattle.cache_commands.proofs.loads.Numbers.{added-kept, put-first}
use Rattle.cache_commands.proofs.loads.numbered.Numbered.add.Goals as goal

pub invariant_of-self-inside : goal.invariant_of-self-inside
invariant_of-self-inside c =
    let inside = c.self.inside in
    added-kept c.insert.result c.args.load inside.loads.entries c.insert.new.self.entries inside.own inside.falling (ap (are_below c.args.load.number) c.self.view_is ∙ c.requires.newest) c.insert.ensures.entries c.insert.ensures.err

pub returns-clause-added : goal.returns-clause-added
returns-clause-added c =
    let inside = c.self.inside in
    ap loads_of (c.in_ok-insert.ensures.entries ∙ put-first c.args.load inside.loads.entries inside.own (ap (are_below c.args.load.number) c.self.view_is ∙ c.requires.newest))
    ∙ ap (λ ps. pending_load c.args.load ∷ ps) c.self.view_is
