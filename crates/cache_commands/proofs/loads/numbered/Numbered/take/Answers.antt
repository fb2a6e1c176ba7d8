use Rattle.std.proofs.Common.{ap, ◌∙◌, ◌==◌, not}
use Rattle.std.specs.List.{filter}
use Rattle.std.specs.Option.{option_map}
use Rattle.audit_model.specs.Situation.{PendingLoad}
use Rattle.cache_commands.specs.Loads.Keys.{pending_load}
use Rattle.cache_commands.specs.Loads.Numbers.{load_numbered, loads_of}
use Rattle.cache_commands.proofs.loads.Numbers.{found-at, removed-is, removed-kept}
use Rattle.cache_commands.proofs.loads.numbered.Numbered.take.Goals as goal

pub invariant_of-self-inside : goal.invariant_of-self-inside
invariant_of-self-inside c =
    let inside = c.self.inside in
    removed-kept c.args.number inside.loads.entries c.remove.new.self.entries c.remove.ensures.entries inside.own inside.falling

pub returns-clause-found : goal.returns-clause-found
returns-clause-found c =
    let inside = c.self.inside in
    ap (option_map pending_load) c.remove.ensures.value ∙ found-at c.args.number inside.loads.entries inside.own ∙ ap (load_numbered c.args.number) c.self.view_is

pub returns-clause-rest : goal.returns-clause-rest
returns-clause-rest c =
    let inside = c.self.inside in
    ap loads_of c.remove.ensures.entries ∙ removed-is c.args.number inside.loads.entries inside.own inside.falling ∙ ap (filter (λ (load : PendingLoad). not (load.number == c.args.number))) c.self.view_is
