use Rattle.std.proofs.Common.{ap, ◌∙◌}
use Rattle.front_reference.specs.Fronts.{turn_at}
use Rattle.front_parts.proofs.places.Indexed.{found-at, shown}
use Rattle.front_parts.proofs.places.turns.Turns.get.Goals as goal

pub returns : goal.returns
returns g c = shown c.get.result ∙ c.get.ensures.value ∙ found-at c.args.number c.self.inside.turns.entries c.self.invariant.own ∙ ap (λ ts. turn_at ts c.args.number) c.self.view_is
