use Rattle.std.proofs.Common.{ap, ◌∙◌}
use Rattle.std.specs.Prelude.{is_some}
use Rattle.front_reference.specs.Fronts.{turn_at, without_turn}
use Rattle.front_parts.specs.Places.Indexing.{turns_of}
use Rattle.front_parts.proofs.places.Indexed.{found-at, removed-is, removed_indexed}
use Rattle.front_parts.proofs.places.turns.Turns.end.Goals as goal

pub invariant_of-self : goal.invariant_of-self
invariant_of-self g c =
    removed_indexed c.in-Some.turn c.args.number c.self.inside.turns.entries c.remove.new.self.entries c.self.inside.hashes c.remove-in-Some.new.self c.self.invariant
    c.in-Some.ensures.value c.remove.ensures.entries c.remove.ensures.ordered c.remove.ensures.updates.0 c.remove-in-Some.ensures.updates.0

pub returns-in-Some-clause-was : goal.returns-in-Some-clause-was
returns-in-Some-clause-was g c = ap is_some (c.in-Some.ensures.value ∙ found-at c.args.number c.self.inside.turns.entries c.self.invariant.own ∙ ap (λ ts. turn_at ts c.args.number) c.self.view_is)

pub returns-in-Some-clause-ended : goal.returns-in-Some-clause-ended
returns-in-Some-clause-ended g c =
    ap turns_of c.remove.ensures.entries ∙ removed-is c.args.number c.self.inside.turns.entries c.self.invariant.own ∙ ap (without_turn c.args.number) c.self.view_is

pub returns-in-None-clause-was : goal.returns-in-None-clause-was
returns-in-None-clause-was g c = ap is_some (c.in-None.ensures.value ∙ found-at c.args.number c.self.inside.turns.entries c.self.invariant.own ∙ ap (λ ts. turn_at ts c.args.number) c.self.view_is)

pub returns-in-None-clause-ended : goal.returns-in-None-clause-ended
returns-in-None-clause-ended g c =
    ap turns_of c.remove.ensures.entries ∙ removed-is c.args.number c.self.inside.turns.entries c.self.invariant.own ∙ ap (without_turn c.args.number) c.self.view_is
