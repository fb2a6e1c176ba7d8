use Rattle.std.proofs.Common.{◌<◌, ◌++◌, ◌∷◌, [], ap, sym, subst, ◌∙◌}
use Rattle.std.specs.Prelude.{All}
use Rattle.front_reference.specs.declared.data.OpenTurn.{OpenTurn}
use Rattle.front_parts.specs.Places.Indexing.{turns_of}
use Rattle.front_parts.proofs.places.Indexed.{added-is, added_indexed, undone-is, undone_indexed}
use Rattle.front_parts.proofs.places.turns.Turns.add.Goals as goal
use Rattle.front_parts.proofs.places.turns.Turns.add.Goals.{in-Some-2, in-None-2}

pub invariant_of-self-in-Ok : goal.invariant_of-self-in-Ok
invariant_of-self-in-Ok g c =
    added_indexed c.args.turn c.self.inside.turns.entries c.insert.new.self.entries c.self.inside.hashes c.insert-2.new.self c.self.invariant
    (subst (λ ts. All (λ (u : OpenTurn g.row.K.Denot). u.number < c.args.turn.number) ts) (sym c.self.view_is) c.requires)
    c.in_ok-insert.ensures.entries c.insert.ensures.ordered c.in-Ok.ensures.updates.0

pub invariant_of-self-in-Err : goal.invariant_of-self-in-Err
invariant_of-self-in-Err g c =
    undone_indexed c.self.inside.turns.entries c.remove-back.new.self.entries c.self.inside.hashes c.insert-2.new.self c.self.invariant
    (undone-is c.args.turn c.self.inside.turns.entries c.insert.new.self.entries c.remove-back.new.self.entries c.self.invariant.own (subst (λ ts. All (λ (u : OpenTurn g.row.K.Denot). u.number < c.args.turn.number) ts) (sym c.self.view_is) c.requires) c.in_ok-insert.ensures.entries c.remove-back.ensures.entries)
    c.in-Err.ensures.err

pub returns-in-Ok-clause-added : goal.returns-in-Ok-clause-added
returns-in-Ok-clause-added g c =
    added-is c.args.turn c.self.inside.turns.entries c.insert.new.self.entries c.self.invariant.own (subst (λ ts. All (λ (u : OpenTurn g.row.K.Denot). u.number < c.args.turn.number) ts) (sym c.self.view_is) c.requires) c.in_ok-insert.ensures.entries
    ∙ ap (λ ts. ts ++ c.args.turn ∷ []) c.self.view_is

pub returns-in-Err-clause-same : goal.returns-in-Err-clause-same
returns-in-Err-clause-same g c =
    let same =
    ap turns_of (undone-is c.args.turn c.self.inside.turns.entries c.insert.new.self.entries c.remove-back.new.self.entries c.self.invariant.own (subst (λ ts. All (λ (u : OpenTurn g.row.K.Denot). u.number < c.args.turn.number) ts) (sym c.self.view_is) c.requires) c.in_ok-insert.ensures.entries c.remove-back.ensures.entries)
    ∙ c.self.view_is
    in
    elim c.match-back.branch [ in-Some-2 w ↦ w.self-is ∙ same | in-None-2 w ↦ w.self-is ∙ same ]
