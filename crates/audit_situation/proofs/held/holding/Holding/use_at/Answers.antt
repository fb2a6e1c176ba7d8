use Rattle.std.proofs.Common.{sym, ap, ◌∙◌, map, subst}
use Rattle.audit_situation.specs.Held.Holds.{held_by, value_used_at, RepresentsHeld}
use Rattle.audit_situation.proofs.held.Keeping.{keeps-used, view-used}
use Rattle.audit_situation.proofs.held.holding.Holding.use_at.Goals as goal

pub invariant_of-self-inside : goal.invariant_of-self-inside
invariant_of-self-inside c =
    let inside = c.self.inside in (
      subst (RepresentsHeld inside.next inside.marks.items inside.weights.items inside.total) (sym c.use_at.ensures)
          (keeps-used inside.next inside.open_keys inside.marks.items inside.weights.items inside.total inside.table inside.keeps c.args.key.now c.args.now),
      tt,
    )

pub returns : goal.returns
returns c =
    let inside = c.self.inside in
    ap (map (held_by inside.open_keys inside.marks.items)) c.use_at.ensures
    ∙ view-used inside.open_keys inside.marks.items c.args.key.now c.args.now inside.table ∙ ap (map (value_used_at c.args.key.now c.args.now)) c.self.view_is
