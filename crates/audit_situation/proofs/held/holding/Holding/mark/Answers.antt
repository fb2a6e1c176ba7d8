use Rattle.std.proofs.Common.{sym, ap, ◌∙◌, map, set, get_or, subst, if◌then◌else◌}
use Rattle.audit_situation.specs.Held.Holds.{held_by, marked_in, RepresentsHeld}
use Rattle.audit_situation.proofs.held.Keeping.{keeps-marked, view-marked}
use Rattle.audit_situation.proofs.held.holding.Holding.mark.Goals as goal

pub invariant_of-self-inside : goal.invariant_of-self-inside
invariant_of-self-inside c =
    let inside = c.self.inside in
    let marks =
    c.put_mark.ensures
    ∙ ap (set inside.marks.items c.args.part)
    (c.mark_after-mark.ensures ∙ ap (λ m. if c.args.over then inside.next else (if c.args.anew then 0 else m)) (c.mark_at.ensures ∙ ap (λ ms. get_or ms c.args.part 0) c.deref.ensures.value)) in (
      subst (λ ms. RepresentsHeld inside.next ms inside.weights.items inside.total inside.table) (sym marks)
          (keeps-marked inside.next inside.open_keys inside.marks.items inside.weights.items inside.total inside.table inside.keeps c.args.part c.args.over c.args.anew c.requires),
      tt,
    )

pub returns : goal.returns
returns c =
    let inside = c.self.inside in
    let marks =
    c.put_mark.ensures
    ∙ ap (set inside.marks.items c.args.part)
    (c.mark_after-mark.ensures ∙ ap (λ m. if c.args.over then inside.next else (if c.args.anew then 0 else m)) (c.mark_at.ensures ∙ ap (λ ms. get_or ms c.args.part 0) c.deref.ensures.value)) in
    ap (λ ms. map (held_by inside.open_keys ms) inside.table) marks
    ∙ view-marked inside.next inside.open_keys inside.marks.items inside.weights.items inside.total inside.table inside.keeps c.args.part c.args.over c.args.anew c.requires
    ∙ ap (map (marked_in c.args.part c.args.over c.args.anew)) c.self.view_is
