use Rattle.std.proofs.Common.{sym, ap, ◌∙◌, get_or}
use Rattle.audit_situation.specs.Held.Weights.{weight_of_part, values_of}
use Rattle.audit_situation.proofs.held.Keeping.{values-by}
use Rattle.audit_situation.proofs.held.holding.Holding.weight_of.Goals as goal

pub returns : goal.returns
returns c =
    let inside = c.self.inside in
    c.weight_at.ensures ∙ ap (λ ws. get_or ws c.args.part 0) c.deref.ensures.value ∙ inside.keeps.weighed c.args.part
    ∙ ap (weight_of_part c.args.part) (sym (values-by inside.open_keys inside.marks.items inside.table) ∙ ap values_of c.self.view_is)
