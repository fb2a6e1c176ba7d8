use Rattle.std.proofs.Common.{ap, ◌∙◌, map}
use Rattle.audit_situation.specs.Held.Holds.{value_covered_by}
use Rattle.audit_situation.proofs.held.Keeping.{view-covered, on-ok}
use Rattle.audit_situation.proofs.held.holding.Holding.cover.Goals as goal

pub returns : goal.returns
returns c =
    let inside = c.self.inside in
    on-ok c.close_all.result (λ closed. view-covered c.close_all.new.keys inside.open_keys inside.marks.items c.args.prefix.now inside.table closed ∙ ap (map (value_covered_by c.args.prefix.now)) c.self.view_is) c.close_all.ensures
