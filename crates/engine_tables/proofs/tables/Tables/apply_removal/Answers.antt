use Rattle.std.proofs.Common.{refl, ap, sym, ◌∙◌, subst}
use Rattle.engine_reference.specs.Records.{record_at}
use Rattle.engine_cells.specs.Kept.{kept_at, is_removed_as}
use Rattle.engine_cells.specs.Noting.{AimsOnlyAt}
use Rattle.engine_cells.proofs.Views.{kept-in}
use Rattle.engine_cells.proofs.Pointing.{removed-there, removed-nothing, removed-some, removed-unheld}
use Rattle.engine_tables.proofs.tables.Tables.apply_removal.Goals as goal

pub forget-requires : goal.forget-requires
forget-requires g c =
    let t = sym c.is_removed_at.ensures ∙ c.if-is_removed_at.true in
    record {
      there = removed-some c.args.number (kept_at c.args.self.now c.args.place) t;
      unheld = λ r at. removed-unheld c.args.number r (sym (ap (λ o. is_removed_as c.args.number o) at) ∙ t);
    }

pub returns-then-is_removed_at : goal.returns-then-is_removed_at
returns-then-is_removed_at g c =
    let cells = c.self.inside.cells.slots in
    let apart = c.self.invariant.kept.apart in
    let seen = ap (λ t. kept_at t c.args.place) (sym c.self.view_is) ∙ kept-in cells c.args.place apart in
    let t = sym c.is_removed_at.ensures ∙ c.if-is_removed_at.true in
    let removed = sym (ap (λ o. is_removed_as c.args.number o) seen) ∙ t in
    let u = c.forget.ensures in
    let at = ap (λ t. record_at t.state.records c.args.number) (sym c.self.view_is) ∙ removed-there cells c.args.place c.args.number apart removed ∙ sym seen ∙ u.1 in
    let unheld = removed-unheld c.args.number u.0 (sym (ap (λ o. is_removed_as c.args.number o) u.1) ∙ t) in
    rw (at, unheld) (ap (λ t. t.state) u.2)

pub returns-else-is_removed_at : goal.returns-else-is_removed_at
returns-else-is_removed_at g c =
    let cells = c.self.inside.cells.slots in
    let apart = c.self.invariant.kept.apart in
    let seen = ap (λ t. kept_at t c.args.place) (sym c.self.view_is) ∙ kept-in cells c.args.place apart in
    let passed = sym (c.is_removed_at.ensures ∙ ap (λ o. is_removed_as c.args.number o) seen) ∙ c.if-is_removed_at.false in
    let points = subst (λ t. AimsOnlyAt t.numbers c.args.place c.args.number) (sym c.self.view_is) c.requires in
    rw (ap (λ t. record_at t.state.records c.args.number) (sym c.self.view_is), removed-nothing cells c.args.place c.args.number c.args.self.now.state apart points passed) refl
