use Rattle.std.proofs.Common.{ap, ◌∙◌, subst}
use Rattle.engine_reference.specs.Runs.{after_write}
use Rattle.engine_cells.specs.Noting.{AimsOnlyAt}
use Rattle.engine_runs.proofs.Stretching.{number-is}
use Rattle.engine_runs.proofs.applying.apply_at.Goals as goal

pub apply_write-requires : goal.apply_write-requires
apply_write-requires g c =
    let w = c.write_at-oldest.result.now in
    rw c.to_write-write.ensures (subst (λ n. AimsOnlyAt c.args.tables.now.numbers w.place n) (number-is w.write) c.write_at-oldest.ensures.right)

pub returns : goal.returns
returns g c =
    let w = c.write_at-oldest.result.now in
    (w.write, c.write_at-oldest.ensures.is, c.apply_write.ensures ∙ ap (λ x. after_write x c.args.tables.now.state) c.to_write-write.ensures)
