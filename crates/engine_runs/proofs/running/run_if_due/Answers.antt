use Rattle.std.proofs.Common.{◌≡◌, refl, ap, ◌∙◌, length, arith}
use Rattle.engine_reference.specs.State.{Answers}
use Rattle.engine_runs.proofs.running.run_if_due.Goals as goal

pub returns-then-is_due-clause-room : goal.returns-then-is_due-clause-room
returns-then-is_due-clause-room g c =
    let a : Answers g.row.K.Denot g.row.V.Denot g.row.R-Predicate.Denot g.row.R.Denot = g.R.Rules.answers in
    let h = (c.run.ensures.runs a refl).runs in
    let none : length c.run.new.tables.state.reads ≡ 0 = ap (λ s. length s.reads) h.after ∙ ap (λ rs. length rs) h.applied.reads in
    omega (arith, none)
