use Rattle.std.proofs.Common.{ap, sym, ◌∙◌, is_some}
use Rattle.std.proofs.lemmas.Bool.{lt-ltb}
use Rattle.engine_runs.proofs.Contests.{judged_new}
use Rattle.engine_runs.proofs.deciding.decide_on.Goals as goal

pub returns : goal.returns
returns g c =
    let found = c.args.found.now in
    c.judge.ensures
    ∙ judged_new c.args.tables.now.state c.args.write found (lt-ltb found.applied c.args.write.write (rw c.applied.ensures at c.if-write-applied.false)) (sym (c.is_some.ensures ∙ ap (λ o. is_some o) c.counts.ensures) ∙ c.if-is_some.false)
