use Rattle.std.proofs.Common.{subst}
use Rattle.engine_runs.specs.declared.contesting.Contest.{Contest}
use Rattle.engine_runs.specs.Contesting.{IsOnList}
use Rattle.engine_runs.proofs.Contests.{outcome-goes, outcome-shorter}
use Rattle.engine_runs.proofs.contesting.go_on.Goals as goal

pub returns-clause-same : goal.returns-clause-same
returns-clause-same g c =
    let t = c.args.tables.now in
    let h = subst (λ o. IsOnList t o) c.requires.next c.requires.listed in
    let new : Contest = record { left = c.past-left.result.0; ahead = c.past-left.result.1; next = c.place_behind-next.result } in
    outcome-goes t c.args.contest new c.args.place h.0 h.1 c.requires.next (c.place_behind-next.ensures.rest h.0 h.1) (c.past-left.ensures h.0 h.1)

pub returns-clause-fewer : goal.returns-clause-fewer
returns-clause-fewer g c =
    let t = c.args.tables.now in
    let h = subst (λ o. IsOnList t o) c.requires.next c.requires.listed in
    let new : Contest = record { left = c.past-left.result.0; ahead = c.past-left.result.1; next = c.place_behind-next.result } in
    outcome-shorter t c.args.contest new c.args.place h.0 h.1 c.requires.next (c.place_behind-next.ensures.rest h.0 h.1)
