use Rattle.engine_cells.specs.Looking.{behind}
use Rattle.engine_runs.proofs.Contests.{from-next, on-list}
use Rattle.engine_runs.proofs.contesting.place_behind.Goals as goal

pub returns-clause-rest : goal.returns-clause-rest
returns-clause-rest g c = λ r at. from-next c.args.tables.now r.number c.next_used.result c.access_stands.ensures.once (c.next_used.ensures.next r at) (c.next_used.ensures.last r at)

pub returns-clause-listed : goal.returns-clause-listed
returns-clause-listed g c =
    let h = c.requires in
    on-list c.args.tables.now (behind h.0.number c.args.tables.now.state.access) c.next_used.result (c.next_used.ensures.next h.0 h.1)
