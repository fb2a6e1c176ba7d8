use Rattle.engine_cells.proofs.Standing.{once-listed, admitted-listed}
use Rattle.engine_tables.proofs.tables.Tables.access_stands.Goals as goal

pub returns-clause-once : goal.returns-clause-once
returns-clause-once g c =
    let x = c.self.inside in
    rw (← c.self.view_is) (once-listed x.cells.slots x.access.indices x.access.indices c.self.invariant.kept.apart c.self.invariant.used c.self.invariant.used.once (λ j has. has))

pub returns-clause-admitted : goal.returns-clause-admitted
returns-clause-admitted g c =
    let x = c.self.inside in
    rw (← c.self.view_is) (λ number i. admitted-listed x.cells.slots x.access.indices x.access.indices number c.self.invariant.kept.apart c.self.invariant.used (λ j has. has) i)
