use Rattle.engine_tables.proofs.tables.Tables.forget.Goals as goal

pub returns : goal.returns
returns g c =
    let u = c.leave.ensures in
    let unheld = c.requires.unheld u.0 u.1 in
    (u.0, u.1, rw unheld at u.2)
