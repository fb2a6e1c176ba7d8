use Rattle.sync_desk.proofs.desk.Desk.invalidate_all.Goals as goal

pub returns-clause-clears : goal.returns-clause-clears
returns-clause-clears g c =
    let at = c.in-Some.at in
    (at, c.in-Some.ensures.drawn, c.invalidate_all.ensures)
