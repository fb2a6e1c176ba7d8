use Rattle.sync_desk.proofs.desk.Desk.coalesce_now.Goals as goal

pub returns-in-Ok-clause-coalesces : goal.returns-in-Ok-clause-coalesces
returns-in-Ok-clause-coalesces g c = (c.in-Some.at, c.in-Some.ensures.drawn, c.in-Ok.ensures.answer)
