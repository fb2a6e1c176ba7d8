use Rattle.cache_service.proofs.Seated.{opens-so}
use Rattle.cache_service.proofs.sitting.SittingHost.open.Goals as goal

pub returns-in-Ok-Opened-clause-opens : goal.returns-in-Ok-Opened-clause-opens
returns-in-Ok-Opened-clause-opens g c =
    let counted = rw c.in-Ok-Opened.field-0-is at c.in-Ok-Opened.ensures.counted in
    let taken = rw c.in-Ok-Opened.field-0-is at c.in-Ok-Opened.ensures.taken in ((opens-so c.args.namespace c.in-Ok-Opened.conn counted, ∣ taken ∣₁), tt)
