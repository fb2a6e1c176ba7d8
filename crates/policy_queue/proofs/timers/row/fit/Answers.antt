use Rattle.policy_queue.proofs.timers.Comings.{fits_up, fits_down}
use Rattle.policy_queue.proofs.timers.row.fit.Goals as goal

pub returns-then-at-spare : goal.returns-then-at-spare
returns-then-at-spare c =
    let q = c.requires in
    let h = fits_up c.args.places.now c.shift_up.new.places c.args.at c.args.spare c.args.place c.if-at-spare.true q.spread q.spare q.fits.0 q.fits.1 q.fits.2 q.new q.taken c.shift_up.ensures in
    record { spread = h.spread; comes = h.comes; starts = h.starts }

pub returns-else-at-spare : goal.returns-else-at-spare
returns-else-at-spare c =
    let q = c.requires in
    let h = fits_down c.args.places.now c.shift_down.new.places c.args.at c.args.spare c.args.place c.if-at-spare.false q.spread q.spare q.fits.0 q.fits.1 q.fits.2 q.new q.taken c.shift_down.ensures in
    record { spread = h.spread; comes = h.comes; starts = h.starts }
