use Rattle.std.proofs.Common.{◌∙◌, refl, arith}
use Rattle.std.specs.VecDeque.{deque_capacity}
use Rattle.cache_front.proofs.data.Drains.{each_part, none_yet, one_part, part_fits}
use Rattle.cache_front.proofs.data.draining.drain.Goals as goal

pub loop-place-init : goal.loop-place-init
loop-place-init g c = record { drains = none_yet c.args.front.now c.args.notes.now.items c.args.count.now; room = refl }

pub drain_at-requires : goal.drain_at-requires
drain_at-requires g c =
    let a = c.args in
    let l = c.loop-place in
    let fits = part_fits a.front.now a.notes.now.items a.count.now l.place l.front l.notes.items l.count (deque_capacity a.notes.now) l.invariant.drains c.requires.room c.requires.held in
    let room = l.invariant.room in
    record { room = (let fit = fits.0 in omega (arith, fit, room)); held = fits.1 }

pub loop-place-preserved : goal.loop-place-preserved
loop-place-preserved g c =
    let a = c.args in
    let l = c.loop-place in
    let new = c.drain_at.new in
    let e = c.drain_at.ensures in
    record { drains = one_part a.front.now a.notes.now.items a.count.now l.place l.front new.front l.notes.items new.notes.items l.count new.count l.invariant.drains e.drained e.queued e.number; room = e.room ∙ l.invariant.room }

pub returns : goal.returns
returns g c =
    let a = c.args in
    let l = c.loop-place in
    let past = c.loop-place-test.false in
    let parts = c.num_cht_segments-place-end.ensures in
    let t = each_part a.front.now a.notes.now.items a.count.now l.place l.front l.notes.items l.count l.invariant.drains (omega (arith, past, parts)) in
    record { drained = t.0; queued = t.1; room = l.invariant.room; number = t.2 }
