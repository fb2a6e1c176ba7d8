use Rattle.std.proofs.Common.{refl, ap, sym, ◌∙◌, subst, ◌+◌, ◌<◌, ◌≤◌, is_some, Some, arith, length, length-set}
use Rattle.std.specs.Prelude.{slice_set}
use Rattle.std.proofs.Math.Logic.{∥∥₁_map}
use Rattle.engine_reference.specs.declared.data.Record.{Record}
use Rattle.policy_queue.specs.Indices.{has_index}
use Rattle.engine_cells.specs.Cells.{cell_at, has_counts}
use Rattle.engine_cells.specs.Fitting.{ComesLast, HasPlaceFor}
use Rattle.engine_cells.specs.Kept.{kept_at}
use Rattle.engine_cells.proofs.Awaits.{awaited-alike}
use Rattle.engine_cells.proofs.Changes.{numbered-set, listed-moved, list-moved}
use Rattle.engine_cells.proofs.Counting.{gets-set, pointed-gets_same}
use Rattle.engine_cells.proofs.Listed.{records-set}
use Rattle.engine_cells.proofs.Spotting.{spotted-gets, hashed-gets}
use Rattle.engine_cells.proofs.Totals.{tally-has, tally-fits, number-counted, tally-counted, has-place, places-counted}
use Rattle.engine_cells.proofs.Views.{numbers_of-same, kept-in, count-set}
use Rattle.engine_cells.proofs.Walking.{some-of}
use Rattle.engine_cells.proofs.Sweeps.{since-gets}
use Rattle.engine_tables.proofs.tables.Tables.count.Goals as goal

pub index_of-index-requires : goal.index_of-index-requires
index_of-index-requires g c =
    let seen = ap (λ t. kept_at t c.args.place) (sym c.self.view_is) ∙ kept-in c.self.inside.cells.slots c.args.place c.self.invariant.kept.apart in
    sym (ap (λ o. is_some o) seen) ∙ c.requires

pub put_last-requires-clause-room : goal.put_last-requires-clause-room
put_last-requires-clause-room g c =
    let cells = c.self.inside.cells in
    let x = some-of (cell_at cells.slots c.args.place) (sym (ap (λ o. is_some o) (ap (λ t. kept_at t c.args.place) (sym c.self.view_is) ∙ kept-in c.self.inside.cells.slots c.args.place c.self.invariant.kept.apart)) ∙ c.requires) in
    subst (λ k. HasPlaceFor k c.self.inside.access) (sym c.index_of-index.ensures.is)
    (has-place cells c.self.inside.tally c.self.inside.backlog.reserved c.args.place x.0 c.self.inside.access c.self.invariant.tallied c.self.invariant.used c.self.invariant.access x.1 (subst (λ k. k < length cells.slots) c.index_of-index.ensures.is c.index_of-index.ensures.within))

pub put_last-requires-2-clause-room : goal.put_last-requires-2-clause-room
put_last-requires-2-clause-room g c =
    let cells = c.self.inside.cells in
    let x = some-of (cell_at cells.slots c.args.place) (sym (ap (λ o. is_some o) (ap (λ t. kept_at t c.args.place) (sym c.self.view_is) ∙ kept-in c.self.inside.cells.slots c.args.place c.self.invariant.kept.apart)) ∙ c.requires) in
    subst (λ k. HasPlaceFor k c.self.inside.order.places) (sym c.index_of-index.ensures.is)
    (has-place cells c.self.inside.tally c.self.inside.backlog.reserved c.args.place x.0 c.self.inside.order.places c.self.invariant.tallied c.self.invariant.written c.self.invariant.order x.1 (subst (λ k. k < length cells.slots) c.index_of-index.ensures.is c.index_of-index.ensures.within))

pub put_last-requires-clause-there : goal.put_last-requires-clause-there
put_last-requires-clause-there g c =
    c.is_some-is_queued.ensures ∙ ap (λ o. is_some o) c.counts-before.ensures
    ∙ sym (ap (λ k. has_index k c.self.inside.access.indices) c.index_of-index.ensures.is ∙ c.self.invariant.used.listed c.args.place ∙ ap (λ o. has_counts o) c.index_mut-cell.ensures.value)

pub put_last-requires-2-clause-there : goal.put_last-requires-2-clause-there
put_last-requires-2-clause-there g c =
    c.is_some-is_queued.ensures ∙ ap (λ o. is_some o) c.counts-before.ensures
    ∙ sym (ap (λ k. has_index k c.self.inside.order.places.indices) c.index_of-index.ensures.is ∙ c.self.invariant.written.listed c.args.place ∙ ap (λ o. has_counts o) c.index_mut-cell.ensures.value)

pub invariant_of-self : goal.invariant_of-self
invariant_of-self g c =
    let cells = c.self.inside.cells.slots in
    let y = c.index_mut-cell.result.now in
    let there = c.index_mut-cell.ensures.value in
    let d : Record g.row.K.Denot g.row.V.Denot = record y { applied = c.args.write; counts = Some c.args.weight } in
    let new = slice_set cells c.args.place (Some d) in
    let gets = gets-set cells c.args.place y d there in
    let comes = subst (λ k. ComesLast k c.self.inside.access c.put_last.new.queue) c.index_of-index.ensures.is c.put_last.ensures in
    let comes_too = subst (λ k. ComesLast k c.self.inside.order.places c.put_last-2.new.self.places) c.index_of-index.ensures.is c.put_last-2.ensures.last in
    let counted = rw c.counts-before.ensures at c.counted-self-inside.ensures.is in
    let number = number-counted y c.self.inside.tally c.counted-self-inside.result (ap (λ v. v.number) counted) in
    let many = count-set cells c.args.place y d there in
    let long = length-set cells c.args.place (Some d) in
    let places = places-counted c.self.inside.cells (record c.self.inside.cells { slots = new }) c.self.inside.tally.number c.counted-self-inside.result.number c.self.inside.backlog.reserved c.args.place y d in
    rw c.count.ensures (record {
      kept = numbered-set cells new c.self.inside.next_number c.args.place y d c.self.invariant.kept there gets refl;
      used = rw comes.indices (listed-moved cells new c.self.inside.access.indices c.args.place d c.self.invariant.used gets refl);
      written = rw comes_too.indices (listed-moved cells new c.self.inside.order.places.indices c.args.place d c.self.invariant.written gets refl);
      cells = subst (λ n. n + c.self.inside.backlog.reserved ≤ c.self.inside.cells.capacity) (sym many) c.self.invariant.cells;
      access = places c.self.inside.access c.put_last.new.queue c.self.invariant.access c.self.invariant.used there refl many long number comes;
      order = places c.self.inside.order.places c.put_last-2.new.self.places c.self.invariant.order c.self.invariant.written there refl many long number comes_too;
      notices = λ tells. subst (λ n. n + c.self.inside.backlog.reserved ≤ c.self.inside.backlog.notice_room) (sym many) (c.self.invariant.notices tells);
      tallied = tally-counted cells c.args.place y c.args.write c.args.weight c.self.inside.tally c.counted-self-inside.result there c.counted-self-inside.ensures.light c.self.invariant.tallied counted;
      aimed = pointed-gets_same cells new c.self.inside.next_number c.args.place y d there gets refl c.self.invariant.aimed;
      reserved = c.self.invariant.reserved;
      tickets = c.self.invariant.tickets;
      numbers = c.self.invariant.numbers;
      spotted = spotted-gets g.K.PartialEq.eq cells new c.self.inside.keys c.args.place y d there gets (record { held = refl; hash = refl; key = λ key. refl }) c.self.invariant.spotted;
      hashed = hashed-gets g.K.PartialEq.eq cells new c.self.inside.keys c.args.place y d there gets (record { held = refl; hash = refl; key = λ key. refl }) c.self.invariant.spotted _ refl c.self.invariant.hashed;
      keys = c.self.invariant.keys;
      awaited = ∥∥₁_map c.self.invariant.awaited (λ k. awaited-alike cells c.self.inside.expirations c.args.place y d there refl refl k);
      live = λ live. c.put_last-2.ensures.kept ∙ c.self.invariant.live live;
      since = since-gets c.self.inside.since cells new c.args.place d gets (λ held. c.self.invariant.since c.args.place y there held) c.self.invariant.since;
    })

pub returns : goal.returns
returns g c =
    let cells = c.self.inside.cells.slots in
    let y = c.index_mut-cell.result.now in
    let there = c.index_mut-cell.ensures.value in
    let f = λ (r : Record g.row.K.Denot g.row.V.Denot). record r { applied = c.args.write; counts = Some c.args.weight } in
    let d = f y in
    let new = slice_set cells c.args.place (Some d) in
    let gets = gets-set cells c.args.place y d there in (
      y,
      ap (λ t. kept_at t c.args.place) (sym c.self.view_is) ∙ kept-in cells c.args.place c.self.invariant.kept.apart ∙ there,
      rw (
        ← c.self.view_is,
        c.count.ensures,
        c.put_last.ensures.indices,
        c.put_last-2.ensures.last.indices,
        c.index_of-index.ensures.is,
        list-moved cells new c.self.inside.access.indices c.args.place y d c.self.invariant.kept.apart c.self.invariant.used there gets refl,
        list-moved cells new c.self.inside.order.places.indices c.args.place y d c.self.invariant.kept.apart c.self.invariant.written there gets refl,
        records-set cells c.args.place y d f (λ r. refl) c.self.invariant.kept.apart there refl,
        numbers_of-same cells c.args.place y d there refl,
      ) refl,
    )

pub counted-self-inside-requires : goal.counted-self-inside-requires
counted-self-inside-requires g c =
    let cells = c.self.inside.cells.slots in
    let has = tally-has cells c.args.place c.index_mut-cell.result.now c.self.inside.tally c.index_mut-cell.ensures.value c.self.invariant.tallied in
    let fits = tally-fits cells c.self.inside.tally c.self.invariant.tallied (omega (arith, c.capacity-many.ensures.holds_all, c.capacity-many.ensures.fits)) in
    record { within = rw c.counts-before.ensures has.weight; room = fits.weight; number = fits.number }
