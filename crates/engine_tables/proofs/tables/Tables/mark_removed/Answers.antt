use Rattle.std.proofs.Common.{refl, ap, sym, ◌∙◌, length-set, ◌-◌, ◌+◌, ◌<◌, is_some, Some, false, true≢false, arith, length}
use Rattle.std.specs.Prelude.{slice_set}
use Rattle.engine_reference.specs.declared.data.Record.{Record}
use Rattle.engine_cells.specs.Kept.{kept_at}
use Rattle.engine_cells.proofs.Views.{kept-in, numbers-alike, numbered-alike, listed-alike, alike-set, numbers_of-set, count-set}
use Rattle.engine_cells.proofs.Listed.{records-set}
use Rattle.engine_cells.proofs.Pointing.{pointed-alike, aims-made, aims-there, made-unsent, made-writes}
use Rattle.engine_cells.proofs.Counting.{gets-set}
use Rattle.engine_reference.specs.declared.data.Write.TheVariants as Write
use Rattle.engine_cells.proofs.Spotting.{unholds-changed, spotted-unholds, hashed-unholds, space-unholds}
use Rattle.engine_cells.proofs.Totals.{tally-has, tally-unheld, places-alike}
use Rattle.engine_cells.specs.Tallying.{admitted_part}
use Rattle.engine_cells.specs.Noting.{write_of}
use Rattle.std.proofs.lemmas.List.{length-map}
use Rattle.std.proofs.Math.Logic.{∥∥₁_map}
use Rattle.engine_cells.proofs.Awaits.{awaited-gets}
use Rattle.engine_cells.proofs.Sweeps.{since-gets}
use Rattle.engine_tables.proofs.tables.Tables.mark_removed.Goals as goal

pub index_mut-cell-requires : goal.index_mut-cell-requires
index_mut-cell-requires g c =
    let seen = ap (λ t. kept_at t c.args.place) (sym c.self.view_is) ∙ kept-in c.self.inside.cells.slots c.args.place c.self.invariant.kept.apart in
    sym (ap (λ o. is_some o) seen) ∙ c.requires.there

pub mark_removed-requires : goal.mark_removed-requires
mark_removed-requires g c =
    let seen = ap (λ t. kept_at t c.args.place) (sym c.self.view_is) ∙ kept-in c.self.inside.cells.slots c.args.place c.self.invariant.kept.apart ∙ c.index_mut-cell.ensures.value in
    c.requires.fits c.index_mut-cell.result.now seen

pub invariant_of-self : goal.invariant_of-self
invariant_of-self g c =
    let x = c.index_mut-cell.result.now in
    let there = c.index_mut-cell.ensures.value in
    let cells = c.self.inside.cells.slots in
    let d : Record g.row.K.Denot g.row.V.Denot = record x { is_held = false; writes = x.writes + 1 } in
    let h = alike-set cells c.args.place x d there refl in
    let room : 0 < c.self.inside.backlog.reserved = omega (arith, ap (λ t. t.state.reserved) c.self.view_is, c.self.invariant.reserved) in
    let many = count-set cells c.args.place x d there in
    let number = ap (λ v. v.number + admitted_part x) c.unheld-self-inside.ensures in
    let places = places-alike c.self.inside.cells (record c.self.inside.cells { slots = slice_set cells c.args.place (Some d) }) c.self.inside.tally.number c.unheld-self-inside.result.number c.self.inside.backlog.reserved (c.self.inside.backlog.reserved - 1) x d in
    let long = length-set cells c.args.place (Some d) in
    let kept = numbered-alike cells (slice_set cells c.args.place (Some d)) c.self.inside.next_number h c.self.invariant.kept in
    let made = c.add_write.ensures in
    let left = rw (c.is_held-was_held.ensures, c.hash-hash.ensures) at c.take_if.ensures in
    let unholds = unholds-changed g.K.PartialEq.eq cells (slice_set cells c.args.place (Some d)) c.args.place d (gets-set cells c.args.place x d there) refl in
    let space = space-unholds g.K.PartialEq.eq cells (slice_set cells c.args.place (Some d)) c.self.inside.keys c.take_if.new.keys c.args.place x there unholds left c.self.invariant.spotted in
    rw c.mark_removed.ensures (record {
      kept = kept;
      used = listed-alike cells (slice_set cells c.args.place (Some d)) c.self.inside.access.indices h c.self.invariant.used;
      written = listed-alike cells (slice_set cells c.args.place (Some d)) c.self.inside.order.places.indices h c.self.invariant.written;
      cells = rw made (omega arith);
      access = rw made (places c.self.inside.access c.self.invariant.access many long number refl (omega arith));
      order = rw made (places c.self.inside.order.places c.self.invariant.order many long number refl (omega arith));
      notices = rw made (λ tells. let had = c.self.invariant.notices tells in omega arith);
      tallied = tally-unheld cells c.args.place x (x.writes + 1) c.self.inside.tally c.unheld-self-inside.result there c.self.invariant.tallied c.unheld-self-inside.ensures;
      aimed = rw (made, c.removed-write.ensures, c.number-number.ensures)
          (aims-made c.args.at_once (slice_set cells c.args.place (Some d)) c.self.inside.next_number c.self.inside.backlog.next_ticket (record { place = c.args.place; write = Write.Removed x.number })
          (aims-there (slice_set cells c.args.place (Some d)) c.self.inside.next_number c.args.place d kept (gets-set cells c.args.place x d there).there)
          (pointed-alike cells (slice_set cells c.args.place (Some d)) c.self.inside.next_number h c.self.invariant.aimed));
      reserved = rw made (omega (arith, c.self.invariant.reserved));
      tickets = rw made (omega arith);
      numbers = rw made (omega arith);
      spotted = spotted-unholds g.K.PartialEq.eq cells (slice_set cells c.args.place (Some d)) c.self.inside.keys c.take_if.new.keys c.args.place x there unholds left c.self.invariant.spotted;
      hashed = rw made (hashed-unholds g.K.PartialEq.eq cells (slice_set cells c.args.place (Some d)) c.self.inside.keys c.take_if.new.keys c.args.place x there unholds left c.self.invariant.spotted _ c.self.invariant.hashed);
      keys = rw made (omega (arith, space, c.self.invariant.keys));
      awaited = ∥∥₁_map c.self.invariant.awaited (λ k. awaited-gets cells (slice_set cells c.args.place (Some d)) c.self.inside.expirations c.set_changed.new.expirations c.args.place d (gets-set cells c.args.place x d there) c.set_changed.ensures.others c.set_changed.ensures.whole (λ held. absurd (true≢false (sym held))) k);
      live = rw made c.self.invariant.live;
      since = since-gets c.self.inside.since cells (slice_set cells c.args.place (Some d)) c.args.place d (gets-set cells c.args.place x d there) (λ held. absurd (true≢false (sym held))) c.self.invariant.since;
    })

pub returns : goal.returns
returns g c =
    let x = c.index_mut-cell.result.now in
    let there = c.index_mut-cell.ensures.value in
    let cells = c.self.inside.cells.slots in
    let d : Record g.row.K.Denot g.row.V.Denot = record x { is_held = false; writes = x.writes + 1 } in
    let h = alike-set cells c.args.place x d there refl in
    let f = λ (r : Record g.row.K.Denot g.row.V.Denot). record r { is_held = false; writes = r.writes + 1 } in (
      x,
      ap (λ t. kept_at t c.args.place) (sym c.self.view_is) ∙ kept-in cells c.args.place c.self.invariant.kept.apart ∙ there,
      rw (
        ← c.self.view_is,
        c.mark_removed.ensures,
        records-set cells c.args.place x d f (λ r. refl) c.self.invariant.kept.apart there refl,
        numbers-alike cells (slice_set cells c.args.place (Some d)) h c.self.inside.access.indices,
        numbers-alike cells (slice_set cells c.args.place (Some d)) h c.self.inside.order.places.indices,
        numbers_of-set cells c.args.place x d there refl,
        c.add_write.ensures,
        c.removed-write.ensures,
        c.number-number.ensures,
        made-unsent c.args.at_once c.self.inside.backlog.unsent c.self.inside.backlog.next_ticket (record { place = c.args.place; write = Write.Removed x.number }),
        made-writes c.args.at_once c.self.inside.backlog.writes (record { place = c.args.place; write = Write.Removed x.number }),
      ) refl,
    )

pub unheld-self-inside-requires : goal.unheld-self-inside-requires
unheld-self-inside-requires g c = (tally-has c.self.inside.cells.slots c.args.place c.index_mut-cell.result.now c.self.inside.tally c.index_mut-cell.ensures.value c.self.invariant.tallied).held

pub take_if-requires : goal.take_if-requires
take_if-requires g c = rw (c.is_held-was_held.ensures, c.hash-hash.ensures) (c.self.invariant.spotted.spotted c.args.place c.index_mut-cell.result.now c.index_mut-cell.ensures.value)

pub add_write-requires-clause-queue : goal.add_write-requires-clause-queue
add_write-requires-clause-queue g c at_once =
    let short = c.requires.queue at_once in
    let long = ap (λ t. length t.state.writes) c.self.view_is in
    omega (arith, short, long, length-map c.self.inside.backlog.writes write_of)
