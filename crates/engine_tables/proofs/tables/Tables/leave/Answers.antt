use Rattle.std.proofs.Common.{refl, ap, sym, ◌∙◌, subst, is_some, None, length, length-set, arith, ◌&&◌}
use Rattle.policy_queue.specs.Indices.{has_index}
use Rattle.engine_cells.specs.Cells.{has_counts}
use Rattle.engine_cells.specs.Fitting.{StepsOut}
use Rattle.engine_cells.specs.Kept.{kept_at}
use Rattle.engine_cells.proofs.Views.{kept-in}
use Rattle.engine_cells.proofs.Listed.{records-remove}
use Rattle.engine_cells.proofs.Changes.{Loses, numbered-left, listed-left, list-left, numbers_of-removed}
use Rattle.engine_cells.proofs.Pointing.{pointed-loses, told-same, told-room, told-parts}
use Rattle.engine_cells.proofs.Spotting.{unholds-lost, spotted-unholds, hashed-unholds, space-unholds}
use Rattle.engine_cells.proofs.Totals.{tally-has, tally-remove, number-left, places-left}
use Rattle.std.proofs.Math.Logic.{∥∥₁_map}
use Rattle.engine_cells.proofs.Awaits.{awaited-loses}
use Rattle.engine_cells.proofs.Sweeps.{since-loses}
use Rattle.engine_tables.proofs.tables.Tables.leave.Goals as goal

pub index_of-index-requires : goal.index_of-index-requires
index_of-index-requires g c =
    let seen = ap (λ t. kept_at t c.args.place) (sym c.self.view_is) ∙ kept-in c.self.inside.cells.slots c.args.place c.self.invariant.kept.apart in
    sym (ap (λ o. is_some o) seen) ∙ c.requires

pub take_off-requires : goal.take_off-requires
take_off-requires g c =
    c.is_some-is_queued.ensures ∙ ap (λ o. is_some o) c.counts.ensures
    ∙ sym (ap (λ k. has_index k c.self.inside.access.indices) c.index_of-index.ensures.is ∙ c.self.invariant.used.listed c.args.place ∙ ap (λ o. has_counts o) c.remove-gone.ensures.value)

pub take_off-requires-2 : goal.take_off-requires-2
take_off-requires-2 g c =
    c.is_some-is_queued.ensures ∙ ap (λ o. is_some o) c.counts.ensures
    ∙ sym (ap (λ k. has_index k c.self.inside.order.places.indices) c.index_of-index.ensures.is ∙ c.self.invariant.written.listed c.args.place ∙ ap (λ o. has_counts o) c.remove-gone.ensures.value)

pub invariant_of-self : goal.invariant_of-self
invariant_of-self g c =
    let x = c.remove-gone.result in
    let there = c.remove-gone.ensures.value in
    let old = c.self.inside.cells.slots in
    let new = c.remove-gone.new.self.slots in
    let loses : Loses old new c.args.place = record { gone = c.remove-gone.ensures.updates.changed; others = c.remove-gone.ensures.updates.others } in
    let has = tally-has old c.args.place x c.self.inside.tally there c.self.invariant.tallied in
    let number = number-left c.self.inside.tally c.without-self-inside.result x has c.without-self-inside.ensures in
    let long = ap length c.remove-gone.ensures.slots ∙ length-set old c.args.place None in
    let places = places-left c.self.inside.cells c.remove-gone.new.self c.self.inside.tally.number c.without-self-inside.result.number c.self.inside.backlog.reserved c.args.place x in
    let went = subst (λ k. StepsOut k c.self.inside.access c.take_off.new.queue) c.index_of-index.ensures.is c.take_off.ensures in
    let went_too = subst (λ k. StepsOut k c.self.inside.order.places c.take_off-2.new.self.places) c.index_of-index.ensures.is c.take_off-2.ensures.out in
    let left = rw (c.is_held-was_held.ensures, c.hash.ensures) at c.take_if.ensures in
    let unholds = unholds-lost g.K.PartialEq.eq old new c.args.place loses in
    let space = space-unholds g.K.PartialEq.eq old new c.self.inside.keys c.take_if.new.keys c.args.place x there unholds left c.self.invariant.spotted in
    let is_told = x.is_held && c.self.inside.backlog.settings.tells in
    let told = (rw c.is_held-was_held.ensures at c.tell.ensures) ∙ told-same is_told c.args.cause x.entry c.into_notice.result c.self.inside.backlog c.into_notice.ensures in
    let less = told-room is_told c.self.inside.backlog.notice_room in
    record {
      kept = numbered-left old new c.self.inside.next_number c.args.place c.self.invariant.kept loses;
      used = rw went.indices (listed-left old new c.self.inside.access.indices c.args.place c.self.invariant.used loses);
      written = rw went_too.indices (listed-left old new c.self.inside.order.places.indices c.args.place c.self.invariant.written loses);
      cells = rw told (omega arith);
      access = rw told (places c.self.inside.access c.take_off.new.queue c.self.invariant.access c.self.invariant.used there c.remove-gone.ensures.len long number went);
      order = rw told (places c.self.inside.order.places c.take_off-2.new.self.places c.self.invariant.order c.self.invariant.written there c.remove-gone.ensures.len long number went_too);
      notices = rw told (λ tells. let had = c.self.invariant.notices tells in omega arith);
      tallied = tally-remove old new c.args.place x c.self.inside.tally c.without-self-inside.result there loses c.remove-gone.ensures.slots c.self.invariant.tallied c.without-self-inside.ensures;
      aimed = rw told (pointed-loses old new c.self.inside.next_number c.args.place loses c.self.invariant.aimed);
      reserved = rw told c.self.invariant.reserved;
      tickets = rw told c.self.invariant.tickets;
      numbers = rw told c.self.invariant.numbers;
      spotted = spotted-unholds g.K.PartialEq.eq old new c.self.inside.keys c.take_if.new.keys c.args.place x there unholds left c.self.invariant.spotted;
      hashed = rw told (hashed-unholds g.K.PartialEq.eq old new c.self.inside.keys c.take_if.new.keys c.args.place x there unholds left c.self.invariant.spotted _ c.self.invariant.hashed);
      keys = rw told (omega (arith, space, c.self.invariant.keys));
      awaited = ∥∥₁_map c.self.invariant.awaited (λ k. awaited-loses old new c.self.inside.expirations c.set_changed.new.expirations c.args.place loses c.set_changed.ensures.others c.set_changed.ensures.whole k);
      live = rw told (λ live. c.take_off-2.ensures.kept ∙ c.self.invariant.live live);
      since = since-loses c.self.inside.since old new c.args.place loses c.self.invariant.since;
    }

pub returns : goal.returns
returns g c =
    let x = c.remove-gone.result in
    let there = c.remove-gone.ensures.value in
    let old = c.self.inside.cells.slots in
    let new = c.remove-gone.new.self.slots in
    let loses : Loses old new c.args.place = record { gone = c.remove-gone.ensures.updates.changed; others = c.remove-gone.ensures.updates.others } in (
      x,
      ap (λ t. kept_at t c.args.place) (sym c.self.view_is) ∙ kept-in old c.args.place c.self.invariant.kept.apart ∙ there,
      rw (
        ← c.self.view_is,
        (rw c.is_held-was_held.ensures at c.tell.ensures) ∙ told-same (x.is_held && c.self.inside.backlog.settings.tells) c.args.cause x.entry c.into_notice.result c.self.inside.backlog c.into_notice.ensures,
        told-parts x.is_held c.self.inside.backlog.settings.tells c.args.cause x.entry c.self.inside.backlog.notices,
        c.take_off.ensures.indices,
        c.take_off-2.ensures.out.indices,
        c.index_of-index.ensures.is,
        list-left old new c.self.inside.access.indices c.args.place x c.self.invariant.kept.apart c.self.invariant.used there loses,
        list-left old new c.self.inside.order.places.indices c.args.place x c.self.invariant.kept.apart c.self.invariant.written there loses,
        c.remove-gone.ensures.slots,
        records-remove old c.args.place x c.self.invariant.kept.apart there,
        numbers_of-removed old c.args.place,
      ) refl,
    )

pub remove-gone-requires : goal.remove-gone-requires
remove-gone-requires g c =
    let seen = ap (λ t. kept_at t c.args.place) (sym c.self.view_is) ∙ kept-in c.self.inside.cells.slots c.args.place c.self.invariant.kept.apart in
    sym (ap (λ o. is_some o) seen) ∙ c.requires

pub without-self-inside-requires : goal.without-self-inside-requires
without-self-inside-requires g c =
    let has = tally-has c.self.inside.cells.slots c.args.place c.remove-gone.result c.self.inside.tally c.remove-gone.ensures.value c.self.invariant.tallied in
    record { held = has.held; weight = has.weight; number = has.number }

pub take_if-requires : goal.take_if-requires
take_if-requires g c = rw (c.is_held-was_held.ensures, c.hash.ensures) (c.self.invariant.spotted.spotted c.args.place c.remove-gone.result c.remove-gone.ensures.value)
