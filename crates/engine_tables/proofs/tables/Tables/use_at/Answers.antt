use Rattle.std.proofs.Common.{refl, ap, sym, ◌∙◌, subst, length-set, arith, ◌+◌, ◌≤◌, is_some, Some}
use Rattle.std.specs.Prelude.{slice_set}
use Rattle.engine_reference.specs.declared.data.Record.{Record}
use Rattle.engine_cells.specs.Kept.{kept_at}
use Rattle.engine_cells.proofs.Views.{kept-in, numbers-alike, numbered-alike, listed-alike, alike-set, numbers_of-set, count-set}
use Rattle.engine_cells.proofs.Listed.{records-set}
use Rattle.engine_cells.proofs.Pointing.{pointed-alike}
use Rattle.engine_cells.proofs.Spotting.{spotted-gets, hashed-gets}
use Rattle.engine_cells.proofs.Counting.{gets-set}
use Rattle.engine_cells.proofs.Totals.{tally-set, places-alike}
use Rattle.std.proofs.Math.Logic.{∥∥₁_map}
use Rattle.std.proofs.lemmas.Option.{same_Some}
use Rattle.engine_cells.proofs.Awaits.{awaited-gets}
use Rattle.engine_pending.specs.Timers.Awaited.{IsSet}
use Rattle.engine_cells.proofs.Sweeps.{since-gets}
use Rattle.engine_tables.proofs.tables.Tables.use_at.Goals as goal

pub invariant_of-self : goal.invariant_of-self
invariant_of-self g c =
    let x = c.index_mut-cell.result.now in
    let there = c.index_mut-cell.ensures.value in
    let cells = c.self.inside.cells.slots in
    let d = record x { entry = record x.entry { used = c.args.used; expires = c.args.expires } } in
    let h = alike-set cells c.args.place x d there refl in
    let new = slice_set cells c.args.place (Some d) in
    let places = places-alike c.self.inside.cells (record c.self.inside.cells { slots = new }) c.self.inside.tally.number c.self.inside.tally.number c.self.inside.backlog.reserved c.self.inside.backlog.reserved x d in
    let many = count-set cells c.args.place x d there in
    let long = length-set cells c.args.place (Some d) in
    rw c.use_at.ensures (record {
      kept = numbered-alike cells new c.self.inside.next_number h c.self.invariant.kept;
      used = listed-alike cells new c.self.inside.access.indices h c.self.invariant.used;
      written = listed-alike cells new c.self.inside.order.places.indices h c.self.invariant.written;
      cells = subst (λ n. n + c.self.inside.backlog.reserved ≤ c.self.inside.cells.capacity) (sym many) c.self.invariant.cells;
      access = places c.self.inside.access c.self.invariant.access many long refl refl (omega arith);
      order = places c.self.inside.order.places c.self.invariant.order many long refl refl (omega arith);
      notices = λ tells. subst (λ n. n + c.self.inside.backlog.reserved ≤ c.self.inside.backlog.notice_room) (sym many) (c.self.invariant.notices tells);
      tallied = tally-set cells c.args.place x d c.self.inside.tally c.self.inside.tally there (record { entry = (c.self.invariant.tallied.light c.args.place x there).entry; counted = (c.self.invariant.tallied.light c.args.place x there).counted }) c.self.invariant.tallied refl refl refl;
      aimed = pointed-alike cells _ c.self.inside.next_number h c.self.invariant.aimed;
      reserved = c.self.invariant.reserved;
      tickets = c.self.invariant.tickets;
      numbers = c.self.invariant.numbers;
      spotted = spotted-gets g.K.PartialEq.eq cells new c.self.inside.keys c.args.place x d there (gets-set cells c.args.place x d there) (record { held = refl; hash = refl; key = λ key. refl }) c.self.invariant.spotted;
      hashed = hashed-gets g.K.PartialEq.eq cells new c.self.inside.keys c.args.place x d there (gets-set cells c.args.place x d there) (record { held = refl; hash = refl; key = λ key. refl }) c.self.invariant.spotted _ refl c.self.invariant.hashed;
      keys = c.self.invariant.keys;
      awaited = ∥∥₁_map c.self.invariant.awaited (λ k. awaited-gets cells new c.self.inside.expirations c.set_changed.new.expirations c.args.place d (gets-set cells c.args.place x d there) c.set_changed.ensures.others c.set_changed.ensures.whole (λ held. c.set_changed.ensures.set (subst (λ e. IsSet c.self.inside.expirations c.args.place e) (sym c.expires-before.ensures) (k c.args.place x there held))) k);
      live = c.self.invariant.live;
      since = since-gets c.self.inside.since cells new c.args.place d (gets-set cells c.args.place x d there) (λ held. c.self.invariant.since c.args.place x there held) c.self.invariant.since;
    })

pub returns-clause-changes : goal.returns-clause-changes
returns-clause-changes g c =
    let x = c.index_mut-cell.result.now in
    let there = c.index_mut-cell.ensures.value in
    let cells = c.self.inside.cells.slots in
    let f = λ (r : Record g.row.K.Denot g.row.V.Denot). record r { entry = record r.entry { used = c.args.used; expires = c.args.expires } } in
    let d = f x in
    let h = alike-set cells c.args.place x d there refl in (
      x,
      ap (λ t. kept_at t c.args.place) (sym c.self.view_is) ∙ kept-in cells c.args.place c.self.invariant.kept.apart ∙ there,
      rw (← c.self.view_is, c.use_at.ensures, records-set cells c.args.place x d f (λ r. refl) c.self.invariant.kept.apart there refl, numbers-alike cells (slice_set cells c.args.place (Some d)) h c.self.inside.access.indices, numbers-alike cells (slice_set cells c.args.place (Some d)) h c.self.inside.order.places.indices, numbers_of-set cells c.args.place x d there refl) refl,
    )

pub index_mut-cell-requires : goal.index_mut-cell-requires
index_mut-cell-requires g c =
    let seen = ap (λ t. kept_at t c.args.place) (sym c.self.view_is) ∙ kept-in c.self.inside.cells.slots c.args.place c.self.invariant.kept.apart in
    sym (ap (λ o. is_some o) seen) ∙ c.requires

pub returns-clause-number : goal.returns-clause-number
returns-clause-number g c = λ r kept.
    let seen = ap (λ t. kept_at t c.args.place) (sym c.self.view_is) ∙ kept-in c.self.inside.cells.slots c.args.place c.self.invariant.kept.apart in
    c.number-number.ensures ∙ ap (λ (x : Record g.row.K.Denot g.row.V.Denot). x.number) (same_Some _ _ (sym c.index_mut-cell.ensures.value ∙ sym seen ∙ kept))
