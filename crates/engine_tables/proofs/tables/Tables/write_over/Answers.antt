use Rattle.std.proofs.Common.{◌≡◌, refl, ap, sym, ◌∙◌, length-set, ◌-◌, subst, ◌+◌, ◌<◌, ◌≤◌, is_some, Some, arith, true, cond, length}
use Rattle.std.specs.Prelude.{slice_set}
use Rattle.engine_reference.specs.declared.data.Record.{Record}
use Rattle.engine_cells.specs.Kept.{kept_at}
use Rattle.engine_cells.proofs.Views.{kept-in, numbers-alike, numbered-alike, listed-alike, alike-set, numbers_of-set, count-set}
use Rattle.engine_cells.proofs.Listed.{records-set}
use Rattle.engine_cells.proofs.Pointing.{pointed-alike, aims-made, aims-there, made-unsent, made-writes, told-same, told-room}
use Rattle.engine_reference.specs.Records.{held_weight, changed_at}
use Rattle.engine_cells.specs.Cells.{records_by_number}
use Rattle.engine_cells.proofs.Counting.{gets-set}
use Rattle.engine_cells.specs.Writing.{put_for}
use Rattle.engine_cells.proofs.Spotting.{IsSoughtAs, hash-alike, alike-sought, spotted-gets, hashed-gets}
use Rattle.engine_cells.proofs.Totals.{held-is, tally-has, tally-fits, tally-rewritten, places-alike}
use Rattle.engine_cells.specs.Tallying.{admitted_part}
use Rattle.engine_cells.specs.Noting.{write_of}
use Rattle.std.proofs.lemmas.List.{length-map}
use Rattle.std.proofs.Math.Logic.{∥∥₁_map}
use Rattle.engine_pending.specs.Timers.Awaited.{IsSet}
use Rattle.engine_cells.proofs.Awaits.{awaited-gets}
use Rattle.engine_cells.proofs.Sweeps.{since-gets, since-less}
use Rattle.engine_tables.proofs.tables.Tables.write_over.Goals as goal

pub index_mut-cell-requires : goal.index_mut-cell-requires
index_mut-cell-requires g c =
    let seen = ap (λ t. kept_at t c.args.place) (sym c.self.view_is) ∙ kept-in c.self.inside.cells.slots c.args.place c.self.invariant.kept.apart in
    sym (ap (λ o. is_some o) seen) ∙ c.requires.there

pub write_over-replaced-requires : goal.write_over-replaced-requires
write_over-replaced-requires g c =
    let seen = ap (λ t. kept_at t c.args.place) (sym c.self.view_is) ∙ kept-in c.self.inside.cells.slots c.args.place c.self.invariant.kept.apart ∙ c.index_mut-cell.ensures.value in
    (c.requires.fits c.index_mut-cell.result.now seen).1

pub invariant_of-self : goal.invariant_of-self
invariant_of-self g c =
    let tally = record c.self.inside.tally { held = c.held_with-held.result } in
    let is_tally = ap (λ h. record c.self.inside.tally { held = h }) (rw c.weight.ensures at c.held_with-held.ensures.is) in
    let x = c.index_mut-cell.result.now in
    let there = c.index_mut-cell.ensures.value in
    let cells = c.self.inside.cells.slots in
    let d : Record g.row.K.Denot g.row.V.Denot = record x { entry = c.args.entry; writes = x.writes + 1 } in
    let h = alike-set cells c.args.place x d there refl in
    let room : 0 < c.self.inside.backlog.reserved = omega (arith, ap (λ t. t.state.reserved) c.self.view_is, c.self.invariant.reserved) in
    let many = count-set cells c.args.place x d there in
    let number = ap (λ v. v.number + admitted_part x) is_tally in
    let places = places-alike c.self.inside.cells (record c.self.inside.cells { slots = slice_set cells c.args.place (Some d) }) c.self.inside.tally.number tally.number c.self.inside.backlog.reserved (c.self.inside.backlog.reserved - 1) x d in
    let long = length-set cells c.args.place (Some d) in
    let tells = c.self.inside.backlog.settings.tells in
    let told = c.tell.ensures ∙ told-same tells c.args.cause x.entry c.write_over-replaced.result c.self.inside.backlog c.write_over-replaced.ensures.before in
    let less = told-room tells c.self.inside.backlog.notice_room in
    let made = c.add_write.ensures in
    let seen = ap (λ t. kept_at t c.args.place) (sym c.self.view_is) ∙ kept-in cells c.args.place c.self.invariant.kept.apart ∙ there in
    let alike : g.K.PartialEq.eq x.entry.key d.entry.key ≡ true = c.requires.alike x seen in
    let sought : IsSoughtAs g.K.PartialEq.eq x d = record { held = refl; hash = refl; key = λ key. alike-sought g.K.PartialEq.eq x.entry.key d.entry.key key g.met.K.Eq.laws alike } in
    let had_keys = c.self.invariant.keys in
    let kept = numbered-alike cells (slice_set cells c.args.place (Some d)) c.self.inside.next_number h c.self.invariant.kept in
    rw c.write_over-replaced.ensures.after (record {
      kept = kept;
      used = listed-alike cells (slice_set cells c.args.place (Some d)) c.self.inside.access.indices h c.self.invariant.used;
      written = listed-alike cells (slice_set cells c.args.place (Some d)) c.self.inside.order.places.indices h c.self.invariant.written;
      cells = rw (made, told) (omega arith);
      access = rw (made, told) (places c.self.inside.access c.self.invariant.access many long number refl (omega arith));
      order = rw (made, told) (places c.self.inside.order.places c.self.invariant.order many long number refl (omega arith));
      notices = rw (made, told) (λ tells. let had = c.self.invariant.notices tells in omega arith);
      tallied = tally-rewritten cells c.args.place x c.args.entry (x.writes + 1) c.self.inside.tally tally there (c.requires.fits x seen).0 c.held_with-held.ensures.light c.self.invariant.tallied is_tally;
      aimed = rw (made, told, c.put-write.ensures, c.write_over-replaced.ensures.after)
          (aims-made c.args.at_once (slice_set cells c.args.place (Some d)) c.self.inside.next_number c.self.inside.backlog.next_ticket _
          (aims-there (slice_set cells c.args.place (Some d)) c.self.inside.next_number c.args.place d kept (gets-set cells c.args.place x d there).there)
          (pointed-alike cells (slice_set cells c.args.place (Some d)) c.self.inside.next_number h c.self.invariant.aimed));
      reserved = rw (made, told) (omega (arith, c.self.invariant.reserved));
      tickets = rw (made, told) (omega arith);
      numbers = rw (made, told) (omega arith);
      spotted = spotted-gets g.K.PartialEq.eq cells (slice_set cells c.args.place (Some d)) c.self.inside.keys c.args.place x d there (gets-set cells c.args.place x d there) sought c.self.invariant.spotted;
      hashed = rw (made, told) (hashed-gets g.K.PartialEq.eq cells (slice_set cells c.args.place (Some d)) c.self.inside.keys c.args.place x d there (gets-set cells c.args.place x d there) sought c.self.invariant.spotted _
          (hash-alike g.S.Hasher.Hasher.finish g.S.Hasher.Hasher.write g.S.BuildHasher.build_hasher g.K.Hash.hash_input c.self.inside.backlog.hasher x.entry.key d.entry.key (g.met.K.Hash.respects_eq x.entry.key d.entry.key alike)) c.self.invariant.hashed);
      keys = rw (made, told) (omega arith);
      awaited = ∥∥₁_map c.self.invariant.awaited (λ k. awaited-gets cells (slice_set cells c.args.place (Some d)) c.self.inside.expirations c.set_changed.new.expirations c.args.place d (gets-set cells c.args.place x d there) c.set_changed.ensures.others c.set_changed.ensures.whole (λ held. c.set_changed.ensures.set (subst (λ e. IsSet c.self.inside.expirations c.args.place e) (sym c.expires-before.ensures) (k c.args.place x there held))) k);
      live = rw (made, told) c.self.invariant.live;
      since = since-gets c.min-self-inside.result cells (slice_set cells c.args.place (Some d)) c.args.place d (gets-set cells c.args.place x d there) (λ held. omega (arith, c.min-self-inside.ensures)) (since-less c.min-self-inside.result c.self.inside.since cells (omega (arith, c.min-self-inside.ensures)) c.self.invariant.since);
    })

pub returns : goal.returns
returns g c =
    let tally = record c.self.inside.tally { held = c.held_with-held.result } in
    let is_tally = ap (λ h. record c.self.inside.tally { held = h }) (rw c.weight.ensures at c.held_with-held.ensures.is) in
    let x = c.index_mut-cell.result.now in
    let there = c.index_mut-cell.ensures.value in
    let cells = c.self.inside.cells.slots in
    let d : Record g.row.K.Denot g.row.V.Denot = record x { entry = c.args.entry; writes = x.writes + 1 } in
    let h = alike-set cells c.args.place x d there refl in
    let f = λ (r : Record g.row.K.Denot g.row.V.Denot). record r { entry = c.args.entry; writes = r.writes + 1 } in
    let records = records-set cells c.args.place x d f (λ r. refl) c.self.invariant.kept.apart there refl in
    let seen = ap (λ t. kept_at t c.args.place) (sym c.self.view_is) ∙ kept-in cells c.args.place c.self.invariant.kept.apart ∙ there in
    let tallied = tally-rewritten cells c.args.place x c.args.entry (x.writes + 1) c.self.inside.tally tally there (c.requires.fits x seen).0 c.held_with-held.ensures.light c.self.invariant.tallied is_tally in
    let holds = sym (held-is (slice_set cells c.args.place (Some d)) tally tallied) ∙ ap held_weight records in
    let write : c.put-write.result ≡ put_for d (held_weight (changed_at x.number f (records_by_number cells))) = c.put-write.ensures ∙ ap (λ r. put_for r c.held_with-held.result) c.write_over-replaced.ensures.after ∙ ap (λ n. put_for d n) holds in (
      x,
      ap (λ t. kept_at t c.args.place) (sym c.self.view_is) ∙ kept-in cells c.args.place c.self.invariant.kept.apart ∙ there,
      rw (
        ← c.self.view_is,
        c.write_over-replaced.ensures.after,
        records,
        numbers-alike cells (slice_set cells c.args.place (Some d)) h c.self.inside.access.indices,
        numbers-alike cells (slice_set cells c.args.place (Some d)) h c.self.inside.order.places.indices,
        numbers_of-set cells c.args.place x d there refl,
        c.add_write.ensures,
        c.tell.ensures ∙ told-same c.self.inside.backlog.settings.tells c.args.cause c.index_mut-cell.result.now.entry c.write_over-replaced.result c.self.inside.backlog c.write_over-replaced.ensures.before,
        made-unsent c.args.at_once c.self.inside.backlog.unsent c.self.inside.backlog.next_ticket (record { place = c.args.place; write = c.put-write.result }),
        made-writes c.args.at_once c.self.inside.backlog.writes (record { place = c.args.place; write = c.put-write.result }),
        write,
      ) refl,
    )

pub held_with-held-requires : goal.held_with-held-requires
held_with-held-requires g c =
    let x = c.index_mut-cell.result.now in
    let cells = c.self.inside.cells.slots in
    let seen = ap (λ t. kept_at t c.args.place) (sym c.self.view_is) ∙ kept-in cells c.args.place c.self.invariant.kept.apart ∙ c.index_mut-cell.ensures.value in
    let has = (tally-has cells c.args.place x c.self.inside.tally c.index_mut-cell.ensures.value c.self.invariant.tallied).held in
    let fits = tally-fits cells c.self.inside.tally c.self.invariant.tallied (omega (arith, c.capacity-many.ensures.holds_all, c.capacity-many.ensures.fits)) in
    record { within = rw c.weight.ensures (subst (λ b. cond b x.entry.weight 0 ≤ c.self.inside.tally.held) (c.requires.fits x seen).0 has); room = fits.held }

pub add_write-requires-clause-queue : goal.add_write-requires-clause-queue
add_write-requires-clause-queue g c at_once =
    let short = c.requires.queue at_once in
    let long = ap (λ t. length t.state.writes) c.self.view_is in
    let same = c.tell.ensures ∙ told-same c.self.inside.backlog.settings.tells c.args.cause c.index_mut-cell.result.now.entry c.write_over-replaced.result c.self.inside.backlog c.write_over-replaced.ensures.before in
    let told = ap (λ b. length b.writes) same in
    omega (arith, short, long, told, length-map c.self.inside.backlog.writes write_of)
