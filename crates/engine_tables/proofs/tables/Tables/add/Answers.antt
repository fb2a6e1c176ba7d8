use Rattle.std.proofs.Common.{◌≡◌, refl, ap, sym, ◌∙◌, subst, ◌+◌, ◌<◌, arith, [], ◌∷◌, ◌++◌, Some, None, length}
use Rattle.std.specs.Prelude.{option_map}
use Rattle.engine_cells.specs.Kept.{numbered_at}
use Rattle.engine_cells.proofs.Views.{number-in, kept-in}
use Rattle.engine_cells.proofs.Listed.{records-insert}
use Rattle.engine_cells.proofs.Changes.{Gets, numbered-inserted, listed-inserted, list-inserted}
use Rattle.engine_cells.proofs.Pointing.{pointed-gets, aims-made, aims-there, made-unsent, made-writes}
use Rattle.engine_reference.specs.Records.{held_at, held_weight}
use Rattle.engine_cells.specs.Cells.{records_by_number}
use Rattle.engine_cells.specs.Writing.{put_for}
use Rattle.engine_cells.specs.Noting.{write_of}
use Rattle.std.proofs.lemmas.List.{length-map}
use Rattle.engine_cells.proofs.Spotting.{none-matches, spotted-inserted, hashed-inserted}
use Rattle.engine_cells.proofs.Totals.{held-is, tally-fits, tally-came, places-inserted}
use Rattle.std.proofs.Math.Logic.{∥∥₁_map}
use Rattle.engine_cells.proofs.Awaits.{awaited-gets}
use Rattle.engine_pending.specs.Timers.Awaited.{IsSet}
use Rattle.engine_cells.proofs.Sweeps.{since-gets, since-less}
use Rattle.engine_tables.proofs.tables.Tables.add.Goals as goal

pub invariant_of-self : goal.invariant_of-self
invariant_of-self g c =
    let tally = record c.self.inside.tally { held = c.held_with-held.result } in
    let is_tally = ap (λ h. record c.self.inside.tally { held = h }) (rw c.weight.ensures at c.held_with-held.ensures.is) in
    let x = c.args.added in
    let i = c.insert_reserved-place.result in
    let old = c.self.inside.cells.slots in
    let new = c.insert_reserved-place.new.self.slots in
    let vacant = c.insert_reserved-place.ensures.was_vacant in
    let gets : Gets old new i x = record { there = c.insert_reserved-place.ensures.updates.changed; others = c.insert_reserved-place.ensures.updates.others } in
    let room : 0 < c.self.inside.backlog.reserved = omega (arith, ap (λ t. t.state.reserved) c.self.view_is, c.self.invariant.reserved) in
    let is : c.args.added.number ≡ c.self.inside.next_number = c.requires.newcomer.numbered ∙ sym (ap (λ t. t.state.next_number) c.self.view_is) in
    let kept = numbered-inserted old new c.self.inside.next_number i x c.self.invariant.kept gets is in
    let number = ap (λ v. v.number) is_tally in
    let places = places-inserted c.self.inside.cells c.insert_reserved-place.new.self c.self.inside.tally.number tally.number c.self.inside.backlog.reserved in
    let made = c.add_write.ensures in
    let fresh = ap (λ t. held_at g.K.PartialEq.eq t.state.records c.args.added.entry.key) c.self.view_is ∙ c.requires.newcomer.fresh in
    let alone = none-matches g.K.PartialEq.eq old c.self.inside.keys c.args.added.entry.key c.self.invariant.spotted fresh in
    let comes = rw c.hash-hash.ensures at c.put.ensures in
    let space = c.put.ensures.space in
    let had_keys = c.self.invariant.keys in
    let hasher : c.self.inside.backlog.hasher ≡ c.args.self.now.state.hasher = ap (λ t. t.state.hasher) c.self.view_is in
    let mine = rw (sym hasher) at c.requires.newcomer.hashed in
    record {
      kept = kept;
      used = listed-inserted old new c.self.inside.access.indices i x c.self.invariant.used vacant gets c.requires.newcomer.uncounted;
      written = listed-inserted old new c.self.inside.order.places.indices i x c.self.invariant.written vacant gets c.requires.newcomer.uncounted;
      cells = rw made (omega arith);
      access = rw made (places c.self.inside.access c.self.invariant.access c.insert_reserved-place.ensures.len c.insert_reserved-place.ensures.slots number room);
      order = rw made (places c.self.inside.order.places c.self.invariant.order c.insert_reserved-place.ensures.len c.insert_reserved-place.ensures.slots number room);
      notices = rw made (λ tells. let had = c.self.invariant.notices tells in omega arith);
      tallied = tally-came old new i x c.self.inside.tally tally vacant gets c.requires.newcomer.held c.requires.newcomer.uncounted (rw c.weight.ensures at c.held_with-held.ensures.light) c.self.invariant.tallied is_tally;
      aimed = rw (made, c.put-write.ensures)
          (aims-made c.args.at_once new (c.self.inside.next_number + 1) c.self.inside.backlog.next_ticket _ (aims-there new (c.self.inside.next_number + 1) i x kept gets.there)
          (pointed-gets old new c.self.inside.next_number i x gets is c.self.invariant.aimed));
      reserved = rw made (omega (arith, c.self.invariant.reserved));
      tickets = rw made (omega arith);
      numbers = rw made (omega arith);
      spotted = spotted-inserted g.K.PartialEq.eq old new c.self.inside.keys c.put.new.self i x g.met.K.Eq.laws vacant gets c.requires.newcomer.held comes alone c.self.invariant.spotted;
      hashed = rw made (hashed-inserted g.K.PartialEq.eq old new c.self.inside.keys c.put.new.self i x g.met.K.Eq.laws vacant gets c.requires.newcomer.held comes alone c.self.invariant.spotted _ mine c.self.invariant.hashed);
      keys = rw made (omega (arith, space, had_keys));
      awaited = ∥∥₁_map c.self.invariant.awaited (λ k. awaited-gets old new c.self.inside.expirations c.set_changed.new.expirations i x gets c.set_changed.ensures.others c.set_changed.ensures.whole (λ held. subst (λ e. IsSet c.set_changed.new.expirations i e) c.expires-expires.ensures (c.set_changed.ensures.set tt)) k);
      live = rw made c.self.invariant.live;
      since = since-gets c.min-self-inside.result old new i x gets (λ held. omega (arith, c.min-self-inside.ensures, c.step.ensures)) (since-less c.min-self-inside.result c.self.inside.since old (omega (arith, c.min-self-inside.ensures)) c.self.invariant.since);
    }

pub returns-clause-place : goal.returns-clause-place
returns-clause-place g c =
    let x = c.args.added in
    let i = c.insert_reserved-place.result in
    let old = c.self.inside.cells.slots in
    let new = c.insert_reserved-place.new.self.slots in
    let vacant = c.insert_reserved-place.ensures.was_vacant in
    let gets : Gets old new i x = record { there = c.insert_reserved-place.ensures.updates.changed; others = c.insert_reserved-place.ensures.updates.others } in
    let is : c.args.added.number ≡ c.self.inside.next_number = c.requires.newcomer.numbered ∙ sym (ap (λ t. t.state.next_number) c.self.view_is) in
    let kept = numbered-inserted old new c.self.inside.next_number i x c.self.invariant.kept gets is in
    kept-in new i kept.apart ∙ gets.there

pub returns-clause-others : goal.returns-clause-others
returns-clause-others g c = λ i other.
    number-in c.insert_reserved-place.new.self.slots i
    ∙ ap (λ o. option_map (λ x. x.number) o) (c.insert_reserved-place.ensures.updates.others i other)
    ∙ sym (number-in c.self.inside.cells.slots i)
    ∙ ap (λ t. numbered_at t.numbers i) c.self.view_is

pub returns-clause-state : goal.returns-clause-state
returns-clause-state g c =
    let tally = record c.self.inside.tally { held = c.held_with-held.result } in
    let is_tally = ap (λ h. record c.self.inside.tally { held = h }) (rw c.weight.ensures at c.held_with-held.ensures.is) in
    let x = c.args.added in
    let i = c.insert_reserved-place.result in
    let old = c.self.inside.cells.slots in
    let new = c.insert_reserved-place.new.self.slots in
    let vacant = c.insert_reserved-place.ensures.was_vacant in
    let gets : Gets old new i x = record { there = c.insert_reserved-place.ensures.updates.changed; others = c.insert_reserved-place.ensures.updates.others } in
    let is : c.args.added.number ≡ c.self.inside.next_number = c.requires.newcomer.numbered ∙ sym (ap (λ t. t.state.next_number) c.self.view_is) in
    let records = records-insert old new i x (λ j d e. subst (λ n. d.number < n) (sym is) (c.self.invariant.kept.below j d e)) vacant gets.there gets.others in
    let tallied = tally-came old new i x c.self.inside.tally tally vacant gets c.requires.newcomer.held c.requires.newcomer.uncounted (rw c.weight.ensures at c.held_with-held.ensures.light) c.self.invariant.tallied is_tally in
    let holds = sym (held-is new tally tallied) ∙ ap held_weight records in
    let write : c.put-write.result ≡ put_for c.args.added (held_weight (records_by_number old ++ c.args.added ∷ [])) = c.put-write.ensures ∙ ap (λ n. put_for c.args.added n) holds in
    rw (
      ← c.self.view_is,
      list-inserted old new c.self.inside.access.indices i x c.self.invariant.used vacant gets,
      list-inserted old new c.self.inside.order.places.indices i x c.self.invariant.written vacant gets,
      records,
      c.add_write.ensures,
      made-unsent c.args.at_once c.self.inside.backlog.unsent c.self.inside.backlog.next_ticket (record { place = i; write = c.put-write.result }),
      made-writes c.args.at_once c.self.inside.backlog.writes (record { place = i; write = c.put-write.result }),
      write,
    ) refl

pub returns-clause-vacant : goal.returns-clause-vacant
returns-clause-vacant g c =
    ap (λ t. numbered_at t.numbers c.insert_reserved-place.result) (sym c.self.view_is)
    ∙ number-in c.self.inside.cells.slots c.insert_reserved-place.result
    ∙ ap (λ o. option_map (λ x. x.number) o) c.insert_reserved-place.ensures.was_vacant

pub held_with-held-requires : goal.held_with-held-requires
held_with-held-requires g c =
    let fits = tally-fits c.self.inside.cells.slots c.self.inside.tally c.self.invariant.tallied (omega (arith, c.capacity-many.ensures.holds_all, c.capacity-many.ensures.fits)) in
    record { within = omega arith; room = fits.held }

pub add_write-requires-clause-queue : goal.add_write-requires-clause-queue
add_write-requires-clause-queue g c at_once =
    let short = c.requires.queue at_once in
    let long = ap (λ t. length t.state.writes) c.self.view_is in
    omega (arith, short, long, length-map c.self.inside.backlog.writes write_of)

pub put-requires-clause-absent : goal.put-requires-clause-absent
put-requires-clause-absent g c u =
    let o = c.self.invariant.spotted.only _ c.insert_reserved-place.result u in
    let e : Some o.cell ≡ None = sym o.there ∙ c.insert_reserved-place.ensures.was_vacant in
    cc

pub put-requires-clause-place : goal.put-requires-clause-place
put-requires-clause-place g c = omega (arith, c.insert_reserved-place.ensures.key_in_range, c.insert_reserved-place.ensures.capacity, c.capacity-many.ensures.value, c.capacity-many.ensures.fits)
