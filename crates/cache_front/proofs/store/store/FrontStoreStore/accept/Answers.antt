use Rattle.std.proofs.Common.{◌∙◌, ap, arith, false, length, ◌++◌}
use Rattle.std.proofs.lemmas.Result.{err_from_is_err_and}
use Rattle.std.specs.VecDeque.{deque_capacity}
use Rattle.cache_front.specs.declared.entries.hasher.WordBuilder.{WordBuilder}
use Rattle.cache_front.specs.Data.{FrontData, word_of}
use Rattle.cache_front.specs.Draining.{waiting_at}
use Rattle.cache_front.proofs.data.Calls.{accept, few_told, fits, lacks_tickets, shown}
use Rattle.cache_front.proofs.store.store.FrontStoreStore.accept.Goals as goal

pub drain_at-requires : goal.drain_at-requires
drain_at-requires g c =
    let store = c.self.inside in
    let word = word_of g.S.BuildHasher g.S.Hasher.Hasher in
    let d : FrontData (WordBuilder g.row.S.Denot) = record { config = store.config; made = store.made; dropped = store.dropped; queue = store.notes.items; stream = g.R.Rng.stream store.generator; front = store.front } in
    let tells = accept word d c.insert.new.front c.in_ok-part.part store.count (deque_capacity store.notes) c.args.now c.args.key.now c.args.bytes.now c.args.milliseconds false c.self.invariant
    (rw (← c.self.view_is) at c.requires.in_time) (rw (← c.self.view_is) at c.requires.fits) c.in_ok-value.ensures.few
    (rw c.in_ok-value.ensures.value at c.in_ok-part.ensures.inserts) c.in_ok-part.ensures.part in
    let few = few_told word _ _ _ _ _ _ tells in
    let room = c.in_ok-value.ensures.room in
    record { room = omega (arith, few, room); held = omega (arith, few) }

pub invariant_of-self-2 : goal.invariant_of-self-2
invariant_of-self-2 g c =
    let store = c.self.inside in
    let word = word_of g.S.BuildHasher g.S.Hasher.Hasher in
    let d : FrontData (WordBuilder g.row.S.Denot) = record { config = store.config; made = store.made; dropped = store.dropped; queue = store.notes.items; stream = g.R.Rng.stream store.generator; front = store.front } in
    let tells = accept word d c.insert.new.front c.in_ok-part.part store.count (deque_capacity store.notes) c.args.now c.args.key.now c.args.bytes.now c.args.milliseconds false c.self.invariant
    (rw (← c.self.view_is) at c.requires.in_time) (rw (← c.self.view_is) at c.requires.fits) c.in_ok-value.ensures.few
    (rw c.in_ok-value.ensures.value at c.in_ok-part.ensures.inserts) c.in_ok-part.ensures.part in
    let number = c.drain_at.ensures.number in
    let room = c.in_ok-value.ensures.room in
    let same = ap length c.prepare.ensures.same in
    let kept = c.drain_at.ensures.room in
    fits word _ _ _ _ _ _ tells _ _ c.drain_at.ensures.drained (c.drain_at.ensures.queued ∙ ap (λ ns. ns ++ waiting_at c.in_ok-part.part c.insert.new.front.parts) c.prepare.ensures.same) c.drain_at.new.count
    (deque_capacity c.drain_at.new.notes) (omega (arith, number)) (omega (arith, room, same, kept))

pub returns-clause-does : goal.returns-clause-does
returns-clause-does g c = λ looked_up.
    let store = c.self.inside in
    let word = word_of g.S.BuildHasher g.S.Hasher.Hasher in
    let d : FrontData (WordBuilder g.row.S.Denot) = record { config = store.config; made = store.made; dropped = store.dropped; queue = store.notes.items; stream = g.R.Rng.stream store.generator; front = store.front } in
    let tells = accept word d c.insert.new.front c.in_ok-part.part store.count (deque_capacity store.notes) c.args.now c.args.key.now c.args.bytes.now c.args.milliseconds looked_up c.self.invariant
    (rw (← c.self.view_is) at c.requires.in_time) (rw (← c.self.view_is) at c.requires.fits) c.in_ok-value.ensures.few
    (rw c.in_ok-value.ensures.value at c.in_ok-part.ensures.inserts) c.in_ok-part.ensures.part in
    rw (← c.self.view_is, c.in_ok-part.ensures.part) (shown word _ _ _ _ _ _ tells _ _ c.drain_at.ensures.drained (c.drain_at.ensures.queued ∙ ap (λ ns. ns ++ waiting_at c.in_ok-part.part c.insert.new.front.parts) c.prepare.ensures.same))

pub returns-in_err-part-clause-used_up : goal.returns-in_err-part-clause-used_up
returns-in_err-part-clause-used_up g c =
    let store = c.self.inside in
    let word = word_of g.S.BuildHasher g.S.Hasher.Hasher in
    let d : FrontData (WordBuilder g.row.S.Denot) = record { config = store.config; made = store.made; dropped = store.dropped; queue = store.notes.items; stream = g.R.Rng.stream store.generator; front = store.front } in
    let p = err_from_is_err_and c.from_residual-in_err-part.result c.from_residual-in_err-part.ensures.1 in
    rw (p.1, p.2, ← c.self.view_is) (λ used. lacks_tickets word d c.self.invariant.whole (c.in_err-part.ensures.used_up cc))
