use Rattle.std.proofs.Common.{arith}
use Rattle.std.specs.VecDeque.{deque_capacity}
use Rattle.cache_front.specs.declared.entries.hasher.WordBuilder.{WordBuilder}
use Rattle.cache_front.specs.Data.{FrontData, word_of}
use Rattle.cache_front.proofs.data.Calls.{few_told, fits, room_for, run_all, shown}
use Rattle.cache_front.proofs.store.store.FrontStoreStore.run_all.Goals as goal

pub drain-requires : goal.drain-requires
drain-requires g c =
    let store = c.self.inside in
    let word = word_of g.S.BuildHasher g.S.Hasher.Hasher in
    let d : FrontData (WordBuilder g.row.S.Denot) = record { config = store.config; made = store.made; dropped = store.dropped; queue = store.notes.items; stream = g.R.Rng.stream store.generator; front = store.front } in
    let tells = run_all word d c.run_pending_tasks.new.self store.count (deque_capacity store.notes) c.args.now c.self.invariant (rw (← c.self.view_is) at c.requires) (rw c.at_last_step-at.ensures at c.run_pending_tasks.ensures) in
    let few = few_told word _ _ _ _ _ _ tells in
    let room = room_for word d store.count (deque_capacity store.notes) c.self.invariant in
    record { room = omega (arith, few, room); held = few }

pub invariant_of-self : goal.invariant_of-self
invariant_of-self g c =
    let store = c.self.inside in
    let word = word_of g.S.BuildHasher g.S.Hasher.Hasher in
    let d : FrontData (WordBuilder g.row.S.Denot) = record { config = store.config; made = store.made; dropped = store.dropped; queue = store.notes.items; stream = g.R.Rng.stream store.generator; front = store.front } in
    let tells = run_all word d c.run_pending_tasks.new.self store.count (deque_capacity store.notes) c.args.now c.self.invariant (rw (← c.self.view_is) at c.requires) (rw c.at_last_step-at.ensures at c.run_pending_tasks.ensures) in
    let room = room_for word d store.count (deque_capacity store.notes) c.self.invariant in
    let kept = c.drain.ensures.room in
    fits word _ _ _ _ _ _ tells _ _ c.drain.ensures.drained c.drain.ensures.queued c.drain.new.count (deque_capacity c.drain.new.notes) c.drain.ensures.number (omega (arith, room, kept))

pub returns-clause-does : goal.returns-clause-does
returns-clause-does g c =
    let store = c.self.inside in
    let word = word_of g.S.BuildHasher g.S.Hasher.Hasher in
    let d : FrontData (WordBuilder g.row.S.Denot) = record { config = store.config; made = store.made; dropped = store.dropped; queue = store.notes.items; stream = g.R.Rng.stream store.generator; front = store.front } in
    let tells = run_all word d c.run_pending_tasks.new.self store.count (deque_capacity store.notes) c.args.now c.self.invariant (rw (← c.self.view_is) at c.requires) (rw c.at_last_step-at.ensures at c.run_pending_tasks.ensures) in
    rw (← c.self.view_is) (shown word _ _ _ _ _ _ tells _ _ c.drain.ensures.drained c.drain.ensures.queued).0

pub returns-clause-settled : goal.returns-clause-settled
returns-clause-settled g c =
    let store = c.self.inside in
    let word = word_of g.S.BuildHasher g.S.Hasher.Hasher in
    let d : FrontData (WordBuilder g.row.S.Denot) = record { config = store.config; made = store.made; dropped = store.dropped; queue = store.notes.items; stream = g.R.Rng.stream store.generator; front = store.front } in
    let tells = run_all word d c.run_pending_tasks.new.self store.count (deque_capacity store.notes) c.args.now c.self.invariant (rw (← c.self.view_is) at c.requires) (rw c.at_last_step-at.ensures at c.run_pending_tasks.ensures) in
    rw (c.entry_count.ensures, c.weighted_size.ensures) (shown word _ _ _ _ _ _ tells _ _ c.drain.ensures.drained c.drain.ensures.queued).1
