use Rattle.std.proofs.Common.{arith, rules, ◌∙◌, ap, option_map, Bor}
use Rattle.std.specs.VecDeque.{deque_capacity}
use Rattle.cache_front.specs.Parts.{Stored}
use Rattle.front_state.specs.Showing.{IsShown}
use Rattle.cache_front.specs.declared.entries.hasher.WordBuilder.{WordBuilder}
use Rattle.cache_front.specs.Data.{FrontData, word_of}
use Rattle.front_reference.specs.Fronts.{part_of}
use Rattle.cache_front.proofs.data.Calls.{few_told, fits, look_up, reads_live, room_for, shown}
use Rattle.cache_front.proofs.store.store.FrontStoreStore.look_up.Goals as goal

pub drain_at-requires : goal.drain_at-requires
drain_at-requires g c =
    let store = c.self.inside in
    let word = word_of g.S.BuildHasher g.S.Hasher.Hasher in
    let d : FrontData (WordBuilder g.row.S.Denot) = record { config = store.config; made = store.made; dropped = store.dropped; queue = store.notes.items; stream = g.R.Rng.stream store.generator; front = store.front } in
    let tells = look_up word d c.look_up_with_hash.new.self c.part_with_hash-part.result store.count (deque_capacity store.notes) c.args.now c.args.key.now c.self.invariant (rw (← c.self.view_is) at c.requires.in_time) (rw c.from_nanos-now.ensures at c.in-Ok.ensures.used)
    (c.part_with_hash-part.ensures.part ∙ ap (λ h. part_of store.front.bits h) c.hash-hash.ensures) in
    let few = few_told word _ _ _ _ _ _ tells in
    let room = room_for word d store.count (deque_capacity store.notes) c.self.invariant in
    record { room = omega (arith, few, room); held = few }

pub invariant_of-self : goal.invariant_of-self
invariant_of-self g c =
    let store = c.self.inside in
    let word = word_of g.S.BuildHasher g.S.Hasher.Hasher in
    let d : FrontData (WordBuilder g.row.S.Denot) = record { config = store.config; made = store.made; dropped = store.dropped; queue = store.notes.items; stream = g.R.Rng.stream store.generator; front = store.front } in
    let tells = look_up word d c.look_up_with_hash.new.self c.part_with_hash-part.result store.count (deque_capacity store.notes) c.args.now c.args.key.now c.self.invariant (rw (← c.self.view_is) at c.requires.in_time) (rw c.from_nanos-now.ensures at c.in-Ok.ensures.used)
    (c.part_with_hash-part.ensures.part ∙ ap (λ h. part_of store.front.bits h) c.hash-hash.ensures) in
    let room = room_for word d store.count (deque_capacity store.notes) c.self.invariant in
    let kept = c.drain_at.ensures.room in
    fits word _ _ _ _ _ _ tells _ _ c.drain_at.ensures.drained c.drain_at.ensures.queued c.drain_at.new.count (deque_capacity c.drain_at.new.notes) c.drain_at.ensures.number (omega (arith, room, kept))

pub returns-in-Ok-clause-does : goal.returns-in-Ok-clause-does
returns-in-Ok-clause-does g c =
    let store = c.self.inside in
    let word = word_of g.S.BuildHasher g.S.Hasher.Hasher in
    let d : FrontData (WordBuilder g.row.S.Denot) = record { config = store.config; made = store.made; dropped = store.dropped; queue = store.notes.items; stream = g.R.Rng.stream store.generator; front = store.front } in
    let tells = look_up word d c.look_up_with_hash.new.self c.part_with_hash-part.result store.count (deque_capacity store.notes) c.args.now c.args.key.now c.self.invariant (rw (← c.self.view_is) at c.requires.in_time) (rw c.from_nanos-now.ensures at c.in-Ok.ensures.used)
    (c.part_with_hash-part.ensures.part ∙ ap (λ h. part_of store.front.bits h) c.hash-hash.ensures) in
    rw (← c.self.view_is) (shown word _ _ _ _ _ _ tells _ _ c.drain_at.ensures.drained c.drain_at.ensures.queued)

pub returns-in-Ok-clause-reads : goal.returns-in-Ok-clause-reads
returns-in-Ok-clause-reads g c =
    let store = c.self.inside in
    let word = word_of g.S.BuildHasher g.S.Hasher.Hasher in
    let d : FrontData (WordBuilder g.row.S.Denot) = record { config = store.config; made = store.made; dropped = store.dropped; queue = store.notes.items; stream = g.R.Rng.stream store.generator; front = store.front } in
    let s = c.look_up_with_hash.ensures.shown in
    let r : IsShown g.F.FnOnce c.args.read (option_map (λ (v : Stored). v.bytes) (option_map (λ (b : Bor Stored). b.now) s.found)) s.shown.now c.look_up_with_hash.result s.left.now = search rules in
    rw (← c.self.view_is) (reads_live word _ _ d c.args.now c.args.key.now _ _ _ _ _ _ c.self.invariant.whole (rw c.from_nanos-now.ensures at s.is) s.shows s.leaves (rw c.in-Ok.is at r))

pub returns-in-Err-clause-reads : goal.returns-in-Err-clause-reads
returns-in-Err-clause-reads g c =
    let store = c.self.inside in
    let word = word_of g.S.BuildHasher g.S.Hasher.Hasher in
    let d : FrontData (WordBuilder g.row.S.Denot) = record { config = store.config; made = store.made; dropped = store.dropped; queue = store.notes.items; stream = g.R.Rng.stream store.generator; front = store.front } in
    let s = c.look_up_with_hash.ensures.shown in
    let r : IsShown g.F.FnOnce c.args.read (option_map (λ (v : Stored). v.bytes) (option_map (λ (b : Bor Stored). b.now) s.found)) s.shown.now c.look_up_with_hash.result s.left.now = search rules in
    rw (← c.self.view_is) (reads_live word _ _ d c.args.now c.args.key.now _ _ _ _ _ _ c.self.invariant.whole (rw c.from_nanos-now.ensures at s.is) s.shows s.leaves (rw c.in-Err.is at r))
