use Rattle.std.specs.VecDeque.{deque_capacity}
use Rattle.cache_front.specs.declared.entries.hasher.WordBuilder.{WordBuilder}
use Rattle.cache_front.specs.Data.{FrontData, word_of}
use Rattle.cache_front.proofs.store.store.FrontStoreStore.clear.Goals as goal
use Rattle.cache_front.proofs.store.Covers.{cleared_does, cleared_fits}

pub invariant_of-self : goal.invariant_of-self
invariant_of-self g c =
    let store = c.self.inside in
    let word = word_of g.S.BuildHasher g.S.Hasher.Hasher in
    let d : FrontData (WordBuilder g.row.S.Denot) = record { config = store.config; made = store.made; dropped = store.dropped; queue = store.notes.items; stream = g.R.Rng.stream store.generator; front = store.front } in
    (cleared_fits word d c.clear.new.front store.count (deque_capacity store.notes) c.args.now c.clear.result c.self.invariant (rw (← c.self.view_is) at c.requires) c.clear.ensures.clears c.clear.ensures.err)

pub returns-clause-does : goal.returns-clause-does
returns-clause-does g c =
    let store = c.self.inside in
    let word = word_of g.S.BuildHasher g.S.Hasher.Hasher in
    let d : FrontData (WordBuilder g.row.S.Denot) = record { config = store.config; made = store.made; dropped = store.dropped; queue = store.notes.items; stream = g.R.Rng.stream store.generator; front = store.front } in
    rw (← c.self.view_is) (cleared_does word d c.clear.new.front store.count (deque_capacity store.notes) c.args.now c.clear.result c.self.invariant (rw (← c.self.view_is) at c.requires) c.clear.ensures.clears)
