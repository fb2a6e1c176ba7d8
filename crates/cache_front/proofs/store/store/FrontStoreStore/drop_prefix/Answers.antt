use Rattle.std.proofs.Common.{refl}
use Rattle.std.proofs.lemmas.Result.{err_from_is_err_and}
use Rattle.std.specs.VecDeque.{deque_capacity}
use Rattle.cache_front.specs.declared.entries.hasher.WordBuilder.{WordBuilder}
use Rattle.cache_front.specs.Data.{FrontData, word_of}
use Rattle.cache_front.proofs.store.Covers.{covered_does, covered_fits, covered_lacks, covered_up}
use Rattle.cache_front.proofs.store.store.FrontStoreStore.drop_prefix.Goals as goal

pub returns-in_err-covers-clause-used_up : goal.returns-in_err-covers-clause-used_up
returns-in_err-covers-clause-used_up g c =
    let store = c.self.inside in
    let word = word_of g.S.BuildHasher g.S.Hasher.Hasher in
    let d : FrontData (WordBuilder g.row.S.Denot) = record { config = store.config; made = store.made; dropped = store.dropped; queue = store.notes.items; stream = g.R.Rng.stream store.generator; front = store.front } in
    let p = err_from_is_err_and c.from_residual.result c.from_residual.ensures.1 in
    rw (p.1, p.2, ← c.self.view_is) (λ used. covered_up word d store.count (deque_capacity store.notes) c.self.invariant (c.in_err-covers.ensures.used_up used))

pub invariant_of-self-2 : goal.invariant_of-self-2
invariant_of-self-2 g c =
    let store = c.self.inside in
    let word = word_of g.S.BuildHasher g.S.Hasher.Hasher in
    let d : FrontData (WordBuilder g.row.S.Denot) = record { config = store.config; made = store.made; dropped = store.dropped; queue = store.notes.items; stream = g.R.Rng.stream store.generator; front = store.front } in
    (covered_fits word d c.cover.new.front (g.R.Rng.stream c.cover.new.generator) store.count (deque_capacity store.notes) c.args.now c.args.prefix.now c.in_ok-covers.covers _ c.self.invariant (rw (← c.self.view_is) at c.requires) refl c.in_ok-covers.ensures.covers c.in_ok-covers.ensures.lacks)

pub returns-clause-does : goal.returns-clause-does
returns-clause-does g c =
    let store = c.self.inside in
    let word = word_of g.S.BuildHasher g.S.Hasher.Hasher in
    let d : FrontData (WordBuilder g.row.S.Denot) = record { config = store.config; made = store.made; dropped = store.dropped; queue = store.notes.items; stream = g.R.Rng.stream store.generator; front = store.front } in
    rw (← c.self.view_is) (covered_does word d c.cover.new.front (g.R.Rng.stream c.cover.new.generator) store.count (deque_capacity store.notes) c.args.now c.args.prefix.now c.in_ok-covers.covers _ c.self.invariant
    (rw (← c.self.view_is) at c.requires) refl c.in_ok-covers.ensures.covers c.in_ok-covers.ensures.lacks)

pub returns-clause-lacks : goal.returns-clause-lacks
returns-clause-lacks g c =
    let store = c.self.inside in
    let word = word_of g.S.BuildHasher g.S.Hasher.Hasher in
    let d : FrontData (WordBuilder g.row.S.Denot) = record { config = store.config; made = store.made; dropped = store.dropped; queue = store.notes.items; stream = g.R.Rng.stream store.generator; front = store.front } in
    rw (← c.self.view_is) (covered_lacks word d c.cover.new.front (g.R.Rng.stream c.cover.new.generator) store.count (deque_capacity store.notes) c.args.now c.args.prefix.now c.in_ok-covers.covers _ c.self.invariant
    (rw (← c.self.view_is) at c.requires) refl c.in_ok-covers.ensures.covers c.in_ok-covers.ensures.lacks)
