use Rattle.cache_front.specs.declared.entries.hasher.WordBuilder.{WordBuilder}
use Rattle.cache_front.specs.Data.{FrontData, parted_by, word_of}
use Rattle.cache_front.proofs.data.Live.{number_over}
use Rattle.cache_front.proofs.store.store.FrontStoreStore.count_live.Goals as goal

pub returns : goal.returns
returns g c =
    let store = c.self.inside in
    let word = word_of g.S.BuildHasher g.S.Hasher.Hasher in
    let d : FrontData (WordBuilder g.row.S.Denot) = record { config = store.config; made = store.made; dropped = store.dropped; queue = store.notes.items; stream = g.R.Rng.stream store.generator; front = store.front } in
    rw (← c.self.view_is) (number_over c.args.now (parted_by word d) c.count_visible.result c.self.invariant.whole (rw c.from_nanos.ensures at c.count_visible.ensures))
