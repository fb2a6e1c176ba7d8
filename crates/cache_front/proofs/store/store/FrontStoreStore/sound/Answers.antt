use Rattle.cache_front.specs.declared.entries.hasher.WordBuilder.{WordBuilder}
use Rattle.cache_front.specs.Data.{FrontData, word_of}
use Rattle.cache_front.proofs.data.Calls.{sound_is}
use Rattle.cache_front.proofs.store.store.FrontStoreStore.sound.Goals as goal

pub returns : goal.returns
returns g c =
    let store = c.self.inside in
    let word = word_of g.S.BuildHasher g.S.Hasher.Hasher in
    let d : FrontData (WordBuilder g.row.S.Denot) = record { config = store.config; made = store.made; dropped = store.dropped; queue = store.notes.items; stream = g.R.Rng.stream store.generator; front = store.front } in
    rw (← c.self.view_is) (sound_is word d c.self.invariant.whole)
