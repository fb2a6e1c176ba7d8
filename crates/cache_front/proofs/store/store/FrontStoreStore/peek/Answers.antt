use Rattle.std.proofs.Common.{ℕ, List, option_map, Bor}
use Rattle.cache_front.specs.Parts.{Stored}
use Rattle.cache_front.specs.declared.entries.hasher.WordBuilder.{WordBuilder}
use Rattle.cache_front.specs.Data.{FrontData, word_of}
use Rattle.cache_front.proofs.data.Calls.{peek}
use Rattle.cache_front.proofs.store.store.FrontStoreStore.peek.Goals as goal

pub returns : goal.returns
returns g c =
    let store = c.self.inside in
    let word = word_of g.S.BuildHasher g.S.Hasher.Hasher in
    let d : FrontData (WordBuilder g.row.S.Denot) = record { config = store.config; made = store.made; dropped = store.dropped; queue = store.notes.items; stream = g.R.Rng.stream store.generator; front = store.front } in
    rw (← c.self.view_is) (peek word d c.args.now c.args.key.now (option_map (λ (b : Bor Stored). b.now) c.peek.result) (option_map (λ (b : Bor (List ℕ)). b.now) c.bytes_found.result) c.self.invariant.whole (rw c.from_nanos.ensures at c.peek.ensures) c.bytes_found.ensures)
