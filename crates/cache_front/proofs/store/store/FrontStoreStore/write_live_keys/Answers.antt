use Rattle.std.proofs.Common.{◌++◌, ◌∙◌, ap, sym, List, ℕ, map}
use Rattle.std.specs.List.{concat}
use Rattle.std.proofs.lemmas.Result.{on_ok_weaker}
use Rattle.audit_model.specs.Bytewise.{text_line}
use Rattle.cache_front.specs.declared.entries.hasher.WordBuilder.{WordBuilder}
use Rattle.cache_front.specs.Data.{FrontData, word_of}
use Rattle.cache_front.proofs.data.Live.{distinct_over, seen_over}
use Rattle.cache_front.proofs.store.store.FrontStoreStore.write_live_keys.Goals as goal

pub write_keys-requires-clause-distinct : goal.write_keys-requires-clause-distinct
write_keys-requires-clause-distinct g c =
    let store = c.self.inside in
    let word = word_of g.S.BuildHasher g.S.Hasher.Hasher in
    let d : FrontData (WordBuilder g.row.S.Denot) = record { config = store.config; made = store.made; dropped = store.dropped; queue = store.notes.items; stream = g.R.Rng.stream store.generator; front = store.front } in
    distinct_over word d c.self.invariant.whole

pub returns-clause-written : goal.returns-clause-written
returns-clause-written g c =
    let store = c.self.inside in
    let word = word_of g.S.BuildHasher g.S.Hasher.Hasher in
    let d : FrontData (WordBuilder g.row.S.Denot) = record { config = store.config; made = store.made; dropped = store.dropped; queue = store.notes.items; stream = g.R.Rng.stream store.generator; front = store.front } in
    rw (← c.self.view_is) (on_ok_weaker c.write_keys.result
    (λ written held stands. written ∙ ap (λ (ks : List (List ℕ)). c.args.output.now.items ++ concat (map text_line ks)) (sym (seen_over word d c.self.invariant.whole c.args.now held stands)))
    c.write_keys.ensures.written)
