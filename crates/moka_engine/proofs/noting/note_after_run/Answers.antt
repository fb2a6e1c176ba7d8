use Rattle.std.proofs.Common.{◌≡◌, refl, ap, sym, ◌∙◌, subst, Some}
use Rattle.std.proofs.lemmas.Option.{same_Some}
use Rattle.engine_calls.proofs.Finding.{kept-number}
use Rattle.engine_reference.specs.Runs.{RunsToEnd}
use Rattle.engine_reference.specs.declared.data.Record.{Record}
use Rattle.moka_engine.proofs.Keeping.{well-run}
use Rattle.moka_engine.proofs.Afterwards.{run-room, run-made, run-holds, noted-after_run}
use Rattle.moka_engine.proofs.noting.note_after_run.Goals as goal

pub use_found-requires-clause-room : goal.use_found-requires-clause-room
use_found-requires-clause-room g c = let a = g.R.Rules.answers in run-room a c.as_nanos.result _ _ (c.run.ensures.runs a refl)

pub use_found-requires-clause-bounded : goal.use_found-requires-clause-bounded
use_found-requires-clause-bounded g c = let a = g.R.Rules.answers in (well-run a c.as_nanos.result _ _ c.requires.kept (c.run.ensures.runs a refl)).bounded

pub use_found-requires-clause-made : goal.use_found-requires-clause-made
use_found-requires-clause-made g c =
    let a = g.R.Rules.answers in
    let f = c.requires.found.1 in
    let r = c.record_in.result.now in
    rw c.number-number.ensures (run-made a c.as_nanos.result _ _ (c.run.ensures.runs a refl) c.requires.kept r.number r (kept-number c.args.tables.now c.args.place r c.record_in.ensures))

pub use_found-requires-clause-held : goal.use_found-requires-clause-held
use_found-requires-clause-held g c =
    let a = g.R.Rules.answers in
    let f = c.requires.found.1 in
    let r = c.record_in.result.now in
    let same : f.found ≡ r = same_Some _ _ (sym f.there ∙ c.record_in.ensures) in
    rw c.number-number.ensures (run-holds a c.as_nanos.result _ _ (c.run.ensures.runs a refl) c.requires.kept r.number c.args.hash r (kept-number c.args.tables.now c.args.place r c.record_in.ensures)
    (ap (λ (x : Record g.row.K.Denot g.row.V.Denot). x.is_held) (sym same) ∙ f.held) (ap (λ (x : Record g.row.K.Denot g.row.V.Denot). x.hash) (sym same) ∙ f.hash_is))

pub returns : goal.returns
returns g c = λ o f.
    let a = g.R.Rules.answers in
    let old = c.args.tables.now.state in
    let r = c.record_in.result.now in
    let same : f.found ≡ r = same_Some _ _ (sym f.there ∙ c.record_in.ensures) in
    let run = subst (λ n. RunsToEnd a n old c.run.new.tables.state) c.as_nanos.ensures.nanos (c.run.ensures.runs a refl) in
    noted-after_run a c.args.hash c.args.now old c.run.new.tables.state c.use_found.new.tables.state r o c.requires.due run (f.is ∙ ap (λ (x : Record g.row.K.Denot g.row.V.Denot). Some x) same) (c.use_found.ensures r (sym c.number-number.ensures))
