use Rattle.std.proofs.Common.{ap, sym, ◌∙◌, is_some}
use Rattle.engine_reference.specs.Runs.{is_due}
use Rattle.moka_engine.proofs.Afterwards.{room-unless-due, noted-at_once}
use Rattle.moka_engine.proofs.noting.note_hit.Goals as goal

pub note_after_run-requires-clause-due : goal.note_after_run-requires-clause-due
note_after_run-requires-clause-due g c = ap (λ n. is_due c.args.tables.now.state n) (sym c.as_nanos.ensures.nanos) ∙ sym c.is_due.ensures ∙ c.if-is_due.true

pub use_in-requires-clause-room : goal.use_in-requires-clause-room
use_in-requires-clause-room g c = room-unless-due c.args.tables.now.state c.as_nanos.result (sym c.is_due.ensures ∙ c.if-is_due.false)

pub use_in-requires-clause-bounded : goal.use_in-requires-clause-bounded
use_in-requires-clause-bounded g c = c.requires.kept.bounded

pub use_in-requires-clause-there : goal.use_in-requires-clause-there
use_in-requires-clause-there g c = let f = c.requires.found.1 in ap (λ o. is_some o) f.there

pub returns-else-is_due : goal.returns-else-is_due
returns-else-is_due g c = λ o f.
    noted-at_once g.R.Rules.answers c.args.hash c.args.now c.args.tables.now.state c.use_in.new.tables.state f.found o
    (ap (λ n. is_due c.args.tables.now.state n) (sym c.as_nanos.ensures.nanos) ∙ sym c.is_due.ensures ∙ c.if-is_due.false) f.is (c.use_in.ensures f.found f.there)
