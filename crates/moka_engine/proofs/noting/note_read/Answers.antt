use Rattle.std.proofs.Common.{refl, ap, subst}
use Rattle.engine_calls.specs.Finding.{WasFound}
use Rattle.engine_reference.specs.Calls.{MaintainsIfDue}
use Rattle.moka_engine.proofs.Afterwards.{noted-none}
use Rattle.moka_engine.proofs.noting.note_read.Goals as goal

pub note_hit-requires-clause-found : goal.note_hit-requires-clause-found
note_hit-requires-clause-found g c =
    let w = c.requires.found in
    (w.0, subst (λ p. WasFound c.args.tables.now c.args.hash p w.0) c.in-Some.is w.1)

pub returns-in-Some : goal.returns-in-Some
returns-in-Some g c = λ o w. c.note_hit.ensures o (subst (λ p. WasFound c.args.tables.now c.args.hash p o) c.in-Some.is w)

pub returns-in-None : goal.returns-in-None
returns-in-None g c = λ o w.
    let a = g.R.Rules.answers in
    let old = c.args.tables.now.state in
    noted-none a c.args.hash c.args.now old c.run_if_due.new.tables.state c.push_miss.new.self.state o (subst (λ p. WasFound c.args.tables.now c.args.hash p o) c.in-None.is w)
    (subst (λ n. MaintainsIfDue a n old c.run_if_due.new.tables.state) c.as_nanos.ensures.nanos (c.run_if_due.ensures.due a refl)) (ap (λ t. t.state) c.push_miss.ensures)
