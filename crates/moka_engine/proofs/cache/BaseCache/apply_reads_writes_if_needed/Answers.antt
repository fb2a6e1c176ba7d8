use Rattle.std.proofs.Common.{refl, subst}
use Rattle.engine_reference.specs.Calls.{MaintainsIfDue}
use Rattle.engine_reference.specs.State.{State}
use Rattle.moka_engine.proofs.Keeping.{well-maintained}
use Rattle.moka_engine.proofs.cache.BaseCache.apply_reads_writes_if_needed.Goals as goal

pub invariant_of-self : goal.invariant_of-self
invariant_of-self g c = let a = g.R.Rules.answers in well-maintained a c.as_nanos.result _ _ c.self.invariant (c.run_if_due.ensures.due a refl)

pub returns-clause-due : goal.returns-clause-due
returns-clause-due g c =
    let a = g.R.Rules.answers in
    subst (λ (s : State g.row.K.Denot g.row.V.Denot g.row.R-Predicate.Denot g.row.S.Denot g.row.R.Denot). MaintainsIfDue a c.args.now s c.run_if_due.new.tables.state) c.self.view_is (subst (λ n. MaintainsIfDue a n c.self.inside.tables.state c.run_if_due.new.tables.state) c.as_nanos.ensures.nanos (c.run_if_due.ensures.due a refl))
