use Rattle.std.proofs.Common.{◌≡◌, refl, subst, sym, ◌≤◌, []}
use Rattle.engine_reference.specs.RunLaws.Sweeping.{IsTimely, LeavesNoneDue}
use Rattle.engine_reference.specs.Runs.{RunsToEnd}
use Rattle.engine_reference.specs.State.{State}
use Rattle.moka_engine.proofs.Keeping.{well-run}
use Rattle.moka_engine.proofs.cache.BaseCache.try_run_pending_tasks.Goals as goal

pub invariant_of-self : goal.invariant_of-self
invariant_of-self g c = let a = g.R.Rules.answers in well-run a c.as_nanos.result _ _ c.self.invariant (c.try_run.ensures.runs a refl)

pub returns-clause-runs : goal.returns-clause-runs
returns-clause-runs g c =
    let a = g.R.Rules.answers in
    subst (λ (s : State g.row.K.Denot g.row.V.Denot g.row.R-Predicate.Denot g.row.S.Denot g.row.R.Denot). RunsToEnd a c.args.now s c.try_run.new.tables.state) c.self.view_is (subst (λ n. RunsToEnd a n c.self.inside.tables.state c.try_run.new.tables.state) c.as_nanos.ensures.nanos (c.try_run.ensures.runs a refl))

pub returns-clause-counts : goal.returns-clause-counts
returns-clause-counts g c = λ none.
    c.try_run.ensures.counts g.R.Rules.answers refl (subst (λ (s : State g.row.K.Denot g.row.V.Denot g.row.R-Predicate.Denot g.row.S.Denot g.row.R.Denot). s.unsent ≡ []) (sym c.self.view_is) none)

pub returns-clause-due : goal.returns-clause-due
returns-clause-due g c = λ moment step timely le range.
    let n = c.as_nanos.ensures.nanos in
    subst (λ m. LeavesNoneDue m c.try_run.new.tables.state) n
    (c.try_run.ensures.due moment step (subst (λ (s : State g.row.K.Denot g.row.V.Denot g.row.R-Predicate.Denot g.row.S.Denot g.row.R.Denot). IsTimely moment step s) (sym c.self.view_is) timely) (subst (λ m. moment ≤ m) (sym n) le) (subst (λ m. m ≤ 9223372036854775807) (sym n) range))
