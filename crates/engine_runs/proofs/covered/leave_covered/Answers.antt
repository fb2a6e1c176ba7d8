use Rattle.std.proofs.Common.{◌≡◌, refl, ap, sym, ◌∙◌, subst, true, Some}
use Rattle.engine_reference.specs.declared.rules.causes.RemovalCause.TheVariants as cause
use Rattle.engine_reference.specs.Runs.{with_left}
use Rattle.engine_reference.specs.State.{Answers}
use Rattle.engine_reference.specs.Visible.{is_covered}
use Rattle.engine_cells.specs.Kept.{kept_at, numbered_at}
use Rattle.engine_runs.specs.Stretches.{KeepsRest}
use Rattle.engine_runs.proofs.Fronting.{kept-number}
use Rattle.engine_runs.proofs.SweepingStretching.{rest-left}
use Rattle.engine_runs.specs.Covered.{is_covered_as}
use Rattle.engine_runs.proofs.Covering.{covered-there, covered-leaves, scanned-left}
use Rattle.engine_runs.proofs.Joining.{stretch-step}
use Rattle.engine_runs.proofs.covered.leave_covered.Goals as goal

pub leave-requires : goal.leave-requires
leave-requires g c =
    let a : Answers g.row.K.Denot g.row.V.Denot g.row.R-Predicate.Denot g.row.R.Denot = g.R.Rules.answers in
    covered-there a c.args.tables.now.state (kept_at c.args.tables.now c.args.place) (sym (c.is_covered_at.ensures a refl) ∙ c.if-is_covered_at.true)

pub returns-then-is_covered_at-clause-stretch : goal.returns-then-is_covered_at-clause-stretch
returns-then-is_covered_at-clause-stretch g c = λ answers now covers.
    let s = c.args.tables.now.state in
    let u = c.leave.ensures in
    let covered : is_covered_as answers s (Some u.0) ≡ true = ap (λ o. is_covered_as answers s o) (sym u.1) ∙ sym (c.is_covered_at.ensures answers covers) ∙ c.if-is_covered_at.true in
    let there = kept-number s.records (numbered_at c.args.tables.now.numbers c.args.place) u.0 u.1 in
    stretch-step answers now s _ (covered-leaves answers now s _ u.0 c.requires there covered (ap (λ t. t.state) u.2 ∙ sym (ap (λ o. with_left cause.Explicit s o) there)))

pub returns-then-is_covered_at-clause-rest : goal.returns-then-is_covered_at-clause-rest
returns-then-is_covered_at-clause-rest g c =
    let s = c.args.tables.now.state in
    let u = c.leave.ensures in
    let there = kept-number s.records (numbered_at c.args.tables.now.numbers c.args.place) u.0 u.1 in
    subst (λ t. KeepsRest s t) (sym (ap (λ t. t.state) u.2 ∙ sym (ap (λ o. with_left cause.Explicit s o) there))) (rest-left cause.Explicit u.0.number s)

pub returns-then-is_covered_at-clause-scanned : goal.returns-then-is_covered_at-clause-scanned
returns-then-is_covered_at-clause-scanned g c = λ answers covers scanned.
    let s = c.args.tables.now.state in
    let u = c.leave.ensures in
    let covered : is_covered_as answers s (Some u.0) ≡ true = ap (λ o. is_covered_as answers s o) (sym u.1) ∙ sym (c.is_covered_at.ensures answers covers) ∙ c.if-is_covered_at.true in
    scanned-left answers c.args.place c.args.tables.now c.leave.new.self u.0 (λ x. ap (λ t. is_covered answers t.state x.entry) u.2) (ap (λ t. t.state.records) u.2) (ap (λ t. t.numbers) u.2) u.1 covered scanned
