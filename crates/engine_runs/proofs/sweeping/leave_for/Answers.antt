use Rattle.std.proofs.Common.{◌≡◌, ap, sym, ◌∙◌, subst, ◌<◌, length, Some}
use Rattle.engine_reference.specs.Runs.{IsApplied, with_left}
use Rattle.engine_cells.specs.Kept.{numbered_at}
use Rattle.engine_cells.specs.Swept.{NoneIsCleared}
use Rattle.engine_runs.specs.Fronts.{MayLeave}
use Rattle.engine_runs.specs.Stretches.{KeepsRest}
use Rattle.engine_runs.proofs.Fronting.{kept-number}
use Rattle.engine_runs.proofs.SweepingStretching.{applied-left, rest-left, fewer-left, none-cleared_left, step-of}
use Rattle.engine_runs.proofs.sweeping.leave_for.Goals as goal

pub returns-clause-step : goal.returns-clause-step
returns-clause-step g c = λ answers now r there may.
    let s = c.args.tables.now.state in
    let u = c.leave.ensures in
    let same : Some r ≡ Some u.0 = sym there ∙ u.1 in
    let is : r ≡ u.0 = cc in
    let kept = kept-number s.records (numbered_at c.args.tables.now.numbers c.args.place) u.0 u.1 in
    step-of answers s _ now u.0 c.args.cause c.requires.applied kept (subst (λ r. MayLeave s now r c.args.cause) is may) (ap (λ t. t.state) u.2 ∙ sym (ap (λ o. with_left c.args.cause s o) kept))

pub returns-clause-applied : goal.returns-clause-applied
returns-clause-applied g c =
    let s = c.args.tables.now.state in
    let u = c.leave.ensures in
    let there = kept-number s.records (numbered_at c.args.tables.now.numbers c.args.place) u.0 u.1 in
    subst (λ t. IsApplied t) (sym (ap (λ t. t.state) u.2 ∙ sym (ap (λ o. with_left c.args.cause s o) there))) (applied-left c.args.cause u.0.number s c.requires.applied)

pub returns-clause-rest : goal.returns-clause-rest
returns-clause-rest g c =
    let s = c.args.tables.now.state in
    let u = c.leave.ensures in
    let there = kept-number s.records (numbered_at c.args.tables.now.numbers c.args.place) u.0 u.1 in
    subst (λ t. KeepsRest s t) (sym (ap (λ t. t.state) u.2 ∙ sym (ap (λ o. with_left c.args.cause s o) there))) (rest-left c.args.cause u.0.number s)

pub returns-clause-fewer : goal.returns-clause-fewer
returns-clause-fewer g c =
    let s = c.args.tables.now.state in
    let u = c.leave.ensures in
    let there = kept-number s.records (numbered_at c.args.tables.now.numbers c.args.place) u.0 u.1 in
    subst (λ t. length t.records < length s.records) (sym (ap (λ t. t.state) u.2 ∙ sym (ap (λ o. with_left c.args.cause s o) there))) (fewer-left c.args.cause s u.0 there)

pub returns-clause-none : goal.returns-clause-none
returns-clause-none g c = λ sound none.
    let s = c.args.tables.now.state in
    let u = c.leave.ensures in
    let there = kept-number s.records (numbered_at c.args.tables.now.numbers c.args.place) u.0 u.1 in
    subst (λ t. NoneIsCleared t) (sym (ap (λ t. t.state) u.2 ∙ sym (ap (λ o. with_left c.args.cause s o) there))) (none-cleared_left c.args.cause u.0.number s sound none)
