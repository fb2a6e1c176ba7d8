use Rattle.std.proofs.Common.{◌≡◌, ap, sym, subst, ◌<◌, ◌-◌, length, arith, Some}
use Rattle.std.specs.Prelude.{slice_get}
use Rattle.engine_reference.specs.Runs.{IsApplied}
use Rattle.engine_runs.proofs.Covering.{predicate-ends, cover-fewer, last-there, fewer-left}
use Rattle.engine_runs.proofs.covered.end_last.Goals as goal

pub returns-clause-step : goal.returns-clause-step
returns-clause-step g c = λ answers now covers.
    let s = c.args.tables.now.state in
    let ps = c.predicates.result.now in
    let p = last-there ps (subst (λ xs. 0 < length xs) (sym c.predicates.ensures) c.requires.some) in
    let there = subst (λ xs. slice_get xs (length ps - 1) ≡ Some p.0) c.predicates.ensures p.1 in
    predicate-ends answers now s c.end_predicate.new.self.state (length ps - 1) p.0 c.requires.applied there (c.requires.none answers covers) (ap (λ t. t.state) c.end_predicate.ensures)

pub returns-clause-none : goal.returns-clause-none
returns-clause-none g c = λ answers covers.
    let s = c.args.tables.now.state in
    let ps = c.predicates.result.now in
    let p = last-there ps (subst (λ xs. 0 < length xs) (sym c.predicates.ensures) c.requires.some) in
    let there = subst (λ xs. slice_get xs (length ps - 1) ≡ Some p.0) c.predicates.ensures p.1 in
    cover-fewer answers s c.end_predicate.new.self.state (length ps - 1) p.0 there (c.requires.none answers covers) (ap (λ t. t.state) c.end_predicate.ensures)

pub returns-clause-applied : goal.returns-clause-applied
returns-clause-applied g c =
    let h = c.requires.applied in
    subst (λ t. IsApplied t.state) (sym c.end_predicate.ensures) (record { reads = h.reads; writes = h.writes })

pub returns-clause-fewer : goal.returns-clause-fewer
returns-clause-fewer g c =
    let s = c.args.tables.now.state in
    let many = ap (λ xs. length xs) c.predicates.ensures in
    subst (λ t. length t.state.predicates < length s.predicates) (sym c.end_predicate.ensures) (fewer-left s.predicates (length c.predicates.result.now - 1) (omega (arith, many, c.requires.some)))
