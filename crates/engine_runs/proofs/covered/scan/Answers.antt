use Rattle.std.proofs.Common.{refl, ◌∙◌, arith}
use Rattle.engine_runs.proofs.SweepingStretching.{rest-start, rest-more}
use Rattle.engine_runs.proofs.Covering.{scanned-all}
use Rattle.engine_runs.proofs.Joining.{stretch-start, stretch-join}
use Rattle.engine_runs.proofs.covered.scan.Goals as goal

pub loop-place-init : goal.loop-place-init
loop-place-init g c = record {
  stretch = λ answers now covers. stretch-start answers now c.args.tables.now.state;
  applied = c.requires;
  rest = rest-start c.args.tables.now.state;
  scanned = λ answers covers i less. absurd (omega arith);
  places = refl;
}

pub loop-place-preserved : goal.loop-place-preserved
loop-place-preserved g c = record {
  stretch = λ answers now covers. stretch-join answers now c.args.tables.now.state _ _ (c.loop-place.invariant.stretch answers now covers) (c.leave_covered.ensures.stretch answers now covers);
  applied = c.leave_covered.ensures.applied;
  rest = rest-more c.args.tables.now.state _ _ c.loop-place.invariant.rest c.leave_covered.ensures.rest;
  scanned = λ answers covers. c.leave_covered.ensures.scanned answers covers (c.loop-place.invariant.scanned answers covers);
  places = c.leave_covered.ensures.places ∙ c.loop-place.invariant.places;
}

pub returns-clause-none : goal.returns-clause-none
returns-clause-none g c = λ answers covers.
    let most = c.places-place-end.ensures.most in
    scanned-all answers c.loop-place.place c.loop-place.tables (omega (arith, c.loop-place.invariant.places, most, c.loop-place-test.false)) (c.loop-place.invariant.scanned answers covers) c.places-stand.ensures.stand
