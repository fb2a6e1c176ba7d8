use Rattle.std.proofs.Common.{refl, ◌∙◌}
use Rattle.engine_runs.proofs.Joining.{stretch-start, stretch-join, stretch-step}
use Rattle.engine_runs.proofs.covered.end_all.Goals as goal

pub loop-tables-init : goal.loop-tables-init
loop-tables-init g c = record {
  stretch = λ answers now covers. stretch-start answers now c.args.tables.now.state;
  applied = c.requires.applied;
  none = c.requires.none;
  sketch = refl;
}

pub loop-tables-preserved : goal.loop-tables-preserved
loop-tables-preserved g c = record {
  stretch = λ answers now covers. stretch-join answers now c.args.tables.now.state _ _ (c.loop-tables.invariant.stretch answers now covers) (stretch-step answers now _ _ (c.end_last.ensures.step answers now covers));
  applied = c.end_last.ensures.applied;
  none = c.end_last.ensures.none;
  sketch = c.end_last.ensures.sketch ∙ c.loop-tables.invariant.sketch;
}
