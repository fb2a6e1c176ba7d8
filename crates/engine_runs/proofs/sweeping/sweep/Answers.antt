use Rattle.std.proofs.Common.{ap, sym, ◌∙◌}
use Rattle.std.proofs.Math.Logic.{∥∥₁_map}
use Rattle.engine_runs.proofs.SweepingStretching.{stretch-start, stretch-more, rest-start, rest-more, later-alike}
use Rattle.engine_runs.proofs.sweeping.sweep.Goals as goal

pub loop-place-init : goal.loop-place-init
loop-place-init g c = record {
  stretch = λ answers. stretch-start answers c.args.now c.args.tables.now.state;
  applied = c.requires.applied;
  rest = rest-start c.args.tables.now.state;
  hides = c.requires.hides;
}

pub loop-place-preserved : goal.loop-place-preserved
loop-place-preserved g c = record {
  stretch = λ answers. stretch-more answers c.args.now c.args.tables.now.state _ _ (c.loop-place.invariant.stretch answers) (let due = c.in-Some.ensures.found in c.leave_for.ensures.step answers c.args.now due.0 due.1 due.2);
  applied = c.leave_for.ensures.applied;
  rest = rest-more c.args.tables.now.state _ _ c.loop-place.invariant.rest c.leave_for.ensures.rest;
  hides = λ live. c.leave_for.ensures.none (∥∥₁_map c.requires.sound c.loop-place.invariant.rest.sound) (c.loop-place.invariant.hides (ap (λ t. t.live) (sym c.leave_for.ensures.rest.settings) ∙ live));
}

pub next_leaving-requires-clause-later : goal.next_leaving-requires-clause-later
next_leaving-requires-clause-later g c = c.is_in_later_tick-is_later.ensures ∙ later-alike c.args.tables.now.state _ c.args.now c.loop-place.invariant.rest
