use Rattle.std.proofs.Common.{ap, subst, sym}
use Rattle.std.proofs.lemmas.Result.{on_err_weaker}
use Rattle.cache_spaces.specs.Played.{ArePlayed}
use Rattle.cache_spaces.specs.Recorded.{Recorded}
use Rattle.cache_spaces.proofs.Journaling.{played-none, played-step, played-to-end}
use Rattle.cache_spaces.proofs.playing.play.Goals as goal

pub loop-input-init : goal.loop-input-init
loop-input-init c = record { played = played-none c.args.configs.now c.args.generator c.args.moment c.in_ok-recorded.recorded.spaces c.in_ok-recorded.ensures.made }

pub loop-input-preserved : goal.loop-input-preserved
loop-input-preserved c = record {
  played = played-step c.args.configs.now c.args.moment c.args.inputs.now c.loop-input.input-index c.input-item.result c.loop-input.recorded.spaces c.hand_in.new.recorded.spaces c.hand_in.result
      c.loop-input-test.true c.input-item.is c.loop-input.invariant.played c.hand_in.ensures.performed (on_err_weaker c.hand_in.result (ap (λ (r : Recorded). r.spaces)) c.hand_in.ensures.unchanged);
}

pub returns-clause-played : goal.returns-clause-played
returns-clause-played c =
    subst (ArePlayed c.args.configs.now c.args.moment c.args.inputs.now) (sym c.into_journals.ensures)
    (played-to-end _ _ _ c.loop-input.input-index c.loop-input.recorded.spaces c.loop-input-test.false c.loop-input.invariant.played)
