use Rattle.std.proofs.Common.{refl, inl, inr}
use Rattle.cache_core.specs.Settling.{giving_up}
use Rattle.cache_spaces.specs.Services.{bare_tape}
use Rattle.cache_spaces.specs.Calls.{Settled}
use Rattle.cache_spaces.specs.Spaces.{config_of, known_of}
use Rattle.cache_spaces.proofs.Placing.{refused-here, at-map, at-same, at-unmoved}
use Rattle.cache_run.proofs.Happening.{give-up-late, give-up-unknown}
use Rattle.cache_run.specs.Lent.{GivesUpOr}
use Rattle.cache_run.proofs.Driving.{known-settled, known-unmoved}
use Rattle.cache_run.proofs.loads.give_up.Goals as goal

pub returns-in-Ok : goal.returns-in-Ok
returns-in-Ok c = record {
  ok = at-map (λ was is. Settled bare_tape was is (giving_up c.args.load c.args.moment)) (GivesUpOr c.args.load c.args.moment) _ _ _ c.in-Ok.ensures.taken (λ x y h. inl h);
  known = known-settled _ _ _ _ (giving_up c.args.load c.args.moment) c.sound.ensures c.in-Ok.ensures.taken c.requires.known;
  unchanged = tt;
  why = tt;
}

pub returns-in-Moment : goal.returns-in-Moment
returns-in-Moment c =
    let r = c.requires.known in record {
      ok = tt;
      known = known-unmoved _ _ _ _ c.in-Err.ensures.unchanged r;
      unchanged = c.in-Err.ensures.unchanged;
      why = give-up-late (config_of r.space) (known_of r.space) c.args.load c.args.moment (refused-here _ _ _ _ r.space r.at (rw c.in-Moment.is at c.in-Err.ensures.spare) refl);
    }

pub returns-in_default : goal.returns-in_default
returns-in_default c =
    let r = c.requires.known in
    let unknown = give-up-unknown (config_of r.space) (known_of r.space) c.args.load c.args.moment _ (refused-here _ _ _ _ r.space r.at c.in-Err.ensures.spare refl) c.in_default.not-Moment in record {
      ok = at-unmoved _ _ c.in-Err.ensures.unchanged (at-same (GivesUpOr c.args.load c.args.moment) _ _ r.space r.at (inr (refl, unknown)));
      known = known-unmoved _ _ _ _ c.in-Err.ensures.unchanged r;
      unchanged = tt;
      why = tt;
    }
