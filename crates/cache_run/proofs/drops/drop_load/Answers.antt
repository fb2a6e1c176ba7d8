use Rattle.std.proofs.Common.{◌==◌, refl}
use Rattle.cache_core.specs.Settling.{giving_up}
use Rattle.cache_spaces.specs.Services.{bare_tape}
use Rattle.cache_spaces.specs.Calls.{Settled}
use Rattle.cache_run.specs.Lent.{Drops}
use Rattle.cache_run.proofs.Dropping.{dropped-settled, dropped-unknown}
use Rattle.cache_run.proofs.Happening.{situation-of}
use Rattle.cache_run.proofs.Driving.{known-settled, known-unmoved}
use Rattle.cache_spaces.proofs.Placing.{at-given, at-same, at-unmoved, refused-here}
use Rattle.cache_run.proofs.drops.drop_load.Goals as goal

pub returns-in-Ok : goal.returns-in-Ok
returns-in-Ok c = record {
  dropped = at-given (λ was is. Settled bare_tape was is (giving_up c.args.load 0)) (Drops c.args.conn.number (λ n. n == c.args.load)) _ _ _ c.in-Ok.ensures.taken (λ x y at behind h. dropped-settled c.args.conn.number x y c.args.load (situation-of x (c.sound.ensures x at)) h);
  known = known-settled _ _ _ _ (giving_up c.args.load 0) c.sound.ensures c.in-Ok.ensures.taken c.requires.known;
}

pub returns-in-Err : goal.returns-in-Err
returns-in-Err c =
    let i = c.requires.known in
    let unmoved = c.in-Err.ensures.unchanged in record {
      dropped = at-unmoved _ _ unmoved (at-same (Drops c.args.conn.number (λ n. n == c.args.load)) _ _ i.space i.at (dropped-unknown c.args.conn.number i.space c.args.load _ (refused-here _ _ _ _ i.space i.at c.in-Err.ensures.spare refl)));
      known = known-unmoved _ _ _ _ unmoved i;
    }
