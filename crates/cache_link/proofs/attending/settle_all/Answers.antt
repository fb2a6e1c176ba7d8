use Rattle.std.proofs.Common.{◌≡◌, ◌∙◌, refl}
use Rattle.cache_run.proofs.driver.Exchanges.{because-map, underway-stopped}
use Rattle.cache_run.proofs.driver.Interludes.{but-more, but-still}
use Rattle.cache_run.specs.declared.driver.driving.Progress.TheVariants.{More, Over}
use Rattle.cache_link.proofs.attending.settle_all.Goals as goal

pub loop-load-init : goal.loop-load-init
loop-load-init g c = record { known = c.requires.known; same = refl; goes = λ remaining start a goes. goes; among = but-still g.H.Host g.K.Clock.reads g.D.Loader.loads _ _ _ _ _ _ refl refl }

pub loop-load-preserved : goal.loop-load-preserved
loop-load-preserved g c =
    let before = c.loop-load.invariant in
    let after = c.in-Ok-More.ensures in record {
      known = after.known;
      same = after.same.0 ∙ before.same;
      goes = λ remaining start a goes. (rw c.in-Ok-More.field-0-is at after.goes) remaining start a (before.goes remaining start a goes);
      among = but-more g.H.Host g.K.Clock.reads g.D.Loader.loads _ _ _ _ _ before.same before.among after.among;
    }

pub returns-in-Ok-Over : goal.returns-in-Ok-Over
returns-in-Ok-Over g c =
    let before = c.loop-load.invariant in
    let after = c.in-Ok-Over.ensures in record {
      known = (after.known, after.same.0 ∙ before.same);
      goes = λ remaining start a goes. (rw c.in-Ok-Over.field-0-is at after.goes) remaining start a (before.goes remaining start a goes);
      among = but-more g.H.Host g.K.Clock.reads g.D.Loader.loads _ _ _ _ _ before.same before.among after.among;
      why = tt;
      settled = λ is. let no : Over ≡ More = is in cc;
    }

pub returns-in-Err : goal.returns-in-Err
returns-in-Err g c =
    let before = c.loop-load.invariant in
    let after = c.in-Err.ensures in record {
      known = (after.known, after.same.0 ∙ before.same);
      goes = λ remaining start a goes. after.goes remaining start a (before.goes remaining start a goes);
      among = but-more g.H.Host g.K.Clock.reads g.D.Loader.loads _ _ _ _ _ before.same before.among after.among;
      why = because-map c.in-Err.error (λ no. no) (λ failed. tt) (λ used. tt) (λ late. late) after.why;
      settled = tt;
    }

pub returns : goal.returns
returns g c =
    let before = c.loop-load.invariant in record {
      known = (before.known, before.same);
      goes = λ remaining start a goes. underway-stopped _ _ _ _ _ start a _ _ _ (before.goes remaining start a goes);
      among = before.among;
      why = tt;
      settled = tt;
    }
