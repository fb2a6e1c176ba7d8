use Rattle.std.proofs.Common.{◌≡◌, ◌∙◌}
use Rattle.cache_run.proofs.driver.Interludes.{but-more}
use Rattle.cache_run.specs.declared.driver.driving.Progress.TheVariants.{More, Over}
use Rattle.cache_link.proofs.attending.attend.Goals as goal

pub returns-in-Ok-More : goal.returns-in-Ok-More
returns-in-Ok-More g c =
    let before = c.in-Ok-More.ensures in
    let after = c.settle_all.ensures in record {
      known = (after.known.0, after.known.1 ∙ before.known.1);
      goes = λ remaining start a goes. after.goes remaining start a ((rw c.in-Ok-More.field-0-is at before.goes) remaining start a goes);
      among = but-more g.H.Host g.K.Clock.reads g.D.Loader.loads _ _ _ _ _ before.known.1 before.among after.among;
      why = after.why;
      settled = after.settled;
    }

pub returns-in-Ok-Over : goal.returns-in-Ok-Over
returns-in-Ok-Over g c =
    let before = c.in-Ok-Over.ensures in record {
      known = before.known;
      goes = λ remaining start a goes. (rw c.in-Ok-Over.field-0-is at before.goes) remaining start a goes;
      among = before.among;
      why = tt;
      settled = λ is. let no : Over ≡ More = is in cc;
    }
