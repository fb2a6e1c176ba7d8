use Rattle.std.proofs.Common.{◌∙◌, refl, sym}
use Rattle.std.specs.Fn.{FnReturnsAt}
use Rattle.moka_sync.proofs.Resting.{still-said}
use Rattle.moka_sync.proofs.shared.SharedDesk.ask.Goals as goal

pub loop-preserved : goal.loop-preserved
loop-preserved g c = record {
  runs = (tt, tt);
  still = still-said (FnReturnsAt g.P.Fn c.args.replace_if.now) c.args.passing.now c.last_write-written.result c.replace_if-is_passed_over.result c.in-Some-2.value (sym c.is_never.ensures ∙ c.if-is_never.false) (record { shown = _; shows = refl; says = record { met = c.replace_if-is_passed_over.ensures } });
}
